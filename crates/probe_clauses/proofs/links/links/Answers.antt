use Rattle.std.proofs.Common.{◌<◌, arith, refl}
use Rattle.std.specs.List.{range_with_len}
use Rattle.std.proofs.lemmas.List.FromFn.{length-range_with_len}
use Rattle.clause_builds.proofs.Lists.{through_fits, through_turn, through_ended}
use Rattle.probe_clauses.specs.Probings.{probing_of}
use Rattle.probe_clauses.specs.Passes.{link_of}
use Rattle.probe_clauses.proofs.Ranges.{range_item}
use Rattle.probe_clauses.proofs.links.links.Goals as goal

pub link_where-requires : goal.link_where-requires
link_where-requires c =
    let run = probing_of c.args.run.now in
    let bit = c.bits.bit in
    let lt : bit < run.bits = omega (arith, c.bits-test.true) in
    rw (c.is_moving.ensures, c.signal_at-signal.ensures, c.as_slice.ensures, c.in_ok-actives.ensures)
    (through_fits (link_of run c.args.group.now c.args.active.now) (range_with_len 0 run.bits) tt bit bit c.bits.invariant (omega (arith, lt, length-range_with_len 0 run.bits)) (range_item run.bits bit lt) c.requires)

pub bits-preserved : goal.bits-preserved
bits-preserved c =
    let run = probing_of c.args.run.now in
    let bit = c.bits.bit in
    let lt : bit < run.bits = omega (arith, c.bits-test.true) in
    through_turn (link_of run c.args.group.now c.args.active.now) (range_with_len 0 run.bits) tt bit bit c.link_where.new.form tt c.bits.invariant (omega (arith, lt, length-range_with_len 0 run.bits)) (range_item run.bits bit lt)
    (rw (c.is_moving.ensures, c.signal_at-signal.ensures, c.as_slice.ensures, c.in_ok-actives.ensures) at c.in_ok-link_where.ensures.formula) refl

pub returns : goal.returns
returns c =
    let run = probing_of c.args.run.now in
    record { formula = (through_ended (link_of run c.args.group.now c.args.active.now) (range_with_len 0 run.bits) tt c.bits.bit c.bits.invariant (omega (arith, c.bits-test.false, length-range_with_len 0 run.bits))).1 }
