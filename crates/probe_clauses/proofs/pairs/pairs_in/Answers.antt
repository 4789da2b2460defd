use Rattle.std.proofs.Common.{◌<◌, arith}
use Rattle.std.specs.List.{range_with_len}
use Rattle.std.proofs.lemmas.List.FromFn.{length-range_with_len}
use Rattle.clause_builds.proofs.Leaving.{all_left}
use Rattle.clause_builds.proofs.Lists.{each_start, each_fits, each_turn, each_ended}
use Rattle.probe_clauses.specs.Probings.{probing_of}
use Rattle.probe_clauses.specs.Passes.{pair_of, pairs_in}
use Rattle.probe_clauses.proofs.Ranges.{range_item}
use Rattle.probe_clauses.proofs.pairs.pairs_in.Goals as goal

pub bits-init : goal.bits-init
bits-init c =
    let run = probing_of c.args.run.now in
    rw c.new-row.ensures (each_start (pair_of run c.args.shown.now c.args.cycle) (range_with_len 0 run.bits) (all_left c.args.form.now (pairs_in run c.args.shown.now c.args.cycle)))

pub pair_of-requires-clause-fits : goal.pair_of-requires-clause-fits
pair_of-requires-clause-fits c =
    let run = probing_of c.args.run.now in
    let lt : c.bits.bit < run.bits = omega (arith, c.bits-test.true) in
    each_fits (pair_of run c.args.shown.now c.args.cycle) (range_with_len 0 run.bits) c.bits.row c.bits.bit c.bits.bit c.bits.invariant (omega (arith, lt, length-range_with_len 0 (run.bits))) (range_item (run.bits) c.bits.bit lt) c.requires.fits

pub bits-preserved : goal.bits-preserved
bits-preserved c =
    let run = probing_of c.args.run.now in
    let lt : c.bits.bit < run.bits = omega (arith, c.bits-test.true) in
    rw c.in_ok-push.ensures.ok (each_turn (pair_of run c.args.shown.now c.args.cycle) (range_with_len 0 run.bits) c.bits.row c.bits.bit c.bits.bit c.pair_of.new.form c.in_ok-pair.pair c.bits.invariant
    (omega (arith, lt, length-range_with_len 0 (run.bits))) (range_item (run.bits) c.bits.bit lt) c.in_ok-pair.ensures.formula c.in_ok-pair.ensures.pair)

pub returns-clause-row : goal.returns-clause-row
returns-clause-row c =
    let run = probing_of c.args.run.now in
    (each_ended (pair_of run c.args.shown.now c.args.cycle) (range_with_len 0 run.bits) c.bits.row c.bits.bit c.bits.invariant (omega (arith, c.bits-test.false, length-range_with_len 0 (run.bits)))).0

pub returns-clause-formula : goal.returns-clause-formula
returns-clause-formula c =
    let run = probing_of c.args.run.now in
    (each_ended (pair_of run c.args.shown.now c.args.cycle) (range_with_len 0 run.bits) c.bits.row c.bits.bit c.bits.invariant (omega (arith, c.bits-test.false, length-range_with_len 0 (run.bits)))).1
