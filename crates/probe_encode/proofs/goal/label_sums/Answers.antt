use Rattle.std.proofs.Common.{◌<◌, length, arith, refl}
use Rattle.std.specs.List.{range_with_len}
use Rattle.std.proofs.lemmas.List.FromFn.{length-range_with_len}
use Rattle.clause_builds.proofs.Lists.{through_fits, through_turn, through_ended}
use Rattle.probe_clauses.proofs.Ranges.{range_item}
use Rattle.probe_encode.specs.Goals.{label_sum}
use Rattle.probe_encode.proofs.goal.label_sums.Goals as goal

pub same_signals-requires : goal.same_signals-requires
same_signals-requires c =
    let n = length c.args.variables.now in
    let i = c.labels.place in
    let lt : i < n = omega arith in
    rw (c.signal_at.ensures, c.signal_at-in-labels.ensures) (through_fits (label_sum c.args.variables.now c.args.totals.now) (range_with_len 0 n) tt i i c.labels.invariant
    (omega (arith, lt, length-range_with_len 0 n)) (range_item n i lt) c.requires)

pub labels-preserved : goal.labels-preserved
labels-preserved c =
    let n = length c.args.variables.now in
    let i = c.labels.place in
    let lt : i < n = omega arith in
    through_turn (label_sum c.args.variables.now c.args.totals.now) (range_with_len 0 n) tt i i c.same_signals.new.form tt c.labels.invariant
    (omega (arith, lt, length-range_with_len 0 n)) (range_item n i lt) (rw (c.signal_at.ensures, c.signal_at-in-labels.ensures) at c.in_ok-same_signals.ensures) refl

pub returns : goal.returns
returns c =
    let n = length c.args.variables.now in
    (through_ended (label_sum c.args.variables.now c.args.totals.now) (range_with_len 0 n) tt c.labels.place c.labels.invariant (omega (arith, length-range_with_len 0 n))).1
