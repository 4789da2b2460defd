use Rattle.std.proofs.Common.{ℕ, ◌<◌, ◌∙◌, ◌++◌, ◌∷◌, [], cond, map, filter, take, length, sym, ap, arith, append_assoc}
use Rattle.std.specs.List.{range_with_len}
use Rattle.std.proofs.lemmas.List.{take_all}
use Rattle.std.proofs.lemmas.List.FromFn.{length-range_with_len}
use Rattle.circuit_clauses.specs.Signals.{value}
use Rattle.clause_builds.specs.Rows.{signal_at}
use Rattle.probe_clauses.proofs.Ranges.{range_item}
use Rattle.probe_encode.specs.Readings.{moment}
use Rattle.probe_encode.specs.Readable.{values_of}
use Rattle.probe_encode.proofs.Taken.{mapped_taken}
use Rattle.probe_encode.proofs.finding.add_moments.Goals as goal

pub bits-preserved : goal.bits-preserved
bits-preserved c =
    let row = c.args.row.now in
    let n = length row in
    let b = c.bits.bit in
    let lt : b < n = omega (arith, c.bits-test.true) in
    let is_true = λ (k : ℕ). value (values_of c.args.model.now) (signal_at row k) in
    let old = c.args.moments.now in
    let more = mapped_taken (moment c.args.cycle) is_true (range_with_len 0 n) b b (omega (arith, lt, length-range_with_len 0 n)) (range_item n b lt) in
    rw (c.value.ensures, c.signal_at.ensures) at c.in_ok-push_if.ensures
    ∙ ap (λ ms. ms ++ cond (is_true b) (moment c.args.cycle b ∷ []) []) c.bits.invariant
    ∙ append_assoc old (map (moment c.args.cycle) (filter is_true (take b (range_with_len 0 n)))) (cond (is_true b) (moment c.args.cycle b ∷ []) [])
    ∙ sym (ap (λ ms. old ++ ms) more)

pub returns : goal.returns
returns c =
    let row = c.args.row.now in
    let n = length row in
    let is_true = λ (k : ℕ). value (values_of c.args.model.now) (signal_at row k) in
    let e = take_all c.bits.bit (range_with_len 0 n) (omega (arith, c.bits-test.false, length-range_with_len 0 n)) in
    c.bits.invariant ∙ ap (λ bs. c.args.moments.now ++ map (moment c.args.cycle) (filter is_true bs)) e
