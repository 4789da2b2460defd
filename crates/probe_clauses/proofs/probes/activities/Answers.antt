use Rattle.std.proofs.Common.{◌<◌, arith}
use Rattle.std.specs.List.{range_with_len}
use Rattle.std.proofs.lemmas.List.FromFn.{length-range_with_len}
use Rattle.clause_builds.proofs.Leaving.{all_left}
use Rattle.clause_builds.proofs.Lists.{each_start, each_fits, each_turn, each_ended}
use Rattle.probe_clauses.specs.Probings.{probing_of}
use Rattle.probe_clauses.specs.Passes.{activities}
use Rattle.probe_clauses.specs.Windows.{windowed}
use Rattle.probe_clauses.specs.Rows.{column}
use Rattle.probe_clauses.proofs.Ranges.{range_item}
use Rattle.probe_clauses.proofs.probes.activities.Goals as goal

pub bits-init : goal.bits-init
bits-init c =
    let run = probing_of c.args.run.now in
    rw c.new-rows.ensures (each_start (λ b. windowed run.window (column c.args.cycles.now b)) (range_with_len 0 run.bits) (all_left c.args.form.now (activities run c.args.cycles.now)))

pub windowed-requires-clause-fits : goal.windowed-requires-clause-fits
windowed-requires-clause-fits c =
    let run = probing_of c.args.run.now in
    let lt : c.bits.bit < run.bits = omega (arith, c.bits-test.true) in
    rw (c.window.ensures.window, c.as_slice.ensures, c.in_ok-chosen.ensures) (each_fits (λ b. windowed run.window (column c.args.cycles.now b)) (range_with_len 0 run.bits) c.bits.rows c.bits.bit c.bits.bit c.bits.invariant (omega (arith, lt, length-range_with_len 0 (run.bits))) (range_item (run.bits) c.bits.bit lt) c.requires)

pub bits-preserved : goal.bits-preserved
bits-preserved c =
    let run = probing_of c.args.run.now in
    let lt : c.bits.bit < run.bits = omega (arith, c.bits-test.true) in
    rw c.in_ok-push.ensures.ok (each_turn (λ b. windowed run.window (column c.args.cycles.now b)) (range_with_len 0 run.bits) c.bits.rows c.bits.bit c.bits.bit c.windowed.new.form c.in_ok-row.row c.bits.invariant
    (omega (arith, lt, length-range_with_len 0 (run.bits))) (range_item (run.bits) c.bits.bit lt) (rw (c.window.ensures.window, c.as_slice.ensures, c.in_ok-chosen.ensures) at c.in_ok-row.ensures.formula) (rw (c.window.ensures.window, c.as_slice.ensures, c.in_ok-chosen.ensures) at c.in_ok-row.ensures.row))

pub returns-clause-rows : goal.returns-clause-rows
returns-clause-rows c =
    let run = probing_of c.args.run.now in
    (each_ended (λ b. windowed run.window (column c.args.cycles.now b)) (range_with_len 0 run.bits) c.bits.rows c.bits.bit c.bits.invariant (omega (arith, c.bits-test.false, length-range_with_len 0 (run.bits)))).0

pub returns-clause-formula : goal.returns-clause-formula
returns-clause-formula c =
    let run = probing_of c.args.run.now in
    (each_ended (λ b. windowed run.window (column c.args.cycles.now b)) (range_with_len 0 run.bits) c.bits.rows c.bits.bit c.bits.invariant (omega (arith, c.bits-test.false, length-range_with_len 0 (run.bits)))).1
