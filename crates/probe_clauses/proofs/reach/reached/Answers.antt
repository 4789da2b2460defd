use Rattle.std.proofs.Common.{◌<◌, arith}
use Rattle.std.specs.List.{range_with_len}
use Rattle.std.proofs.lemmas.List.FromFn.{length-range_with_len}
use Rattle.clause_builds.proofs.Leaving.{all_left}
use Rattle.clause_builds.proofs.Lists.{each_start, each_fits, each_turn, each_ended}
use Rattle.probe_clauses.specs.Probings.{probing_of}
use Rattle.probe_clauses.specs.Passes.{reached_in, reached}
use Rattle.probe_clauses.proofs.Ranges.{range_item}
use Rattle.probe_clauses.proofs.reach.reached.Goals as goal

pub cycles-init : goal.cycles-init
cycles-init c =
    let run = probing_of c.args.run.now in
    rw c.new-rows.ensures (each_start (reached_in run c.args.active.now) (range_with_len 0 run.cycles) (all_left c.args.form.now (reached run c.args.active.now)))

pub reached_in-requires-clause-fits : goal.reached_in-requires-clause-fits
reached_in-requires-clause-fits c =
    let run = probing_of c.args.run.now in
    let lt : c.cycles.cycle < run.cycles = omega (arith, c.cycles-test.true) in
    each_fits (reached_in run c.args.active.now) (range_with_len 0 run.cycles) c.cycles.rows c.cycles.cycle c.cycles.cycle c.cycles.invariant (omega (arith, lt, length-range_with_len 0 (run.cycles))) (range_item (run.cycles) c.cycles.cycle lt) c.requires

pub cycles-preserved : goal.cycles-preserved
cycles-preserved c =
    let run = probing_of c.args.run.now in
    let lt : c.cycles.cycle < run.cycles = omega (arith, c.cycles-test.true) in
    rw c.in_ok-push.ensures.ok (each_turn (reached_in run c.args.active.now) (range_with_len 0 run.cycles) c.cycles.rows c.cycles.cycle c.cycles.cycle c.reached_in.new.form c.in_ok-row.row c.cycles.invariant
    (omega (arith, lt, length-range_with_len 0 (run.cycles))) (range_item (run.cycles) c.cycles.cycle lt) c.in_ok-row.ensures.formula c.in_ok-row.ensures.row)

pub returns-clause-rows : goal.returns-clause-rows
returns-clause-rows c =
    let run = probing_of c.args.run.now in
    (each_ended (reached_in run c.args.active.now) (range_with_len 0 run.cycles) c.cycles.rows c.cycles.cycle c.cycles.invariant (omega (arith, c.cycles-test.false, length-range_with_len 0 (run.cycles)))).0

pub returns-clause-formula : goal.returns-clause-formula
returns-clause-formula c =
    let run = probing_of c.args.run.now in
    (each_ended (reached_in run c.args.active.now) (range_with_len 0 run.cycles) c.cycles.rows c.cycles.cycle c.cycles.invariant (omega (arith, c.cycles-test.false, length-range_with_len 0 (run.cycles)))).1
