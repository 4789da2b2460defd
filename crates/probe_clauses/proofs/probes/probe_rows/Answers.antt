use Rattle.std.proofs.Common.{◌<◌, arith}
use Rattle.std.specs.List.{range_with_len}
use Rattle.std.proofs.lemmas.List.FromFn.{length-range_with_len}
use Rattle.clause_builds.proofs.Leaving.{all_left}
use Rattle.clause_builds.proofs.Lists.{each_start, each_fits, each_turn, each_ended}
use Rattle.probe_clauses.specs.Probings.{probing_of}
use Rattle.probe_clauses.specs.Passes.{probes_in, probe_rows}
use Rattle.probe_clauses.proofs.Ranges.{range_item}
use Rattle.probe_clauses.proofs.probes.probe_rows.Goals as goal

pub cycles-init : goal.cycles-init
cycles-init c =
    let run = probing_of c.args.run.now in
    rw c.new-cycles.ensures (each_start (probes_in run) (range_with_len 0 run.cycles) (all_left c.args.form.now (probe_rows run)))

pub counted_row-requires : goal.counted_row-requires
counted_row-requires c =
    let run = probing_of c.args.run.now in
    let lt : c.cycles._cycle < run.cycles = omega (arith, c.cycles-test.true) in
    rw (c.order.ensures, c.as_slice.ensures, c.in_ok-probed.ensures) (each_fits (probes_in run) (range_with_len 0 run.cycles) c.cycles.cycles c.cycles._cycle c.cycles._cycle c.cycles.invariant (omega (arith, lt, length-range_with_len 0 (run.cycles))) (range_item (run.cycles) c.cycles._cycle lt) c.requires)

pub cycles-preserved : goal.cycles-preserved
cycles-preserved c =
    let run = probing_of c.args.run.now in
    let lt : c.cycles._cycle < run.cycles = omega (arith, c.cycles-test.true) in
    rw c.in_ok-push.ensures.ok (each_turn (probes_in run) (range_with_len 0 run.cycles) c.cycles.cycles c.cycles._cycle c.cycles._cycle c.counted_row.new.form c.in_ok-counted.counted c.cycles.invariant
    (omega (arith, lt, length-range_with_len 0 (run.cycles))) (range_item (run.cycles) c.cycles._cycle lt) (rw (c.order.ensures, c.as_slice.ensures, c.in_ok-probed.ensures) at c.in_ok-counted.ensures.formula) (rw (c.order.ensures, c.as_slice.ensures, c.in_ok-probed.ensures) at c.in_ok-counted.ensures.counted))

pub returns-clause-probes : goal.returns-clause-probes
returns-clause-probes c =
    let run = probing_of c.args.run.now in
    (each_ended (probes_in run) (range_with_len 0 run.cycles) c.cycles.cycles c.cycles._cycle c.cycles.invariant (omega (arith, c.cycles-test.false, length-range_with_len 0 (run.cycles)))).0

pub returns-clause-formula : goal.returns-clause-formula
returns-clause-formula c =
    let run = probing_of c.args.run.now in
    (each_ended (probes_in run) (range_with_len 0 run.cycles) c.cycles.cycles c.cycles._cycle c.cycles.invariant (omega (arith, c.cycles-test.false, length-range_with_len 0 (run.cycles)))).1
