use Rattle.std.proofs.Common.{◌≡◌, ℕ, suc, ◌+◌, sym, subst, arith}
use Rattle.gate_graph.specs.Graphs.{IsBuilt}
use Rattle.unroll.proofs.CounterLemmas.{pcs_next}
use Rattle.unroll.specs.Counters.{ArePcs}
use Rattle.unroll.specs.Walks.{IsStanding}
use Rattle.run_rows.proofs.CycleLemmas.{rows_more}
use Rattle.run_rows.proofs.RunLemmas.{none_over_fewer, rows_at_end, all_have_places, calm_at_end, rows_of_run}
use Rattle.run_rows.specs.Cycles.{AreFirstRows}
use Rattle.run_rows.proofs.rows.rows_of.Goals as goal

pub tell_next-requires-clause-no_fault : goal.tell_next-requires-clause-no_fault
tell_next-requires-clause-no_fault c =
    let below = c.cycles-test.true in
    none_over_fewer c.args.graph.now.flat c.args.setup.now c.args.cycles (suc c.cycles.cycle) (omega arith) c.requires.no_fault

pub cycles-preserved : goal.cycles-preserved
cycles-preserved c =
    let g = c.args.graph.now in
    let setup = c.args.setup.now in
    let t = c.cycles.cycle in
    let more : suc t ≡ t + 1 = omega arith in
    record {
      standing = subst (λ (m : ℕ). IsStanding g setup m c.tell_next.new.sim) more c.in_ok-told.ensures.standing;
      rows = subst (AreFirstRows g.flat setup (t + 1)) (sym c.in_ok-push.ensures.ok)
          (rows_more g.flat setup t c.cycles.rows c.in_ok-told.told.row c.cycles.invariant.rows c.in_ok-told.ensures.row);
      pcs = subst (ArePcs g.flat setup (t + 1)) (sym c.in_ok-add_pc.ensures)
          (pcs_next g.flat setup t c.cycles.pcs c.in_ok-told.told.pc c.in_ok-told.ensures.pc c.cycles.invariant.pcs);
    }

pub returns-clause-rows : goal.returns-clause-rows
returns-clause-rows c =
    let end : c.cycles.cycle ≡ c.args.cycles = let a = c.cycles-test.false in let b = c.cycles.auto.cycle-end in omega arith in
    rows_at_end c.args.graph.now.flat c.args.setup.now c.args.cycles c.cycles.cycle c.cycles.rows end c.cycles.invariant.rows

pub returns-clause-places : goal.returns-clause-places
returns-clause-places c = all_have_places c.args.graph.now.flat c.args.cycles c.cycles.rows (returns-clause-rows c)

pub returns-clause-calm : goal.returns-clause-calm
returns-clause-calm c =
    let end : c.cycles.cycle ≡ c.args.cycles = let a = c.cycles-test.false in let b = c.cycles.auto.cycle-end in omega arith in
    calm_at_end c.args.graph.now.flat c.args.setup.now c.args.cycles c.cycles.cycle c.cycles.rows end c.cycles.invariant.rows

pub returns-clause-tells : goal.returns-clause-tells
returns-clause-tells c =
    let new = c.in_ok-sim.ensures in
    rows_of_run c.args.graph.now c.args.setup.now c.args.cycles (subst IsBuilt new.gates_are new.simulation.built) c.requires.bound c.requires.no_fault
    c.cycles.rows (returns-clause-rows c) (returns-clause-calm c)
