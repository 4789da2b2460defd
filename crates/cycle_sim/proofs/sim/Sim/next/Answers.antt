use Rattle.std.proofs.Common.{ℕ, ◌+◌, List, ap, subst, arith}
use Rattle.std.specs.Prelude.{Option}
use Rattle.std.proofs.lemmas.Result.{on_ok_weaker}
use Rattle.coco_base.specs.declared.cell.Part.{Part}
use Rattle.coco_model.specs.Stepped.{row_of}
use Rattle.cycle_sim.specs.Simulations.{Simulation, HasStepped, IsCycleFault, IsInEveryRun, simulation_of}
use Rattle.cycle_sim.specs.declared.fault.SimFault.{SimFault}
use Rattle.cycle_sim.proofs.StandLemmas.{in_every_run, stands_more, stepped_at}
use Rattle.cycle_sim.proofs.sim.Sim.next.Goals as goal

pub invariant_of-self : goal.invariant_of-self
invariant_of-self c =
    let g = c.self.inside.graph.now in
    let setup = c.self.inside.setup.now in
    let t = c.self.inside.cycles in
    let fault = c.fault_in-fault.result in
    record {
      built = c.self.invariant.built;
      bound = c.self.invariant.bound;
      known_long = c.make_cycle.ensures.known;
      old_long = c.make_cycle.ensures.before;
      stands = stands_more (simulation_of g setup (t + 1) c.make_cycle.new.rows fault) t (t + 1) (omega arith) c.make_cycle.ensures.at
          (subst (λ (ks : List Part). IsCycleFault g.flat setup (row_of ks) t fault) c.as_slice-known.ensures.value c.fault_in-fault.ensures);
    }

pub returns-clause-runs : goal.returns-clause-runs
returns-clause-runs c =
    let g = c.self.inside.graph.now in
    let setup = c.self.inside.setup.now in
    let t = c.self.inside.cycles in
    let rows = c.make_cycle.new.rows in
    let fault = c.fault_in-fault.result in
    on_ok_weaker c.answer_of.result (λ none. subst (λ (n : ℕ). IsInEveryRun g.flat setup n (row_of rows.known.items)) (ap (λ (s : Simulation). s.cycles) c.self.view_is)
    (in_every_run g setup t rows.known.items rows.before.items rows.memory.items c.self.invariant.built c.self.invariant.bound c.make_cycle.ensures.at
    (subst (λ (f : Option SimFault). IsCycleFault g.flat setup (row_of rows.known.items) t f) none
    (subst (λ (ks : List Part). IsCycleFault g.flat setup (row_of ks) t fault) c.as_slice-known.ensures.value c.fault_in-fault.ensures)))) c.answer_of.ensures.ok

pub returns-clause-stepped : goal.returns-clause-stepped
returns-clause-stepped c =
    let g = c.self.inside.graph.now in
    let setup = c.self.inside.setup.now in
    let t = c.self.inside.cycles in
    let rows = c.make_cycle.new.rows in
    let fault = c.fault_in-fault.result in
    let sim = simulation_of g setup (t + 1) rows fault in
    on_ok_weaker c.answer_of.result (λ none. subst (λ (n : ℕ). HasStepped sim n) (ap (λ (s : Simulation). s.cycles) c.self.view_is)
    (stepped_at sim t c.make_cycle.ensures.at
    (subst (λ (f : Option SimFault). IsCycleFault g.flat setup (row_of rows.known.items) t f) none
    (subst (λ (ks : List Part). IsCycleFault g.flat setup (row_of ks) t fault) c.as_slice-known.ensures.value c.fault_in-fault.ensures)))) c.answer_of.ensures.ok

pub returns-clause-simulation : goal.returns-clause-simulation
returns-clause-simulation c = invariant_of-self c
