use Rattle.std.proofs.Common.{◌≡◌, ℕ, ◌<◌, sym, ◌∙◌, ap, subst}
use Rattle.cycle_sim.specs.Simulations.{Simulation, IsPcInRuns, pc_of, simulation_of}
use Rattle.cycle_sim.proofs.StandLemmas.{pc_in_runs}
use Rattle.cycle_sim.proofs.sim.Sim.pc.Goals as goal

pub returns-clause-runs : goal.returns-clause-runs
returns-clause-runs c =
    let inside = c.self.inside in
    let sim = simulation_of inside.graph.now inside.setup.now inside.cycles inside.rows inside.fault in
    let same : sim ≡ c.args.self.now = c.self.view_is in
    let value : c.number_on.result ≡ pc_of sim = rw (c.as_slice.ensures.value, c.as_slice-wires.ensures) at c.number_on.ensures in
    subst (λ (s : Simulation). IsPcInRuns s c.number_on.result) same (subst (λ (n : ℕ). IsPcInRuns sim n) (sym value)
    (pc_in_runs sim c.self.invariant (ap (λ (s : Simulation). s.fault) same ∙ c.requires.good) (subst (λ (n : ℕ). 0 < n) (sym (ap (λ (s : Simulation). s.cycles) same)) c.requires.cycles)))
