use Rattle.std.proofs.Common.{◌≡◌, ◌∙◌, subst}
use Rattle.gate_graph.specs.Graphs.{Gates, IsBuilt}
use Rattle.cycle_sim.specs.Simulations.{Simulation, HasStepped}
use Rattle.unroll.proofs.CounterLemmas.{pc_in}
use Rattle.unroll.proofs.counters.next_pc.Goals as goal

pub returns-in-Ok-clause-pc : goal.returns-in-Ok-clause-pc
returns-in-Ok-clause-pc c =
    let g : Gates = c.args.graph.now in
    let sim : Simulation = c.next.new.self in
    let gates : sim.gates ≡ g = c.next.ensures.after.gates_stay ∙ c.requires.standing.gates_are in
    let setups : sim.setup ≡ c.args.setup.now = c.next.ensures.after.setup_stays ∙ c.requires.standing.setup_is in
    let stepped : HasStepped sim c.args.cycle = subst (HasStepped sim) c.requires.standing.cycles_are c.in-Ok.ensures.stepped in
    pc_in g c.args.setup.now (subst IsBuilt gates c.pc.ensures.simulation.built) c.requires.bound sim c.args.cycle gates setups stepped c.pc.result
    c.pc.ensures.none c.pc.ensures.value
