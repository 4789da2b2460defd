use Rattle.std.proofs.Common.{◌≡◌, ℕ, suc, List, sym, ◌∙◌, ap, subst}
use Rattle.coco_base.specs.declared.cell.Part.{Part}
use Rattle.coco_model.specs.Stepped.{HasNoOutside, row_of}
use Rattle.gate_graph.specs.Graphs.{Gates, IsBuilt}
use Rattle.cycle_sim.specs.Simulations.{Simulation, HasStepped}
use Rattle.unroll.specs.Walks.{IsRunAt}
use Rattle.unroll.proofs.SimLemmas.{IsNow, sim_now, none_outside, run_at}
use Rattle.unroll.proofs.unrolling.add_next.Goals as goal

pub add_cycle-requires-clause-inside : goal.add_cycle-requires-clause-inside
add_cycle-requires-clause-inside c =
    let g : Gates = c.args.graph.now in
    let setup = c.args.setup.now in
    let t = c.args.cycle in
    let sim : Simulation = c.next.new.self in
    let gates : sim.gates ≡ g = c.next.ensures.after.gates_stay ∙ c.requires.standing.gates_are in
    let setups : sim.setup ≡ setup = c.next.ensures.after.setup_stays ∙ c.requires.standing.setup_is in
    let built : IsBuilt g = subst IsBuilt gates c.before-2.ensures.simulation.built in
    let cycles : sim.cycles ≡ suc t = c.next.ensures.after.next c.requires.standing.no_fault ∙ ap (λ (n : ℕ). suc n) c.requires.standing.cycles_are in
    let stepped : HasStepped sim t = subst (HasStepped sim) c.requires.standing.cycles_are c.in-Ok.ensures.stepped in
    let now : IsNow g.flat setup t sim.known sim.old = sim_now g setup sim t gates setups built c.requires.bound cycles stepped c.known.ensures.shown in
    subst (λ (ps : List Part). HasNoOutside setup (row_of ps)) (sym c.before-2.ensures.row) (none_outside g.flat setup t sim.known sim.old now)

pub returns-clause-done : goal.returns-clause-done
returns-clause-done c = λ run is done.
    let g : Gates = c.args.graph.now in
    let setup = c.args.setup.now in
    let t = c.args.cycle in
    let sim : Simulation = c.next.new.self in
    let gates : sim.gates ≡ g = c.next.ensures.after.gates_stay ∙ c.requires.standing.gates_are in
    let setups : sim.setup ≡ setup = c.next.ensures.after.setup_stays ∙ c.requires.standing.setup_is in
    let built : IsBuilt g = subst IsBuilt gates c.before-2.ensures.simulation.built in
    let cycles : sim.cycles ≡ suc t = c.next.ensures.after.next c.requires.standing.no_fault ∙ ap (λ (n : ℕ). suc n) c.requires.standing.cycles_are in
    let stepped : HasStepped sim t = subst (HasStepped sim) c.requires.standing.cycles_are c.in-Ok.ensures.stepped in
    let now : IsNow g.flat setup t sim.known sim.old = sim_now g setup sim t gates setups built c.requires.bound cycles stepped c.known.ensures.shown in
    c.add_cycle.ensures.done run
    (subst (λ (ps : List Part). IsRunAt g setup t ps c.before-2.result.now run) (sym c.known.ensures.row)
    (subst (λ (ps : List Part). IsRunAt g setup t sim.known ps run) (sym c.before-2.ensures.row)
    (run_at g setup built c.requires.bound t sim.known sim.old now run is))) done
