use Rattle.std.proofs.Common.{◌≡◌, ℕ, suc, List, sym, ◌∙◌, ap, subst}
use Rattle.coco_base.specs.declared.cell.Part.{Part}
use Rattle.coco_base.specs.declared.setup.Setup.{Setup}
use Rattle.coco_model.specs.Stepped.{HasNoFault}
use Rattle.gate_graph.specs.Graphs.{Gates, IsBuilt}
use Rattle.calm_reach.specs.CalmRows.{IsCalmRow, row_of}
use Rattle.cycle_sim.specs.Simulations.{Simulation, HasStepped}
use Rattle.unroll.proofs.CounterLemmas.{pc_in}
use Rattle.unroll.proofs.SimLemmas.{IsNow, sim_now}
use Rattle.run_rows.proofs.CycleLemmas.{row_in, sim_has_none}
use Rattle.run_rows.proofs.rows.tell_next.Goals as goal

pub unreachable-requires : goal.unreachable-requires
unreachable-requires c =
    let g : Gates = c.args.graph.now in
    let t = c.args.cycle in
    let sim : Simulation = c.next.new.self in
    let gates : sim.gates ≡ g = c.next.ensures.after.gates_stay ∙ c.requires.standing.gates_are in
    let setups : sim.setup ≡ c.args.setup.now = c.next.ensures.after.setup_stays ∙ c.requires.standing.setup_is in
    let cycles : sim.cycles ≡ suc t = c.next.ensures.after.next c.requires.standing.no_fault ∙ ap (λ (n : ℕ). suc n) c.requires.standing.cycles_are in
    let none : HasNoFault sim.gates.flat sim.setup (suc t) =
    subst (λ (s : Setup). HasNoFault sim.gates.flat s (suc t)) (sym setups)
    (subst (λ (x : Gates). HasNoFault x.flat c.args.setup.now (suc t)) (sym gates) c.requires.no_fault) in
    sim_has_none sim t c.next.ensures.simulation cycles none c.in-Err.field-0 c.in-Err.ensures.err

pub returns-clause-row : goal.returns-clause-row
returns-clause-row c =
    let g : Gates = c.args.graph.now in
    let setup = c.args.setup.now in
    let t = c.args.cycle in
    let sim : Simulation = c.next.new.self in
    let gates : sim.gates ≡ g = c.next.ensures.after.gates_stay ∙ c.requires.standing.gates_are in
    let setups : sim.setup ≡ setup = c.next.ensures.after.setup_stays ∙ c.requires.standing.setup_is in
    let built : IsBuilt g = subst IsBuilt gates c.known.ensures.simulation.built in
    let cycles : sim.cycles ≡ suc t = c.next.ensures.after.next c.requires.standing.no_fault ∙ ap (λ (n : ℕ). suc n) c.requires.standing.cycles_are in
    let stepped : HasStepped sim t = subst (HasStepped sim) c.requires.standing.cycles_are c.in-Ok.ensures.stepped in
    let now : IsNow g.flat setup t sim.known sim.old = sim_now g setup sim t gates setups built c.requires.bound cycles stepped c.known.ensures.shown in
    row_in g setup built c.requires.bound t sim.known sim.old now c.in_ok-row.row
    (subst (λ (ps : List Part). IsCalmRow g.flat (row_of ps) (row_of sim.known) c.in_ok-row.row) c.before-2.ensures.row
    (subst (λ (ps : List Part). IsCalmRow g.flat (row_of c.before-2.result.now) (row_of ps) c.in_ok-row.row) c.known.ensures.row c.in_ok-row.ensures.row))

pub returns-clause-pc : goal.returns-clause-pc
returns-clause-pc c =
    let g : Gates = c.args.graph.now in
    let sim : Simulation = c.next.new.self in
    let gates : sim.gates ≡ g = c.next.ensures.after.gates_stay ∙ c.requires.standing.gates_are in
    let setups : sim.setup ≡ c.args.setup.now = c.next.ensures.after.setup_stays ∙ c.requires.standing.setup_is in
    let stepped : HasStepped sim c.args.cycle = subst (HasStepped sim) c.requires.standing.cycles_are c.in-Ok.ensures.stepped in
    pc_in g c.args.setup.now (subst IsBuilt gates c.pc.ensures.simulation.built) c.requires.bound sim c.args.cycle gates setups stepped c.pc.result
    c.pc.ensures.none c.pc.ensures.value
