-- A simulation from call to call.
use Rattle.std.proofs.Common.{◌≡◌, ◌≢◌, ℕ, zero, suc, ◌+◌, ◌*◌, ◌<◌, ◌⊎◌, inl, inr, cond, List, [], ◌∷◌, refl, sym, ◌∙◌, ap, subst, arith}
use Rattle.std.specs.Prelude.{Contains, None}
use Rattle.std.proofs.lemmas.Bool.{cases_eq}
use Rattle.coco_base.specs.declared.cell.Part.{Part}
use Rattle.coco_base.specs.declared.netlist.Flat.{Flat}
use Rattle.coco_base.specs.declared.setup.Setup.{Setup}
use Rattle.coco_base.specs.declared.cell.Part.TheVariants.{Zero, One, Vary}
use Rattle.coco_base.specs.declared.netlist.Wire.{Wire}
use Rattle.coco_base.specs.declared.netlist.Wire.TheVariants.{Const, Bit}
use Rattle.coco_base.specs.declared.setup.ControlPlan.{ControlPlan}
use Rattle.coco_base.specs.declared.setup.When.TheVariants.{Always}
use Rattle.coco_model.proofs.Basics.{HasMember, some_from_any, Contains-here, Contains-later}
use Rattle.coco_model.specs.Labels.{Choice}
use Rattle.coco_model.specs.Netlist.{Valuation, wire_value}
use Rattle.coco_model.specs.Run.{Memory, IsRun, before}
use Rattle.coco_model.specs.Cells.{Allows}
use Rattle.coco_model.specs.Controls.{Applies, AreControlsKnown}
use Rattle.coco_model.specs.Carried.{number_on, start_word}
use Rattle.coco_model.specs.Known.{Row, is_one, ones, parts, wire_part}
use Rattle.coco_model.specs.Setups.{IsBoundTo}
use Rattle.coco_model.specs.Stepped.{IsGoodCycle, row_of}
use Rattle.model_laws.proofs.Knowing.{known_law}
use Rattle.model_laws.specs.Laws.{CheckedRun, KnownLaw}
use Rattle.gate_graph.specs.Graphs.{Gates, IsBuilt, rank_in}
use Rattle.cycle_sim.specs.Memories.{HoldsWords}
use Rattle.cycle_sim.specs.Simulations.{Simulation, HasStepped, IsSimulation, IsPcInRuns, pc_of, IsAt, IsBefore, IsReady, StandsAt, IsCycleFault, IsInEveryRun}

-- a simulation without a fault is ready for its next cycle
pub ready : (sim : Simulation) (t : ℕ) → StandsAt sim t → sim.fault ≡ None → IsReady sim.gates.flat sim.setup t sim.known sim.old sim.memory
ready sim zero stands none = stands.1
ready sim (suc t) stands none =
    (stands.0, subst (λ f. IsCycleFault sim.gates.flat sim.setup (row_of sim.known) t f) none stands.1)

-- what is known in a good cycle, past good ones, is so in every run
pub in_every_run : (gates : Gates) (setup : Setup) (t : ℕ) (known old memory : List Part) → IsBuilt gates → IsBoundTo gates.flat setup
    → IsAt gates.flat setup t known old memory → IsGoodCycle gates.flat setup (row_of known) → IsInEveryRun gates.flat setup t (row_of known)
unfolding KnownLaw
in_every_run gates setup t known old memory built bound at good choice v m run b =
    subst (λ (r : Row). Allows (r b) (v t b)) at.now ((known_law gates.flat setup (suc t) sim choice v m run t (omega arith)).0 b)
  where
    controls : (s : ℕ) → s < suc t → (s ≡ t) ⊎ (s ≢ t) → AreControlsKnown setup (at.row s)
    controls s h (inl e) = subst (AreControlsKnown setup) (sym (ap at.row e ∙ at.now)) good.controls
    controls s h (inr n) = (at.good s (below s t h n)).controls
      where
        below : (s t : ℕ) → s < suc t → s ≢ t → s < t
        below s t h n = omega arith

    sim : CheckedRun gates.flat setup (suc t)
    sim = record {
      rank = rank_in gates;
      row = at.row;
      word = at.word;
      is = record {
        ranked = built.ranked;
        bound = bound.bound;
        has_controls = bound.controls;
        known = at.is_known;
        controls = λ s h. controls s h (cases_eq s t);
      };
    }

-- past good cycles and in a good one, no cycle has a fault
pub stepped_at : (sim : Simulation) (t : ℕ) → IsAt sim.gates.flat sim.setup t sim.known sim.old sim.memory
    → IsGoodCycle sim.gates.flat sim.setup (row_of sim.known) → HasStepped sim t
stepped_at sim t at good = record {
  row = at.row;
  word = at.word;
  stepped = record { known = at.is_known; good = λ s h. each s h (cases_eq s t) };
  now = at.now;
}
  where
    each : (s : ℕ) → s < suc t → (s ≡ t) ⊎ (s ≢ t) → IsGoodCycle sim.gates.flat sim.setup (at.row s)
    each s h (inl e) = subst (IsGoodCycle sim.gates.flat sim.setup) (sym (ap at.row e ∙ at.now)) good
    each s h (inr n) = at.good s (below s t h n)
      where
        below : (s t : ℕ) → s < suc t → s ≢ t → s < t
        below s t h n = omega arith

pub stands_more : (sim : Simulation) (t n : ℕ) → n ≡ suc t → IsAt sim.gates.flat sim.setup t sim.known sim.old sim.memory
    → IsCycleFault sim.gates.flat sim.setup (row_of sim.known) t sim.fault → StandsAt sim n
stands_more sim t n e at fault = subst (StandsAt sim) (sym e) (at, fault)

pub ready_first : (flat : Flat) (setup : Setup) (cycle : ℕ) (known old memory : List Part) → cycle ≡ 0 → IsReady flat setup cycle known old memory
    → HoldsWords memory (start_word parts setup.table setup.words)
ready_first flat setup zero known old memory e ready = ready
ready_first flat setup (suc t) known old memory e ready = absurd (omega arith)

pub ready_later : (flat : Flat) (setup : Setup) (cycle : ℕ) (known old memory : List Part) → cycle ≢ 0 → IsReady flat setup cycle known old memory
    → IsBefore flat setup cycle known old memory
ready_later flat setup zero known old memory n ready = absurd (n refl)
ready_later flat setup (suc t) known old memory n ready = record { past = t; follows = refl; at = ready.0; good = ready.1 }

-- a wire that is known has that value
wire_same : (row : Row) (v : Valuation) (w : Wire) → wire_part row w ≢ Vary → ((b : ℕ) → Allows (row b) (v b))
    → wire_value (ones row) w ≡ wire_value v w
wire_same row v (Const x) known allows = refl
wire_same row v (Bit n) known allows = go (row n) known (allows n)
  where
    go : (p : Part) → p ≢ Vary → Allows p (v n) → is_one p ≡ v n
    go Zero k a = sym a
    go One k a = sym a
    go Vary k a = absurd (k refl)

number_same : (row : Row) (v : Valuation) (ws : List Wire) → ((w : Wire) → Contains ws w → wire_part row w ≢ Vary)
    → ((b : ℕ) → Allows (row b) (v b)) → number_on (ones row) ws ≡ number_on v ws
number_same row v [] known allows = refl
number_same row v (w ∷ ws) known allows =
    let head = wire_same row v w (known w (Contains-here w ws)) allows in
    let tail = number_same row v ws (λ u h. known u (Contains-later w u ws h)) allows in
    ap (λ b. cond b 1 0 + 2 * number_on (ones row) ws) head ∙ ap (λ n. cond (wire_value v w) 1 0 + 2 * n) tail

-- the wires of the program counter are known in a good cycle
pc_known : (flat : Flat) (setup : Setup) (row : Row) → IsBoundTo flat setup → IsGoodCycle flat setup row → (w : Wire) → Contains setup.pc w
    → wire_part row w ≢ Vary
pc_known flat setup row bound good w h = go (some_from_any (λ (c : ControlPlan). (c.wire ≡ w) × (c.when ≡ Always)) setup.controls (bound.controls.pc w h))
  where
    go : HasMember (λ (c : ControlPlan). (c.wire ≡ w) × (c.when ≡ Always)) setup.controls → wire_part row w ≢ Vary
    go m = subst (λ u. wire_part row u ≢ Vary) m.holds.0 (good.controls.each m.member m.listed (subst (Applies setup row) (sym m.holds.1) tt))

-- the number on the net of the program counter is so in every run
pub pc_in_runs : (sim : Simulation) → IsSimulation sim → sim.fault ≡ None → 0 < sim.cycles → IsPcInRuns sim (pc_of sim)
pc_in_runs sim is none some = go sim.cycles some is.stands
  where
    go : (n : ℕ) → 0 < n → StandsAt sim n → (choice : Choice) (v : ℕ → Valuation) (m : ℕ → Memory)
        → IsRun sim.gates.flat sim.setup n choice v m → pc_of sim ≡ number_on (v (before n)) sim.setup.pc
    go zero h stands choice v m run = absurd (omega arith)
    go (suc t) h stands choice v m run =
        let good : IsGoodCycle sim.gates.flat sim.setup (row_of sim.known) =
        subst (λ f. IsCycleFault sim.gates.flat sim.setup (row_of sim.known) t f) none stands.1 in
        number_same (row_of sim.known) (v t) sim.setup.pc (pc_known sim.gates.flat sim.setup (row_of sim.known) is.bound good)
        (in_every_run sim.gates sim.setup t sim.known sim.old sim.memory is.built is.bound stands.0 good choice v m run)
