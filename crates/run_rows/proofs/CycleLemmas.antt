-- The simulation of a cycle: it has no fault where the run has none, and what it shows gives the calm row.
use Rattle.std.proofs.Common.{◌≡◌, ℕ, zero, suc, ◌+◌, ◌<◌, ◌⊎◌, inl, inr, List, [], ◌∷◌, ◌++◌, length, refl, sym, ◌∙◌, ap, subst, arith, length-append}
use Rattle.std.specs.Prelude.{slice_get, Some}
use Rattle.coco_base.specs.declared.cell.Part.{Part}
use Rattle.coco_base.specs.declared.netlist.Flat.{Flat}
use Rattle.coco_base.specs.declared.setup.Setup.{Setup}
use Rattle.coco_model.specs.Known.{Row, IsKnown}
use Rattle.coco_model.specs.Run.{before}
use Rattle.coco_model.specs.Setups.{IsBoundTo}
use Rattle.coco_model.specs.Stepped.{IsGoodCycle, HasNoFault, row_of as known_of}
use Rattle.model_laws.proofs.Outcomes.{good_cycle_law}
use Rattle.model_laws.specs.RunLaws.{GoodCycleLaw}
use Rattle.gate_graph.specs.Graphs.{Gates, IsBuilt}
use Rattle.cycle_sim.specs.Simulations.{Simulation, IsSimulation, StandsAt, IsCycleFault}
use Rattle.cycle_sim.specs.declared.fault.SimFault.{SimFault}
use Rattle.cycle_sim.specs.declared.fault.SimFault.TheVariants.{ControlDepends, ResetActive, AddressOutside}
use Rattle.calm_reach.specs.CalmRows.{Calmness, IsCalmRow, row_of}
use Rattle.unroll.proofs.SimLemmas.{IsNow, same_row}
use Rattle.unroll.specs.Unrolls.{IsFaultIn}
use Rattle.run_rows.specs.Cycles.{IsRowIn, AreFirstRows}

good_or_fault : (flat : Flat) (setup : Setup) (row : Row) (t : ℕ) (fault : SimFault) → IsGoodCycle flat setup row
    → IsCycleFault flat setup row t (Some fault) → ⊥
unfolding GoodCycleLaw
good_or_fault flat setup row t (ControlDepends control cycle) good is = (good_cycle_law flat setup row good).no_control control is.0
good_or_fault flat setup row t (ResetActive flop cycle) good is = (good_cycle_law flat setup row good).no_reset flop is.0
good_or_fault flat setup row t (AddressOutside cycle address) good is = (good_cycle_law flat setup row good).no_address address is.0

-- a run without a fault has none in its last cycle
pub none_in : (g : Gates) (setup : Setup) → IsBuilt g → IsBoundTo g.flat setup → (t : ℕ) → HasNoFault g.flat setup (suc t) → (fault : SimFault)
    → IsFaultIn g.flat setup t fault → ⊥
none_in g setup built bound t none fault is =
    let same : none.row t ≡ is.row t =
    same_row g setup built bound (suc t) none.row is.row none.word is.word none.stepped.known is.known t (omega arith) in
    good_or_fault g.flat setup (is.row t) t fault (subst (IsGoodCycle g.flat setup) same (none.stepped.good t (omega arith))) is.fault_is

-- so its simulation has none
pub sim_has_none : (sim : Simulation) (t : ℕ) → IsSimulation sim → sim.cycles ≡ suc t → HasNoFault sim.gates.flat sim.setup (suc t) → (fault : SimFault)
    → sim.fault ≡ Some fault → ⊥
sim_has_none sim t is cycles none fault found =
    let stands : StandsAt sim (suc t) = subst (StandsAt sim) cycles is.stands in
    let at = stands.0 in
    none_in sim.gates sim.setup is.built is.bound t none fault (record {
      row = at.row;
      word = at.word;
      known = at.is_known;
      good = at.good;
      fault_is =
          subst (λ (r : Row). IsCycleFault sim.gates.flat sim.setup r t (Some fault)) (sym at.now)
          (subst (IsCycleFault sim.gates.flat sim.setup (known_of sim.known) t) found stands.1);
    })

before_below : (t : ℕ) → before t < suc t
before_below zero = omega arith
before_below (suc t) = omega arith

-- the calm row between what the simulation shows of the cycle before and of the cycle
pub row_in : (g : Gates) (setup : Setup) → IsBuilt g → IsBoundTo g.flat setup → (t : ℕ) (known old : List Part) → IsNow g.flat setup t known old
    → (calm : Calmness) → IsCalmRow g.flat (row_of old) (row_of known) calm → IsRowIn g.flat setup t calm
row_in g setup built bound t known old now calm is = record { places = is.places; between = between }
  where
    between : (row : ℕ → Row) (word : ℕ → ℕ → Row) → IsKnown g.flat setup (suc t) row word → IsCalmRow g.flat (row (before t)) (row t) calm
    between row word row_known =
        let same : (s : ℕ) → s < suc t → now.row s ≡ row s = λ s below.
        same_row g setup built bound (suc t) now.row row now.word word now.stepped.known row_known s below in
        let new : row_of known ≡ row t = sym now.now ∙ same t (omega arith) in
        let earlier : row_of old ≡ row (before t) = now.earlier ∙ same (before t) (before_below t) in
        subst (λ (r : Row). IsCalmRow g.flat r (row t) calm) earlier (subst (λ (r : Row). IsCalmRow g.flat (row_of old) r calm) new is)

-- what stands in a list with one item more
record IsPushed {X : Type 0} (xs : List X) (x : X) (k : ℕ) (y : X) : Type 0 where
  place : k ≡ length xs
  item : x ≡ y

pushed_at : {X : Type 0} (xs : List X) (x : X) (k : ℕ) (y : X) → slice_get (xs ++ x ∷ []) k ≡ Some y
    → (slice_get xs k ≡ Some y) ⊎ IsPushed xs x k y
pushed_at [] x zero y at = inr (record { place = refl; item = let e : Some x ≡ Some y = at in cc })
pushed_at [] x (suc k) y at = absurd cc
pushed_at (z ∷ zs) x zero y at = inl at
pushed_at (z ∷ zs) x (suc k) y at = later (pushed_at zs x k y at)
  where
    later : (slice_get zs k ≡ Some y) ⊎ IsPushed zs x k y → (slice_get zs k ≡ Some y) ⊎ IsPushed (z ∷ zs) x (suc k) y
    later (inl old) = inl old
    later (inr new) = inr (record { place = ap (λ n. suc n) new.place; item = new.item })

pub rows_none : (flat : Flat) (setup : Setup) → AreFirstRows flat setup 0 []
rows_none flat setup = record { as_long = refl; each = λ t calm at. absurd cc }

-- one row more
pub rows_more : (flat : Flat) (setup : Setup) (t : ℕ) (rows : List Calmness) (row : Calmness) → AreFirstRows flat setup t rows → IsRowIn flat setup t row
    → AreFirstRows flat setup (t + 1) (rows ++ row ∷ [])
rows_more flat setup t rows row so_far own = record {
  as_long = length-append rows (row ∷ []) ∙ (let n = so_far.as_long in omega (arith, n));
  each = λ s calm at. go s calm (pushed_at rows row s calm at);
}
  where
    go : (s : ℕ) (calm : Calmness) → (slice_get rows s ≡ Some calm) ⊎ IsPushed rows row s calm → IsRowIn flat setup s calm
    go s calm (inl at) = so_far.each s calm at
    go s calm (inr new) =
        subst (λ n. IsRowIn flat setup n calm) (sym (new.place ∙ so_far.as_long)) (subst (IsRowIn flat setup t) new.item own)
