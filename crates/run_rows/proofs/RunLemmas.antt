-- What the calm rows of a run tell of it.
use Rattle.std.proofs.Common.{◌≡◌, ℕ, zero, suc, ◌<◌, ◌≤◌, List, [], length, get_or, sym, ◌∙◌, ap, subst, arith}
use Rattle.std.specs.Prelude.{slice_get, Option, Some, None, All}
use Rattle.std.proofs.lemmas.List.Elements.{All-from_get_or}
use Rattle.coco_base.specs.declared.cell.Part.{Part}
use Rattle.coco_base.specs.declared.cell.Part.TheVariants.{Zero}
use Rattle.coco_base.specs.declared.netlist.Flat.{Flat}
use Rattle.coco_base.specs.declared.setup.Setup.{Setup}
use Rattle.coco_model.specs.Calm.{both, IsCalm}
use Rattle.coco_model.specs.Carried.{IsGiven}
use Rattle.coco_model.specs.Known.{Row, parts}
use Rattle.coco_model.specs.Netlist.{IsCellBit}
use Rattle.coco_model.specs.Reach.{Reach, IsReach, IsReachedRow}
use Rattle.coco_model.specs.Run.{before}
use Rattle.coco_model.specs.Setups.{IsBoundTo}
use Rattle.coco_model.specs.Stepped.{HasNoFault}
use Rattle.model_laws.proofs.Fewer.{fewer_cycles_law}
use Rattle.model_laws.proofs.Sources.{input_no_cell}
use Rattle.model_laws.specs.RunLaws.{FewerCyclesLaw}
use Rattle.gate_graph.proofs.Items.{place_below, some_at}
use Rattle.gate_graph.specs.Graphs.{Gates, IsBuilt}
use Rattle.calm_reach.specs.CalmRows.{Calmness, calmness_of, calm_of, HasPlaces, IsCalmRow}
use Rattle.stable_sets.proofs.ReachLemmas.{reach_law}
use Rattle.stable_sets.specs.Reached.{AreRows, AreCalmReach, HasCalmReach, ReachLaw}
use Rattle.run_rows.specs.Still.{KeepsStill}
use Rattle.run_rows.specs.RunRows.{AreCalmRows, AreRowsOfRun, RunRowsLaw}
use Rattle.run_rows.specs.Cycles.{AreFirstRows}

both_zero : (p q : Part) → p ≡ Zero → q ≡ Zero → both p q ≡ Zero
both_zero p q old now = ap (λ x. both x q) old ∙ ap (both Zero) now

before_in : (t n : ℕ) → t < n → before t < n
before_in zero n below = below
before_in (suc t) n below = omega arith

no_row : Row
no_row b = Zero

told : Option Calmness → Row
told (Some row) = calm_of row
told None = no_row

-- what is calm in each cycle; 0 where there is no row
calm_at : List Calmness → ℕ → Row
calm_at rows t = told (slice_get rows t)

empty_row : Calmness
empty_row = calmness_of [] 0 []

-- the rows of all cycles have the places of the netlist
pub rows_at_end : (flat : Flat) (setup : Setup) (cycles n : ℕ) (rows : List Calmness) → n ≡ cycles → AreFirstRows flat setup n rows
    → AreRows flat cycles rows
rows_at_end flat setup cycles n rows end is = record { as_long = is.as_long ∙ end; each = λ t row at. (is.each t row at).places }

pub all_have_places : (flat : Flat) (cycles : ℕ) (rows : List Calmness) → AreRows flat cycles rows → All (HasPlaces flat) rows
all_have_places flat cycles rows are =
    All-from_get_or (HasPlaces flat) rows empty_row (λ i below. are.each i (get_or rows i empty_row) (some_at rows i empty_row below))

-- a run without a fault has none over fewer cycles
pub none_over_fewer : (flat : Flat) (setup : Setup) (cycles fewer : ℕ) → fewer ≤ cycles → HasNoFault flat setup cycles → HasNoFault flat setup fewer
unfolding FewerCyclesLaw
none_over_fewer flat setup cycles fewer h none = record {
  row = none.row;
  word = none.word;
  stepped = record {
    known = (fewer_cycles_law flat setup cycles fewer h).known none.row none.word none.stepped.known;
    good = λ t below. none.stepped.good t (omega arith);
  };
}

-- they are the calm rows of the run
pub calm_at_end : (flat : Flat) (setup : Setup) (cycles n : ℕ) (rows : List Calmness) → n ≡ cycles → AreFirstRows flat setup n rows
    → AreCalmRows flat setup cycles rows
unfolding FewerCyclesLaw
calm_at_end flat setup cycles n rows end is row word known t calm at =
    let below : t < length rows = place_below rows t calm at in
    let long = is.as_long in
    (is.each t calm at).between row word
    ((fewer_cycles_law flat setup cycles (suc t) (omega (arith, below, long, end))).known row word known)

module _ (g : Gates) (setup : Setup) (cycles : ℕ) (built : IsBuilt g) (bound : IsBoundTo g.flat setup)
    (none : HasNoFault g.flat setup cycles) (rows : List Calmness) (are : AreRows g.flat cycles rows)
    (calm_are : AreCalmRows g.flat setup cycles rows) where
  row_at : (t : ℕ) (calm : Calmness) → slice_get rows t ≡ Some calm → IsCalmRow g.flat (none.row (before t)) (none.row t) calm
  row_at t calm at = calm_are none.row none.word none.stepped.known t calm at

  below_cycles : (t : ℕ) (calm : Calmness) → slice_get rows t ≡ Some calm → t < cycles
  below_cycles t calm at = let below = place_below rows t calm at in let long = are.as_long in omega (arith, below, long)

  given_in : (t : ℕ) → t < cycles → IsGiven parts g.flat setup t (none.row t)
  given_in t below = none.stepped.known.carried.given t below

  -- a bit that no cell drives and that is 0 in every cycle is calm
  zero_is_calm : (b : ℕ) → (IsCellBit g.flat b → ⊥) → ((t : ℕ) → t < cycles → none.row t b ≡ Zero) → (t : ℕ) (calm : Calmness)
      → slice_get rows t ≡ Some calm → calm_of calm b ≡ Zero
  zero_is_calm b no_cell zeros t calm at =
      let below : t < cycles = below_cycles t calm at in
      (row_at t calm at).calm.leaves b no_cell
      ∙ both_zero (none.row (before t) b) (none.row t b) (zeros (before t) (before_in t cycles below)) (zeros t below)

  keeps_still : (t : ℕ) (calm : Calmness) → slice_get rows t ≡ Some calm → KeepsStill g.flat setup.clock calm
  keeps_still t calm at = record {
    undriven = λ b u. zero_is_calm b u.no_cell (λ s below. (given_in s below).undriven b u) t calm at;
    clock_bit = λ b e.
        zero_is_calm b (input_no_cell g.flat built.one_driver b (bound.clock b e).input) (λ s below. (given_in s below).clock b e) t calm at;
  }

  -- what probes reach by the rows they reach in the run
  reach_of_run : (reach : Reach) → AreCalmReach g.flat rows reach → IsReach g.flat setup cycles reach
  unfolding told calm_at
  reach_of_run reach is = record {
    row = none.row;
    word = none.word;
    calm = calm_at rows;
    known = none.stepped.known;
    still = λ t below.
        subst (λ o. IsCalm g.flat (none.row (before t)) (none.row t) (told o)) (sym (at t below)) (row_at t (get_or rows t empty_row) (at t below)).calm;
    reached = λ t below. subst (λ o. IsReachedRow g.flat (told o) (reach t)) (sym (at t below)) (is.reached t (get_or rows t empty_row) (at t below));
  }
    where
      at : (t : ℕ) → t < cycles → slice_get rows t ≡ Some (get_or rows t empty_row)
      at t below = some_at rows t empty_row (let long = are.as_long in omega (arith, below, long))

  some_reach : HasCalmReach g.flat rows
  unfolding ReachLaw
  some_reach = reach_law g built rows (λ t row at. (row_at t row at).live)

  pub rows_of_run : AreRowsOfRun g.flat setup cycles rows
  rows_of_run = record {
    still = keeps_still;
    live = λ t row at. (row_at t row at).live;
    some_reach = some_reach;
    reach = reach_of_run;
  }

pub run_rows_law : RunRowsLaw
unfolding RunRowsLaw
run_rows_law gates setup cycles built bound none rows are calm = rows_of_run gates setup cycles built bound none rows are calm
