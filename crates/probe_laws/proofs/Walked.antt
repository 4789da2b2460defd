-- Walks against the wires: what is true after them is reached from what was true before.
use Rattle.std.proofs.Common.{◌≡◌, ℕ, ◌<◌, ◌||◌, Bool, true, false, cond, List, [], ◌∷◌, length, get_or, refl, sym, ap, ◌∙◌, subst, arith, inl, inr, Contains}
use Rattle.std.specs.List.{range_with_len}
use Rattle.std.proofs.lemmas.Bool.{cases_lt}
use Rattle.std.proofs.lemmas.List.{get_or_past}
use Rattle.std.proofs.lemmas.List.Elements.{Contains-get_or}
use Rattle.std.proofs.lemmas.List.FromFn.{length-range_with_len, get_or-range_with_len, length-map-range_with_len, get_or-map-range_with_len}
use Rattle.coco_base.specs.declared.netlist.Wire.{Wire}
use Rattle.coco_base.specs.declared.netlist.Wire.TheVariants.{Const, Bit}
use Rattle.circuit_clauses.specs.declared.signal.Signal.{Signal}
use Rattle.circuit_clauses.specs.declared.signal.Signal.TheVariants.{Constant}
use Rattle.circuit_clauses.specs.Signals.{value}
use Rattle.circuit_clauses.specs.Laws.{GatesLaw}
use Rattle.clause_builds.specs.Rows.{signal_at}
use Rattle.probe_clauses.specs.Probings.{Probing, all_cycles, is_open_in, is_open, open_wire}
use Rattle.probe_clauses.specs.Rows.{at}
use Rattle.probe_clauses.specs.Walks.{pass_to, pass_at, pass_on, walk_down}
use Rattle.probe_clauses.specs.Passes.{start_in, starts_in, reached_in, reached}
use Rattle.probe_laws.specs.Showing.{IsReachedFrom}
use Rattle.probe_laws.specs.Showing.IsReachedFrom.{here, through}
use Rattle.probe_laws.proofs.Meant.{Means, means-done, means-or_into, through_places, each_means, ArePlaced, value_at, true_within}

-- ---- rows by the numbers below one

pub placed_at : {Y : Type 0} (P : ℕ → Y → Type 0) (n k : ℕ) (ys : List Y) (e : Y) → ArePlaced P (range_with_len 0 n) ys → k < n → P k (get_or ys k e)
placed_at P n k ys e all lt =
    let same : get_or (range_with_len 0 n) k 0 ≡ k = get_or-range_with_len 0 n k 0 lt ∙ omega arith in
    subst (λ j. P j (get_or ys k e)) same
    (all.place k 0 e (let long = length-range_with_len 0 n in omega arith))

pub placed_long : {Y : Type 0} (P : ℕ → Y → Type 0) (n : ℕ) (ys : List Y) → ArePlaced P (range_with_len 0 n) ys → length ys ≡ n
placed_long P n ys all = all.as_long ∙ length-range_with_len 0 n

-- what is true stands in one of the rows
pub true_in_row : (values : ℕ → Bool) (rows : List (List Signal)) (t b : ℕ) → value values (at rows t b) ≡ true → t < length rows
true_in_row values rows t b e = elim (cases_lt t (length rows)) [
  | inl lt ↦ lt
  | inr ge ↦
      let none : value_at values (get_or rows t []) b ≡ value_at values [] b = ap (λ (row : List Signal). value_at values row b) (get_or_past rows t [] ge) in
      let within = true_within values [] b (sym none ∙ e) in
      absurd (omega arith)
]

-- ---- a walk

-- what holds of a cell's output holds of the inputs that it lets through in some of these cycles
abbrev pub IsClosed : Probing → List ℕ → (ℕ → Type 0) → Type 0
IsClosed run times R =
    (cell place bit : ℕ) → Contains run.cells cell → is_open run times cell place ≡ true → get_or (run.wires cell) place (Const false) ≡ Bit bit
    → R (run.output cell) → R bit

abbrev pub AreTrueWhere : (ℕ → Bool) → (ℕ → Type 0) → List Signal → Type 0
AreTrueWhere values R row = (i : ℕ) → value_at values row i ≡ true → R i

pass_to_means : GatesLaw → (values : ℕ → Bool) (R : ℕ → Type 0) (wire : Wire) (output : ℕ) (row : List Signal) → ((bit : ℕ) → wire ≡ Bit bit → R output → R bit)
    → AreTrueWhere values R row → Means values (pass_to wire output row) (AreTrueWhere values R)
pass_to_means gates values R (Const bit) output row closed old = means-done values (AreTrueWhere values R) row old
pass_to_means gates values R (Bit bit) output row closed old =
    means-or_into gates values R row bit (signal_at row output) old (λ e. closed bit refl (old output e))

open_closed : (run : Probing) (times : List ℕ) (R : ℕ → Type 0) (cell place : ℕ) → Contains run.cells cell → IsClosed run times R
    → (bit : ℕ) → open_wire run times cell place ≡ Bit bit → R (run.output cell) → R bit
open_closed run times R cell place has closed bit = go (is_open run times cell place) refl
  where
    go : (b : Bool) → is_open run times cell place ≡ b → cond b (get_or (run.wires cell) place (Const false)) (Const false) ≡ Bit bit → R (run.output cell) → R bit
    go true is e r = closed cell place bit has is e r
    go false is e r = absurd (cc)

pass_on_means : GatesLaw → (values : ℕ → Bool) (run : Probing) (times : List ℕ) (R : ℕ → Type 0) → IsClosed run times R → (cell : ℕ) → Contains run.cells cell
    → (row : List Signal) → AreTrueWhere values R row → Means values (pass_on run times cell row) (AreTrueWhere values R)
pass_on_means gates values run times R closed cell has row old =
    through_places values (AreTrueWhere values R) (pass_at run times cell) (range_with_len 0 (length (run.wires cell))) 0
    (λ k lt (now : List Signal) holds.
    let place = get_or (range_with_len 0 (length (run.wires cell))) k 0 in
    pass_to_means gates values R (open_wire run times cell place) (run.output cell) now (open_closed run times R cell place has closed) holds)
    row old

pub walk_means : GatesLaw → (values : ℕ → Bool) (run : Probing) (times : List ℕ) (R : ℕ → Type 0) → IsClosed run times R
    → (row : List Signal) → AreTrueWhere values R row → Means values (walk_down run times row) (AreTrueWhere values R)
walk_means gates values run times R closed row old =
    through_places values (AreTrueWhere values R) (pass_on run times) run.cells 0
    (λ k lt (now : List Signal) holds. pass_on_means gates values run times R closed (get_or run.cells k 0) (Contains-get_or run.cells k 0 lt) now holds)
    row old

-- ---- what active probes reach

-- a bit is reached in a cycle from one with an active probe
pub record IsReachedBy (values : ℕ → Bool) (run : Probing) (actives : List (List Signal)) (t bit : ℕ) : Type 0 where
  pub probed : ℕ
  pub active : value values (at actives probed t) ≡ true
  pub reached : IsReachedFrom run t probed bit

reached_closed : (values : ℕ → Bool) (run : Probing) (active : List (List Signal)) (t : ℕ) → IsClosed run (t ∷ []) (IsReachedBy values run active t)
reached_closed values run active t cell place bit has is e by =
    record { probed = by.probed; active = by.active; reached = through cell place bit has (one (is_open_in run cell place t) is) e by.reached }
  where
    one : (b : Bool) → (b || false) ≡ true → b ≡ true
    one true e = refl
    one false e = absurd (cc)

reached_starts : (values : ℕ → Bool) (run : Probing) (active : List (List Signal)) (t : ℕ) → AreTrueWhere values (IsReachedBy values run active t) (starts_in run active t)
reached_starts values run active t b e =
    let within = true_within values (starts_in run active t) b e in
    let long = length-map-range_with_len (start_in run active t) 0 run.bits in
    let is : signal_at (starts_in run active t) b ≡ start_in run active t b = get_or-map-range_with_len (start_in run active t) 0 run.bits b b (Constant false) (omega arith) (omega arith) in
    go (run.moves t b) refl (sym (ap (value values) is) ∙ e)
  where
    go : (m : Bool) → run.moves t b ≡ m → value values (cond m (at active b t) (Constant false)) ≡ true → IsReachedBy values run active t b
    go true moves h = record { probed = b; active = h; reached = here moves }
    go false moves h = absurd (cc)

pub reached_means : GatesLaw → (values : ℕ → Bool) (run : Probing) (active : List (List Signal))
    → Means values (reached run active) (ArePlaced (λ t (row : List Signal). AreTrueWhere values (IsReachedBy values run active t) row) (all_cycles run))
reached_means gates values run active =
    each_means values (λ t (row : List Signal). AreTrueWhere values (IsReachedBy values run active t) row) (reached_in run active)
    (λ t. walk_means gates values run (t ∷ []) (IsReachedBy values run active t) (reached_closed values run active t) (starts_in run active t) (reached_starts values run active t))
    (all_cycles run)
