-- The probes of all cycles: at least one and at most the order are chosen, where they can be probed.
use Rattle.std.proofs.Common.{◌≡◌, ℕ, zero, suc, ◌+◌, ◌<◌, ◌≤◌, nat_lt, ◌||◌, Bool, true, false, cond, List, [], ◌∷◌, length, get_or, map, take, refl, sym, ap, ◌∙◌, subst, arith}
use Rattle.std.specs.Prelude.{sum_by, count_by}
use Rattle.std.specs.List.{range_with_len}
use Rattle.std.proofs.lemmas.List.{get_or-map, length-map}
use Rattle.std.proofs.lemmas.List.Sums.{sum_by-cons}
use Rattle.std.proofs.lemmas.List.Elements.{All-map}
use Rattle.std.proofs.lemmas.List.FromFn.{fill_by_all, length-map-range_with_len, get_or-map-range_with_len}
use Rattle.circuit_clauses.specs.declared.signal.Signal.{Signal}
use Rattle.circuit_clauses.specs.declared.signal.Signal.TheVariants.{Constant}
use Rattle.circuit_clauses.specs.Signals.{value}
use Rattle.circuit_clauses.specs.Meanings.{has_true}
use Rattle.tally_clauses.specs.Counts.{Tells, Count, IsCounted, tallies_of}
use Rattle.clause_builds.specs.Builds.{done, ◌>>=◌, tally, demanded}
use Rattle.clause_builds.specs.Rows.{signal_at}
use Rattle.probe_clauses.specs.Probings.{Probing, all_bits, all_cycles, can_probe, probed}
use Rattle.probe_clauses.specs.Rows.{picked, counted, rows_of, counts_of, column}
use Rattle.probe_clauses.specs.Passes.{probes_in, probe_rows, bound_probes, probes}
use Rattle.probe_laws.specs.Showing.{chosen, count_chosen}
use Rattle.probe_laws.proofs.Rows.{Counted}
use Rattle.probe_laws.proofs.Meant.{Means, means-done, means-bind, means_more, means-demanded, each_means, ArePlaced, value_at, true_within}
use Rattle.probe_laws.proofs.Tallied.{CountLaws, trues, all_trues, all_signals, TellsWithin, IsCountedRow, means-tally, means-counted_row}
use Rattle.probe_laws.proofs.Walked.{placed_at, placed_long, true_in_row}

-- ---- sums over lists and over the numbers of their places

pub sum_map : {X Y : Type 0} (f : Y → ℕ) (g : X → Y) (xs : List X) → sum_by f (map g xs) ≡ sum_by (λ x. f (g x)) xs
sum_map f g [] = refl
sum_map f g (x ∷ xs) =
    let rest = sum_map f g xs in
    let a = sum_by-cons f (g x) (map g xs) in
    let b = sum_by-cons (λ y. f (g y)) x xs in
    omega arith

pub sum_same : (f g : ℕ → ℕ) (a n : ℕ) → ((k : ℕ) → a ≤ k → k < a + n → f k ≡ g k) → sum_by f (range_with_len a n) ≡ sum_by g (range_with_len a n)
sum_same f g a zero h = refl
sum_same f g a (suc n) h =
    let here = h a (omega arith) (omega arith) in
    let rest = sum_same f g (a + 1) n (λ k le lt. h k (omega arith) (omega arith)) in
    let x = sum_by-cons f a (range_with_len (a + 1) n) in
    let y = sum_by-cons g a (range_with_len (a + 1) n) in
    omega arith

-- a sum over a list is one over its places
pub sum_places : {X : Type 0} (f : X → ℕ) (xs : List X) (n : ℕ) (d : X) → length xs ≡ n → sum_by f xs ≡ sum_by (λ k. f (get_or xs k d)) (range_with_len 0 n)
sum_places {X = X} f xs n d long =
    let is : xs ≡ map (λ k. get_or xs k d) (range_with_len 0 n) = fill_by_all (λ k. get_or xs k d) xs n d long (λ k lt. refl) in
    ap (λ (ys : List X). sum_by f ys) is ∙ sum_map f (λ k. get_or xs k d) (range_with_len 0 n)

-- ---- the counts of cycles

abbrev pub no_row : Counted
no_row = counted [] []

pub row_at-rows : (cycles : List Counted) (t : ℕ) → t < length cycles → get_or (rows_of cycles) t [] ≡ (get_or cycles t no_row).row
row_at-rows cycles t lt = get_or-map (λ (c : Counted). c.row) cycles t no_row [] lt

abbrev pub AreCounted : (ℕ → Bool) → Probing → List Counted → Type 0
AreCounted values run cycles = ArePlaced (λ t (c : Counted). IsCountedRow values run.order (probed run) c) (all_cycles run) cycles

-- what one cycle counts
abbrev pub count_of : (ℕ → Bool) → List Bool → Counted → Count
count_of values wanted c = record { tally = c.count; trues = trues values c.row; signals = length (picked wanted c.row) }

abbrev pub sum_of_trues : (ℕ → Bool) → List Counted → ℕ
sum_of_trues values cycles = sum_by (λ (c : Counted). trues values c.row) cycles

pub tallies_counts : (values : ℕ → Bool) (wanted : List Bool) (cycles : List Counted) → tallies_of (map (count_of values wanted) cycles) ≡ counts_of cycles
tallies_counts values wanted [] = refl
tallies_counts values wanted (c ∷ cycles) = ap (λ (rest : List (List Signal)). c.count ∷ rest) (tallies_counts values wanted cycles)

-- at least one and at most the order, of all cycles together
pub record AreBounded (values : ℕ → Bool) (run : Probing) (cycles : List Counted) : Type 0 where
  pub some : 0 < sum_of_trues values cycles
  pub most : sum_of_trues values cycles ≤ run.order

or_nothing : (b : Bool) → (b || false) ≡ true → b ≡ true
or_nothing true h = refl
or_nothing false h = absurd (cc)

positive : (n : ℕ) → nat_lt 0 n ≡ true → 0 < n
positive zero h = absurd (cc)
positive (suc n) h = omega arith

first_true : (values : ℕ → Bool) (limit n s : ℕ) (count : List Signal) → Tells limit values count n s → has_true values (take 1 count) ≡ true → 0 < n
first_true values limit n s [] tells e = absurd (cc)
first_true values limit n s (x ∷ count) tells e = positive n (sym (tells.each 0 x (omega arith)) ∙ or_nothing (value values x) e)

bound_means : CountLaws → (values : ℕ → Bool) (run : Probing) (cycles : List Counted) → AreCounted values run cycles
    → Means values (bound_probes run cycles) (λ (u : Unit {0}). AreBounded values run cycles)
bound_means laws values run cycles all =
    means-bind values (λ (u : Unit {0}). AreBounded values run cycles) (TellsWithin run.order values (all_trues counts) (all_signals counts))
    (tally run.order (counts_of cycles)) (λ (count : List Signal). demanded (take 1 count))
    (subst (λ (parts : List (List Signal)). Means values (tally run.order parts) (TellsWithin run.order values (all_trues counts) (all_signals counts)))
    (tallies_counts values (probed run) cycles)
    (means-tally laws values run.order counts
    (All-map (IsCounted run.order values) (count_of values (probed run)) cycles (λ k d lt. (tell k d lt).count.tells))
    (All-map (λ (c : Count). c.trues ≤ run.order) (count_of values (probed run)) cycles (λ k d lt. (tell k d lt).count.most))))
    (λ (count : List Signal) within.
    means_more values (λ (u : Unit {0}). has_true values (take 1 count) ≡ true) (λ (u : Unit {0}). AreBounded values run cycles)
    (demanded (take 1 count)) (means-demanded values (take 1 count))
    (λ (u : Unit {0}) e. record {
      some = subst (λ n. 0 < n) same (first_true values run.order (all_trues counts) (all_signals counts) count within.tells e);
      most = subst (λ n. n ≤ run.order) same within.most;
    }))
  where
    counts : List Count
    counts = map (count_of values (probed run)) cycles

    same : all_trues (map (count_of values (probed run)) cycles) ≡ sum_of_trues values cycles
    same = sum_map (λ (c : Count). c.trues) (count_of values (probed run)) cycles

    tell : (k : ℕ) (d : Counted) → k < length cycles → IsCountedRow values run.order (probed run) (get_or cycles k d)
    tell k d lt = (let long = all.as_long in all.place k 0 d (omega arith))

-- the probes of all cycles
pub record AreProbes (values : ℕ → Bool) (run : Probing) (cycles : List Counted) : Type 0 where
  pub counted : AreCounted values run cycles
  pub bounded : AreBounded values run cycles

pub probes_mean : CountLaws → (values : ℕ → Bool) (run : Probing) → 1 ≤ run.order → Means values (probes run) (AreProbes values run)
probes_mean laws values run le =
    means-bind values (AreProbes values run) (AreCounted values run) (probe_rows run)
    (λ (cycles : List Counted). bound_probes run cycles >>= (λ (u : Unit {0}). done cycles))
    (each_means values (λ t (c : Counted). IsCountedRow values run.order (probed run) c) (probes_in run)
    (λ t. means-counted_row laws values run.order (probed run) le) (all_cycles run))
    (λ (cycles : List Counted) all.
    means-bind values (AreProbes values run) (λ (u : Unit {0}). AreBounded values run cycles) (bound_probes run cycles) (λ (u : Unit {0}). done cycles)
    (bound_means laws values run cycles all)
    (λ (u : Unit {0}) bounds. means-done values (AreProbes values run) cycles (record { counted = all; bounded = bounds })))

-- ---- the chosen probes

module _ (values : ℕ → Bool) (run : Probing) (cycles : List Counted) (are : AreProbes values run cycles) where
  cycles_long : length cycles ≡ run.cycles
  cycles_long = placed_long (λ t (c : Counted). IsCountedRow values run.order (probed run) c) run.cycles cycles are.counted

  counted_at : (t : ℕ) → t < run.cycles → IsCountedRow values run.order (probed run) (get_or cycles t no_row)
  counted_at t lt = placed_at (λ u (c : Counted). IsCountedRow values run.order (probed run) c) run.cycles t cycles no_row are.counted lt

  row_long : (t : ℕ) → t < run.cycles → length (get_or cycles t no_row).row ≡ run.bits
  row_long t lt = (counted_at t lt).row.as_long ∙ length-map-range_with_len (can_probe run) 0 run.bits

  row_is : (t : ℕ) → t < run.cycles → get_or (rows_of cycles) t [] ≡ (get_or cycles t no_row).row
  row_is t lt = row_at-rows cycles t (let long = cycles_long in omega arith)

  trues_in : (t : ℕ) → t < run.cycles → trues values (get_or cycles t no_row).row ≡ count_by (chosen values (rows_of cycles) t) (all_bits run)
  trues_in t lt =
      sum_places (λ (s : Signal). cond (value values s) 1 0) (get_or cycles t no_row).row run.bits (Constant false) (row_long t lt)
      ∙ ap (λ (row : List Signal). count_by (λ b. value values (signal_at row b)) (all_bits run)) (sym (row_is t lt))

  sum_is : sum_of_trues values cycles ≡ count_chosen run (chosen values (rows_of cycles))
  sum_is =
      sum_places (λ (c : Counted). trues values c.row) cycles run.cycles no_row cycles_long
      ∙ sum_same (λ t. trues values (get_or cycles t no_row).row) (λ t. count_by (chosen values (rows_of cycles) t) (all_bits run)) 0 run.cycles
      (λ t le lt. trues_in t (omega arith))

  pub some_chosen : 0 < count_chosen run (chosen values (rows_of cycles))
  some_chosen = subst (λ n. 0 < n) sum_is are.bounded.some

  pub most_chosen : count_chosen run (chosen values (rows_of cycles)) ≤ run.order
  most_chosen = subst (λ n. n ≤ run.order) sum_is are.bounded.most

  pub chosen_cycle : (t b : ℕ) → chosen values (rows_of cycles) t b ≡ true → t < run.cycles
  chosen_cycle t b e =
      let within = true_in_row values (rows_of cycles) t b e in
      let same = length-map cycles (λ (c : Counted). c.row) in
      let long = cycles_long in
      omega arith

  true_there : (t b : ℕ) → chosen values (rows_of cycles) t b ≡ true → value_at values (get_or cycles t no_row).row b ≡ true
  true_there t b e = sym (ap (λ (row : List Signal). value_at values row b) (row_is t (chosen_cycle t b e))) ∙ e

  pub chosen_bit : (t b : ℕ) → chosen values (rows_of cycles) t b ≡ true → b < run.bits
  chosen_bit t b e =
      let within = true_within values (get_or cycles t no_row).row b (true_there t b e) in
      let long = row_long t (chosen_cycle t b e) in
      omega arith

  pub chosen_can : (t b : ℕ) → chosen values (rows_of cycles) t b ≡ true → can_probe run b ≡ true
  chosen_can t b e =
      sym (get_or-map-range_with_len (can_probe run) 0 run.bits b b false (chosen_bit t b e) (omega arith))
      ∙ (counted_at t (chosen_cycle t b e)).row.where_wanted b (true_there t b e)

  -- a signal of a bit's column is that of the cycle's row
  pub column_chosen : (t b : ℕ) → value_at values (column cycles b) t ≡ true → chosen values (rows_of cycles) t b ≡ true
  column_chosen t b e =
      let within = true_within values (column cycles b) t e in
      let same = length-map cycles (λ (c : Counted). signal_at c.row b) in
      let lt : t < length cycles = omega arith in
      ap (λ (row : List Signal). value_at values row b) (row_at-rows cycles t lt)
      ∙ (sym (ap (value values) (get_or-map (λ (c : Counted). signal_at c.row b) cycles t no_row (Constant false) lt)) ∙ e)
