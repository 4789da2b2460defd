-- Groups and probes are given the values that a choice asks for.
use Rattle.std.proofs.Common.{◌≡◌, ℕ, ◌<◌, ◌≤◌, Bool, true, false, List, length, get_or, sym, ◌∙◌, subst, arith}
use Rattle.std.specs.Prelude.{count_by}
use Rattle.std.specs.List.{list_any, range_with_len}
use Rattle.std.proofs.lemmas.Bool.{and_parts}
use Rattle.std.proofs.lemmas.List.FromFn.{length-range_with_len, length-map-range_with_len, get_or-map-range_with_len}
use Rattle.circuit_clauses.specs.declared.signal.Signal.{Signal}
use Rattle.circuit_clauses.specs.Laws.{EvaluationLaw, GatesLaw}
use Rattle.circuit_clauses.proofs.Evaluating.{value_below}
use Rattle.clause_builds.specs.Builds.{done, ◌>>=◌}
use Rattle.clause_builds.specs.Rows.{signal_at}
use Rattle.probe_clauses.specs.Probings.{Probing, all_bits, all_cycles, can_probe, is_moving, is_open_in, probed, moving}
use Rattle.probe_clauses.specs.Rows.{counted_row}
use Rattle.probe_clauses.specs.Passes.{groups, near_groups, grouped_by, group_bits, probes_in, probe_rows}
use Rattle.probe_laws.specs.Showing.{Choice, IsReachedFrom, count_chosen, IsProbeChoice}
use Rattle.probe_laws.specs.Showing.IsReachedFrom.{here, through}
use Rattle.probe_laws.specs.Laws.{IsProbing, IsOrderly}
use Rattle.probe_laws.proofs.Rows.{Counted, Grouped}
use Rattle.probe_laws.proofs.Meant.{each_means, value_at}
use Rattle.probe_laws.proofs.Tallied.{CountLaws, trues, IsCountedRow, means-counted_row}
use Rattle.probe_laws.proofs.Counted.{AreCounted, no_row, sum_of_trues, sum_same, sum_places}
use Rattle.probe_laws.proofs.Lower.{RowBelow, row_more}
use Rattle.probe_laws.proofs.Extending.{Extends, IsStable, AreBuilt, extends-done, extends-bind, extends_meaning, extends-each, extends-free}
use Rattle.probe_laws.proofs.LowPasses.{low-walk}
use Rattle.probe_laws.proofs.WalkBack.{IsWalked, walk_is_walked}
use Rattle.probe_laws.proofs.Choosing.{find, found, active_at, moving_at, group_at, active_to, one_cycle_few, few_groups}
use Rattle.probe_laws.proofs.Filling.{RowIs, row_stable, IsFilled, filled_stable, trues_filled, extends-counted_row}

-- a row that is true wherever something is so
pub record HasAll (R : ℕ → Type 0) (now : ℕ) (values : ℕ → Bool) (row : List Signal) : Type 0 where
  pub below : RowBelow now row
  pub all : (i : ℕ) → R i → value_at values row i ≡ true

pub all_stable : (R : ℕ → Type 0) → IsStable (HasAll R)
all_stable R now later values others row le same h = record {
  below = row_more now later row le h.below;
  all = λ i r. value_below others values now (signal_at row i) (h.below i) same ∙ h.all i r;
}

-- a bit is reached from a group in some cycle
pub record IsNear (run : Probing) (probes : Choice) (bit : ℕ) : Type 0 where
  pub moment : ℕ
  pub in_run : moment < run.cycles
  pub probed : ℕ
  pub group : group_at run probes probed ≡ true
  pub reached : IsReachedFrom run moment probed bit

pub record GroupsAre (run : Probing) (probes : Choice) (now : ℕ) (values : ℕ → Bool) (all : Grouped) : Type 0 where
  pub group : RowIs (group_at run probes) now values all.group
  pub near : HasAll (IsNear run probes) now values all.near

module _ (law : EvaluationLaw) (gates : GatesLaw) (laws : CountLaws) (run : Probing) (good : IsProbing run) (orderly : IsOrderly run)
    (choice pairs : Choice) (is : IsProbeChoice run choice pairs) where
  G : ℕ → Bool
  G b = group_at run choice b

  bits_long : length (all_bits run) ≡ run.bits
  bits_long = length-range_with_len 0 run.bits

  moving_long : length (moving run) ≡ run.bits
  moving_long = length-map-range_with_len (is_moving run) 0 run.bits

  pub group_below : (b : ℕ) → group_at run choice b ≡ true → b < run.bits
  group_below b e =
      let some = and_parts (is_moving run b) (list_any (moving_at run choice b) (all_cycles run)) e in
      let f = found (moving_at run choice b) run.cycles some.1 in
      let both = and_parts (run.moves f.at b) (active_at run choice b f.at) f.holds in
      let a = active_to run choice b f.at both.1 in
      (is.probe_places a.cycle b a.chosen).bit

  group_wanted : (b : ℕ) → group_at run choice b ≡ true → get_or (moving run) b false ≡ true
  group_wanted b e =
      let some = and_parts (is_moving run b) (list_any (moving_at run choice b) (all_cycles run)) e in
      get_or-map-range_with_len (is_moving run) 0 run.bits b b false (group_below b e) (omega arith) ∙ some.0

  abbrev GroupRow : ℕ → (ℕ → Bool) → List Signal → Type 0
  GroupRow now values row = RowIs (group_at run choice) now values row × (length row ≡ run.bits)

  groups_extend : (before : ℕ → Bool) (var : ℕ) → Extends before var (groups run) GroupRow
  groups_extend before var =
      let few : count_by (group_at run choice) (range_with_len 0 (length (moving run))) ≤ run.order =
      subst (λ n. count_by (group_at run choice) (range_with_len 0 n) ≤ run.order) (sym moving_long)
      (let a = few_groups run choice in let b = is.most in omega arith) in
      extends-bind before var GroupRow (IsFilled (group_at run choice) run.order (moving run)) (counted_row run.order (moving run)) (λ (all : Counted). done all.row)
      (extends-counted_row law laws run.order good.order (group_at run choice) (moving run) group_wanted few before var)
      (λ (all : Counted) now values up same filled. extends-done values now GroupRow all.row (filled.row, filled.as_long ∙ moving_long))

  near_true : (values : ℕ → Bool) (group near : List Signal) → length group ≡ run.bits → ((b : ℕ) → value_at values group b ≡ group_at run choice b)
      → IsWalked values run (all_cycles run) group near → (m b bit : ℕ) → m < run.cycles → group_at run choice b ≡ true → IsReachedFrom run m b bit → value_at values near bit ≡ true
  near_true values group near long are walked m b bit lt e (here moves) = walked.kept b (are b ∙ e)
  near_true values group near long are walked m b bit lt e (through cell place to has lets wire from) =
      walked.closed cell place to has (find (is_open_in run cell place) run.cycles m lt lets) wire
      (let low = orderly.inputs cell place to has wire in omega arith)
      (near_true values group near long are walked m b (run.output cell) lt e from)

  near_extends : (group : List Signal) (before : ℕ → Bool) (var : ℕ) → GroupRow var before group
      → Extends before var (near_groups run group) (λ now values near. GroupsAre run choice now values (grouped_by group near))
  near_extends group before var row =
      extends_meaning before var (λ now values near. RowBelow now near) (λ now values near. GroupsAre run choice now values (grouped_by group near))
      (λ values near. IsWalked values run (all_cycles run) group near) (near_groups run group)
      (extends-free law before var (near_groups run group) RowBelow (low-walk var run (all_cycles run) group row.0.below))
      (λ values same. walk_is_walked gates values run (all_cycles run) orderly group)
      (λ now values (near : List Signal) up same low walked.
      let there = row_stable (group_at run choice) var now before values group up same row.0 in
      record {
        group = there;
        near = record {
          below = low;
          all = λ i near_it. near_true values group near row.1 there.is walked near_it.moment near_it.probed i near_it.in_run near_it.group near_it.reached;
        };
      })

  pub group_bits_extend : (before : ℕ → Bool) (var : ℕ) → Extends before var (group_bits run) (GroupsAre run choice)
  group_bits_extend before var =
      extends-bind before var (GroupsAre run choice) GroupRow (groups run) (λ (group : List Signal). near_groups run group >>= (λ (near : List Signal). done (grouped_by group near)))
      (groups_extend before var)
      (λ (group : List Signal) now values up same row.
      extends-bind values now (GroupsAre run choice) (λ later others near. GroupsAre run choice later others (grouped_by group near)) (near_groups run group)
      (λ (near : List Signal). done (grouped_by group near)) (near_extends group values now row)
      (λ (near : List Signal) later others more alike are. extends-done others later (GroupsAre run choice) (grouped_by group near) are))

  -- ---- probes

  abbrev FilledAt : ℕ → ℕ → (ℕ → Bool) → Counted → Type 0
  FilledAt t now values c = IsFilled (choice t) run.order (probed run) now values c

  -- by cycle the row of probes, and a signal that is true where there is one
  pub record ProbesAre (now : ℕ) (values : ℕ → Bool) (cycles : List Counted) : Type 0 where
    pub as_long : length cycles ≡ run.cycles
    pub filled : (t : ℕ) → t < run.cycles → IsFilled (choice t) run.order (probed run) now values (get_or cycles t no_row)
    pub counted : AreCounted values run cycles

  pub probed_long : length (probed run) ≡ run.bits
  probed_long = length-map-range_with_len (can_probe run) 0 run.bits

  pub rows_extend : (before : ℕ → Bool) (var : ℕ) → Extends before var (probe_rows run) ProbesAre
  rows_extend before var =
      let long : length (all_cycles run) ≡ run.cycles = length-range_with_len 0 run.cycles in
      extends_meaning before var (AreBuilt FilledAt (length (all_cycles run))) ProbesAre (λ values cycles. AreCounted values run cycles) (probe_rows run)
      (extends-each FilledAt (λ k. filled_stable (choice k) run.order (probed run)) (λ now values u. Unit {0}) (λ now later values others u le same c. tt) (probes_in run) (all_cycles run) 0
      (λ k now values lt c. extends-counted_row law laws run.order good.order (choice k) (probed run) (wanted k) (few k (omega arith)) values now) before var tt)
      (λ values same. each_means values (λ t (c : Counted). IsCountedRow values run.order (probed run) c) (probes_in run)
      (λ t. means-counted_row laws values run.order (probed run) good.order) (all_cycles run))
      (λ now values (cycles : List Counted) up same built all. record {
        as_long = built.as_long ∙ long;
        filled = λ t lt. built.place t no_row (omega arith);
        counted = all;
      })
    where
      wanted : (t b : ℕ) → choice t b ≡ true → get_or (probed run) b false ≡ true
      wanted t b e = get_or-map-range_with_len (can_probe run) 0 run.bits b b false (is.probe_places t b e).bit (omega arith) ∙ is.probed t b e

      few : (t : ℕ) → t < run.cycles → count_by (choice t) (range_with_len 0 (length (probed run))) ≤ run.order
      few t lt = subst (λ n. count_by (choice t) (range_with_len 0 n) ≤ run.order) (sym probed_long)
          (let a = one_cycle_few run choice t lt in let b = is.most in omega arith)

  -- how many there are
  pub sum_is : (now : ℕ) (values : ℕ → Bool) (cycles : List Counted) → ProbesAre now values cycles → sum_of_trues values cycles ≡ count_chosen run choice
  sum_is now values cycles are =
      sum_places (λ (c : Counted). trues values c.row) cycles run.cycles no_row are.as_long
      ∙ sum_same (λ t. trues values (get_or cycles t no_row).row) (λ t. count_by (choice t) (all_bits run)) 0 run.cycles
      (λ t le lt. trues_filled (choice t) run.bits now values (get_or cycles t no_row).row ((are.filled t (omega arith)).row, (are.filled t (omega arith)).as_long ∙ probed_long))
