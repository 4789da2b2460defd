-- Values that meet the clauses about probes choose probes, and pairs that these show.
use Rattle.std.proofs.Common.{◌≡◌, ℕ, suc, ◌+◌, ◌<◌, Bool, true, List, [], refl, arith, ◌⊎◌, inl, inr}
use Rattle.circuit_clauses.specs.declared.signal.Signal.{Signal}
use Rattle.circuit_clauses.specs.Signals.{value}
use Rattle.circuit_clauses.specs.Laws.{GatesLaw}
use Rattle.clause_builds.specs.Builds.{done, ◌>>=◌}
use Rattle.probe_clauses.specs.Probings.{Probing, all_bits, all_cycles}
use Rattle.probe_clauses.specs.Rows.{at, column, rows_of}
use Rattle.probe_clauses.specs.Windows.{windowed}
use Rattle.probe_clauses.specs.Passes.{group_bits, probes, activities, hot_cycles, links, reached, pairs}
use Rattle.probe_clauses.specs.Parts.{shown_by, part_of, shown_of, probe_part}
use Rattle.probe_laws.specs.Showing.{chosen, IsShown, IsProbeChoice}
use Rattle.probe_laws.specs.Laws.{IsProbing, SoundProbesLaw}
use Rattle.probe_laws.proofs.Rows.{Counted, Grouped, Shown}
use Rattle.probe_laws.proofs.Meant.{Means, means-done, means-bind, means_whatever, Whatever, each_means, ArePlaced, value_at}
use Rattle.probe_laws.proofs.Tallied.{CountLaws}
use Rattle.probe_laws.proofs.Windows.{IsActive, windowed_means}
use Rattle.probe_laws.proofs.Walked.{placed_at, placed_long, true_in_row, AreTrueWhere, IsReachedBy, reached_means}
use Rattle.probe_laws.proofs.Counted.{AreProbes, probes_mean, some_chosen, most_chosen, chosen_cycle, chosen_bit, chosen_can, column_chosen}
use Rattle.probe_laws.proofs.Paired.{ArePairs, IsNearly, pairs_mean, pair_place, pair_good}

-- by bit: where a signal of its row is true, a true signal of its column of probes is active
abbrev AreActivities : (ℕ → Bool) → Probing → List Counted → List (List Signal) → Type 0
AreActivities values run cycles active =
    ArePlaced (λ b (row : List Signal). (u : ℕ) → value_at values row u ≡ true → IsActive values run.window (column cycles b) u) (all_bits run) active

-- by cycle: where a signal of its row is true, the bit is reached
abbrev AreReached : (ℕ → Bool) → Probing → List (List Signal) → List (List Signal) → Type 0
AreReached values run active rows = ArePlaced (λ t (row : List Signal). AreTrueWhere values (IsReachedBy values run active t) row) (all_cycles run) rows

-- what is true of the rows of what is reached
record IsShownBy (values : ℕ → Bool) (run : Probing) (cycles : List Counted) (shown : Shown) : Type 0 where
  pub active : List (List Signal)
  pub activities : AreActivities values run cycles active
  pub reached : AreReached values run active shown.reached

module _ (gates : GatesLaw) (laws : CountLaws) (values : ℕ → Bool) (run : Probing) (good : IsProbing run) where
  activities_mean : (cycles : List Counted) → Means values (activities run cycles) (AreActivities values run cycles)
  activities_mean cycles =
      each_means values (λ b (row : List Signal). (u : ℕ) → value_at values row u ≡ true → IsActive values run.window (column cycles b) u)
      (λ b. windowed run.window (column cycles b)) (λ b. windowed_means gates values run.window good.window (column cycles b)) (all_bits run)

  shown_mean : (groups : Grouped) (cycles : List Counted) → Means values (shown_of run groups cycles) (IsShownBy values run cycles)
  shown_mean groups cycles =
      means-bind values (IsShownBy values run cycles) (AreActivities values run cycles) (activities run cycles)
      (λ (active : List (List Signal)).
      hot_cycles run cycles >>= (λ (hot : List Signal).
      links run groups.group active >>= (λ (u : Unit {0}).
      reached run active >>= (λ (rows : List (List Signal)).
      done (shown_by rows groups.near hot)))))
      (activities_mean cycles)
      (λ (active : List (List Signal)) acts.
      means-bind values (IsShownBy values run cycles) Whatever (hot_cycles run cycles)
      (λ (hot : List Signal).
      links run groups.group active >>= (λ (u : Unit {0}).
      reached run active >>= (λ (rows : List (List Signal)).
      done (shown_by rows groups.near hot))))
      (means_whatever values (hot_cycles run cycles))
      (λ (hot : List Signal) any.
      means-bind values (IsShownBy values run cycles) Whatever (links run groups.group active)
      (λ (u : Unit {0}). reached run active >>= (λ (rows : List (List Signal)). done (shown_by rows groups.near hot)))
      (means_whatever values (links run groups.group active))
      (λ (u : Unit {0}) none.
      means-bind values (IsShownBy values run cycles) (AreReached values run active) (reached run active) (λ (rows : List (List Signal)). done (shown_by rows groups.near hot))
      (reached_means gates values run active)
      (λ (rows : List (List Signal)) are.
      means-done values (IsShownBy values run cycles) (shown_by rows groups.near hot) (record { active = active; activities = acts; reached = are })))))

-- ---- what is chosen

module _ (values : ℕ → Bool) (run : Probing) (cycles : List Counted) (shown : Shown) (rows : List (List Signal))
    (are : AreProbes values run cycles) (by : IsShownBy values run cycles shown) (pairs_are : ArePairs values run shown.reached rows) where
  shown_in : (t leaf m : ℕ) → (m ≡ t) ⊎ (m ≡ suc t) → value values (at shown.reached m leaf) ≡ true → IsShown run (chosen values (rows_of cycles)) t leaf
  shown_in t leaf m when e =
      let within = true_in_row values shown.reached m leaf e in
      let long = placed_long (λ u (row : List Signal). AreTrueWhere values (IsReachedBy values run by.active u) row) run.cycles shown.reached by.reached in
      let cycle : m < run.cycles = omega arith in
      let from = placed_at (λ u (row : List Signal). AreTrueWhere values (IsReachedBy values run by.active u) row) run.cycles m shown.reached [] by.reached cycle leaf e in
      let row = true_in_row values by.active from.probed m from.active in
      let wide = placed_long (λ b (r : List Signal). (u : ℕ) → value_at values r u ≡ true → IsActive values run.window (column cycles b) u) run.bits by.active by.activities in
      let act = placed_at (λ b (r : List Signal). (u : ℕ) → value_at values r u ≡ true → IsActive values run.window (column cycles b) u) run.bits from.probed by.active [] by.activities (omega arith) m from.active in
      record {
        cycle = act.cycle;
        bit = from.probed;
        chosen = column_chosen values run cycles are act.cycle from.probed act.is_true;
        moment = m;
        when = when;
        in_run = cycle;
        lasts = act.lasts_in;
        reached = from.reached;
      }

  shown_pair : (t b : ℕ) → IsNearly values shown.reached t b → IsShown run (chosen values (rows_of cycles)) t b
  shown_pair t b nearly = elim nearly [
    | inl now ↦ shown_in t b t (inl refl) now
    | inr later ↦ shown_in t b (t + 1) (inr (omega arith)) later
  ]

  is_choice : IsProbeChoice run (chosen values (rows_of cycles)) (chosen values rows)
  is_choice = record {
    some = some_chosen values run cycles are;
    most = most_chosen values run cycles are;
    probe_places = λ t b e. record { cycle = chosen_cycle values run cycles are t b e; bit = chosen_bit values run cycles are t b e };
    probed = chosen_can values run cycles are;
    pair_places = pair_place values run shown.reached rows pairs_are;
    are_pairs = λ t b e. (pair_good values run shown.reached rows pairs_are t b e).is;
    shown = λ t b e. shown_pair t b (pair_good values run shown.reached rows pairs_are t b e).nearly;
  }

pub sound : GatesLaw → CountLaws → SoundProbesLaw
sound gates laws values var run good hold = part_means var hold
  where
    part_means : Means values (probe_part run) (λ part. IsProbeChoice run (chosen values part.probes) (chosen values part.pairs))
    part_means =
        means-bind values (λ part. IsProbeChoice run (chosen values part.probes) (chosen values part.pairs)) Whatever (group_bits run)
        (λ (all : Grouped).
        probes run >>= (λ (cycles : List Counted).
        shown_of run all cycles >>= (λ (shown : Shown).
        pairs run shown >>= (λ (rows : List (List Signal)).
        done (part_of cycles rows)))))
        (means_whatever values (group_bits run))
        (λ (all : Grouped) any.
        means-bind values (λ part. IsProbeChoice run (chosen values part.probes) (chosen values part.pairs)) (AreProbes values run) (probes run)
        (λ (cycles : List Counted).
        shown_of run all cycles >>= (λ (shown : Shown).
        pairs run shown >>= (λ (rows : List (List Signal)).
        done (part_of cycles rows))))
        (probes_mean laws values run good.order)
        (λ (cycles : List Counted) are.
        means-bind values (λ part. IsProbeChoice run (chosen values part.probes) (chosen values part.pairs)) (IsShownBy values run cycles) (shown_of run all cycles)
        (λ (shown : Shown). pairs run shown >>= (λ (rows : List (List Signal)). done (part_of cycles rows)))
        (shown_mean gates laws values run good all cycles)
        (λ (shown : Shown) by.
        means-bind values (λ part. IsProbeChoice run (chosen values part.probes) (chosen values part.pairs)) (ArePairs values run shown.reached) (pairs run shown)
        (λ (rows : List (List Signal)). done (part_of cycles rows))
        (pairs_mean values run shown)
        (λ (rows : List (List Signal)) pairs_are.
        means-done values (λ part. IsProbeChoice run (chosen values part.probes) (chosen values part.pairs)) (part_of cycles rows)
        (is_choice values run cycles shown rows are by pairs_are)))))
