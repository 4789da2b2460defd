-- The probes of all cycles are given the values of a choice, within the order.
use Rattle.std.proofs.Common.{◌≡◌, ℕ, zero, suc, ◌<◌, ◌≤◌, ◌||◌, Bool, true, false, cond, List, [], ◌∷◌, length, get_or, map, take, All, refl, sym, ap, ◌∙◌, subst, arith}
use Rattle.std.specs.List.{AllByRecursion}
use Rattle.std.proofs.lemmas.Bool.{le-leb}
use Rattle.std.proofs.lemmas.List.{get_or_default}
use Rattle.std.proofs.lemmas.List.Elements.{All-map}
use Rattle.std.proofs.lemmas.List.Sums.{sum_by-cons}
use Rattle.circuit_clauses.specs.declared.signal.Signal.{Signal}
use Rattle.circuit_clauses.specs.declared.signal.Signal.TheVariants.{Constant}
use Rattle.circuit_clauses.specs.Signals.{value}
use Rattle.circuit_clauses.specs.Laws.{EvaluationLaw, GatesLaw}
use Rattle.circuit_clauses.specs.Meanings.{IsBelow, has_true}
use Rattle.circuit_clauses.proofs.Evaluating.{value_below}
use Rattle.tally_clauses.specs.Counts.{Count, IsCounted}
use Rattle.clause_builds.specs.Builds.{done, ◌>>=◌, tally, demanded}
use Rattle.clause_builds.specs.Rows.{signal_at}
use Rattle.probe_clauses.specs.Probings.{Probing, probed}
use Rattle.probe_clauses.specs.Rows.{picked, counts_of}
use Rattle.probe_clauses.specs.Passes.{probe_rows, bound_probes, probes}
use Rattle.probe_laws.specs.Showing.{Choice, count_chosen, IsProbeChoice}
use Rattle.probe_laws.specs.Laws.{IsProbing, IsOrderly}
use Rattle.probe_laws.proofs.Rows.{Counted}
use Rattle.probe_laws.proofs.Meant.{Means, value_at, true_within}
use Rattle.probe_laws.proofs.Tallied.{CountLaws, trues, all_trues, all_signals, TellsWithin, IsCountedRow, means-tally}
use Rattle.probe_laws.proofs.Counted.{no_row, count_of, sum_of_trues, tallies_counts, sum_map}
use Rattle.probe_laws.proofs.Walked.{placed_at}
use Rattle.probe_laws.proofs.Lower.{RowBelow, RowsBelow, row_more}
use Rattle.probe_laws.proofs.Extending.{Extends, AreSame, extends-done, extends-bind, extends_meaning, extends-demanded}
use Rattle.probe_laws.proofs.Filling.{RowIs, row_stable, trues_same, extends-tally}
use Rattle.probe_laws.proofs.Grouping.{ProbesAre, rows_extend, sum_is}

-- ---- counted rows under values that go on

tells_same : (limit var : ℕ) (values before : ℕ → Bool) (count : List Signal) (n m s : ℕ) → RowBelow var count → AreSame values before var → n ≡ m
    → TellsWithin limit before n s count → TellsWithin limit values m s count
tells_same limit var values before count n m s low same is h =
    subst (λ k. TellsWithin limit values k s count) is (record {
      tells = record {
        places = h.tells.places;
        most = h.tells.most;
        each = λ k d lt. (let e = get_or_default count k d (Constant false) lt in
            ap (value values) e ∙ (value_below values before var (signal_at count k) (low k) same ∙ (sym (ap (value before) e) ∙ h.tells.each k d lt)));
      };
      most = h.most;
    })

row_same : (limit var : ℕ) (values before : ℕ → Bool) (wanted : List Bool) (c : Counted) → RowBelow var c.row → RowBelow var c.count → AreSame values before var
    → IsCountedRow before limit wanted c → IsCountedRow values limit wanted c
row_same limit var values before wanted c low lows same h = record {
  row = record {
    as_long = h.row.as_long;
    where_wanted = λ k e. h.row.where_wanted k (sym (value_below values before var (signal_at c.row k) (low k) same) ∙ e);
  };
  count = tells_same limit var values before c.count (trues before c.row) (trues values c.row) (length (picked wanted c.row)) lows same
      (sym (trues_same values before var c.row low same)) h.count;
}

-- the first signal of a count is true where one that it counts is
first_is : (limit : ℕ) (values : ℕ → Bool) (n s : ℕ) (count : List Signal) → 1 ≤ limit → 0 < n → TellsWithin limit values n s count → value_at values count 0 ≡ true
first_is limit values n s count le some h =
    let places = h.tells.places in
    let most = h.tells.most in
    h.tells.each 0 (Constant false) (omega arith) ∙ le-leb 1 n some

some_counted_true : (f : ℕ → Bool) (now : ℕ) (values : ℕ → Bool) (row : List Signal) (b : ℕ) → value_at values row b ≡ true → 0 < trues values row
some_counted_true f now values [] b e = (let lt = true_within values [] b e in absurd (omega arith))
some_counted_true f now values (s ∷ row) zero e =
    let a = sum_by-cons (λ (x : Signal). cond (value values x) 1 0) s row in
    let one : ◌≡◌ {A = ℕ} (cond (value values s) 1 0) 1 = ap (λ t. cond t 1 0) e in
    omega arith
some_counted_true f now values (s ∷ row) (suc b) e =
    let a = sum_by-cons (λ (x : Signal). cond (value values x) 1 0) s row in
    let rest = some_counted_true f now values row b e in
    omega arith

module _ (law : EvaluationLaw) (gates : GatesLaw) (laws : CountLaws) (run : Probing) (good : IsProbing run) (orderly : IsOrderly run)
    (choice pairs : Choice) (is : IsProbeChoice run choice pairs) where
  Are : ℕ → (ℕ → Bool) → List Counted → Type 0
  Are now values cycles = ProbesAre law gates laws run good orderly choice pairs is now values cycles

  -- what holds of the probes of all cycles goes on
  pub record ProbesTell (now : ℕ) (values : ℕ → Bool) (cycles : List Counted) : Type 0 where
    pub as_long : length cycles ≡ run.cycles
    pub row : (t : ℕ) → t < run.cycles → RowIs (choice t) now values (get_or cycles t no_row).row
    pub some : (t b : ℕ) → choice t b ≡ true → value_at values (get_or cycles t no_row).count 0 ≡ true
    pub lows : (t : ℕ) → t < run.cycles → RowBelow now (get_or cycles t no_row).count

  pub tell_stable : (now later : ℕ) (values others : ℕ → Bool) (cycles : List Counted) → now ≤ later → AreSame others values now → ProbesTell now values cycles → ProbesTell later others cycles
  tell_stable now later values others cycles le same h = record {
    as_long = h.as_long;
    row = λ t lt. row_stable (choice t) now later values others (get_or cycles t no_row).row le same (h.row t lt);
    some = λ t b e. value_below others values now (signal_at (get_or cycles t no_row).count 0) (h.lows t (is.probe_places t b e).cycle 0) same ∙ h.some t b e;
    lows = λ t lt. row_more now later (get_or cycles t no_row).count le (h.lows t lt);
  }

  tells_of : (now : ℕ) (values : ℕ → Bool) (cycles : List Counted) → ProbesAre law gates laws run good orderly choice pairs is now values cycles → ProbesTell now values cycles
  tells_of now values cycles are = record {
    as_long = are.as_long;
    row = λ t lt. (are.filled t lt).row;
    some = λ t b e. (let lt = (is.probe_places t b e).cycle in
        let c = placed_at (λ u (x : Counted). IsCountedRow values run.order (probed run) x) run.cycles t cycles no_row are.counted lt in
        first_is run.order values (trues values (get_or cycles t no_row).row) (length (picked (probed run) (get_or cycles t no_row).row)) (get_or cycles t no_row).count good.order
        (some_counted_true (choice t) now values (get_or cycles t no_row).row b ((are.filled t lt).row.is b ∙ e)) c.count);
    lows = λ t lt. (are.filled t lt).count;
  }

  count_rows : (before : ℕ → Bool) (var : ℕ) (cycles : List Counted) → ProbesAre law gates laws run good orderly choice pairs is var before cycles
      → (values : ℕ → Bool) → AreSame values before var → (k : ℕ) (d : Counted) → k < length cycles → IsCountedRow values run.order (probed run) (get_or cycles k d)
  count_rows before var cycles are values same k d lt =
      let long = are.as_long in
      let filled = are.filled k (omega arith) in
      let c = placed_at (λ u (x : Counted). IsCountedRow before run.order (probed run) x) run.cycles k cycles no_row are.counted (omega arith) in
      subst (λ x. IsCountedRow values run.order (probed run) x) (get_or_default cycles k no_row d lt)
      (row_same run.order var values before (probed run) (get_or cycles k no_row) filled.row.below filled.count same c)

  counts_below : (now : ℕ) (cycles : List Counted) → ((k : ℕ) → k < length cycles → RowBelow now (get_or cycles k no_row).count) → RowsBelow now (counts_of cycles)
  counts_below now [] h = tt
  counts_below now (c ∷ cycles) h = (h 0 (omega arith), counts_below now cycles (λ k lt. h (suc k) (omega arith)))

  module _ (before : ℕ → Bool) (var : ℕ) (cycles : List Counted) (are : ProbesAre law gates laws run good orderly choice pairs is var before cycles) where
    counts_in : (ℕ → Bool) → List Count
    counts_in values = map (count_of values (probed run)) cycles

    total : (values : ℕ → Bool) → AreSame values before var → all_trues (map (count_of values (probed run)) cycles) ≡ count_chosen run choice
    total values same =
        sum_map (λ (c : Count). c.trues) (count_of values (probed run)) cycles
        ∙ (rows_same cycles (λ k lt. (let long = are.as_long in (are.filled k (omega arith)).row.below))
        ∙ sum_is law gates laws run good orderly choice pairs is var before cycles are)
      where
        rows_same : (cs : List Counted) → ((k : ℕ) → k < length cs → RowBelow var (get_or cs k no_row).row) → sum_of_trues values cs ≡ sum_of_trues before cs
        rows_same [] h = refl
        rows_same (c ∷ cs) h =
            let rest = rows_same cs (λ k lt. h (suc k) (omega arith)) in
            let one = trues_same values before var c.row (h 0 (omega arith)) same in
            let a = sum_by-cons (λ (x : Counted). trues values x.row) c cs in
            let b = sum_by-cons (λ (x : Counted). trues before x.row) c cs in
            omega arith

    told : (values : ℕ → Bool) → AreSame values before var → All (IsCounted run.order values) (map (count_of values (probed run)) cycles)
    told values same = All-map (IsCounted run.order values) (count_of values (probed run)) cycles (λ k d lt. (count_rows before var cycles are values same k d lt).count.tells)

    few : (values : ℕ → Bool) → AreSame values before var → All (λ (c : Count). c.trues ≤ run.order) (map (count_of values (probed run)) cycles)
    few values same = All-map (λ (c : Count). c.trues ≤ run.order) (count_of values (probed run)) cycles (λ k d lt. (count_rows before var cycles are values same k d lt).count.most)

    abbrev TellsTotal : (ℕ → Bool) → List Signal → Type 0
    TellsTotal values count = TellsWithin run.order values (all_trues (map (count_of values (probed run)) cycles)) (all_signals (map (count_of values (probed run)) cycles)) count

    tally_means : (values : ℕ → Bool) → AreSame values before var → Means values (tally run.order (counts_of cycles)) (TellsTotal values)
    tally_means values same =
        subst (λ (parts : List (List Signal)). Means values (tally run.order parts) (TellsTotal values)) (tallies_counts values (probed run) cycles)
        (means-tally laws values run.order (map (count_of values (probed run)) cycles) (told values same) (few values same))

    FirstTrue : ℕ → (ℕ → Bool) → List Signal → Type 0
    FirstTrue now values count = Unit {0}

    tally_extends : Extends before var (tally run.order (counts_of cycles)) (λ now values count. RowBelow now count × (value_at values count 0 ≡ true) × (0 < length count) × ProbesTell now values cycles)
    tally_extends =
        extends_meaning before var (λ now values count. RowBelow now count) (λ now values count. RowBelow now count × (value_at values count 0 ≡ true) × (0 < length count) × ProbesTell now values cycles)
        TellsTotal (tally run.order (counts_of cycles))
        (extends-tally law laws run.order before var (counts_of cycles) (counts_below var cycles (λ k lt. (let long = are.as_long in (are.filled k (omega arith)).count)))
        (λ values same. record {
          counts = map (count_of values (probed run)) cycles;
          are = tallies_counts values (probed run) cycles;
          told = told values same;
          few = few values same;
          within = (let a = total values same in let b = is.most in omega arith);
        }))
        tally_means
        (λ now values (count : List Signal) up same low tells.
        let n = all_trues (map (count_of values (probed run)) cycles) in
        let a = total values same in
        let b = is.some in
        let e = first_is run.order values n (all_signals (map (count_of values (probed run)) cycles)) count good.order (omega arith) tells in
        (low, e, true_within values count 0 e, tell_stable var now before values cycles up same (tells_of var before cycles are)))

    take_below : (now : ℕ) (count : List Signal) → RowBelow now count → AllByRecursion (IsBelow now) (take 1 count)
    take_below now [] h = tt
    take_below now (s ∷ count) h = (h 0, tt)

    take_true : (values : ℕ → Bool) (count : List Signal) → 0 < length count → value_at values count 0 ≡ true → has_true values (take 1 count) ≡ true
    take_true values [] lt e = absurd (omega arith)
    take_true values (s ∷ count) lt e = ap (λ b. b || false) e

    bound_extends : Extends before var (bound_probes run cycles) (λ now values u. ProbesTell now values cycles)
    bound_extends =
        extends-bind before var (λ now values u. ProbesTell now values cycles) (λ now values count. RowBelow now count × (value_at values count 0 ≡ true) × (0 < length count) × ProbesTell now values cycles)
        (tally run.order (counts_of cycles)) (λ (count : List Signal). demanded (take 1 count)) tally_extends
        (λ (count : List Signal) now values up same h.
        extends-demanded values now (λ later others u. ProbesTell later others cycles) (take 1 count) (take_below now count h.0) (take_true values count h.2 h.1) h.3)

  pub probes_extend : (before : ℕ → Bool) (var : ℕ) → Extends before var (probes run) ProbesTell
  probes_extend before var =
      extends-bind before var ProbesTell (ProbesAre law gates laws run good orderly choice pairs is) (probe_rows run)
      (λ (cycles : List Counted). bound_probes run cycles >>= (λ (u : Unit {0}). done cycles))
      (rows_extend law gates laws run good orderly choice pairs is before var)
      (λ (cycles : List Counted) now values up same are.
      extends-bind values now ProbesTell (λ later others (u : Unit {0}). ProbesTell later others cycles) (bound_probes run cycles) (λ (u : Unit {0}). done cycles)
      (bound_extends values now cycles are)
      (λ (u : Unit {0}) later others more alike tell. extends-done others later ProbesTell cycles tell))
