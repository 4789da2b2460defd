-- Activities, hot cycles, links and what is reached, under the values of a choice.
use Rattle.std.proofs.Common.{◌≡◌, ℕ, ◌<◌, ◌≤◌, ◌||◌, Bool, true, false, cond, List, [], ◌∷◌, length, get_or, map, refl, sym, ap, ◌∙◌, subst, arith, inl, inr}
use Rattle.std.specs.List.{list_any}
use Rattle.std.proofs.lemmas.Bool.{and_parts, and_from, cases_lt}
use Rattle.std.proofs.lemmas.List.{get_or-map, get_or_past, length-map}
use Rattle.std.proofs.lemmas.List.FromFn.{length-range_with_len, get_or-range_with_len, length-map-range_with_len, get_or-map-range_with_len}
use Rattle.circuit_clauses.specs.declared.signal.Signal.{Signal}
use Rattle.circuit_clauses.specs.declared.signal.Signal.TheVariants.{Constant}
use Rattle.circuit_clauses.specs.Signals.{value, negated}
use Rattle.circuit_clauses.specs.Laws.{EvaluationLaw, GatesLaw}
use Rattle.circuit_clauses.specs.Meanings.{IsBelow, has_true}
use Rattle.circuit_clauses.proofs.Gating.{value-negated}
use Rattle.clause_builds.specs.Builds.{demanded}
use Rattle.clause_builds.specs.Rows.{signal_at}
use Rattle.probe_clauses.specs.Probings.{Probing, all_bits, all_cycles, is_moving}
use Rattle.probe_clauses.specs.Rows.{at, column, some_counted}
use Rattle.probe_clauses.specs.Windows.{windowed}
use Rattle.probe_clauses.specs.Passes.{activities, hot_cycles, imply, imply_all, link, link_where, link_of, links, moving_actives, start_in, starts_in, reached_in, reached}
use Rattle.probe_laws.specs.Showing.{Choice, IsReachedFrom, IsProbeChoice}
use Rattle.probe_laws.specs.Showing.IsReachedFrom.{here, through}
use Rattle.probe_laws.specs.Laws.{IsProbing, IsOrderly}
use Rattle.probe_laws.proofs.Rows.{Counted, Grouped}
use Rattle.probe_laws.proofs.Meant.{value_at, true_within}
use Rattle.probe_laws.proofs.Tallied.{CountLaws}
use Rattle.probe_laws.proofs.Counted.{no_row}
use Rattle.probe_laws.proofs.Windows.{IsActive, windowed_means}
use Rattle.probe_laws.proofs.Converse.{LastsOver, windowed_lasts}
use Rattle.probe_laws.proofs.WalkBack.{IsWalked, walk_is_walked}
use Rattle.probe_laws.proofs.Lower.{RowBelow, negated_below}
use Rattle.probe_laws.proofs.LowPasses.{low-windowed, low-walk}
use Rattle.probe_laws.proofs.Extending.{Extends, AreSame, extends-done, extends-bind, extends_meaning, extends-through, extends-demanded, extends-free}
use Rattle.probe_laws.proofs.Choosing.{find, found, active_at, moving_at, group_at, active_from, active_to}
use Rattle.probe_laws.proofs.Filling.{picked_below}
use Rattle.probe_laws.proofs.Grouping.{HasAll, all_stable, GroupsAre}
use Rattle.probe_laws.proofs.Bounding.{ProbesTell, tell_stable}
use Rattle.probe_laws.proofs.Lasting.{extends-numbers, same_truth, picked_in, picked_has, all_below, not_or, IsHot, IsReachedAt, ActiveRow, active_stable, AreActs, ReachedRows, acts_stable}

module _ (law : EvaluationLaw) (gates : GatesLaw) (laws : CountLaws) (run : Probing) (good : IsProbing run) (orderly : IsOrderly run)
    (choice pairs_of : Choice) (is : IsProbeChoice run choice pairs_of) where
  abbrev pub Tell : ℕ → (ℕ → Bool) → List Counted → Type 0
  Tell now values cycles = ProbesTell law gates laws run good orderly choice pairs_of is now values cycles

  pub tell_on : (cycles : List Counted) (now later : ℕ) (values others : ℕ → Bool) → now ≤ later → AreSame others values now → Tell now values cycles → Tell later others cycles
  tell_on cycles now later values others le same h = tell_stable law gates laws run good orderly choice pairs_of is now later values others cycles le same h

  -- ---- columns

  column_at : (cycles : List Counted) (b t : ℕ) → t < length cycles → signal_at (column cycles b) t ≡ signal_at (get_or cycles t no_row).row b
  column_at cycles b t lt = get_or-map (λ (c : Counted). signal_at c.row b) cycles t no_row (Constant false) lt

  column_long : (cycles : List Counted) (b : ℕ) → length (column cycles b) ≡ length cycles
  column_long cycles b = length-map cycles (λ (c : Counted). signal_at c.row b)

  column_below : (now : ℕ) (values : ℕ → Bool) (cycles : List Counted) (b : ℕ) → Tell now values cycles → RowBelow now (column cycles b)
  column_below now values cycles b tell t = elim (cases_lt t (length cycles)) [
    | inl lt ↦ subst (IsBelow now) (sym (column_at cycles b t lt)) ((tell.row t (let long = tell.as_long in omega arith)).below b)
    | inr ge ↦ subst (IsBelow now) (sym (get_or_past (column cycles b) t (Constant false) (let long = column_long cycles b in omega arith))) tt
  ]

  column_is : (now : ℕ) (values : ℕ → Bool) (cycles : List Counted) (b t : ℕ) → Tell now values cycles → t < run.cycles → value_at values (column cycles b) t ≡ choice t b
  column_is now values cycles b t tell lt =
      ap (value values) (column_at cycles b t (let long = tell.as_long in omega arith)) ∙ (tell.row t lt).is b

  activity_extends : (cycles : List Counted) (b now : ℕ) (values : ℕ → Bool) → Tell now values cycles → Extends values now (windowed run.window (column cycles b)) (ActiveRow run choice b)
  activity_extends cycles b var before tell =
      extends_meaning before var (λ now values row. RowBelow now row) (ActiveRow run choice b)
      (λ values (row : List Signal). ((j : ℕ) → value_at values row j ≡ true → IsActive values run.window (column cycles b) j) × LastsOver gates values run.window good.window (column cycles b) row)
      (windowed run.window (column cycles b))
      (extends-free law before var (windowed run.window (column cycles b)) RowBelow (low-windowed var run.window (column cycles b) (column_below var before cycles b tell)))
      (λ values same now h. (windowed_means gates values run.window good.window (column cycles b) now h, windowed_lasts gates values run.window good.window (column cycles b) now h))
      (λ now values (row : List Signal) up same low m. record {
        below = low;
        as_long = m.1.as_long ∙ (column_long cycles b ∙ tell.as_long);
        is = λ u lt. same_truth (value_at values row u) (active_at run choice b u)
            (λ e. (let act = m.0 u e in
            let within = true_within values (column cycles b) act.cycle act.is_true in
            let long = column_long cycles b in let wide = tell.as_long in
            let tell_now = tell_on cycles var now before values up same tell in
            active_from run choice b u act.cycle (omega arith) (sym (column_is now values cycles b act.cycle tell_now (omega arith)) ∙ act.is_true) act.lasts_in))
            (λ e. (let act = active_to run choice b u e in
            let long = column_long cycles b in let wide = tell.as_long in
            let tell_now = tell_on cycles var now before values up same tell in
            m.1.each u (omega arith) act.cycle act.lasts.begun act.lasts.not_over (column_is now values cycles b act.cycle tell_now act.in_run ∙ act.chosen)));
      })

  pub activities_extend : (cycles : List Counted) (before : ℕ → Bool) (var : ℕ) → Tell var before cycles → Extends before var (activities run cycles) (AreActs run choice)
  activities_extend cycles before var tell =
      extends-numbers (ActiveRow run choice) (active_stable run choice) (λ now values u. Tell now values cycles) (λ now later values others u le same h. tell_on cycles now later values others le same h)
      (λ b. windowed run.window (column cycles b)) run.bits (λ b now values lt t. activity_extends cycles b now values t) before var tell

  -- ---- hot cycles

  some_at : (cycles : List Counted) (t : ℕ) → t < length cycles → signal_at (some_counted cycles) t ≡ signal_at (get_or cycles t no_row).count 0
  some_at cycles t lt = get_or-map (λ (c : Counted). signal_at c.count 0) cycles t no_row (Constant false) lt

  some_long : (cycles : List Counted) → length (some_counted cycles) ≡ length cycles
  some_long cycles = length-map cycles (λ (c : Counted). signal_at c.count 0)

  some_below : (now : ℕ) (values : ℕ → Bool) (cycles : List Counted) → Tell now values cycles → RowBelow now (some_counted cycles)
  some_below now values cycles tell t = elim (cases_lt t (length cycles)) [
    | inl lt ↦ subst (IsBelow now) (sym (some_at cycles t lt)) (tell.lows t (let long = tell.as_long in omega arith) 0)
    | inr ge ↦ subst (IsBelow now) (sym (get_or_past (some_counted cycles) t (Constant false) (let long = some_long cycles in omega arith))) tt
  ]

  pub hot_extends : (cycles : List Counted) (before : ℕ → Bool) (var : ℕ) → Tell var before cycles → Extends before var (hot_cycles run cycles) (HasAll (IsHot run choice))
  hot_extends cycles before var tell =
      extends_meaning before var (λ now values row. RowBelow now row) (HasAll (IsHot run choice))
      (λ values (row : List Signal). LastsOver gates values run.window good.window (some_counted cycles) row) (hot_cycles run cycles)
      (extends-free law before var (hot_cycles run cycles) RowBelow (low-windowed var run.window (some_counted cycles) (some_below var before cycles tell)))
      (λ values same. windowed_lasts gates values run.window good.window (some_counted cycles))
      (λ now values (row : List Signal) up same low m. record {
        below = low;
        all = λ u hot. (let act = active_to run choice hot.bit u hot.active in
            let long = some_long cycles in let wide = tell.as_long in let lt = hot.in_run in let inside = act.in_run in
            let tell_now = tell_on cycles var now before values up same tell in
            m.each u (omega arith) act.cycle act.lasts.begun act.lasts.not_over
            (ap (value values) (some_at cycles act.cycle (omega arith)) ∙ tell_now.some act.cycle hot.bit act.chosen));
      })

  -- ---- links

  abbrev pub Linked : List (List Signal) → Grouped → ℕ → (ℕ → Bool) → Unit {0} → Type 0
  Linked active all now values u = GroupsAre run choice now values all × AreActs run choice now values active

  moves_row : ℕ → List Bool
  moves_row b = map (λ t. run.moves t b) (all_cycles run)

  moves_is : (b j : ℕ) → get_or (map (λ t. run.moves t b) (all_cycles run)) j false ≡ true → (j < run.cycles) × (run.moves j b ≡ true)
  moves_is b j e = elim (cases_lt j run.cycles) [
    | inl lt ↦ (lt, sym (get_or-map-range_with_len (λ t. run.moves t b) 0 run.cycles j j false lt (omega arith)) ∙ e)
    | inr ge ↦ (let past = get_or_past (map (λ t. run.moves t b) (all_cycles run)) j false (let long = length-map-range_with_len (λ t. run.moves t b) 0 run.cycles in omega arith) in absurd (cc))
  ]

  link_extends : (active : List (List Signal)) (all : Grouped) (b now : ℕ) (values : ℕ → Bool) → b < run.bits → is_moving run b ≡ true → Linked active all now values tt
      → Extends values now (link (signal_at all.group b) (moving_actives run active b)) (Linked active all)
  link_extends active all b now values lt moving h =
      extends-bind values now (Linked active all) (Linked active all) (demanded (negated group ∷ actives)) (λ (u : Unit {0}). imply_all group actives)
      (extends-demanded values now (Linked active all) (negated group ∷ actives) (negated_below now group (h.0.group.below b), all_below now actives low)
      (subst (λ n. (n || has_true values actives) ≡ true) (sym (value-negated values group)) (not_or (group_at run choice b) (value values group) (has_true values actives) (h.0.group.is b) some)) h)
      (λ (u : Unit {0}) later others up same k.
      extends-through (Linked active all) (imply group) actives (Constant false)
      (λ i (v : Unit {0}) last mores less l.
      extends-demanded mores last (Linked active all) (negated (get_or actives i (Constant false)) ∷ group ∷ [])
      (negated_below last (get_or actives i (Constant false)) (picked_below last (map (λ t. run.moves t b) (all_cycles run)) row ((l.1.place b [] lt).below) i), (l.0.group.below b, tt))
      (subst (λ n. (n || (value mores group || false)) ≡ true) (sym (value-negated mores (get_or actives i (Constant false))))
      (not_or (value mores (get_or actives i (Constant false))) (value mores (get_or actives i (Constant false))) (value mores group || false) refl
      (λ e. ap (λ n. n || false) (l.0.group.is b ∙ is_group mores last l i less e)))) l)
      others later tt k)
    where
      group : Signal
      group = signal_at all.group b

      row : List Signal
      row = get_or active b []

      actives : List Signal
      actives = moving_actives run active b

      low : RowBelow now (moving_actives run active b)
      low = picked_below now (map (λ t. run.moves t b) (all_cycles run)) (get_or active b []) (h.1.place b [] lt).below

      some : group_at run choice b ≡ true → has_true values (moving_actives run active b) ≡ true
      some e =
          let parts = and_parts (is_moving run b) (list_any (moving_at run choice b) (all_cycles run)) e in
          let f = found (moving_at run choice b) run.cycles parts.1 in
          let both = and_parts (run.moves f.at b) (active_at run choice b f.at) f.holds in
          picked_has values (map (λ t. run.moves t b) (all_cycles run)) (get_or active b []) f.at
          (get_or-map-range_with_len (λ t. run.moves t b) 0 run.cycles f.at f.at false f.within (omega arith) ∙ both.0)
          ((h.1.place b [] lt).is f.at f.within ∙ both.1)

      is_group : (mores : ℕ → Bool) (last : ℕ) → Linked active all last mores tt → (i : ℕ) → i < length (moving_actives run active b)
          → value mores (get_or (moving_actives run active b) i (Constant false)) ≡ true → group_at run choice b ≡ true
      is_group mores last l i less e =
          let p = picked_in (map (λ t. run.moves t b) (all_cycles run)) (get_or active b []) i (Constant false) less in
          let m = moves_is b p.at p.is_wanted in
          let act = sym ((l.1.place b [] lt).is p.at m.0) ∙ (sym (ap (value mores) p.is) ∙ e) in
          and_from (is_moving run b) (list_any (moving_at run choice b) (all_cycles run)) moving
          (find (moving_at run choice b) run.cycles p.at m.0 (and_from (run.moves p.at b) (active_at run choice b p.at) m.1 act))

  pub links_extend : (active : List (List Signal)) (all : Grouped) (before : ℕ → Bool) (var : ℕ) → Linked active all var before tt
      → Extends before var (links run all.group active) (Linked active all)
  links_extend active all before var h =
      extends-through (Linked active all) (link_of run all.group active) (all_bits run) 0
      (λ k (u : Unit {0}) now values lt l. (
      let long = length-range_with_len 0 run.bits in
      let item : get_or (all_bits run) k 0 ≡ k = get_or-range_with_len 0 run.bits k 0 (omega arith) ∙ omega arith in
      subst (λ b. Extends values now (link_of run all.group active b u) (Linked active all)) (sym item) (one k now values (omega arith) l)))
      before var tt h
    where
      one : (b now : ℕ) (values : ℕ → Bool) → b < run.bits → Linked active all now values tt
          → Extends values now (link_where (is_moving run b) (signal_at all.group b) (moving_actives run active b)) (Linked active all)
      one b now values lt l = go (is_moving run b) refl
        where
          go : (m : Bool) → is_moving run b ≡ m → Extends values now (link_where m (signal_at all.group b) (moving_actives run active b)) (Linked active all)
          go true e = link_extends active all b now values lt e l
          go false e = extends-done values now (Linked active all) tt l

  -- ---- what is reached

  start_at : (active : List (List Signal)) (t b : ℕ) → b < run.bits → signal_at (starts_in run active t) b ≡ start_in run active t b
  start_at active t b lt = get_or-map-range_with_len (start_in run active t) 0 run.bits b b (Constant false) lt (omega arith)

  start_below : (active : List (List Signal)) (t now : ℕ) (values : ℕ → Bool) → AreActs run choice now values active → RowBelow now (starts_in run active t)
  start_below active t now values acts b = elim (cases_lt b run.bits) [
    | inl lt ↦ subst (IsBelow now) (sym (start_at active t b lt)) (go (run.moves t b) lt)
    | inr ge ↦ subst (IsBelow now) (sym (get_or_past (starts_in run active t) b (Constant false) (let long = length-map-range_with_len (start_in run active t) 0 run.bits in omega arith))) tt
  ]
    where
      go : (m : Bool) → b < run.bits → IsBelow now (cond m (at active b t) (Constant false))
      go true lt = (acts.place b [] lt).below t
      go false lt = tt

  start_true : (active : List (List Signal)) (t b now : ℕ) (values : ℕ → Bool) → AreActs run choice now values active → t < run.cycles → b < run.bits
      → run.moves t b ≡ true → active_at run choice b t ≡ true → value_at values (starts_in run active t) b ≡ true
  start_true active t b now values acts within lt moves e =
      ap (value values) (start_at active t b lt) ∙ (ap (λ m. value values (cond m (at active b t) (Constant false))) moves ∙ ((acts.place b [] lt).is t within ∙ e))

  probe_bit : (b t : ℕ) → active_at run choice b t ≡ true → b < run.bits
  probe_bit b t e = (let act = active_to run choice b t e in (is.probe_places act.cycle b act.chosen).bit)

  reached_true : (active : List (List Signal)) (t now : ℕ) (values : ℕ → Bool) (out : List Signal) → AreActs run choice now values active → t < run.cycles
      → IsWalked values run (t ∷ []) (starts_in run active t) out → (b i : ℕ) → active_at run choice b t ≡ true → IsReachedFrom run t b i → value_at values out i ≡ true
  reached_true active t now values out acts within walked b i e (here moves) = walked.kept b (start_true active t b now values acts within (probe_bit b t e) moves e)
  reached_true active t now values out acts within walked b i e (through cell place to has lets wire from) =
      walked.closed cell place to has (ap (λ x. x || false) lets) wire
      (let low = orderly.inputs cell place to has wire in let long = length-map-range_with_len (start_in run active t) 0 run.bits in omega arith)
      (reached_true active t now values out acts within walked b (run.output cell) e from)

  pub reached_extends : (active : List (List Signal)) (before : ℕ → Bool) (var : ℕ) → AreActs run choice var before active → Extends before var (reached run active) (ReachedRows run choice)
  reached_extends active before var acts =
      extends-numbers (λ t. HasAll (IsReachedAt run choice t)) (λ t. all_stable (IsReachedAt run choice t)) (λ now values u. AreActs run choice now values active)
      (λ now later values others u le same h. acts_stable run choice now later values others active le same h) (reached_in run active) run.cycles
      (λ t now values lt a.
      extends_meaning values now (λ later others row. RowBelow later row) (HasAll (IsReachedAt run choice t)) (λ others out. IsWalked others run (t ∷ []) (starts_in run active t) out) (reached_in run active t)
      (extends-free law values now (reached_in run active t) RowBelow (low-walk now run (t ∷ []) (starts_in run active t) (start_below active t now values a)))
      (λ others same. walk_is_walked gates others run (t ∷ []) orderly (starts_in run active t))
      (λ later others (out : List Signal) up same low walked. record {
        below = low;
        all = λ i r. reached_true active t later others out (acts_stable run choice now later values others active up same a) lt walked r.probed i r.active r.reached;
      }))
      before var acts
