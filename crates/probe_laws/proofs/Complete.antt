-- Each choice of probes and of pairs that they show is met by some values.
use Rattle.std.proofs.Common.{◌≡◌, ℕ, ◌+◌, ◌≤◌, ◌||◌, Bool, true, false, cond, List, [], ◌∷◌, refl, sym, ap, ◌∙◌, subst, arith, ◌⊎◌, inl, inr}
use Rattle.std.specs.List.{list_any, AllByRecursion}
use Rattle.std.proofs.lemmas.Bool.{and_from, cases_lt, false_from_ne_true}
use Rattle.std.proofs.lemmas.List.{get_or_past, length-map}
use Rattle.circuit_clauses.specs.declared.signal.Signal.{Signal}
use Rattle.circuit_clauses.specs.declared.signal.Signal.TheVariants.{Constant}
use Rattle.circuit_clauses.specs.Signals.{value, negated}
use Rattle.circuit_clauses.specs.Laws.{EvaluationLaw, GatesLaw}
use Rattle.circuit_clauses.specs.Meanings.{IsBelow, has_true}
use Rattle.circuit_clauses.proofs.Gating.{value-negated}
use Rattle.clause_builds.specs.Builds.{done, ◌>>=◌, demanded, fresh}
use Rattle.clause_builds.specs.Rows.{signal_at}
use Rattle.probe_clauses.specs.Probings.{Probing, all_cycles, can_probe, moves_ever, is_moving, is_pair}
use Rattle.probe_clauses.specs.Rows.{at, rows_of}
use Rattle.probe_clauses.specs.Passes.{group_bits, probes, activities, hot_cycles, links, reached, show_pair, chosen_pair, pair_of, pairs_in, pairs}
use Rattle.probe_clauses.specs.Parts.{shown_by, part_of, shown_of, probe_part}
use Rattle.probe_laws.specs.Showing.{Choice, chosen, IsReachedFrom, IsShown, IsProbeChoice}
use Rattle.probe_laws.specs.Showing.IsReachedFrom.{here, through}
use Rattle.probe_laws.specs.Laws.{IsProbing, IsOrderly, CompleteProbesLaw}
use Rattle.probe_laws.proofs.Rows.{Counted, Grouped, Shown}
use Rattle.probe_laws.proofs.Meant.{value_at}
use Rattle.probe_laws.proofs.Tallied.{CountLaws}
use Rattle.probe_laws.proofs.Lower.{negated_below}
use Rattle.probe_laws.proofs.Extending.{Extends, AreSame, IsStable, AreBuilt, extends-done, extends-bind, extends_more, extends-fresh, extends-demanded}
use Rattle.probe_laws.proofs.Choosing.{find, active_at, moving_at, active_from}
use Rattle.probe_laws.proofs.Filling.{RowIs, row_stable}
use Rattle.probe_laws.proofs.Grouping.{HasAll, all_stable, IsNear, GroupsAre, group_bits_extend}
use Rattle.probe_laws.proofs.Bounding.{ProbesTell, probes_extend}
use Rattle.probe_laws.proofs.Counted.{row_at-rows}
use Rattle.probe_laws.proofs.Filling.{SignalIs, signal_stable}
use Rattle.probe_laws.proofs.Lasting.{IsHot, IsReachedAt, AreActs, ReachedRows, acts_stable, groups_stable, built_stable, extends-numbers, not_or}
use Rattle.probe_laws.proofs.Acting.{tell_on, Linked, activities_extend, hot_extends, links_extend, reached_extends}

-- what pairs need is true where it is so
pub record ShownAre (run : Probing) (choice : Choice) (now : ℕ) (values : ℕ → Bool) (shown : Shown) : Type 0 where
  pub reached : ReachedRows run choice now values shown.reached
  pub near : HasAll (IsNear run choice) now values shown.near
  pub hot : HasAll (IsHot run choice) now values shown.hot

shown_stable : (run : Probing) (choice : Choice) → IsStable (ShownAre run choice)
shown_stable run choice now later values others shown le same h = record {
  reached = built_stable (λ t. HasAll (IsReachedAt run choice t)) (λ t. all_stable (IsReachedAt run choice t)) run.cycles now later values others shown.reached le same h.reached;
  near = all_stable (IsNear run choice) now later values others shown.near le same h.near;
  hot = all_stable (IsHot run choice) now later values others shown.hot le same h.hot;
}

probed_moves : (run : Probing) (t b i : ℕ) → IsReachedFrom run t b i → run.moves t b ≡ true
probed_moves run t b i (here moves) = moves
probed_moves run t b i (through cell place to has lets wire from) = probed_moves run t b (run.output cell) from

rows_below : (run : Probing) (choice : Choice) (now : ℕ) (values : ℕ → Bool) (rows : List (List Signal)) → ReachedRows run choice now values rows → (t b : ℕ) → IsBelow now (at rows t b)
rows_below run choice now values rows h t b = elim (cases_lt t run.cycles) [
  | inl lt ↦ (h.place t [] lt).below b
  | inr ge ↦ subst (λ (row : List Signal). IsBelow now (signal_at row b)) (sym (get_or_past rows t [] (let long = h.as_long in omega arith))) tt
]

one_of : (a b : Bool) → (a ≡ true) ⊎ (b ≡ true) → (a || (b || false)) ≡ true
one_of true b one = refl
one_of false true one = refl
one_of false false one = absurd (elim one [ inl e ↦ (let f : false ≡ true = e in cc) | inr e ↦ (let f : false ≡ true = e in cc) ])

module _ (law : EvaluationLaw) (gates : GatesLaw) (laws : CountLaws) (run : Probing) (good : IsProbing run) (orderly : IsOrderly run)
    (choice pairs_of : Choice) (is : IsProbeChoice run choice pairs_of) where
  abbrev Telling : ℕ → (ℕ → Bool) → List Counted → Type 0
  Telling now values cycles = ProbesTell law gates laws run good orderly choice pairs_of is now values cycles

  on : (cycles : List Counted) (now later : ℕ) (values others : ℕ → Bool) → now ≤ later → AreSame others values now → Telling now values cycles → Telling later others cycles
  on cycles now later values others le same h = tell_on law gates laws run good orderly choice pairs_of is cycles now later values others le same h

  abbrev ShownTell : List Counted → ℕ → (ℕ → Bool) → Shown → Type 0
  ShownTell cycles now values shown = ShownAre run choice now values shown × Telling now values cycles

  shown_extends : (groups : Grouped) (cycles : List Counted) (before : ℕ → Bool) (var : ℕ) → GroupsAre run choice var before groups → Telling var before cycles
      → Extends before var (shown_of run groups cycles) (ShownTell cycles)
  shown_extends groups cycles before var gs tell =
      extends-bind before var (ShownTell cycles) (AreActs run choice) (activities run cycles)
      (λ (active : List (List Signal)).
      hot_cycles run cycles >>= (λ (hot : List Signal).
      links run groups.group active >>= (λ (u : Unit {0}).
      reached run active >>= (λ (rows : List (List Signal)).
      done (shown_by rows groups.near hot)))))
      (activities_extend law gates laws run good orderly choice pairs_of is cycles before var tell)
      (λ (active : List (List Signal)) n1 v1 up1 same1 acts1.
      let tell1 = on cycles var n1 before v1 up1 same1 tell in
      let gs1 = groups_stable run choice var n1 before v1 groups up1 same1 gs in
      extends-bind v1 n1 (ShownTell cycles) (HasAll (IsHot run choice)) (hot_cycles run cycles)
      (λ (hot : List Signal).
      links run groups.group active >>= (λ (u : Unit {0}).
      reached run active >>= (λ (rows : List (List Signal)).
      done (shown_by rows groups.near hot))))
      (hot_extends law gates laws run good orderly choice pairs_of is cycles v1 n1 tell1)
      (λ (hot : List Signal) n2 v2 up2 same2 hot2.
      let tell2 = on cycles n1 n2 v1 v2 up2 same2 tell1 in
      let gs2 = groups_stable run choice n1 n2 v1 v2 groups up2 same2 gs1 in
      let acts2 = acts_stable run choice n1 n2 v1 v2 active up2 same2 acts1 in
      extends-bind v2 n2 (ShownTell cycles) (Linked law gates laws run good orderly choice pairs_of is active groups) (links run groups.group active)
      (λ (u : Unit {0}). reached run active >>= (λ (rows : List (List Signal)). done (shown_by rows groups.near hot)))
      (links_extend law gates laws run good orderly choice pairs_of is active groups v2 n2 (gs2, acts2))
      (λ (u : Unit {0}) n3 v3 up3 same3 linked.
      let tell3 = on cycles n2 n3 v2 v3 up3 same3 tell2 in
      let hot3 = all_stable (IsHot run choice) n2 n3 v2 v3 hot up3 same3 hot2 in
      extends-bind v3 n3 (ShownTell cycles) (ReachedRows run choice) (reached run active) (λ (rows : List (List Signal)). done (shown_by rows groups.near hot))
      (reached_extends law gates laws run good orderly choice pairs_of is active v3 n3 linked.1)
      (λ (rows : List (List Signal)) n4 v4 up4 same4 are.
      extends-done v4 n4 (ShownTell cycles) (shown_by rows groups.near hot) (
        record {
          reached = are;
          near = (groups_stable run choice n3 n4 v3 v4 groups up4 same4 linked.0).near;
          hot = all_stable (IsHot run choice) n3 n4 v3 v4 hot up4 same4 hot3;
        },
        on cycles n3 n4 v3 v4 up4 same4 tell3,
      )))))

  -- ---- pairs

  module _ (shown : Shown) (t b : ℕ) where
    shown_reached : (now : ℕ) (values : ℕ → Bool) → ShownAre run choice now values shown → IsShown run choice t b
        → (value values (at shown.reached t b) ≡ true) ⊎ (value values (at shown.reached (t + 1) b) ≡ true)
    shown_reached now values are s = elim s.when [
      | inl same ↦ inl (subst (λ m. value values (at shown.reached m b) ≡ true) same there)
      | inr next ↦ inr (subst (λ m. value values (at shown.reached m b) ≡ true) (let e : s.moment ≡ t + 1 = next ∙ omega arith in e) there)
    ]
      where
        there : value values (at shown.reached s.moment b) ≡ true
        there = (are.reached.place s.moment [] s.in_run).all b (record {
          probed = s.bit;
          active = active_from run choice s.bit s.moment s.cycle (is.probe_places s.cycle s.bit s.chosen).cycle s.chosen s.lasts;
          reached = s.reached;
        })

    shown_near : IsShown run choice t b → IsNear run choice b
    shown_near s =
        let moves = probed_moves run s.moment s.bit b s.reached in
        let active = active_from run choice s.bit s.moment s.cycle (is.probe_places s.cycle s.bit s.chosen).cycle s.chosen s.lasts in
        record {
          moment = s.moment;
          in_run = s.in_run;
          probed = s.bit;
          group = and_from (is_moving run s.bit) (list_any (moving_at run choice s.bit) (all_cycles run))
              (and_from (can_probe run s.bit) (moves_ever run s.bit) (is.probed s.cycle s.bit s.chosen) (find (λ u. run.moves u s.bit) run.cycles s.moment s.in_run moves))
              (find (moving_at run choice s.bit) run.cycles s.moment s.in_run (and_from (run.moves s.moment s.bit) (active_at run choice s.bit s.moment) moves active));
          reached = s.reached;
        }

    shown_hot : (now : ℕ) (values : ℕ → Bool) → ShownAre run choice now values shown → IsShown run choice t b
        → (value_at values shown.hot t ≡ true) ⊎ (value_at values shown.hot (t + 1) ≡ true)
    shown_hot now values are s = elim s.when [
      | inl same ↦ inl (subst (λ m. value_at values shown.hot m ≡ true) same there)
      | inr next ↦ inr (subst (λ m. value_at values shown.hot m ≡ true) (let e : s.moment ≡ t + 1 = next ∙ omega arith in e) there)
    ]
      where
        there : value_at values shown.hot s.moment ≡ true
        there = are.hot.all s.moment (record {
          in_run = s.in_run;
          bit = s.bit;
          active = active_from run choice s.bit s.moment s.cycle (is.probe_places s.cycle s.bit s.chosen).cycle s.chosen s.lasts;
        })

    abbrev Held : Signal → ℕ → (ℕ → Bool) → Unit {0} → Type 0
    Held pair now values u = SignalIs (pairs_of t) b now values pair × ShownAre run choice now values shown

    demand_extends : (pair : Signal) (others : List Signal) (now : ℕ) (values : ℕ → Bool) → AllByRecursion (IsBelow now) others
        → (IsShown run choice t b → has_true values others ≡ true) → Held pair now values tt → Extends values now (demanded (negated pair ∷ others)) (Held pair)
    demand_extends pair others now values low so h =
        extends-demanded values now (Held pair) (negated pair ∷ others) (negated_below now pair h.0.0, low)
        (subst (λ n. (n || has_true values others) ≡ true) (sym (value-negated values pair))
        (not_or (pairs_of t b) (value values pair) (has_true values others) h.0.1 (λ e. so (is.shown t b e)))) h

    show_extends : (pair : Signal) (now : ℕ) (values : ℕ → Bool) → Held pair now values tt → Extends values now (show_pair shown t b pair) (Held pair)
    show_extends pair now values h =
        extends-bind values now (Held pair) (Held pair) (demanded (negated pair ∷ at shown.reached t b ∷ at shown.reached (t + 1) b ∷ []))
        (λ (u : Unit {0}).
        demanded (negated pair ∷ signal_at shown.near b ∷ []) >>= (λ (v : Unit {0}).
        demanded (negated pair ∷ signal_at shown.hot t ∷ signal_at shown.hot (t + 1) ∷ [])))
        (demand_extends pair (at shown.reached t b ∷ at shown.reached (t + 1) b ∷ []) now values
        (rows_below run choice now values shown.reached h.1.reached t b, (rows_below run choice now values shown.reached h.1.reached (t + 1) b, tt))
        (λ s. one_of (value values (at shown.reached t b)) (value values (at shown.reached (t + 1) b)) (shown_reached now values h.1 s)) h)
        (λ (u : Unit {0}) n1 v1 up1 same1 h1.
        extends-bind v1 n1 (Held pair) (Held pair) (demanded (negated pair ∷ signal_at shown.near b ∷ []))
        (λ (v : Unit {0}). demanded (negated pair ∷ signal_at shown.hot t ∷ signal_at shown.hot (t + 1) ∷ []))
        (demand_extends pair (signal_at shown.near b ∷ []) n1 v1 (h1.1.near.below b, tt) (λ s. ap (λ x. x || false) (h1.1.near.all b (shown_near s))) h1)
        (λ (v : Unit {0}) n2 v2 up2 same2 h2.
        demand_extends pair (signal_at shown.hot t ∷ signal_at shown.hot (t + 1) ∷ []) n2 v2 (h2.1.hot.below t, (h2.1.hot.below (t + 1), tt))
        (λ s. one_of (value_at v2 shown.hot t) (value_at v2 shown.hot (t + 1)) (shown_hot n2 v2 h2.1 s)) h2))

    pair_extends : (now : ℕ) (values : ℕ → Bool) → ShownAre run choice now values shown → Extends values now (pair_of run shown t b) (SignalIs (pairs_of t) b)
    pair_extends now values are = go (is_pair run t b) refl
      where
        go : (p : Bool) → is_pair run t b ≡ p → Extends values now (cond p (chosen_pair shown t b) (done (Constant false))) (SignalIs (pairs_of t) b)
        go false e =
            extends-done values now (SignalIs (pairs_of t) b) (Constant false) (tt, sym (false_from_ne_true (pairs_of t b) (λ f. (let g = is.are_pairs t b f in cc))))
        go true e =
            extends-bind values now (SignalIs (pairs_of t) b) (SignalIs (pairs_of t) b) (fresh false) (λ (pair : Signal). show_pair shown t b pair >>= (λ (u : Unit {0}). done pair))
            (extends-fresh values now (pairs_of t b))
            (λ (pair : Signal) n1 v1 up1 same1 h1.
            extends-bind v1 n1 (SignalIs (pairs_of t) b) (Held pair) (show_pair shown t b pair) (λ (u : Unit {0}). done pair)
            (show_extends pair n1 v1 (h1, shown_stable run choice now n1 values v1 shown up1 same1 are))
            (λ (u : Unit {0}) n2 v2 up2 same2 h2. extends-done v2 n2 (SignalIs (pairs_of t) b) pair h2.0))

  row_extends : (shown : Shown) (t now : ℕ) (values : ℕ → Bool) → ShownAre run choice now values shown → Extends values now (pairs_in run shown t) (RowIs (pairs_of t))
  row_extends shown t now values are =
      extends_more values now (AreBuilt (SignalIs (pairs_of t)) run.bits) (RowIs (pairs_of t)) (pairs_in run shown t)
      (extends-numbers (SignalIs (pairs_of t)) (signal_stable (pairs_of t)) (λ later others u. ShownAre run choice later others shown)
      (λ later last others mores u le same h. shown_stable run choice later last others mores shown le same h) (pair_of run shown t) run.bits
      (λ b later others lt h. pair_extends shown t b later others h) values now are)
      (λ later others (row : List Signal) up same built. record { below = λ b. (at_place later others row built b).0; is = λ b. (at_place later others row built b).1 })
    where
      at_place : (later : ℕ) (others : ℕ → Bool) (row : List Signal) → AreBuilt (SignalIs (pairs_of t)) run.bits later others row → (b : ℕ) → SignalIs (pairs_of t) b later others (signal_at row b)
      at_place later others row built b = elim (cases_lt b run.bits) [
        | inl lt ↦ built.place b (Constant false) lt
        | inr ge ↦
            let none : pairs_of t b ≡ false = false_from_ne_true (pairs_of t b) (λ e. (let lt = (is.pair_places t b e).bit in omega (arith, lt, ge))) in
            subst (SignalIs (pairs_of t) b later others) (sym (get_or_past row b (Constant false) (let long = built.as_long in omega arith))) (tt, sym none)
      ]

  abbrev PairRows : ℕ → (ℕ → Bool) → List (List Signal) → Type 0
  PairRows now values rows = AreBuilt (λ t. RowIs (pairs_of t)) run.cycles now values rows

  pairs_extend : (shown : Shown) (before : ℕ → Bool) (var : ℕ) → ShownAre run choice var before shown → Extends before var (pairs run shown) PairRows
  pairs_extend shown before var are =
      extends-numbers (λ t. RowIs (pairs_of t)) (λ t. row_stable (pairs_of t)) (λ later others u. ShownAre run choice later others shown)
      (λ later last others mores u le same h. shown_stable run choice later last others mores shown le same h) (pairs_in run shown) run.cycles
      (λ t later others lt h. row_extends shown t later others h) before var are

  -- ---- all

  chosen_pairs : (now : ℕ) (values : ℕ → Bool) (rows : List (List Signal)) → PairRows now values rows → (t b : ℕ) → chosen values rows t b ≡ pairs_of t b
  chosen_pairs now values rows h t b = elim (cases_lt t run.cycles) [
    | inl lt ↦ (h.place t [] lt).is b
    | inr ge ↦
        let none : pairs_of t b ≡ false = false_from_ne_true (pairs_of t b) (λ e. (let lt = (is.pair_places t b e).cycle in omega (arith, lt, ge))) in
        ap (λ (row : List Signal). value_at values row b) (get_or_past rows t [] (let long = h.as_long in omega arith)) ∙ sym none
  ]

  pairs_below : (now : ℕ) (values : ℕ → Bool) (rows : List (List Signal)) → PairRows now values rows → (t b : ℕ) → IsBelow now (at rows t b)
  pairs_below now values rows h t b = elim (cases_lt t run.cycles) [
    | inl lt ↦ (h.place t [] lt).below b
    | inr ge ↦ subst (λ (row : List Signal). IsBelow now (signal_at row b)) (sym (get_or_past rows t [] (let long = h.as_long in omega arith))) tt
  ]

  chosen_probes : (now : ℕ) (values : ℕ → Bool) (cycles : List Counted) → Telling now values cycles → (t b : ℕ) → chosen values (rows_of cycles) t b ≡ choice t b
  chosen_probes now values cycles h t b = elim (cases_lt t run.cycles) [
    | inl lt ↦ ap (λ (row : List Signal). value_at values row b) (row_at-rows cycles t (let long = h.as_long in omega arith)) ∙ (h.row t lt).is b
    | inr ge ↦
        let none : choice t b ≡ false = false_from_ne_true (choice t b) (λ e. (let lt = (is.probe_places t b e).cycle in omega (arith, lt, ge))) in
        let same = length-map cycles (λ (c : Counted). c.row) in
        ap (λ (row : List Signal). value_at values row b) (get_or_past (rows_of cycles) t [] (let long = h.as_long in omega arith)) ∙ sym none
  ]

  pub part_extends : (before : ℕ → Bool) (var : ℕ) → Extends before var (probe_part run)
      (λ now values part. ((t b : ℕ) → chosen values part.probes t b ≡ choice t b) × ((t b : ℕ) → chosen values part.pairs t b ≡ pairs_of t b) × ((t b : ℕ) → IsBelow now (at part.pairs t b)))
  part_extends before var =
      extends-bind before var (λ now values part. ((t b : ℕ) → chosen values part.probes t b ≡ choice t b) × ((t b : ℕ) → chosen values part.pairs t b ≡ pairs_of t b) × ((t b : ℕ) → IsBelow now (at part.pairs t b)))
      (GroupsAre run choice) (group_bits run)
      (λ (all : Grouped).
      probes run >>= (λ (cycles : List Counted).
      shown_of run all cycles >>= (λ (shown : Shown).
      pairs run shown >>= (λ (rows : List (List Signal)).
      done (part_of cycles rows)))))
      (group_bits_extend law gates laws run good orderly choice pairs_of is before var)
      (λ (all : Grouped) n1 v1 up1 same1 gs1.
      extends-bind v1 n1 (λ now values part. ((t b : ℕ) → chosen values part.probes t b ≡ choice t b) × ((t b : ℕ) → chosen values part.pairs t b ≡ pairs_of t b) × ((t b : ℕ) → IsBelow now (at part.pairs t b)))
      Telling (probes run)
      (λ (cycles : List Counted).
      shown_of run all cycles >>= (λ (shown : Shown).
      pairs run shown >>= (λ (rows : List (List Signal)).
      done (part_of cycles rows))))
      (probes_extend law gates laws run good orderly choice pairs_of is v1 n1)
      (λ (cycles : List Counted) n2 v2 up2 same2 tell2.
      extends-bind v2 n2 (λ now values part. ((t b : ℕ) → chosen values part.probes t b ≡ choice t b) × ((t b : ℕ) → chosen values part.pairs t b ≡ pairs_of t b) × ((t b : ℕ) → IsBelow now (at part.pairs t b)))
      (ShownTell cycles) (shown_of run all cycles)
      (λ (shown : Shown). pairs run shown >>= (λ (rows : List (List Signal)). done (part_of cycles rows)))
      (shown_extends all cycles v2 n2 (groups_stable run choice n1 n2 v1 v2 all up2 same2 gs1) tell2)
      (λ (shown : Shown) n3 v3 up3 same3 h3.
      extends-bind v3 n3 (λ now values part. ((t b : ℕ) → chosen values part.probes t b ≡ choice t b) × ((t b : ℕ) → chosen values part.pairs t b ≡ pairs_of t b) × ((t b : ℕ) → IsBelow now (at part.pairs t b)))
      PairRows (pairs run shown) (λ (rows : List (List Signal)). done (part_of cycles rows))
      (pairs_extend shown v3 n3 h3.0)
      (λ (rows : List (List Signal)) n4 v4 up4 same4 h4.
      extends-done v4 n4 (λ now values part. ((t b : ℕ) → chosen values part.probes t b ≡ choice t b) × ((t b : ℕ) → chosen values part.pairs t b ≡ pairs_of t b) × ((t b : ℕ) → IsBelow now (at part.pairs t b)))
      (part_of cycles rows) (chosen_probes n4 v4 cycles (on cycles n3 n4 v3 v4 up4 same4 h3.1), chosen_pairs n4 v4 rows h4, pairs_below n4 v4 rows h4)))))

pub complete : EvaluationLaw → GatesLaw → CountLaws → CompleteProbesLaw
complete law gates laws before var run good orderly choice pairs_of is =
    let all = part_extends law gates laws run good orderly choice pairs_of is before var in
    record {
      values = all.values;
      same_before = all.same;
      meets = all.holds;
      probes_are = all.result.0;
      pairs_are = all.result.1;
      reads = all.reads;
      below = all.result.2;
    }
