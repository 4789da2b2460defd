-- Each try that shows a leak, and is free at nodes that matter alone, is read from some model.
use Rattle.std.proofs.Common.{◌≡◌, ℕ, ◌+◌, ◌<◌, ◌&&◌, ◌||◌, Bool, true, false, cond, nat_eq, nat_lt, List, [], ◌∷◌, length, get_or, refl, sym, ap, ap₂, ◌∙◌, subst, arith, ◌⊎◌, inl, inr}
use Rattle.std.specs.Prelude.{Contains}
use Rattle.std.specs.List.{list_any}
use Rattle.std.proofs.lemmas.Bool.{cases_Bool, eqb-true, eq-eqb, lt-ltb, false≢true}
use Rattle.std.proofs.lemmas.List.{get_or_default}
use Rattle.coco_base.specs.declared.finding.Probe.{Probe}
use Rattle.coco_base.specs.declared.unrolled.Unrolled.{Unrolled}
use Rattle.coco_model.specs.Findings.{Labels}
use Rattle.coco_model.specs.Goals.{variable_of}
use Rattle.coco_model.specs.Matters.{AreLeastElsewhere}
use Rattle.coco_model.specs.Nodes.{IsNodeSelection}
use Rattle.coco_model.specs.Reach.{Reach}
use Rattle.coco_model.specs.UnrolledRuns.{index_of}
use Rattle.coco_model.specs.WrittenFindings.{IsLeakingSet, AreAscending, AreZeroElsewhere, set_of_nodes}
use Rattle.coco_model.proofs.Basics.{Contains-here, Contains-later, Contains-cases, Contains-none}
use Rattle.circuit_clauses.specs.declared.signal.Signal.{Signal}
use Rattle.circuit_clauses.specs.declared.signal.Signal.TheVariants.{Literal}
use Rattle.circuit_clauses.specs.Signals.{value}
use Rattle.circuit_clauses.specs.Meanings.{AllHold}
use Rattle.circuit_clauses.proofs.Evaluating.{value_below}
use Rattle.circuit_clauses.proofs.Sequences.{variables_above}
use Rattle.clause_builds.specs.Rows.{signal_at}
use Rattle.label_cone.specs.Coned.{Coned}
use Rattle.node_clauses.specs.Chosen.{chosen_numbers}
use Rattle.node_laws.specs.Laws.{CompleteLaw, AreNeededNumbers}
use Rattle.node_laws.specs.Readings.{weighed_sum}
use Rattle.node_laws.proofs.Extending.{steps_same}
use Rattle.node_laws.proofs.Handing.{placed}
use Rattle.probe_clauses.specs.RunViews.{RunView}
use Rattle.probe_clauses.specs.Probings.{probing_of}
use Rattle.probe_clauses.specs.Rows.{at}
use Rattle.probe_laws.specs.Laws.{CompleteProbesLaw, OrderlyLaw, ReadsProbesLaw}
use Rattle.probe_laws.specs.Showing.{Choice, IsProbeChoice, chosen}
use Rattle.probe_encode.specs.Formulas.{Encoding, formula, labels_of, nodes_of}
use Rattle.probe_encode.proofs.Variables.{found}
use Rattle.formula_laws.specs.Runs.{IsFormulaRun, seen_in}
use Rattle.formula_laws.specs.Probes.{ProbesLaw, AreListed, AreProbesOf}
use Rattle.formula_laws.specs.Leaks.{GoalLaw, TellsSet}
use Rattle.formula_laws.specs.Labelled.{LabelsLaw}
use Rattle.formula_laws.specs.Laws.{ModelLaw}
use Rattle.formula_laws.proofs.Pieces.{MeetParts, parts_meet, labels_part, after_labels, probes_part, after_probes, weights_in, nodes_part, after_nodes, after_first}
use Rattle.formula_laws.proofs.Sound.{PartLaws, Enc, is_probing, weighs}
use Rattle.formula_laws.proofs.Variables.{AreVariables, are_variables, totals_hold}
use Rattle.formula_laws.proofs.Within.{labels_within}

-- ---- lists as choices

abbrev same_probe : Probe → Probe → Bool
same_probe p q = nat_eq p.cycle q.cycle && nat_eq p.bit q.bit

same_is : (p q : Probe) → same_probe p q ≡ true → p ≡ q
same_is p q e = go (cases_Bool (nat_eq p.cycle q.cycle)) (cases_Bool (nat_eq p.bit q.bit))
  where
    go : (nat_eq p.cycle q.cycle ≡ true) ⊎ (nat_eq p.cycle q.cycle ≡ false) → (nat_eq p.bit q.bit ≡ true) ⊎ (nat_eq p.bit q.bit ≡ false) → p ≡ q
    go (inl c) (inl b) = ap₂ (λ (cycle bit : ℕ). record { bit = bit; cycle = cycle }) (eqb-true p.cycle q.cycle c) (eqb-true p.bit q.bit b)
    go (inr c) other = absurd (false≢true (sym (ap (λ x. x && nat_eq p.bit q.bit) c) ∙ e))
    go (inl c) (inr b) = absurd (false≢true (sym (ap (λ x. x && nat_eq p.bit q.bit) c ∙ b) ∙ e))

is_same : (p q : Probe) → p ≡ q → same_probe p q ≡ true
is_same p q e = rw (eq-eqb p.cycle q.cycle (ap (λ (r : Probe). r.cycle) e)) (rw (eq-eqb p.bit q.bit (ap (λ (r : Probe). r.bit) e)) refl)

-- the bits and cycles of a list
abbrev choice_of : List Probe → Choice
choice_of list t b = list_any (same_probe (record { bit = b; cycle = t })) list

chosen_listed : (list : List Probe) (p : Probe) → choice_of list p.cycle p.bit ≡ true → Contains list p
chosen_listed [] p e = absurd (false≢true e)
chosen_listed (q ∷ list) p e = go (chosen_listed list p) (cases_Bool (same_probe p q))
  where
    go : (choice_of list p.cycle p.bit ≡ true → Contains list p) → (same_probe p q ≡ true) ⊎ (same_probe p q ≡ false) → Contains (q ∷ list) p
    go rest (inl here) = subst (Contains (q ∷ list)) (sym (same_is p q here)) (Contains-here q list)
    go rest (inr other) = Contains-later q p list (rest (sym (ap (λ b. b || choice_of list p.cycle p.bit) other) ∙ e))

listed_chosen : (list : List Probe) (p : Probe) → Contains list p → choice_of list p.cycle p.bit ≡ true
listed_chosen [] p h = absurd (Contains-none p h)
listed_chosen (q ∷ list) p h = go (listed_chosen list p) (Contains-cases q p list h)
  where
    later : (b : Bool) → choice_of list p.cycle p.bit ≡ true → (b || choice_of list p.cycle p.bit) ≡ true
    later true e = refl
    later false e = e

    go : (Contains list p → choice_of list p.cycle p.bit ≡ true) → (q ≡ p) ⊎ Contains list p → (same_probe p q || choice_of list p.cycle p.bit) ≡ true
    go rest (inl e) = ap (λ b. b || choice_of list p.cycle p.bit) (is_same p q (sym e))
    go rest (inr k) = later (same_probe p q) (rest k)

choice_listed : (list : List Probe) → AreAscending list → AreListed (choice_of list) list
choice_listed list ascending = record { ascending = ascending; members = λ p. (listed_chosen list p, chosen_listed list p) }

-- ---- values at the variables of labels

-- each label's variable tells whether the label is in a set
abbrev set_values : List ℕ → Labels → ℕ → Bool
set_values labels set v = cond (nat_lt v (length labels)) (set (get_or labels v 0)) false

-- the values of a model for a try
record IsModelFor (view : RunView) (u : Unrolled) (coned : Coned) (set : Labels) (probes pairs : List Probe) (numbers : List ℕ)
    (values : ℕ → Bool) : Type 0 where
  labels_are : (v : ℕ) → v < length (labels_of (Enc view u coned)) → values v ≡ set (get_or (labels_of (Enc view u coned)) v 0)
  probes_hold : AllHold values (after_labels (Enc view u coned)) (probes_part (Enc view u coned)).steps
  pairs_are : (t b : ℕ) → chosen values (probes_part (Enc view u coned)).result.pairs t b ≡ choice_of pairs t b
  nodes_hold : AllHold values (after_probes (Enc view u coned)) (nodes_part (Enc view u coned)).steps
  numbers_are : chosen_numbers values (nodes_part (Enc view u coned)).result.selections ≡ numbers

-- the laws that give models
pub record ModelLaws : Type 0 where
  pub parts : PartLaws
  pub orderly : OrderlyLaw
  pub probes_complete : CompleteProbesLaw
  pub probes_read : ReadsProbesLaw
  pub nodes_complete : CompleteLaw

label_values : (labels : List ℕ) (set : Labels) (v : ℕ) → v < length labels → set_values labels set v ≡ set (get_or labels v 0)
label_values labels set v lt = ap (λ b. cond b (set (get_or labels v 0)) false) (lt-ltb v (length labels) lt)

some_values : ModelLaws → (view : RunView) (u : Unrolled) (coned : Coned) (reach : Reach) → IsFormulaRun view u coned reach
    → (set : Labels) (probes pairs : List Probe) (numbers : List ℕ) → IsProbeChoice (probing_of view) (choice_of probes) (choice_of pairs)
    → AreNeededNumbers (nodes_of (Enc view u coned)) numbers → (values : ℕ → Bool) × IsModelFor view u coned set probes pairs numbers values
some_values laws view u coned reach run set probes pairs numbers choice needed =
    let e = Enc view u coned in
    let first = are_variables (labels_of e) 0 in
    let one = laws.probes_complete (set_values (labels_of e) set) (after_labels e) (probing_of view) (is_probing view u coned reach run)
    (laws.orderly view run.built) (choice_of probes) (choice_of pairs) choice in
    let w = weighs laws.parts view u coned reach run in
    let two = laws.nodes_complete one.values (after_probes e) (nodes_of e) (weights_in e) w.weighed w.below numbers needed in
    let reads = laws.probes_read (after_labels e) (probing_of view) in
    let over = first.next in
    let next : after_labels e ≡ length (labels_of e) = omega (arith, over) in (
      two.values,
      record {
        labels_are = λ v lt.
            two.same_before v (let up = variables_above (after_labels e) (probes_part e).steps in omega (arith, lt, next, up))
            ∙ one.same_before v (omega (arith, lt, next)) ∙ label_values (labels_of e) set v lt;
        probes_hold = steps_same one.values two.values (after_labels e) (probes_part e).steps reads.steps (λ v lt. sym (two.same_before v lt)) one.meets;
        pairs_are = λ t b.
            value_below two.values one.values (after_probes e) (at (probes_part e).result.pairs t b) (reads.pairs t b) two.same_before
            ∙ one.pairs_are t b;
        nodes_hold = two.meets;
        numbers_are = two.reads;
      },
    )

same_value : (values : ℕ → Bool) (s : Signal) (v : ℕ) → s ≡ Literal (record { var = v; positive = true }) → value values s ≡ values v
same_value values s v e = ap (value values) e

-- all parts are met
all_met : ModelLaws → (view : RunView) (u : Unrolled) (coned : Coned) (reach : Reach) → IsFormulaRun view u coned reach
    → (probes pairs : List Probe) (numbers : List ℕ) (sets : ℕ → Labels) → AreProbesOf (seen_in view u reach) view.order probes pairs
    → IsNodeSelection u.nodes numbers sets → IsLeakingSet u.table (set_of_nodes (index_of u) sets pairs)
    → (values : ℕ → Bool) → IsModelFor view u coned (set_of_nodes (index_of u) sets pairs) probes pairs numbers values
    → MeetParts (Enc view u coned) values
unfolding GoalLaw LabelsLaw
all_met laws view u coned reach run probes pairs numbers sets are selection leaks values m =
    record {
      labels = first.hold values;
      probes = m.probes_hold;
      nodes = m.nodes_hold;
      sums = totals_hold values (labels_part e).result (nodes_part e).result.totals (after_nodes e) same_at;
      goal = (laws.parts.goal values (after_first e) (labels_part e).result u.table (labels_of e) set run.source.unrolled_value.table
          (laws.parts.labels view u coned reach run).ascending tells_set).1 leaks;
    }
  where
    e : Encoding
    e = Enc view u coned

    set : Labels
    set = set_of_nodes (index_of u) sets pairs

    first : AreVariables (labels_of e) 0
    first = are_variables (labels_of e) 0

    variable_is : (i : ℕ) → i < length (labels_of e) → value values (signal_at (labels_part e).result i) ≡ set (get_or (labels_of e) i 0)
    variable_is i lt =
        let same : 0 + i ≡ i = omega arith in
        same_value values (signal_at (labels_part e).result i) i (first.each i lt ∙ ap (λ v. Literal (record { var = v; positive = true })) same) ∙ m.labels_are i lt

    pairs_listed : AreListed (chosen values (probes_part e).result.pairs) pairs
    pairs_listed =
        let c = choice_listed pairs are.in_order in
        record {
          ascending = are.in_order;
          members = λ p. (λ h. m.pairs_are p.cycle p.bit ∙ (c.members p).0 h, λ f. (c.members p).1 (sym (m.pairs_are p.cycle p.bit) ∙ f));
        }

    total_at : (l : ℕ) → Contains (labels_of e) l → value values (signal_at (nodes_part e).result.totals (variable_of (labels_of e) l)) ≡ set l
    total_at l among =
        (laws.parts.nodes_sound values (after_probes e) (nodes_of e) (weights_in e) (weighs laws.parts view u coned reach run).weighed m.nodes_hold).totals sets
        (subst (λ nodes. IsNodeSelection nodes (chosen_numbers values (nodes_part e).result.selections) sets) (sym run.source.nodes)
        (subst (λ ns. IsNodeSelection u.nodes ns sets) (sym m.numbers_are) selection)) l among
        ∙ ap (λ nodes. weighed_sum values (weights_in e) sets (length nodes) l) run.source.nodes
        ∙ (weighs laws.parts view u coned reach run).sum values pairs pairs_listed sets l

    at_label : (i : ℕ) → i < length (labels_of e) → value values (signal_at (nodes_part e).result.totals i) ≡ set (get_or (labels_of e) i 0)
    at_label i lt =
        let l = get_or (labels_of e) i 0 in
        subst (λ j. value values (signal_at (nodes_part e).result.totals j) ≡ set l)
        ((found (labels_of e) (laws.parts.labels view u coned reach run).ascending l i lt refl).1)
        (total_at l (i, lt, get_or_default (labels_of e) i l 0 lt))

    same_at : (i : ℕ) → i < length (labels_part e).result → value values (signal_at (labels_part e).result i) ≡ value values (signal_at (nodes_part e).result.totals i)
    same_at i lt =
        let long : i < length (labels_of e) = (let same = first.as_long in omega (arith, lt, same)) in
        variable_is i long ∙ sym (at_label i long)

    tells_set : TellsSet values (labels_part e).result (labels_of e) set
    tells_set = record {
      told = λ l among. (let place = placed (labels_of e) l among in variable_is (variable_of (labels_of e) l) place.within ∙ ap set place.here);
      within = labels_within laws.parts.labels laws.parts.cones view u coned reach run probes pairs are numbers sets selection;
    }

pub model_of_try : ModelLaws → ModelLaw
unfolding ModelLaw ProbesLaw
model_of_try laws view u coned reach run has =
    let e = Enc view u coned in
    let candidate = has.is_try.is_try.candidate in
    let are : AreProbesOf (seen_in view u reach) view.order has.probes has.pairs = record {
      some = candidate.some;
      most = candidate.most;
      each = candidate.each;
      ascending = candidate.ascending;
      in_order = candidate.in_order;
      seen = candidate.seen;
    } in
    let choice = (laws.parts.probes view u coned reach run (choice_of has.probes) (choice_of has.pairs) has.probes has.pairs
    (choice_listed has.probes candidate.ascending) (choice_listed has.pairs candidate.in_order)).1 are in
    let needed : AreNeededNumbers (nodes_of e) has.numbers = record {
      sets = has.sets;
      selection = subst (λ nodes. IsNodeSelection nodes has.numbers has.sets) (sym run.source.nodes) candidate.selection;
      least = subst (λ nodes. AreLeastElsewhere nodes has.numbers) (sym run.source.nodes) has.is_try.elsewhere;
      zero = subst (λ nodes. AreZeroElsewhere nodes has.numbers) (sym run.source.nodes) has.is_try.is_try.elsewhere;
    } in
    let some = some_values laws view u coned reach run (set_of_nodes (index_of u) has.sets has.pairs) has.probes has.pairs has.numbers choice needed in
    record {
      values = some.0;
      model = (laws.parts.clauses some.0 0 (formula e 0).steps).1
          (parts_meet e some.0 (all_met laws view u coned reach run has.probes has.pairs has.numbers has.sets are candidate.selection has.leaks some.0 some.1));
    }
