-- Each model of the formula of a run reads as a finding.
use Rattle.std.proofs.Common.{◌≡◌, ℕ, Bool, true, false, cond, List, [], ◌∷◌, length, filter, sym, ap, ◌∙◌, subst, arith, ◌⊎◌, inl, inr}
use Rattle.std.specs.Prelude.{Contains}
use Rattle.std.proofs.lemmas.Bool.{cases_Bool}
use Rattle.coco_base.specs.LabelSets.{has}
use Rattle.coco_base.specs.declared.finding.Probe.{Probe}
use Rattle.coco_base.specs.declared.unrolled.Unrolled.{Unrolled}
use Rattle.coco_model.specs.Findings.{Labels}
use Rattle.coco_model.specs.Goals.{variable_of}
use Rattle.coco_model.specs.Nodes.{IsNodeSelection}
use Rattle.coco_model.specs.Reach.{Reach}
use Rattle.coco_model.specs.UnrolledRuns.{index_of}
use Rattle.coco_model.specs.WrittenFindings.{IsFindingValue, set_of_nodes}
use Rattle.coco_model.proofs.Basics.{Contains-here, Contains-later, Contains-cases, Contains-none}
use Rattle.circuit_clauses.specs.Signals.{value}
use Rattle.circuit_clauses.specs.Laws.{ClausesLaw}
use Rattle.clause_builds.specs.Rows.{signal_at}
use Rattle.label_cone.specs.Coned.{Coned}
use Rattle.label_cone.proofs.SetLemmas.{has_of_member, member_of_has}
use Rattle.node_clauses.specs.Chosen.{chosen_numbers}
use Rattle.node_laws.specs.Laws.{SoundLaw, ReadsAsNumbers}
use Rattle.node_laws.specs.Readings.{weighed_sum}
use Rattle.node_laws.proofs.Handing.{placed}
use Rattle.probe_clauses.specs.RunViews.{RunView}
use Rattle.probe_clauses.specs.Probings.{probing_of}
use Rattle.probe_laws.specs.Laws.{SoundProbesLaw, IsProbing}
use Rattle.probe_laws.specs.Showing.{chosen}
use Rattle.probe_encode.specs.Formulas.{Encoding, formula, labels_of, nodes_of}
use Rattle.probe_encode.specs.Readings.{finding_of, true_moments}
use Rattle.probe_encode.specs.Sources.{encoding_of}
use Rattle.formula_laws.specs.Runs.{IsFormulaRun, seen_in}
use Rattle.formula_laws.specs.Probes.{ProbesLaw, AreProbesOf}
use Rattle.formula_laws.specs.Weighing.{WeightsLaw, WeighsPairs}
use Rattle.formula_laws.specs.Leaks.{GoalLaw, TellsSet}
use Rattle.formula_laws.specs.Labelled.{LabelsLaw, NodeConesLaw}
use Rattle.formula_laws.specs.Laws.{FindingLaw}
use Rattle.formula_laws.proofs.ReadMoments.{moments_listed}
use Rattle.formula_laws.proofs.Pieces.{MeetParts, meet_parts, labels_part, after_labels, probes_part, after_probes, weights_in, nodes_part, after_nodes, after_first, tables_in, formula_result}
use Rattle.formula_laws.proofs.Variables.{are_variables, totals_told}
use Rattle.formula_laws.proofs.Within.{labels_within}

-- the laws that the parts have
pub record PartLaws : Type 0 where
  pub clauses : ClausesLaw
  pub probes_sound : SoundProbesLaw
  pub nodes_sound : SoundLaw
  pub probes : ProbesLaw
  pub weights : WeightsLaw
  pub goal : GoalLaw
  pub labels : LabelsLaw
  pub cones : NodeConesLaw

pub is_probing : (view : RunView) (u : Unrolled) (coned : Coned) (reach : Reach) → IsFormulaRun view u coned reach → IsProbing (probing_of view)
is_probing view u coned reach run = record { order = run.source.least; window = run.lasting }

-- ---- what a model chooses

abbrev pub Enc : RunView → Unrolled → Coned → Encoding
Enc view u coned = encoding_of view u coned

abbrev pub probes_read : Encoding → (ℕ → Bool) → List Probe
probes_read e values = true_moments values 0 (probes_part e).result.probes

abbrev pub pairs_read : Encoding → (ℕ → Bool) → List Probe
pairs_read e values = true_moments values 0 (probes_part e).result.pairs

abbrev pub numbers_read : Encoding → (ℕ → Bool) → List ℕ
numbers_read e values = chosen_numbers values (nodes_part e).result.selections

-- the probes and pairs that values choose that meet the clauses about probes
pub probes_are : PartLaws → (view : RunView) (u : Unrolled) (coned : Coned) (reach : Reach) → IsFormulaRun view u coned reach
    → (values : ℕ → Bool) → MeetParts (Enc view u coned) values
    → AreProbesOf (seen_in view u reach) view.order (probes_read (Enc view u coned) values) (pairs_read (Enc view u coned) values)
unfolding ProbesLaw
probes_are laws view u coned reach run values meets =
    let e = Enc view u coned in
    let part = (probes_part e).result in
    (laws.probes view u coned reach run (chosen values part.probes) (chosen values part.pairs) (probes_read e values) (pairs_read e values)
    (moments_listed values part.probes) (moments_listed values part.pairs)).0
    (laws.probes_sound values (after_labels e) (probing_of view) (is_probing view u coned reach run) meets.probes)

pub weighs : PartLaws → (view : RunView) (u : Unrolled) (coned : Coned) (reach : Reach) → IsFormulaRun view u coned reach
    → WeighsPairs view u coned (after_labels (Enc view u coned))
unfolding WeightsLaw
weighs laws view u coned reach run = laws.weights view u coned reach run (after_labels (Enc view u coned))

pub numbers_are : PartLaws → (view : RunView) (u : Unrolled) (coned : Coned) (reach : Reach) → IsFormulaRun view u coned reach
    → (values : ℕ → Bool) → MeetParts (Enc view u coned) values
    → ReadsAsNumbers values (nodes_of (Enc view u coned)) (weights_in (Enc view u coned)) (nodes_part (Enc view u coned)).result
numbers_are laws view u coned reach run values meets =
    let e = Enc view u coned in
    laws.nodes_sound values (after_probes e) (nodes_of e) (weights_in e) (weighs laws view u coned reach run).weighed meets.nodes

-- the total of a label is whether the label is in the pairs' set
pub total_is : PartLaws → (view : RunView) (u : Unrolled) (coned : Coned) (reach : Reach) → IsFormulaRun view u coned reach
    → (values : ℕ → Bool) → MeetParts (Enc view u coned) values
    → (sets : ℕ → Labels) → IsNodeSelection u.nodes (numbers_read (Enc view u coned) values) sets
    → (l : ℕ) → Contains (labels_of (Enc view u coned)) l
    → value values (signal_at (nodes_part (Enc view u coned)).result.totals (variable_of (labels_of (Enc view u coned)) l))
    ≡ set_of_nodes (index_of u) sets (pairs_read (Enc view u coned) values) l
total_is laws view u coned reach run values meets sets selection l among =
    let e = Enc view u coned in
    (numbers_are laws view u coned reach run values meets).totals sets
    (subst (λ nodes. IsNodeSelection nodes (numbers_read e values) sets) (sym run.source.nodes) selection) l among
    ∙ ap (λ nodes. weighed_sum values (weights_in e) sets (length nodes) l) run.source.nodes
    ∙ (weighs laws view u coned reach run).sum values (pairs_read e values) (moments_listed values (probes_part e).result.pairs) sets l

-- the variables of the labels tell the pairs' set
pub tells : PartLaws → (view : RunView) (u : Unrolled) (coned : Coned) (reach : Reach) → IsFormulaRun view u coned reach
    → (values : ℕ → Bool) → MeetParts (Enc view u coned) values
    → (sets : ℕ → Labels) → IsNodeSelection u.nodes (numbers_read (Enc view u coned) values) sets
    → TellsSet values (labels_part (Enc view u coned)).result (labels_of (Enc view u coned))
    (set_of_nodes (index_of u) sets (pairs_read (Enc view u coned) values))
tells laws view u coned reach run values meets sets selection =
    let e = Enc view u coned in
    record {
      told = λ l among.
          (let place = placed (labels_of e) l among in
          let long = (are_variables (labels_of e) 0).as_long in
          totals_told values (labels_part e).result (nodes_part e).result.totals (after_nodes e) meets.sums (variable_of (labels_of e) l)
          (let w = place.within in omega arith)
          ∙ total_is laws view u coned reach run values meets sets selection l among);
      within = labels_within laws.labels laws.cones view u coned reach run (probes_read e values) (pairs_read e values)
          (probes_are laws view u coned reach run values meets) (numbers_read e values) sets selection;
    }

-- ---- the labels that are read

-- members of a list at which a test holds
pub filter_to : (p : ℕ → Bool) (xs : List ℕ) (x : ℕ) → Contains (filter p xs) x → Contains xs x × (p x ≡ true)
filter_to p [] x h = absurd (Contains-none x h)
filter_to p (y ∷ xs) x h = go (λ k. filter_to p xs x k) (cases_Bool (p y))
  where
    later : (Contains (filter p xs) x → Contains xs x × (p x ≡ true)) → Contains (filter p xs) x → Contains (y ∷ xs) x × (p x ≡ true)
    later rest k = let r = rest k in (Contains-later y x xs r.0, r.1)

    here : (Contains (filter p xs) x → Contains xs x × (p x ≡ true)) → p y ≡ true → (y ≡ x) ⊎ Contains (filter p xs) x → Contains (y ∷ xs) x × (p x ≡ true)
    here rest e (inl f) = (subst (Contains (y ∷ xs)) f (Contains-here y xs), subst (λ z. p z ≡ true) f e)
    here rest e (inr k) = later rest k

    go : (Contains (filter p xs) x → Contains xs x × (p x ≡ true)) → (p y ≡ true) ⊎ (p y ≡ false) → Contains (y ∷ xs) x × (p x ≡ true)
    go rest (inl e) = here rest e (Contains-cases y x (filter p xs) (subst (λ b. Contains (cond b (y ∷ filter p xs) (filter p xs)) x) e h))
    go rest (inr e) = later rest (subst (λ b. Contains (cond b (y ∷ filter p xs) (filter p xs)) x) e h)

filter_from : (p : ℕ → Bool) (xs : List ℕ) (x : ℕ) → Contains xs x → p x ≡ true → Contains (filter p xs) x
filter_from p [] x h e = absurd (Contains-none x h)
filter_from p (y ∷ xs) x h e = go (λ k. filter_from p xs x k e) (Contains-cases y x xs h)
  where
    whole : (b : Bool) → Contains (filter p xs) x → Contains (cond b (y ∷ filter p xs) (filter p xs)) x
    whole true k = Contains-later y x (filter p xs) k
    whole false k = k

    go : (Contains xs x → Contains (filter p xs) x) → (y ≡ x) ⊎ Contains xs x → Contains (cond (p y) (y ∷ filter p xs) (filter p xs)) x
    go rest (inl f) = subst (λ b. Contains (cond b (y ∷ filter p xs) (filter p xs)) x) (sym (subst (λ z. p z ≡ true) (sym f) e))
        (subst (λ z. Contains (y ∷ filter p xs) z) f (Contains-here y (filter p xs)))
    go rest (inr k) = whole (p y) (rest k)

filter_has : (p q : ℕ → Bool) (xs : List ℕ) → ((l : ℕ) → Contains xs l → p l ≡ q l) → ((l : ℕ) → q l ≡ true → Contains xs l)
    → (l : ℕ) → has (filter p xs) l ≡ q l
filter_has p q xs same within l = go (cases_Bool (q l)) (cases_Bool (has (filter p xs) l))
  where
    go : (q l ≡ true) ⊎ (q l ≡ false) → (has (filter p xs) l ≡ true) ⊎ (has (filter p xs) l ≡ false) → has (filter p xs) l ≡ q l
    go (inl e) other = has_of_member l (filter p xs) (filter_from p xs l (within l e) (same l (within l e) ∙ e)) ∙ sym e
    go (inr e) (inr f) = f ∙ sym e
    go (inr e) (inl f) =
        let r = filter_to p xs l (member_of_has l (filter p xs) f) in
        f ∙ (sym r.1 ∙ same l r.0)

pub finding_of_model : PartLaws → FindingLaw
unfolding FindingLaw GoalLaw LabelsLaw
finding_of_model laws view u coned reach run values model =
    subst (λ tables. IsFindingValue (seen_in view u reach) view.order (finding_of tables values)) (sym (formula_result (Enc view u coned)))
    (read (meet_parts (Enc view u coned) values ((laws.clauses values 0 (formula (Enc view u coned) 0).steps).0 model)))
  where
    read : MeetParts (Enc view u coned) values → IsFindingValue (seen_in view u reach) view.order (finding_of (tables_in (Enc view u coned)) values)
    read meets =
        let e = Enc view u coned in
        let are = probes_are laws view u coned reach run values meets in
        let chosen_are = numbers_are laws view u coned reach run values meets in
        let sets = chosen_are.numbers.sets in
        let selection = subst (λ nodes. IsNodeSelection nodes (numbers_read e values) sets) run.source.nodes chosen_are.numbers.selection in
        let told = tells laws view u coned reach run values meets sets selection in
        record {
          sets = sets;
          written = record {
            candidate = record {
              some = are.some;
              most = are.most;
              each = are.each;
              ascending = are.ascending;
              in_order = are.in_order;
              seen = are.seen;
              selection = selection;
            };
            leaks = (laws.goal values (after_first e) (labels_part e).result u.table (labels_of e) (set_of_nodes (index_of u) sets (pairs_read e values))
                run.source.unrolled_value.table (laws.labels view u coned reach run).ascending told).0 meets.goal;
          };
          set = filter_has (λ l. value values (signal_at (labels_part e).result (variable_of (labels_of e) l)))
              (set_of_nodes (index_of u) sets (pairs_read e values)) (labels_of e) told.told told.within;
        }
