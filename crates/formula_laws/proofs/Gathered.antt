-- The labels with variables are no more than the cones of the nodes that matter have in all.
use Rattle.std.proofs.Common.{◌≡◌, ℕ, zero, suc, ◌+◌, ◌<◌, ◌≤◌, ◌⊎◌, inl, inr, Bool, true, false, cond, List, [], ◌∷◌, ◌++◌, length, get_or, refl, sym, ◌∙◌, subst, arith}
use Rattle.std.specs.Prelude.{Contains}
use Rattle.std.proofs.lemmas.Bool.{cases_lt}
use Rattle.std.proofs.lemmas.List.{get_or_past, length-append}
use Rattle.std.proofs.lemmas.List.Elements.{Contains-append_left, Contains-append_right}
use Rattle.coco_base.specs.declared.unrolled.Node.{Node}
use Rattle.coco_base.specs.declared.unrolled.Node.TheVariants.{Nothing, Label}
use Rattle.coco_base.specs.declared.unrolled.Unrolled.{Unrolled}
use Rattle.coco_model.specs.Cones.{IsInCone}
use Rattle.coco_model.specs.Cones.IsInCone.{here, copied, through}
use Rattle.coco_model.specs.Labels.{label_count}
use Rattle.coco_model.specs.Matters.{mattering_weight}
use Rattle.coco_model.specs.Matters.Matters.{labelled}
use Rattle.coco_model.specs.Reach.{Reach}
use Rattle.coco_model.specs.UnrolledRuns.{node_at}
use Rattle.label_cone.specs.Coned.{Coned, mark_at}
use Rattle.label_cone.specs.NodeCones.{cone_at}
use Rattle.probe_clauses.specs.RunViews.{RunView}
use Rattle.probe_encode.proofs.GoalSizes.{filter_above}
use Rattle.probe_encode.specs.Formulas.{labels_of}
use Rattle.probe_encode.specs.Sources.{encoding_of}
use Rattle.formula_laws.specs.Labelled.{LabelsLaw}
use Rattle.formula_laws.specs.Runs.{IsFormulaRun}
use Rattle.formula_laws.proofs.Fewer.{few_in, above_once}

-- the cones of the nodes that matter, one after the other, from node i on
abbrev gathered : (ℕ → Bool) → (ℕ → List ℕ) → ℕ → List Node → List ℕ
gathered matters cones i [] = []
gathered matters cones i (n ∷ ns) = cond (matters i) (cones i) [] ++ gathered matters cones (suc i) ns

length-gathered : (matters : ℕ → Bool) (cones : ℕ → List ℕ) (i : ℕ) (ns : List Node)
    → length (gathered matters cones i ns) ≡ mattering_weight matters cones i ns
length-gathered matters cones i [] = refl
length-gathered matters cones i (n ∷ ns) =
    let e = length-append (cond (matters i) (cones i) []) (gathered matters cones (suc i) ns) in
    let rest = length-gathered matters cones (suc i) ns in
    let first = size (matters i) in
    omega (arith, e, rest, first)
  where
    size : (b : Bool) → length (cond b (cones i) []) ≡ cond b (length (cones i)) 0
    size true = refl
    size false = refl

in_gathered : (matters : ℕ → Bool) (cones : ℕ → List ℕ) (l i k : ℕ) (ns : List Node) → k < length ns → matters (i + k) ≡ true
    → Contains (cones (i + k)) l → Contains (gathered matters cones i ns) l
in_gathered matters cones l i k [] lt e h = absurd (omega (arith, lt))
in_gathered matters cones l i zero (n ∷ ns) lt e h =
    let z : i + 0 ≡ i = omega arith in
    let here_e : matters i ≡ true = subst (λ j. matters j ≡ true) z e in
    Contains-append_left (cond (matters i) (cones i) []) (gathered matters cones (suc i) ns) l
    (subst (λ b. Contains (cond b (cones i) []) l) (sym here_e) (subst (λ j. Contains (cones j) l) z h))
in_gathered matters cones l i (suc k) (n ∷ ns) lt e h =
    let z : i + suc k ≡ suc i + k = omega arith in
    Contains-append_right (cond (matters i) (cones i) []) (gathered matters cones (suc i) ns) l
    (in_gathered matters cones l (suc i) k ns (omega (arith, lt)) (subst (λ j. matters j ≡ true) z e) (subst (λ j. Contains (cones j) l) z h))

-- the label in a cone is that of some node
record IsLabelled (nodes : ℕ → Node) (l : ℕ) : Type 0 where
  number : ℕ
  is : nodes number ≡ Label l

labelled_in : (nodes : ℕ → Node) (l i : ℕ) → IsInCone nodes l i → IsLabelled nodes l
labelled_in nodes l i (here i' e) = record { number = i; is = e }
labelled_in nodes l i (copied i' j e rest) = labelled_in nodes l j rest
labelled_in nodes l i (through i' kind parts operands place e live rest) = labelled_in nodes l (get_or operands place 0) rest

number_inside : (nodes : List Node) (i l : ℕ) → get_or nodes i Nothing ≡ Label l → i < length nodes
number_inside nodes i l e = go (cases_lt i (length nodes))
  where
    go : (i < length nodes) ⊎ (length nodes ≤ i) → i < length nodes
    go (inl lt) = lt
    go (inr ge) = absurd (let w : Nothing ≡ Label l = sym (get_or_past nodes i Nothing ge) ∙ e in cc)

-- the weight of the nodes that matter
abbrev pub weight_of : Unrolled → Coned → ℕ
weight_of u coned = mattering_weight (mark_at coned.matters) (cone_at coned.cones) 0 u.nodes

pub few_labels : LabelsLaw → (view : RunView) (u : Unrolled) (coned : Coned) (reach : Reach) → IsFormulaRun view u coned reach
    → length (labels_of (encoding_of view u coned)) ≤ weight_of u coned
unfolding LabelsLaw
few_labels law view u coned reach run =
    let all = law view u coned reach run in
    let labels = labels_of (encoding_of view u coned) in
    let cones = gathered (mark_at coned.matters) (cone_at coned.cones) 0 u.nodes in
    let e : length cones ≡ weight_of u coned = length-gathered (mark_at coned.matters) (cone_at coned.cones) 0 u.nodes in
    let few : length labels ≤ length cones = few_in labels cones (above_once 0 labels (filter_above _ 0 (label_count u.table u.cycles)))
    (λ l h. listed l (labelled_in (node_at u) l _ ((all.members l).0 h).member)) in
    omega (arith, e, few)
  where
    listed : (l : ℕ) → IsLabelled (node_at u) l → Contains (gathered (mark_at coned.matters) (cone_at coned.cones) 0 u.nodes) l
    listed l at =
        let lt = number_inside u.nodes at.number l at.is in
        let c = run.source.coned_run in
        let z : at.number ≡ 0 + at.number = omega arith in
        in_gathered (mark_at coned.matters) (cone_at coned.cones) l 0 at.number u.nodes lt
        (subst (λ j. mark_at coned.matters j ≡ true) z ((c.matters.each at.number lt).1 (labelled at.number l at.is)))
        (subst (λ j. Contains (cone_at coned.cones j) l) z ((c.cones.members at.number lt l).1 (here at.number at.is)))
