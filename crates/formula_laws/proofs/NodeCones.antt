-- The sets of a selection of nodes lie in the nodes' cones.
use Rattle.std.proofs.Common.{◌≡◌, ℕ, zero, suc, ◌<◌, true, List, length, get_or, refl, sym, ◌∙◌, ap, subst, arith}
use Rattle.std.proofs.lemmas.Bool.{false≢true, eqb-true}
use Rattle.std.proofs.lemmas.List.{get_or-take}
use Rattle.coco_base.specs.declared.cell.Part.TheVariants.{Zero, Vary}
use Rattle.coco_base.specs.declared.unrolled.Node.{Node}
use Rattle.coco_base.specs.declared.unrolled.Node.TheVariants.{Nothing, Label, Copy, Gate}
use Rattle.coco_base.specs.declared.unrolled.Unrolled.{Unrolled}
use Rattle.coco_model.specs.Cells.{input_count, input_places, output_of, subset_of_number, IsLiveInput}
use Rattle.coco_model.specs.Cones.{IsInCone}
use Rattle.coco_model.specs.Cones.IsInCone.{here, copied, through}
use Rattle.coco_model.specs.Findings.{Labels}
use Rattle.coco_model.specs.Nodes.{IsAllowedChoice, IsNodeSelection, node_set}
use Rattle.coco_model.specs.UnrolledRuns.{IsGoodNode, IsUnrolledValue, node_at}
use Rattle.coco_model.proofs.LivePlaces.{live_input}
use Rattle.cell_table.proofs.LawLemmas.{sum_lives}
use Rattle.label_cone.proofs.NodeLemmas.{place_of_input, part_of_input}
use Rattle.walsh_laws.proofs.RootCones.{chosen_place}
use Rattle.formula_laws.specs.Labelled.{NodeConesLaw}

module _ (u : Unrolled) (sets : ℕ → Labels) (l : ℕ) where
  -- the cone of a node, by those of the nodes before it
  at_node : (i number : ℕ) (node : Node) → node_at u i ≡ node → IsGoodNode u i node → IsAllowedChoice number node
      → node_set sets number node l ≡ true → ((j : ℕ) → j < i → sets j l ≡ true → IsInCone (node_at u) l j) → IsInCone (node_at u) l i
  at_node i number Nothing is good choice has cones = absurd (false≢true has)
  at_node i number (Label k) is good choice has cones = here i (is ∙ ap Label (eqb-true k l has))
  at_node i number (Copy j) is good choice has cones = copied i j is (cones j good.0 has)
  at_node i number (Gate kind parts operands) is good choice has cones =
      let subset = subset_of_number (input_count kind) number in
      let p = chosen_place sets subset (input_places kind operands) l has in
      let varies : get_or (input_places kind parts) p.place Zero ≡ Vary = choice.1.varies.varies p.place p.chosen in
      let operand : get_or operands p.place 0 ≡ p.item =
      sym (get_or-take (input_count kind) operands p.place 0 (place_of_input kind parts p.place varies)) ∙ p.at 0 in
      let earlier : p.item < i = subst (λ j. j < i) operand (good.earlier p.place (part_of_input kind parts p.place varies)) in
      let live : IsLiveInput kind (input_places kind parts) p.place = live_input kind (input_places kind parts) p.place
      (sum_lives (output_of kind) subset (input_places kind parts) choice.1.varies choice.1.signed p.place p.chosen) in
      through i kind parts operands p.place is live (subst (IsInCone (node_at u) l) (sym operand) (cones p.item earlier p.has))

  below : IsUnrolledValue u → (numbers : List ℕ) → IsNodeSelection u.nodes numbers sets → (bound i : ℕ) → i < bound → i < length u.nodes
      → sets i l ≡ true → IsInCone (node_at u) l i
  below good numbers selection zero i lt inside has = absurd (omega arith)
  below good numbers selection (suc bound) i lt inside has =
      at_node i (get_or numbers i 0) (node_at u i) refl (good.nodes i inside) (selection.allowed i inside)
      (sym (selection.follows i inside l) ∙ has)
      (λ j earlier. below good numbers selection bound j (omega arith) (omega arith))

pub node_cones : NodeConesLaw
unfolding NodeConesLaw
node_cones u good numbers sets selection i l inside has =
    below u sets l good numbers selection (suc i) i (omega arith) inside has
