-- Choices for the nodes of a list have sets.
use Rattle.std.proofs.Common.{◌≡◌, ℕ, zero, suc, ◌<◌, false, List, length, get_or, refl, sym, subst, arith}
use Rattle.std.proofs.lemmas.List.{get_or-take}
use Rattle.coco_base.specs.declared.unrolled.Node.{Node}
use Rattle.coco_base.specs.declared.unrolled.Node.TheVariants.{Nothing, Label, Copy, Gate}
use Rattle.coco_model.specs.Cells.{input_count, input_places, subset_of_number}
use Rattle.coco_model.specs.Findings.{Labels}
use Rattle.coco_model.specs.Nodes.{IsAllowedChoice, node_set}
use Rattle.label_cone.specs.NodeCones.{AreOrdered, ReadsEarlier}
use Rattle.label_cone.proofs.NodeLemmas.{place_of_input, part_of_input}
use Rattle.walsh_laws.proofs.Correlation.{chosen_set-cong}

module _ (nodes : List Node) (ordered : AreOrdered nodes) (number : ℕ → ℕ)
    (allowed : (i : ℕ) → i < length nodes → IsAllowedChoice (number i) (get_or nodes i Nothing)) where
  -- the set of a node is given by those of the nodes before it
  set_from_before : (f g : ℕ → Labels) (i : ℕ) → i < length nodes → ((j : ℕ) → j < i → (l : ℕ) → f j l ≡ g j l) → (l : ℕ)
      → node_set f (number i) (get_or nodes i Nothing) l ≡ node_set g (number i) (get_or nodes i Nothing) l
  set_from_before f g i below same l = go (get_or nodes i Nothing) (ordered i below) (allowed i below)
    where
      go : (node : Node) → ReadsEarlier i node → IsAllowedChoice (number i) node → node_set f (number i) node l ≡ node_set g (number i) node l
      go Nothing reads choice = refl
      go (Label k) reads choice = refl
      go (Copy j) reads choice = same j reads l
      go (Gate kind parts operands) reads choice =
          chosen_set-cong f g (subset_of_number (input_count kind) (number i)) (input_places kind operands) l (λ place h chosen. (
          let varies = choice.1.varies.varies place chosen in
          subst (λ o. f o l ≡ g o l) (sym (get_or-take (input_count kind) operands place 0 (place_of_input kind parts place varies)))
          (same (get_or operands place 0) (reads place (part_of_input kind parts place varies)) l)
          ))

  -- the set of a node, as deep as a number of nodes
  follow : ℕ → ℕ → Labels
  follow zero i l = false
  follow (suc n) i l = node_set (follow n) (number i) (get_or nodes i Nothing) l

  same_depth : (n m i : ℕ) → i < n → i < m → i < length nodes → (l : ℕ) → follow n i l ≡ follow m i l
  unfolding follow
  same_depth zero m i lt other below l = absurd (omega arith)
  same_depth (suc n) zero i lt other below l = absurd (omega arith)
  same_depth (suc n) (suc m) i lt other below l =
      set_from_before (follow n) (follow m) i below (λ j h k. same_depth n m j (omega arith) (omega arith) (omega arith) k) l

  pub sets_by : ℕ → Labels
  sets_by i l = follow (suc i) i l

  pub sets_follow : (i : ℕ) → i < length nodes → (l : ℕ) → sets_by i l ≡ node_set sets_by (number i) (get_or nodes i Nothing) l
  unfolding follow sets_by
  sets_follow i below l =
      set_from_before (follow i) (λ j. follow (suc j) j) i below (λ j h k. same_depth i (suc j) j h (omega arith) (omega arith) k) l
