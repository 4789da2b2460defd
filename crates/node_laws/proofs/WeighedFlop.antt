-- The small run is one of which the laws speak.
use Rattle.std.proofs.Common.{◌≡◌, ℕ, zero, suc, ◌<◌, true, [], ◌∷◌, length, get_or, refl, arith, ◌↔◌}
use Rattle.std.specs.List.Sorted.{IsStrictlyIncreasing}
use Rattle.coco_base.specs.declared.cell.Kind.TheVariants.{And}
use Rattle.coco_base.specs.declared.cell.Part.TheVariants.{Zero, Vary}
use Rattle.coco_base.specs.declared.unrolled.Node.{Node}
use Rattle.coco_base.specs.declared.unrolled.Node.TheVariants.{Nothing, Copy}
use Rattle.coco_model.specs.Matters.{Matters, AreMattering}
use Rattle.label_cone.specs.Coned.{mark_at}
use Rattle.label_cone.specs.NodeCones.{AreOrdered, AreEarlier}
use Rattle.node_laws.specs.Laws.{IsWeighed}
use Rattle.node_laws.specs.Readings.{AreWhole, AreOfLeaves}
use Rattle.node_laws.specs.Examples.{and_run, flop_weights}

no_copy : (nodes : ℕ → Node) (i j : ℕ) → Matters nodes i → nodes i ≡ Copy j → ⊥
no_copy nodes i j (Matters.labelled n l e) f = cc
no_copy nodes i j (Matters.copied n k kind parts operands e g) f = cc
no_copy nodes i j (Matters.read n k place kind other parts others operands reads e g m v r) f = cc

earlier : AreEarlier (Vary ∷ Vary ∷ Zero ∷ Zero ∷ []) (0 ∷ 1 ∷ 0 ∷ 0 ∷ []) 2
earlier zero e = omega arith
earlier (suc zero) e = omega arith
earlier (suc (suc zero)) e = omega arith
earlier (suc (suc (suc zero))) e = omega arith
earlier (suc (suc (suc (suc place)))) e = omega arith

ordered : AreOrdered and_run.nodes
ordered zero lt = tt
ordered (suc zero) lt = tt
ordered (suc (suc zero)) lt = earlier
ordered (suc (suc (suc zero))) lt = let e : 2 < 3 = omega arith in e
ordered (suc (suc (suc (suc i)))) lt = absurd (omega arith)

mattering : AreMattering and_run.nodes (mark_at and_run.matters)
mattering = record { each = each }
  where
    each : (i : ℕ) → i < 4 → (mark_at and_run.matters i ≡ true) ↔ Matters (λ j. get_or and_run.nodes j Nothing) i
    each zero lt = (λ e. Matters.labelled 0 0 refl, λ m. refl)
    each (suc zero) lt = (λ e. Matters.labelled 1 1 refl, λ m. refl)
    each (suc (suc zero)) lt =
        (λ e. Matters.copied 2 3 And (Vary ∷ Vary ∷ Zero ∷ Zero ∷ []) (0 ∷ 1 ∷ 0 ∷ 0 ∷ []) refl refl, λ m. refl)
    each (suc (suc (suc zero))) lt = (λ e. absurd cc, λ m. absurd (no_copy (λ j. get_or and_run.nodes j Nothing) 3 2 m refl))
    each (suc (suc (suc (suc i)))) lt = absurd (omega arith)

whole : AreWhole and_run.nodes
whole zero kind parts operands e = absurd cc
whole (suc zero) kind parts operands e = absurd cc
whole (suc (suc zero)) kind parts operands e = let f : length parts ≡ 4 = cc in let g : length operands ≡ 4 = cc in (f, g)
whole (suc (suc (suc zero))) kind parts operands e = absurd cc
whole (suc (suc (suc (suc i)))) kind parts operands e = absurd cc

leaves : AreOfLeaves and_run.nodes flop_weights
leaves zero kind parts operands e = refl
leaves (suc zero) kind parts operands e = refl
leaves (suc (suc zero)) kind parts operands e = refl
leaves (suc (suc (suc zero))) kind parts operands e = absurd cc
leaves (suc (suc (suc (suc i)))) kind parts operands e = refl

ascending : IsStrictlyIncreasing and_run.labels
ascending zero lt = let e : 0 < 1 = omega arith in e
ascending (suc k) lt = absurd (omega arith)

pub weighed_flop : IsWeighed and_run flop_weights
weighed_flop = record {
  nodes = record { few = omega arith; ordered = ordered; marks = refl; labels = ascending };
  gates = whole;
  matters = mattering;
  as_long = refl;
  leaves = leaves;
}
