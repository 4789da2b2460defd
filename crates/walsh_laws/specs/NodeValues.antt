-- The values of the nodes of an unrolled run, over all choices of label bits.
use Rattle.std.specs.Prelude.{◌≡◌, ℕ, ◌<◌, Bool, true, false, List, [], ◌∷◌, length, get_or}
use Rattle.coco_base.specs.declared.cell.Kind.{Kind}
use Rattle.coco_base.specs.declared.cell.Part.{Part}
use Rattle.coco_base.specs.declared.cell.Part.TheVariants.{Zero, One, Vary}
use Rattle.coco_base.specs.declared.unrolled.Node.{Node}
use Rattle.coco_base.specs.declared.unrolled.Node.TheVariants.{Nothing, Label, Copy, Gate}
use Rattle.coco_model.specs.Cells.{output_of, input_places}
use Rattle.coco_model.specs.Labels.{Choice, label_bit}

-- the value at an input of a gate: what is known of it, and else that of its operand
abbrev pub input_value : (ℕ → Bool) → Part → ℕ → Bool
input_value value Zero operand = false
input_value value One operand = true
input_value value Vary operand = value operand

abbrev pub input_values : (ℕ → Bool) → List Part → List ℕ → List Bool
input_values value [] operands = []
input_values value (p ∷ ps) [] = []
input_values value (p ∷ ps) (o ∷ os) = input_value value p o ∷ input_values value ps os

-- the operands at unknown inputs are nodes before node i
pub record AreOperandsBefore (i : ℕ) (ps : List Part) (os : List ℕ) : Type 0 where
  pub as_long : length os ≡ length ps
  pub before : (place : ℕ) → get_or ps place Zero ≡ Vary → get_or os place 0 < i

-- a gate node has the output of its kind for the values at its inputs
pub record IsGateValue (labels : ℕ) (value : Choice → ℕ → Bool) (i : ℕ) (kind : Kind) (parts : List Part)
    (operands : List ℕ) : Type 0 where
  pub earlier : AreOperandsBefore i (input_places kind parts) (input_places kind operands)
  pub output : (choice : Choice) → length choice ≡ labels
      → value choice i ≡ output_of kind (input_values (value choice) (input_places kind parts) (input_places kind operands))

-- the value of node i under every choice of n label bits: nothing has one value, a label its bit, a copy the
-- value of an earlier node, and a gate its output for its inputs
abbrev pub IsNodeValue : ℕ → (Choice → ℕ → Bool) → ℕ → Node → Type 0
IsNodeValue labels value i Nothing = (b : Bool) × ((choice : Choice) → length choice ≡ labels → value choice i ≡ b)
IsNodeValue labels value i (Label k) = (k < labels)
    × ((choice : Choice) → length choice ≡ labels → value choice i ≡ label_bit choice k)
IsNodeValue labels value i (Copy j) = (j < i)
    × ((choice : Choice) → length choice ≡ labels → value choice i ≡ value choice j)
IsNodeValue labels value i (Gate kind parts operands) = IsGateValue labels value i kind parts operands

-- values of the first n nodes
pub record AreNodeValues (n : ℕ) (nodes : ℕ → Node) (labels : ℕ) (value : Choice → ℕ → Bool) : Type 0 where
  pub each : (i : ℕ) → i < n → IsNodeValue labels value i (nodes i)
