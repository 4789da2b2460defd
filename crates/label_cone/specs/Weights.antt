-- Sums of the sizes of cones, node by node.
use Rattle.std.specs.Prelude.{◌≡◌, ℕ, ◌+◌, ◌<◌, ◌≤◌, Bool, true, false, List, length, take}
use Rattle.coco_base.specs.declared.unrolled.Node.{Node}
use Rattle.coco_base.specs.declared.unrolled.Node.TheVariants.{Nothing, Label, Copy, Gate}
use Rattle.coco_model.specs.Cones.{cone_weight}
use Rattle.coco_model.specs.Matters.{mattering_weight}

-- a node whose cone counts: a label or a gate
abbrev pub weighs : Node → Bool
weighs Nothing = false
weighs (Label l) = true
weighs (Copy j) = false
weighs (Gate kind parts operands) = true

-- the first sum above a limit, where the cone sizes of nodes are added to a base in order
pub record IsFirstAbove (base : ℕ) (nodes : List Node) (cones : ℕ → List ℕ) (limit sum : ℕ) : Type 0 where
  pub added : ℕ
  pub within : added ≤ length nodes
  pub is : sum ≡ base + cone_weight cones 0 (take added nodes)
  pub above : limit < sum
  pub least : (fewer : ℕ) → fewer < added → base + cone_weight cones 0 (take fewer nodes) ≤ limit

-- the weight and the need of the first nodes, no sum above the limit
pub record AreSumsTo (base : ℕ) (nodes : List Node) (matters : ℕ → Bool) (cones : ℕ → List ℕ) (limit count sum need : ℕ) : Type 0 where
  pub sum_is : sum ≡ base + cone_weight cones 0 (take count nodes)
  pub need_is : need ≡ base + mattering_weight matters cones 0 (take count nodes)
  pub smaller : need ≤ sum
  pub within : (fewer : ℕ) → fewer ≤ count → base + cone_weight cones 0 (take fewer nodes) ≤ limit
