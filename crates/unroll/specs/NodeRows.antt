-- Rows of nodes and of roots, as lists.
use Rattle.std.specs.Prelude.{◌≡◌, ℕ, List, length, get_or}
use Rattle.coco_base.specs.declared.netlist.Wire.{Wire}
use Rattle.coco_base.specs.declared.unrolled.Node.{Node}
use Rattle.coco_base.specs.declared.unrolled.Node.TheVariants.{Nothing, Label, Copy, Gate}
use Rattle.coco_model.specs.Known.{Row}
use Rattle.coco_model.specs.Netlist.{on_wire}
use Rattle.coco_model.specs.Nodes.{copy_of}
use Rattle.coco_model.specs.Roots.{Root}
use Rattle.coco_model.specs.Roots.Root.{nothing, label, output}
use Rattle.unroll.specs.declared.origin.Origin.{Origin}
use Rattle.unroll.specs.declared.origin.Origin.TheVariants.{Nothing as NoOrigin, Label as LabelOrigin, Output}

abbrev pub NodeRow : Type 0
NodeRow = ℕ → Node

-- the nodes that a list tells; behind its end is nothing
abbrev pub nodes_of : List Node → NodeRow
nodes_of nodes b = get_or nodes b Nothing

-- the node of what a wire has; a constant is nothing
abbrev pub wire_node : NodeRow → Wire → Node
wire_node nodes w = on_wire (λ b. Nothing) nodes w

-- copies of the nodes of all unknown bits of a cycle
abbrev pub copies : (ℕ → ℕ) → Row → NodeRow
copies index row b = copy_of (row b) (index b)

-- a gate has four places
abbrev pub HasFourPlaces : Node → Type 0
HasFourPlaces Nothing = Unit {0}
HasFourPlaces (Label l) = Unit {0}
HasFourPlaces (Copy j) = Unit {0}
HasFourPlaces (Gate kind parts operands) = (length parts ≡ 4) × (length operands ≡ 4)

-- the root that an origin is
abbrev pub root_of : Origin → Root
root_of NoOrigin = nothing
root_of (LabelOrigin l) = label l
root_of (Output cycle bit) = output cycle bit

-- the roots that a list tells; behind its end is nothing
abbrev pub roots_of : List Origin → ℕ → Root
roots_of origins b = root_of (get_or origins b NoOrigin)

-- the root of a leaf by its node, where the roots of earlier nodes are told
abbrev pub leaf_root : (ℕ → Root) → Node → Root
leaf_root roots Nothing = nothing
leaf_root roots (Label l) = label l
leaf_root roots (Copy j) = roots j
leaf_root roots (Gate kind parts operands) = nothing
