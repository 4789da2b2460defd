-- The cone of a node from those of the nodes before it, and runs whose nodes read earlier ones.
use Rattle.std.specs.Prelude.{◌≡◌, ℕ, ◌+◌, ◌*◌, ◌^◌, ◌<◌, ◌≤◌, true, ◌↔◌, List, [], ◌∷◌, ◌++◌, map, length, get_or}
use Rattle.std.specs.List.Sorted.{IsStrictlyIncreasing}
use Rattle.coco_base.specs.LabelSets.{has}
use Rattle.coco_base.specs.declared.cell.Kind.{Kind}
use Rattle.coco_base.specs.declared.cell.Part.{Part}
use Rattle.coco_base.specs.declared.cell.Part.TheVariants.{Zero, Vary}
use Rattle.coco_base.specs.declared.unrolled.Node.{Node}
use Rattle.coco_base.specs.declared.unrolled.Unrolled.{Unrolled}
use Rattle.coco_base.specs.declared.unrolled.Node.TheVariants.{Nothing, Label, Copy, Gate}
use Rattle.coco_model.specs.Cells.{input_places, IsLiveInput}
use Rattle.coco_model.specs.Cones.{IsInCone}

-- the cones that a list of sets and, for each node, the place of its set tell
abbrev pub cones_in : List (List ℕ) → List ℕ → List (List ℕ)
cones_in sets places = map (λ p. get_or sets p []) places

-- the cone of the node of a number
abbrev pub cone_at : List (List ℕ) → ℕ → List ℕ
cone_at cones i = get_or cones i []

-- a live operand of a gate whose place is below a bound has a label in its cone
pub record HasLiveOperand (cones : List (List ℕ)) (kind : Kind) (parts : List Part) (operands : List ℕ) (l below : ℕ) : Type 0 where
  pub place : ℕ
  pub within : place < below
  pub live : IsLiveInput kind (input_places kind parts) place
  pub member : has (cone_at cones (get_or operands place 0)) l ≡ true

-- a set has the labels of a gate's live operands whose places are below a bound
abbrev pub HasLiveLabels : List (List ℕ) → Kind → List Part → List ℕ → ℕ → List ℕ → Type 0
HasLiveLabels cones kind parts operands below set =
    (l : ℕ) → (has set l ≡ true) ↔ HasLiveOperand cones kind parts operands l below

-- a set is the cone of a node, where the cones of the nodes before it are given
abbrev pub IsNodeCone : List (List ℕ) → Node → List ℕ → Type 0
IsNodeCone cones Nothing set = set ≡ []
IsNodeCone cones (Label l) set = set ≡ l ∷ []
IsNodeCone cones (Copy j) set = set ≡ cone_at cones j
IsNodeCone cones (Gate kind parts operands) set = HasLiveLabels cones kind parts operands 4 set

-- the operands at inputs that vary are below a number
abbrev pub AreEarlier : List Part → List ℕ → ℕ → Type 0
AreEarlier parts operands i = (place : ℕ) → get_or parts place Zero ≡ Vary → get_or operands place 0 < i

-- what a node reads are earlier nodes
abbrev pub ReadsEarlier : ℕ → Node → Type 0
ReadsEarlier i Nothing = Unit {0}
ReadsEarlier i (Label l) = Unit {0}
ReadsEarlier i (Copy j) = j < i
ReadsEarlier i (Gate kind parts operands) = AreEarlier parts operands i

abbrev pub AreOrdered : List Node → Type 0
AreOrdered nodes = (i : ℕ) → i < length nodes → ReadsEarlier i (get_or nodes i Nothing)

-- the nodes of a run: as many as bits in cycles, few enough to be numbered, and each reads earlier ones
pub record IsOrderedRun (u : Unrolled) : Type 0 where
  pub as_long : length u.nodes ≡ u.bits * u.cycles
  pub few : length u.nodes < 2 ^ 32
  pub ordered : AreOrdered u.nodes

-- the node of a number
abbrev pub node_in : List Node → ℕ → Node
node_in nodes i = get_or nodes i Nothing

-- the cones of the first nodes
pub record AreConesTo (nodes : List Node) (count : ℕ) (cones : List (List ℕ)) : Type 0 where
  pub as_long : length cones ≡ count
  pub members : (i : ℕ) → i < count → (l : ℕ) → (has (cone_at cones i) l ≡ true) ↔ IsInCone (node_in nodes) l i

-- the places of sets are in range, the first set is empty, and each set ascends
pub record AreSets (sets : List (List ℕ)) (places : List ℕ) : Type 0 where
  pub empty : cone_at sets 0 ≡ []
  pub some : 0 < length sets
  pub few : length sets ≤ length places + 1
  pub within : (i : ℕ) → i < length places → get_or places i 0 < length sets
  pub ascending : (p : ℕ) → p < length sets → IsStrictlyIncreasing (cone_at sets p)

-- one cone more
pub record AddsCone (node : Node) (old new : List (List ℕ)) : Type 0 where
  pub cone : List ℕ
  pub added : new ≡ old ++ cone ∷ []
  pub is_cone : IsNodeCone old node cone
