-- Selections as values: numbers that choose for every node, and the sets that they give as lists.
use Rattle.std.specs.Prelude.{◌≡◌, ℕ, ◌^◌, ◌<◌, true, false, List, [], length, get_or}
use Rattle.coco_base.specs.LabelSets.{has}
use Rattle.coco_base.specs.declared.cell.Part.{Part}
use Rattle.coco_base.specs.declared.unrolled.Node.{Node}
use Rattle.coco_base.specs.declared.unrolled.Node.TheVariants.{Nothing, Label, Copy, Gate}
use Rattle.coco_model.specs.Cells.{input_places, subset_of_number, IsSubsetOf}
use Rattle.coco_model.specs.Findings.{Labels, chosen_set}
use Rattle.coco_model.specs.Nodes.{IsAllowedChoice, IsNodeSelection, node_set}

-- as many numbers as nodes, each a choice for its node
pub record AreAllowed (nodes : List Node) (numbers : List ℕ) : Type 0 where
  pub as_long : length numbers ≡ length nodes
  pub each : (i : ℕ) → i < length nodes → IsAllowedChoice (get_or numbers i 0) (get_or nodes i Nothing)

-- the labels of the set of each node
abbrev pub sets_in : List (List ℕ) → ℕ → Labels
sets_in sets i l = has (get_or sets i []) l

-- a set for each node, by the choices of a selection
pub record AreFollowed (nodes : List Node) (numbers : List ℕ) (sets : List (List ℕ)) : Type 0 where
  pub as_long : length sets ≡ length nodes
  pub selection : IsNodeSelection nodes numbers (sets_in sets)

-- a number is a set of places of parts, all of which vary
pub record IsChoiceOf (parts : List Part) (number : ℕ) : Type 0 where
  pub small : number < 2 ^ length parts
  pub varies : IsSubsetOf (subset_of_number (length parts) number) parts

-- the operands at the places of a number are below a bound
abbrev pub AreChosenBelow : List ℕ → ℕ → ℕ → Type 0
AreChosenBelow operands number bound =
    (j : ℕ) → get_or (subset_of_number (length operands) number) j false ≡ true → get_or operands j 0 < bound

-- a set is the symmetric difference of the sets of the operands at the places of a number
abbrev pub IsChosenSet : List (List ℕ) → List ℕ → ℕ → List ℕ → Type 0
IsChosenSet sets operands number set =
    (l : ℕ) → has set l ≡ chosen_set (sets_in sets) (subset_of_number (length operands) number) operands l

-- a set is that of a node by its choice, where the sets of the nodes before it are given
abbrev pub IsSetOf : List (List ℕ) → ℕ → Node → List ℕ → Type 0
IsSetOf sets number node set = (l : ℕ) → has set l ≡ node_set (sets_in sets) number node l

-- what a node reads by its choice are nodes below a bound
abbrev pub ReadsChosenBelow : ℕ → ℕ → Node → Type 0
ReadsChosenBelow bound number Nothing = Unit {0}
ReadsChosenBelow bound number (Label l) = Unit {0}
ReadsChosenBelow bound number (Copy j) = j < bound
ReadsChosenBelow bound number (Gate kind parts operands) = AreChosenBelow (input_places kind operands) number bound

-- the sets of the first nodes, by the choices of a selection
pub record AreFollowedTo (nodes : List Node) (numbers : List ℕ) (count : ℕ) (sets : List (List ℕ)) : Type 0 where
  pub as_long : length sets ≡ count
  pub each : (i : ℕ) → i < count → (l : ℕ)
      → sets_in sets i l ≡ node_set (sets_in sets) (get_or numbers i 0) (get_or nodes i Nothing) l
