-- Marks of the nodes that matter, as far as they are settled.
use Rattle.std.specs.Prelude.{◌≡◌, ℕ, ◌<◌, ◌≤◌, true, ◌↔◌, ◌⊎◌, Bool, List, length, get_or}
use Rattle.coco_base.specs.declared.cell.Kind.{Kind}
use Rattle.coco_base.specs.declared.cell.Part.{Part}
use Rattle.coco_base.specs.declared.cell.Part.TheVariants.{Zero, Vary}
use Rattle.coco_base.specs.declared.unrolled.Node.{Node}
use Rattle.coco_base.specs.declared.unrolled.Node.TheVariants.{Copy, Gate}
use Rattle.coco_model.specs.Cells.{input_places}
use Rattle.coco_model.specs.Matters.{Matters}
use Rattle.label_cone.specs.Coned.{mark_at}
use Rattle.label_cone.specs.NodeCones.{node_in}

-- a gate reads an input that varies
abbrev pub ReadsPlace : Kind → List Part → ℕ → Type 0
ReadsPlace kind parts place = get_or (input_places kind parts) place Zero ≡ Vary

-- a node makes another matter, if that is a gate: it is a copy of it, or a gate that matters and reads it
pub data MakesMatter (nodes : List Node) (reader k : ℕ) : Type 0 where
  copies : node_in nodes reader ≡ Copy k → MakesMatter nodes reader k
  reads : (kind : Kind) (parts : List Part) (operands : List ℕ) (place : ℕ)
      → node_in nodes reader ≡ Gate kind parts operands → Matters (node_in nodes) reader → ReadsPlace kind parts place
      → get_or operands place 0 ≡ k → MakesMatter nodes reader k

-- some node from a place on makes a node matter
pub record IsMade (nodes : List Node) (from k : ℕ) : Type 0 where
  pub reader : ℕ
  pub later : from ≤ reader
  pub inside : reader < length nodes
  pub makes : MakesMatter nodes reader k

-- from a place on each node's mark says whether it matters; before it, whether a node from the place on makes it matter
pub record AreMarksTo (nodes : List Node) (place : ℕ) (marks : List Bool) : Type 0 where
  pub as_long : length marks ≡ length nodes
  pub settled : (k : ℕ) → place ≤ k → k < length nodes → (mark_at marks k ≡ true) ↔ Matters (node_in nodes) k
  pub pending : (k : ℕ) → k < place → (mark_at marks k ≡ true) ↔ IsMade nodes place k

-- an input of a gate that varies has node k, its place below a bound
pub record ReadsBelow (kind : Kind) (parts : List Part) (operands : List ℕ) (below k : ℕ) : Type 0 where
  pub place : ℕ
  pub within : place < below
  pub reads : ReadsPlace kind parts place
  pub is : get_or operands place 0 ≡ k

-- the marks of before, and those of the operands of a gate at its inputs that vary whose places are below a bound
pub record AreMarkedTo (kind : Kind) (parts : List Part) (operands : List ℕ) (below : ℕ) (old new : List Bool) : Type 0 where
  pub as_long : length new ≡ length old
  pub each : (k : ℕ) → (mark_at new k ≡ true) ↔ ((mark_at old k ≡ true) ⊎ ReadsBelow kind parts operands below k)
