-- Cones: all labels that the sets of a root, a node or a probe can have, and perhaps more; the weight of a run, and
-- whether it is covered.
use Rattle.std.specs.Prelude.{◌≡◌, ℕ, suc, ◌+◌, ◌*◌, ◌<◌, ◌≤◌, false, List, [], ◌∷◌, length, take, get_or, Contains, ◌↔◌}
use Rattle.std.specs.List.Sorted.{IsStrictlyIncreasing}
use Rattle.coco_base.specs.declared.netlist.Flat.{Flat}
use Rattle.coco_base.specs.declared.netlist.FlatCell.{FlatCell}
use Rattle.coco_base.specs.declared.netlist.Wire.TheVariants.{Const, Bit}
use Rattle.coco_base.specs.declared.cell.Kind.{Kind}
use Rattle.coco_base.specs.declared.cell.Part.{Part}
use Rattle.coco_base.specs.declared.setup.Setup.{Setup}
use Rattle.coco_base.specs.declared.unrolled.Node.{Node}
use Rattle.coco_base.specs.declared.unrolled.Node.TheVariants.{Nothing, Label, Copy, Gate}
use Rattle.coco_base.specs.declared.finding.Probe.{Probe}
use Rattle.coco_model.specs.Cells.{input_places, IsLiveInput}
use Rattle.coco_model.specs.Netlist.{wires_of}
use Rattle.coco_model.specs.Labels.{secret_labels}
use Rattle.coco_model.specs.Known.{Row, cell_parts}
use Rattle.coco_model.specs.Reach.{Reach}
use Rattle.coco_model.specs.Secure.{IsProbe, lasting}
use Rattle.coco_model.specs.Roots.{Root}
use Rattle.coco_model.specs.Roots.Root.{label, output}
use Rattle.coco_model.specs.Findings.{Shows}

-- a label is in the cone of a root: the root is the label, or a cell's output and the label is in the cone of the root
-- of an unknown input that is live where the known inputs are fixed
pub data IsInRootCone (flat : Flat) (row : ℕ → Row) (root : ℕ → ℕ → Root) (l : ℕ) : Root → Type 0 where
  here : (r : Root) → r ≡ label l → IsInRootCone flat row root l r
  through : (r : Root) (t : ℕ) (cell : FlatCell) (place from : ℕ) → Contains flat.cells cell → r ≡ output t cell.output
      → IsLiveInput cell.kind (cell_parts (row t) cell) place → get_or (wires_of cell) place (Const false) ≡ Bit from
      → IsInRootCone flat row root l (root t from) → IsInRootCone flat row root l r

-- a label is in the cone of a node: the node is the label, a copy of one with the label in its cone, or a gate with a
-- live operand of which that holds
pub data IsInCone (nodes : ℕ → Node) (l : ℕ) : ℕ → Type 0 where
  here : (i : ℕ) → nodes i ≡ Label l → IsInCone nodes l i
  copied : (i j : ℕ) → nodes i ≡ Copy j → IsInCone nodes l j → IsInCone nodes l i
  through : (i : ℕ) (kind : Kind) (parts : List Part) (operands : List ℕ) (place : ℕ)
      → nodes i ≡ Gate kind parts operands
      → IsLiveInput kind (input_places kind parts) place → IsInCone nodes l (get_or operands place 0)
      → IsInCone nodes l i

-- the cone of each node, as an ascending list
pub record AreCones (nodes : List Node) (cones : ℕ → List ℕ) : Type 0 where
  pub ascending : (i : ℕ) → i < length nodes → IsStrictlyIncreasing (cones i)
  pub members : (i : ℕ) → i < length nodes → (l : ℕ) → Contains (cones i) l ↔ IsInCone (λ j. get_or nodes j Nothing) l i

-- what a node adds to the weight: the size of its cone, for labels and gates
abbrev pub node_weight : Node → List ℕ → ℕ
node_weight Nothing cone = 0
node_weight (Label k) cone = length cone
node_weight (Copy j) cone = 0
node_weight (Gate kind parts operands) cone = length cone

-- the sum of what nodes add, from node i on
abbrev pub cone_weight : (ℕ → List ℕ) → ℕ → List Node → ℕ
cone_weight cones i [] = 0
cone_weight cones i (n ∷ ns) = node_weight n (cones i) + cone_weight cones (suc i) ns

-- the weight of a run: bits times cycles times one more than the order, and the cone sizes of all labels and gates
abbrev pub run_weight : ℕ → ℕ → ℕ → List Node → (ℕ → List ℕ) → ℕ
run_weight bits cycles order nodes cones = bits * cycles * (order + 1) + cone_weight cones 0 nodes

-- the first sum above a limit, where the cone sizes of the nodes are added in order: that up to a node, each sum before
-- it being within the limit
pub record IsFirstSumAbove (bits cycles order : ℕ) (nodes : List Node) (cones : ℕ → List ℕ)
    (limit sum : ℕ) : Type 0 where
  pub added : ℕ
  pub within : added ≤ length nodes
  pub is : sum ≡ run_weight bits cycles order (take added nodes) cones
  pub above : limit < sum
  pub least : (fewer : ℕ) → fewer < added → run_weight bits cycles order (take fewer nodes) cones ≤ limit

-- a label is in the cone of a probe: in that of the root of a leaf in a cycle that the probe shows over its window
pub record IsInProbeCone (flat : Flat) (cycles window : ℕ) (row : ℕ → Row) (reach : Reach) (root : ℕ → ℕ → Root)
    (probe : Probe) (l : ℕ) : Type 0 where
  pub moment : Probe
  pub lasts : Contains (lasting cycles window probe) moment
  pub leaf : ℕ
  pub cycle : ℕ
  pub shows : Shows reach moment leaf cycle
  pub member : IsInRootCone flat row root l (root cycle leaf)

-- a run is covered: the cones of all its probes together hold all shares of some secret bit
pub record IsCovered (flat : Flat) (setup : Setup) (cycles window : ℕ) (row : ℕ → Row) (reach : Reach)
    (root : ℕ → ℕ → Root) : Type 0 where
  pub shares : List ℕ
  pub secret : Contains (secret_labels setup.table.secrets) shares
  pub each : (l : ℕ) → Contains shares l
      → (probe : Probe) × IsProbe flat.bits setup.clock cycles probe
      × IsInProbeCone flat cycles window row reach root probe l
