-- The law of written findings, as facts that contracts name.
use Rattle.std.specs.Prelude.{◌≡◌, ℕ, ◌<◌, List, length, get_or}
use Rattle.coco_base.specs.declared.netlist.Flat.{Flat}
use Rattle.coco_base.specs.declared.cell.Kind.{Kind}
use Rattle.coco_base.specs.declared.cell.Part.{Part}
use Rattle.coco_base.specs.declared.setup.Setup.{Setup}
use Rattle.coco_base.specs.declared.finding.Probe.{Probe}
use Rattle.coco_base.specs.declared.unrolled.Node.{Node}
use Rattle.coco_base.specs.declared.unrolled.Node.TheVariants.{Nothing, Gate}
use Rattle.coco_model.specs.Known.{Row}
use Rattle.coco_model.specs.Reach.{Reach, IsReach}
use Rattle.coco_model.specs.Roots.{Root, IsRooted}
use Rattle.coco_model.specs.Findings.{Labels, HasFinding}
use Rattle.coco_model.specs.Nodes.{AreNodesOf}
use Rattle.coco_model.specs.WrittenFindings.{ProbedRun, IsWrittenFinding, HasLeakingTry}
use Rattle.walsh_laws.specs.Security.{IsSimulated}

-- the place of a bit in a cycle in a list of nodes
pub record IsPlaceOf (flat : Flat) (cycles : ℕ) (index : ℕ → ℕ → ℕ) (i : ℕ) : Type 0 where
  pub cycle : ℕ
  pub bit : ℕ
  pub below : cycle < cycles
  pub inside : bit < flat.bits
  pub number : i ≡ index cycle bit

-- a list of the nodes of a run: each bit in each cycle has a place of the list, each place is that of one, and a gate
-- has four places
pub record AreListedNodes (flat : Flat) (cycles : ℕ) (index : ℕ → ℕ → ℕ) (row : ℕ → Row) (root : ℕ → ℕ → Root)
    (nodes : List Node) : Type 0 where
  pub stand : AreNodesOf flat cycles index row root (λ i. get_or nodes i Nothing)
  pub within : (t b : ℕ) → t < cycles → b < flat.bits → index t b < length nodes
  pub covered : (i : ℕ) → i < length nodes → IsPlaceOf flat cycles index i
  pub places : (i : ℕ) (kind : Kind) (parts : List Part) (operands : List ℕ)
      → get_or nodes i Nothing ≡ Gate kind parts operands
      → length parts ≡ 4

-- what a finding is written over: the simulation, its roots, what probes reach, and the nodes
pub record AreWrittenOver (flat : Flat) (setup : Setup) (cycles : ℕ) (rank : ℕ → ℕ) (row : ℕ → Row)
    (word : ℕ → ℕ → Row) (root : ℕ → ℕ → Root) (rooted : ℕ → ℕ → ℕ → Root) (reach : Reach) (index : ℕ → ℕ → ℕ)
    (nodes : List Node) : Type 0 where
  pub simulated : IsSimulated flat setup cycles rank row word
  pub roots : IsRooted flat setup cycles row root rooted
  pub reached : IsReach flat setup cycles reach
  pub listed : AreListedNodes flat cycles index row root nodes

-- a simulated run with its roots, what probes reach, and the list of its nodes
pub record ListedRun (flat : Flat) (setup : Setup) (cycles : ℕ) : Type 0 where
  pub rank : ℕ → ℕ
  pub row : ℕ → Row
  pub word : ℕ → ℕ → Row
  pub root : ℕ → ℕ → Root
  pub rooted : ℕ → ℕ → ℕ → Root
  pub reach : Reach
  pub index : ℕ → ℕ → ℕ
  pub nodes : List Node
  pub over : AreWrittenOver flat setup cycles rank row word root rooted reach index nodes

-- such a run as probes of a window see it
abbrev pub probed_with : Flat → Setup → ℕ → ℕ → (ℕ → Row) → Reach → (ℕ → ℕ → ℕ) → List Node → ProbedRun
probed_with flat setup cycles window row reach index nodes = record {
  bits = flat.bits;
  cycles = cycles;
  clock = setup.clock;
  table = setup.table;
  window = window;
  row = row;
  reach = reach;
  index = index;
  nodes = nodes;
}

abbrev pub probed_by : (flat : Flat) (setup : Setup) (cycles : ℕ) → ListedRun flat setup cycles → ℕ → ProbedRun
probed_by flat setup cycles run window = probed_with flat setup cycles window run.row run.reach run.index run.nodes

-- where a finding of an order exists, a written one does
unfoldable pub WritingLaw : Type 0
WritingLaw =
    (flat : Flat) (setup : Setup) (cycles : ℕ) (run : ListedRun flat setup cycles) (window d : ℕ)
    → HasFinding flat setup cycles window d → HasLeakingTry (probed_by flat setup cycles run window) d

-- a written finding is a finding
unfoldable pub ReadingLaw : Type 0
ReadingLaw =
    (flat : Flat) (setup : Setup) (cycles : ℕ) (run : ListedRun flat setup cycles) (window d : ℕ)
    → (probes pairs : List Probe) (numbers : List ℕ) (sets : ℕ → Labels)
    → IsWrittenFinding (probed_by flat setup cycles run window) d probes pairs numbers sets
    → HasFinding flat setup cycles window d
