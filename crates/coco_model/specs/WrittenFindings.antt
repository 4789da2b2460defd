-- Findings as values: lists in order, and a number for each node of an unrolled run.
use Rattle.std.specs.Prelude.{◌≡◌, ◌≢◌, ℕ, ◌<◌, ◌≤◌, true, List, [], ◌∷◌, map, length, get_or, Contains, Option, ◌⊎◌}
use Rattle.coco_base.specs.declared.cell.Kind.{Kind}
use Rattle.coco_base.specs.declared.cell.Part.{Part}
use Rattle.coco_base.specs.declared.labels.LabelTable.{LabelTable}
use Rattle.coco_base.specs.declared.finding.Probe.{Probe}
use Rattle.coco_base.specs.declared.finding.Finding.{Finding}
use Rattle.coco_base.specs.declared.unrolled.Node.{Node}
use Rattle.coco_base.specs.declared.unrolled.Node.TheVariants.{Nothing, Gate}
use Rattle.coco_base.specs.LabelSets.{has}
use Rattle.coco_model.specs.Labels.{parity}
use Rattle.coco_model.specs.Known.{Row}
use Rattle.coco_model.specs.Reach.{Reach}
use Rattle.coco_model.specs.Secure.{IsProbe, moments}
use Rattle.coco_model.specs.Findings.{Labels, IsWhole, IsSeen}
use Rattle.coco_model.specs.Nodes.{IsNodeSelection}

-- a run as findings are written over it: its numbers of bits and cycles, its clock and its labels, how many cycles a
-- probe lasts, what is unknown, what probes reach, and the nodes with their numbers by cycle and bit
pub record ProbedRun : Type 0 where
  pub bits : ℕ
  pub cycles : ℕ
  pub clock : Option ℕ
  pub table : LabelTable
  pub window : ℕ
  pub row : ℕ → Row
  pub reach : Reach
  pub index : ℕ → ℕ → ℕ
  pub nodes : List Node

-- by cycle and then by bit
abbrev pub ComesBefore : Probe → Probe → Type 0
ComesBefore p q = (p.cycle < q.cycle) ⊎ ((p.cycle ≡ q.cycle) × (p.bit < q.bit))

-- each comes before all that follow, so none stands twice
abbrev pub AreAscending : List Probe → Type 0
AreAscending [] = Unit {0}
AreAscending (p ∷ ps) = ((q : Probe) → Contains ps q → ComesBefore p q) × AreAscending ps

-- the symmetric difference of the sets of the nodes of pairs
abbrev pub set_of_nodes : (ℕ → ℕ → ℕ) → (ℕ → Labels) → List Probe → Labels
set_of_nodes index sets pairs l = parity (map (λ (u : Probe). sets (index u.cycle u.bit) l) pairs)

-- a candidate of order d: at least one and at most d probes and unknown pairs that they show over their windows, both
-- in ascending order, and numbers that choose a set for each node
pub record IsCandidate (run : ProbedRun) (d : ℕ) (probes pairs : List Probe) (numbers : List ℕ)
    (sets : ℕ → Labels) : Type 0 where
  pub some : 0 < length probes
  pub most : length probes ≤ d
  pub each : (p : Probe) → Contains probes p → IsProbe run.bits run.clock run.cycles p
  pub ascending : AreAscending probes
  pub in_order : AreAscending pairs
  pub seen : (u : Probe) → Contains pairs u → IsSeen run.row run.reach (moments run.cycles run.window probes) u
  pub selection : IsNodeSelection run.nodes numbers sets

-- a set of labels shows a leak: it is not empty and whole
pub record IsLeakingSet (table : LabelTable) (labels : Labels) : Type 0 where
  pub member : ℕ
  pub not_empty : labels member ≡ true
  pub whole : IsWhole table labels

-- a node is no gate
abbrev pub IsNoGate : Node → Type 0
IsNoGate node = (kind : Kind) (parts : List Part) (operands : List ℕ) → node ≢ Gate kind parts operands

-- the numbers are 0 at each node that is no gate
pub record AreZeroElsewhere (nodes : List Node) (numbers : List ℕ) : Type 0 where
  pub zero : (i : ℕ) → i < length nodes → IsNoGate (get_or nodes i Nothing) → get_or numbers i 0 ≡ 0

-- a try of order d: a candidate with 0 at each node that is no gate
pub record IsTry (run : ProbedRun) (d : ℕ) (probes pairs : List Probe) (numbers : List ℕ)
    (sets : ℕ → Labels) : Type 0 where
  pub candidate : IsCandidate run d probes pairs numbers sets
  pub elsewhere : AreZeroElsewhere run.nodes numbers

-- a written finding: a candidate whose set shows a leak
pub record IsWrittenFinding (run : ProbedRun) (d : ℕ) (probes pairs : List Probe) (numbers : List ℕ)
    (sets : ℕ → Labels) : Type 0 where
  pub candidate : IsCandidate run d probes pairs numbers sets
  pub leaks : IsLeakingSet run.table (set_of_nodes run.index sets pairs)

-- a value is a finding: with its probes, pairs and choices it is a written finding, and its set is the one that its
-- pairs have by these choices
pub record IsFindingValue (run : ProbedRun) (d : ℕ) (finding : Finding) : Type 0 where
  pub sets : ℕ → Labels
  pub written : IsWrittenFinding run d finding.probes finding.seen finding.selection.choices sets
  pub set : (l : ℕ) → has finding.set l ≡ set_of_nodes run.index sets finding.seen l

-- a try exists whose set shows a leak
pub record HasLeakingTry (run : ProbedRun) (d : ℕ) : Type 0 where
  pub probes : List Probe
  pub pairs : List Probe
  pub numbers : List ℕ
  pub sets : ℕ → Labels
  pub is_try : IsTry run d probes pairs numbers sets
  pub leaks : IsLeakingSet run.table (set_of_nodes run.index sets pairs)
