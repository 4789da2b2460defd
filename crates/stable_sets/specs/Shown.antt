-- Pairs of leaf and cycle that probes show by rows, and the set that a finding's pairs have.
use Rattle.std.specs.Prelude.{◌≡◌, ◌≢◌, ℕ, ◌+◌, ◌<◌, ◌≤◌, List, slice_get, Some, Contains, ◌⊎◌}
use Rattle.coco_base.specs.LabelSets.{has}
use Rattle.coco_base.specs.declared.netlist.Flat.{Flat}
use Rattle.coco_base.specs.declared.finding.Probe.{Probe}
use Rattle.coco_base.specs.declared.finding.Finding.{Finding}
use Rattle.coco_base.specs.declared.unrolled.Node.TheVariants.{Nothing}
use Rattle.coco_base.specs.declared.unrolled.Unrolled.{Unrolled}
use Rattle.coco_model.specs.Findings.{Labels}
use Rattle.coco_model.specs.Nodes.{IsNodeSelection}
use Rattle.coco_model.specs.UnrolledRuns.{index_of, node_at, IsUnrolledValue}
use Rattle.coco_model.specs.WrittenFindings.{IsLeakingSet, set_of_nodes}
use Rattle.calm_reach.specs.CalmRows.{Calmness}
use Rattle.calm_reach.specs.Walks.{LeadsTo}
use Rattle.stable_sets.specs.Reached.{AreRows}

-- an unrolled run with rows of a netlist
pub record IsLooked (flat : Flat) (u : Unrolled) (rows : List Calmness) : Type 0 where
  pub value : IsUnrolledValue u
  pub same_bits : u.bits ≡ flat.bits
  pub are_rows : AreRows flat u.cycles rows

-- a probe's window has a cycle
pub record Lasts (cycles window : ℕ) (probe : Probe) (cycle : ℕ) : Type 0 where
  pub from : probe.cycle ≤ cycle
  pub within : cycle < probe.cycle + window
  pub below : cycle < cycles

-- a probe's window has a cycle in which its bit reaches a leaf
pub record IsReachedIn (flat : Flat) (cycles window : ℕ) (rows : List Calmness) (probe : Probe)
    (cycle leaf : ℕ) : Type 0 where
  pub lasts : Lasts cycles window probe cycle
  pub row : Calmness
  pub at : slice_get rows cycle ≡ Some row
  pub leads : LeadsTo flat row leaf probe.bit

-- a probe shows a leaf in a cycle: it reaches it in this cycle, or in the next
abbrev pub IsShownBy : Flat → ℕ → ℕ → List Calmness → Probe → Probe → Type 0
IsShownBy flat cycles window rows probe pair =
    IsReachedIn flat cycles window rows probe pair.cycle pair.bit
    ⊎ IsReachedIn flat cycles window rows probe (pair.cycle + 1) pair.bit

-- one of probes shows a leaf in a cycle
pub record IsShown (flat : Flat) (cycles window : ℕ) (rows : List Calmness) (probes : List Probe)
    (pair : Probe) : Type 0 where
  pub probe : Probe
  pub listed : Contains probes probe
  pub shows : IsShownBy flat cycles window rows probe pair

-- a bit in a cycle of a run
pub record IsInside (u : Unrolled) (pair : Probe) : Type 0 where
  pub bit : pair.bit < u.bits
  pub cycle : pair.cycle < u.cycles

-- a bit in a cycle of a run that is unknown
pub record IsUnknownPair (u : Unrolled) (pair : Probe) : Type 0 where
  pub inside : IsInside u pair
  pub something : node_at u (index_of u pair.cycle pair.bit) ≢ Nothing

-- a pair is unknown, and one of the probes shows it
abbrev pub IsSeenPair : Flat → ℕ → List Calmness → Unrolled → List Probe → Probe → Type 0
IsSeenPair flat window rows u probes pair = IsUnknownPair u pair × IsShown flat u.cycles window rows probes pair

abbrev pub AreSeenPairs : Flat → ℕ → List Calmness → Unrolled → List Probe → List Probe → Type 0
AreSeenPairs flat window rows u probes pairs =
    (p : Probe) → Contains pairs p → IsSeenPair flat window rows u probes p

-- two sets have the same labels
abbrev pub AreSameLabels : List ℕ → List ℕ → Type 0
AreSameLabels a b = (l : ℕ) → has a l ≡ has b l

-- the set of a finding is the one that its pairs have by its selection, and it shows a leak
pub record HasLeakingSet (u : Unrolled) (finding : Finding) : Type 0 where
  pub sets : ℕ → Labels
  pub selection : IsNodeSelection u.nodes finding.selection.choices sets
  pub leaks : IsLeakingSet u.table (set_of_nodes (index_of u) sets finding.seen)
  pub set : (l : ℕ) → has finding.set l ≡ set_of_nodes (index_of u) sets finding.seen l
