-- The laws of runs, as facts that contracts name.
use Rattle.std.specs.Prelude.{◌≡◌, ◌≢◌, ℕ, ◌<◌, ◌≤◌, Bool, true, List, [], ◌++◌, map, Contains, slice_get, Some, ◌⊎◌, ◌↔◌}
use Rattle.coco_base.specs.declared.netlist.Flat.{Flat}
use Rattle.coco_base.specs.declared.cell.Part.TheVariants.{Vary}
use Rattle.coco_base.specs.declared.setup.MemPlan.{MemPlan}
use Rattle.coco_base.specs.declared.setup.LeafPlan.{LeafPlan}
use Rattle.coco_base.specs.declared.setup.Setup.{Setup}
use Rattle.coco_base.specs.declared.unrolled.Node.{Node}
use Rattle.coco_model.specs.Cells.{Allows}
use Rattle.coco_model.specs.Netlist.{Valuation, IsSettled, IsRanked, HasOneDriver, IsInRange, IsInputBit, IsFlopBit, IsCellBit}
use Rattle.coco_model.specs.Labels.{Choice, label_count}
use Rattle.coco_model.specs.Carried.{is_read, word_address, stores, IsBound, AreStarts, IsLabelled}
use Rattle.coco_model.specs.Run.{Memory, IsRun, before}
use Rattle.coco_model.specs.Known.{Row, ones, IsForcedRow, IsKnown}
use Rattle.coco_model.specs.Controls.{AreControlsKnown, HasControls}
use Rattle.coco_model.specs.Calm.{IsCalm}
use Rattle.coco_model.specs.Reach.{Reach, Reaches, IsReach}
use Rattle.coco_model.specs.Secure.{IsSecureFor, IsSecure}
use Rattle.coco_model.specs.Meaning.{HasMeaning}
use Rattle.coco_model.specs.Events.{Event, waveform, after_events, IsCellOrder}
use Rattle.coco_model.specs.Events.Event.{leaf, cell}
use Rattle.coco_model.specs.Roots.{Root, IsRooted, root_value}
use Rattle.coco_model.specs.Roots.Root.{nothing, label, output}
use Rattle.coco_model.specs.Findings.{Labels, IsSelection}
use Rattle.coco_model.specs.Nodes.{LeadsTo, IsNodeSet, AreNodesOf, IsUnrolled}
use Rattle.coco_model.specs.Cones.{IsInRootCone, IsInCone}

-- two settled valuations that agree on the bits that no cell drives are one
unfoldable pub OneSettledLaw : Type 0
OneSettledLaw =
    (flat : Flat) (rank : ℕ → ℕ) (v w : Valuation) → IsRanked flat rank → IsSettled flat v → IsSettled flat w
    → ((b : ℕ) → (IsCellBit flat b → ⊥) → v b ≡ w b) → (b : ℕ) → v b ≡ w b

-- a settled valuation with given values of the bits that input ports and flops drive
pub record HasSettled (flat : Flat) (leaves : Valuation) : Type 0 where
  pub valuation : Valuation
  pub settled : IsSettled flat valuation
  pub agrees : (b : ℕ) → IsFlopBit flat b ⊎ IsInputBit flat b → valuation b ≡ leaves b

-- a netlist without loops and with one driver for each bit has a settled valuation for all values of the bits that
-- input ports and flops drive
unfoldable pub SomeSettledLaw : Type 0
SomeSettledLaw = (flat : Flat) (rank : ℕ → ℕ) → IsRanked flat rank → HasOneDriver flat → (leaves : Valuation)
    → HasSettled flat leaves

-- two rows that are forced and agree on the bits that no cell drives are one
unfoldable pub OneForcedLaw : Type 0
OneForcedLaw =
    (flat : Flat) (rank : ℕ → ℕ) (p q : Row) → IsRanked flat rank → IsForcedRow flat p → IsForcedRow flat q
    → ((b : ℕ) → (IsCellBit flat b → ⊥) → p b ≡ q b) → (b : ℕ) → p b ≡ q b

-- a netlist without loops, whose input port bits are all bound, and what is known of it, where every control that
-- applies is known
pub record IsChecked (flat : Flat) (setup : Setup) (cycles : ℕ) (rank : ℕ → ℕ) (row : ℕ → Row)
    (word : ℕ → ℕ → Row) : Type 0 where
  pub ranked : IsRanked flat rank
  pub bound : IsBound flat setup
  pub has_controls : HasControls flat setup
  pub known : IsKnown flat setup cycles row word
  pub controls : (t : ℕ) → t < cycles → AreControlsKnown setup (row t)

-- a run that is simulated with every control known: a rank by which cells make no loop, and what is known of bits and
-- of memory words
pub record CheckedRun (flat : Flat) (setup : Setup) (cycles : ℕ) : Type 0 where
  pub rank : ℕ → ℕ
  pub row : ℕ → Row
  pub word : ℕ → ℕ → Row
  pub is : IsChecked flat setup cycles rank row word

-- what is known of a bit, or of a bit of a memory word, is its value in every run
unfoldable pub KnownLaw : Type 0
KnownLaw =
    (flat : Flat) (setup : Setup) (cycles : ℕ) (sim : CheckedRun flat setup cycles)
    → (choice : Choice) (v : ℕ → Valuation) (m : ℕ → Memory) → IsRun flat setup cycles choice v m
    → (t : ℕ) → t < cycles
    → ((b : ℕ) → Allows (sim.row t b) (v t b)) × ((address k : ℕ) → Allows (sim.word t address k) (m t address k))

-- a bit of a word leaf has in each cycle what its word's bit has: in every run, in what is known, and in the roots
pub record IsAsWord (flat : Flat) (setup : Setup) (cycles : ℕ) (address k t b : ℕ) : Type 0 where
  pub runs : (choice : Choice) (v : ℕ → Valuation) (m : ℕ → Memory) → IsRun flat setup cycles choice v m
      → v t b ≡ m t address k
  pub known : (row : ℕ → Row) (word : ℕ → ℕ → Row) → IsKnown flat setup cycles row word → row t b ≡ word t address k
  pub roots : (row : ℕ → Row) (root : ℕ → ℕ → Root) (word : ℕ → ℕ → ℕ → Root)
      → IsRooted flat setup cycles row root word → root t b ≡ word t address k

unfoldable pub WordLeafLaw : Type 0
WordLeafLaw =
    (flat : Flat) (setup : Setup) (cycles : ℕ) (leaf : LeafPlan) → Contains setup.leaves leaf
    → (k b : ℕ) → slice_get leaf.bits k ≡ Some b → (t : ℕ) → t < cycles
    → IsAsWord flat setup cycles leaf.address k t b

-- what the memory ports are known to do they do in every run
pub record AreSameRequests (v w : Valuation) (mem : MemPlan) : Type 0 where
  pub read : is_read v mem ≡ is_read w mem
  pub address : is_read w mem ≡ true → word_address v mem ≡ word_address w mem
  pub stored : (address k : ℕ) → stores v mem address k ≡ stores w mem address k

unfoldable pub RequestsLaw : Type 0
RequestsLaw =
    (flat : Flat) (setup : Setup) (cycles : ℕ) (sim : CheckedRun flat setup cycles)
    → (choice : Choice) (v : ℕ → Valuation) (m : ℕ → Memory) → IsRun flat setup cycles choice v m
    → (t : ℕ) → t < cycles → (mem : MemPlan) → Contains setup.memories mem
    → AreSameRequests (ones (sim.row t)) (v t) mem

-- under every schedule a calm bit has its calm value at every moment
unfoldable pub CalmLaw : Type 0
CalmLaw =
    (flat : Flat) (setup : Setup) (cycles : ℕ) (sim : CheckedRun flat setup cycles)
    → (choice : Choice) (v : ℕ → Valuation) (m : ℕ → Memory) → IsRun flat setup cycles choice v m
    → (t : ℕ) → t < cycles → (calm : Row) → IsCalm flat (sim.row (before t)) (sim.row t) calm
    → (events : List Event) (b : ℕ) (x : Bool) → Contains (waveform flat (v t) b (v (before t)) events) x
    → Allows (calm b) x

-- two runs that agree on the old and the new value of every leaf that a bit reaches show one waveform of it, under
-- every schedule
unfoldable pub WaveformLaw : Type 0
WaveformLaw =
    (flat : Flat) (setup : Setup) (cycles : ℕ) (sim : CheckedRun flat setup cycles)
    → (one other : Choice) (v w : ℕ → Valuation) (m n : ℕ → Memory) → IsRun flat setup cycles one v m
    → IsRun flat setup cycles other w n
    → (t : ℕ) → t < cycles → (calm : Row) → IsCalm flat (sim.row (before t)) (sim.row t) calm
    → (b : ℕ)
    → ((leaf : ℕ) → Reaches flat calm leaf b → (v (before t) leaf ≡ w (before t) leaf) × (v t leaf ≡ w t leaf))
    → (events : List Event) → waveform flat (v t) b (v (before t)) events ≡ waveform flat (w t) b (w (before t)) events

-- a root of a bit in a cycle: a label of the run, or the output that the bit is, or that of a cell in an earlier cycle
pub record IsRootInRange (flat : Flat) (count t b : ℕ) (root : Root) : Type 0 where
  pub labels : (l : ℕ) → root ≡ label l → l < count
  pub earlier : (s c : ℕ) → root ≡ output s c → (s < t) ⊎ ((s ≡ t) × (c ≡ b))
  pub cells : (s c : ℕ) → root ≡ output s c → IsCellBit flat c

-- an unknown bit has in every run the value of its root, and the root of a known bit is nothing
unfoldable pub RootLaw : Type 0
RootLaw =
    (flat : Flat) (setup : Setup) (cycles : ℕ) (sim : CheckedRun flat setup cycles)
    → AreStarts (IsLabelled setup.table) flat setup
    → (root : ℕ → ℕ → Root) (rooted : ℕ → ℕ → ℕ → Root) → IsRooted flat setup cycles sim.row root rooted
    → (t b : ℕ) → t < cycles
    → ((choice : Choice) (v : ℕ → Valuation) (m : ℕ → Memory) → IsRun flat setup cycles choice v m
    → sim.row t b ≡ Vary → v t b ≡ root_value choice v (root t b))
    × (sim.row t b ≢ Vary → root t b ≡ nothing) × (root t b ≡ nothing → sim.row t b ≢ Vary)
    × IsRootInRange flat (label_count setup.table cycles) t b (root t b)

-- two runs of one choice are one
pub record AreSameRuns (cycles : ℕ) (v w : ℕ → Valuation) (m n : ℕ → Memory) : Type 0 where
  pub bits : (t : ℕ) → t < cycles → (b : ℕ) → v t b ≡ w t b
  pub words : (t : ℕ) → t < cycles → (address k : ℕ) → m t address k ≡ n t address k

unfoldable pub OneRunLaw : Type 0
OneRunLaw =
    (flat : Flat) (setup : Setup) (cycles : ℕ) (rank : ℕ → ℕ) → IsRanked flat rank → IsBound flat setup
    → (choice : Choice) (v w : ℕ → Valuation) (m n : ℕ → Memory) → IsRun flat setup cycles choice v m
    → IsRun flat setup cycles choice w n
    → AreSameRuns cycles v w m n

-- what is known of bits and of memory words is one, and so are the roots
unfoldable pub OneKnownLaw : Type 0
OneKnownLaw =
    (flat : Flat) (setup : Setup) (cycles : ℕ) (rank : ℕ → ℕ) → IsRanked flat rank → IsBound flat setup
    → (row other : ℕ → Row) (word others : ℕ → ℕ → Row) → IsKnown flat setup cycles row word
    → IsKnown flat setup cycles other others
    → (t : ℕ) → t < cycles
    → ((b : ℕ) → row t b ≡ other t b) × ((address k : ℕ) → word t address k ≡ others t address k)

unfoldable pub OneRootedLaw : Type 0
OneRootedLaw =
    (flat : Flat) (setup : Setup) (cycles : ℕ) (rank : ℕ → ℕ) → IsRanked flat rank → IsBound flat setup
    → (row : ℕ → Row) (root other : ℕ → ℕ → Root) (word others : ℕ → ℕ → ℕ → Root)
    → IsRooted flat setup cycles row root word → IsRooted flat setup cycles row other others
    → (t : ℕ) → t < cycles
    → ((b : ℕ) → root t b ≡ other t b) × ((address k : ℕ) → word t address k ≡ others t address k)

-- what a probe reaches is one
unfoldable pub OneReachLaw : Type 0
OneReachLaw =
    (flat : Flat) (setup : Setup) (cycles : ℕ) (rank : ℕ → ℕ) → IsRanked flat rank → IsBound flat setup
    → (reach other : Reach) → IsReach flat setup cycles reach → IsReach flat setup cycles other
    → (t b : ℕ) → t < cycles → b < flat.bits → reach t b ≡ other t b

-- a netlist and a setup have a meaning, so that what is said of every run and reach says something
unfoldable pub MeaningLaw : Type 0
MeaningLaw =
    (flat : Flat) (setup : Setup) (cycles : ℕ) (rank : ℕ → ℕ) → IsRanked flat rank → IsBound flat setup
    → HasOneDriver flat → IsInRange flat
    → HasMeaning flat setup cycles

-- the events of all leaves and then of all cells in order end in the settled valuation of the new leaves
unfoldable pub EndLaw : Type 0
EndLaw =
    (flat : Flat) (old new : Valuation) → IsSettled flat new → (leaves order : List ℕ)
    → ((b : ℕ) → (IsCellBit flat b → ⊥) → Contains leaves b ⊎ (old b ≡ new b)) → IsCellOrder flat [] order
    → (b : ℕ) → after_events flat new old (map leaf leaves ++ map cell order) b ≡ new b

-- numbered nodes of the bits of a run stand for its roots
unfoldable pub UnrolledLaw : Type 0
UnrolledLaw =
    (flat : Flat) (setup : Setup) (cycles : ℕ) (sim : CheckedRun flat setup cycles)
    → IsInRange flat
    → (root : ℕ → ℕ → Root) (rooted : ℕ → ℕ → ℕ → Root) → IsRooted flat setup cycles sim.row root rooted
    → (index : ℕ → ℕ → ℕ) → ((t b s c : ℕ) → b < flat.bits → c < flat.bits → index t b ≡ index s c → (t ≡ s) × (b ≡ c))
    → (node : ℕ → ℕ → Node) (node_word : ℕ → ℕ → ℕ → Node)
    → IsUnrolled flat setup cycles index sim.row root node node_word
    → (nodes : ℕ → Node) → ((t b : ℕ) → t < cycles → b < flat.bits → nodes (index t b) ≡ node t b)
    → AreNodesOf flat cycles index sim.row root nodes

-- nodes that stand for the roots: two that lead to one origin have one root, and one whose root is an output leads to
-- that output's
pub record StandsForRoots (flat : Flat) (cycles : ℕ) (index : ℕ → ℕ → ℕ) (root : ℕ → ℕ → Root)
    (nodes : ℕ → Node) : Type 0 where
  pub origin : (o t b s c : ℕ) → t < cycles → b < flat.bits → s < cycles → c < flat.bits
      → LeadsTo nodes o (index t b) → LeadsTo nodes o (index s c) → root t b ≡ root s c
  pub output : (t b s c : ℕ) → t < cycles → b < flat.bits → root t b ≡ output s c
      → LeadsTo nodes (index s c) (index t b)

unfoldable pub NodesLaw : Type 0
NodesLaw =
    (flat : Flat) (cycles : ℕ) (index : ℕ → ℕ → ℕ) (row : ℕ → Row) (root : ℕ → ℕ → Root) (nodes : ℕ → Node)
    → AreNodesOf flat cycles index row root nodes → StandsForRoots flat cycles index root nodes

-- the sets of nodes and the sets of their roots are the same
abbrev pub AreSameSets : Flat → ℕ → (ℕ → ℕ → ℕ) → (ℕ → ℕ → Root) → (ℕ → Labels) → (Root → Labels) → Type 0
AreSameSets flat cycles index root sets set_of =
    (t b l : ℕ) → t < cycles → b < flat.bits → sets (index t b) l ≡ set_of (root t b) l

-- the sets of all nodes are those of a selection of nodes
abbrev pub AreNodeSets : Flat → ℕ → (ℕ → ℕ → ℕ) → (ℕ → Node) → (ℕ → Labels) → Type 0
AreNodeSets flat cycles index nodes sets =
    (t b : ℕ) → t < cycles → b < flat.bits → IsNodeSet sets (index t b) (nodes (index t b))

-- a selection of roots is one of nodes
unfoldable pub NodeSetsLaw : Type 0
NodeSetsLaw =
    (flat : Flat) (cycles : ℕ) (index : ℕ → ℕ → ℕ) (row : ℕ → Row) (root : ℕ → ℕ → Root) (nodes : ℕ → Node)
    → AreNodesOf flat cycles index row root nodes → IsInRange flat
    → (set_of : Root → Labels) → IsSelection flat cycles row root set_of → (sets : ℕ → Labels)
    → AreSameSets flat cycles index root sets set_of
    → AreNodeSets flat cycles index nodes sets

-- a selection of roots with the sets of nodes
pub record HasSelection (flat : Flat) (cycles : ℕ) (index : ℕ → ℕ → ℕ) (row : ℕ → Row) (root : ℕ → ℕ → Root)
    (sets : ℕ → Labels) : Type 0 where
  pub set_of : Root → Labels
  pub selection : IsSelection flat cycles row root set_of
  pub same : AreSameSets flat cycles index root sets set_of

-- a selection of nodes is one of roots
unfoldable pub RootSetsLaw : Type 0
RootSetsLaw =
    (flat : Flat) (cycles : ℕ) (index : ℕ → ℕ → ℕ) (row : ℕ → Row) (root : ℕ → ℕ → Root) (nodes : ℕ → Node)
    → AreNodesOf flat cycles index row root nodes → IsInRange flat → HasOneDriver flat
    → ((t b s c : ℕ) → t < cycles → root t b ≡ output s c → s ≤ t)
    → (sets : ℕ → Labels) → AreNodeSets flat cycles index nodes sets
    → HasSelection flat cycles index row root sets

-- a label is in the cone of a node exactly where it is in the cone of the root that the node stands for
unfoldable pub ConesLaw : Type 0
ConesLaw =
    (flat : Flat) (cycles : ℕ) (index : ℕ → ℕ → ℕ) (row : ℕ → Row) (root : ℕ → ℕ → Root) (nodes : ℕ → Node)
    → AreNodesOf flat cycles index row root nodes → IsInRange flat → HasOneDriver flat
    → (t b l : ℕ) → t < cycles → b < flat.bits → IsInCone nodes l (index t b) ↔ IsInRootCone flat row root l (root t b)

-- a run that is secure for its one calm-blocked reach is secure
unfoldable pub SecureLaw : Type 0
SecureLaw =
    (flat : Flat) (setup : Setup) (cycles : ℕ) (rank : ℕ → ℕ) → IsRanked flat rank → IsBound flat setup
    → (reach : Reach) → IsReach flat setup cycles reach → (window d : ℕ) → IsSecureFor flat setup cycles window reach d
    → IsSecure flat setup cycles window d
