-- Selections of correlation sets, and findings: what shows that probes may depend on a secret.
use Rattle.std.specs.Prelude.{◌≡◌, ◌≢◌, ℕ, suc, ◌<◌, ◌≤◌, Bool, true, false, ◌&&◌, List, [], ◌∷◌, map, length, Contains, pos, ◌⊎◌, nat_eq}
use Rattle.coco_base.specs.declared.netlist.Flat.{Flat}
use Rattle.coco_base.specs.declared.netlist.FlatCell.{FlatCell}
use Rattle.coco_base.specs.declared.cell.Part.TheVariants.{Vary}
use Rattle.coco_base.specs.declared.labels.LabelTable.{LabelTable}
use Rattle.coco_base.specs.declared.setup.Setup.{Setup}
use Rattle.coco_base.specs.declared.finding.Probe.{Probe}
use Rattle.coco_model.specs.Cells.{xor, Subset, IsSubsetOf, signed_sum}
use Rattle.coco_model.specs.Netlist.{wires_of, HasNoRepeat}
use Rattle.coco_model.specs.Labels.{parity, secret_labels}
use Rattle.coco_model.specs.Run.{before}
use Rattle.coco_model.specs.Known.{Row, cell_parts, IsKnown}
use Rattle.coco_model.specs.Calm.{IsCalm}
use Rattle.coco_model.specs.Reach.{Reach, IsReachedRow}
use Rattle.coco_model.specs.Secure.{IsProbe, moments}
use Rattle.coco_model.specs.Roots.{Root, wire_root, IsRooted}
use Rattle.coco_model.specs.Roots.Root.{nothing, label, output}

-- a set of labels, by its members
abbrev pub Labels : Type 0
Labels = ℕ → Bool

-- the symmetric difference of the sets at the places of a subset
abbrev pub chosen_set : {X : Type 0} → (X → Labels) → Subset → List X → Labels
chosen_set set_of (s ∷ ss) (w ∷ ws) l = xor (s && set_of w l) (chosen_set set_of ss ws l)
chosen_set set_of [] ws l = false
chosen_set set_of (s ∷ ss) [] l = false

-- a cell's output has the symmetric difference of its inputs' sets at one subset of its unknown inputs whose signed sum
-- is not 0
pub record IsChosen (set_of : Root → Labels) (row : Row) (root : ℕ → Root) (c : FlatCell)
    (chosen : Labels) : Type 0 where
  pub subset : Subset
  pub unknown : IsSubsetOf subset (cell_parts row c)
  pub signed : signed_sum c.kind (cell_parts row c) subset ≢ pos 0
  pub set : (l : ℕ) → chosen l ≡ chosen_set (λ w. set_of (wire_root root w)) subset (wires_of c) l

-- a selection: a set of labels for each root, empty for nothing, the label itself for a label, and chosen for each cell
-- output that is a root; after the correlation sets of Bloem et al. (2018) and Gigerl et al. (2021), in a form of this
-- project's own
pub record IsSelection (flat : Flat) (cycles : ℕ) (row : ℕ → Row) (root : ℕ → ℕ → Root)
    (set_of : Root → Labels) : Type 0 where
  pub empty : (l : ℕ) → set_of nothing l ≡ false
  pub single : (l m : ℕ) → set_of (label l) m ≡ nat_eq l m
  pub outputs : (t : ℕ) → t < cycles → (c : FlatCell) → Contains flat.cells c → root t c.output ≡ output t c.output
      → IsChosen set_of (row t) (root t) c (set_of (output t c.output))

-- a set of labels with no mask and no fresh label, and with all shares or none of each secret bit
pub record IsWhole (table : LabelTable) (labels : Labels) : Type 0 where
  pub no_mask : (l : ℕ) → labels l ≡ true
      → (shares : List ℕ) × Contains (secret_labels table.secrets) shares × Contains shares l
  pub all_or_none : (shares : List ℕ) → Contains (secret_labels table.secrets) shares → (a b : ℕ) → Contains shares a
      → Contains shares b → labels a ≡ labels b

-- a moment of a probe shows a leaf in a cycle: it reaches the leaf, and the cycle is the moment's own or the one before
pub record Shows (reach : Reach) (probe : Probe) (leaf cycle : ℕ) : Type 0 where
  pub reached : Contains (reach probe.cycle probe.bit) leaf
  pub when : (cycle ≡ probe.cycle) ⊎ (suc cycle ≡ probe.cycle)

-- a moment of a list shows an unknown leaf in a cycle
pub record IsSeen (row : ℕ → Row) (reach : Reach) (probes : List Probe) (pair : Probe) : Type 0 where
  pub probe : Probe
  pub listed : Contains probes probe
  pub shows : Shows reach probe pair.bit pair.cycle
  pub unknown : row pair.cycle pair.bit ≡ Vary

-- the symmetric difference of the sets of pairs of leaf and cycle, each with that of its root
abbrev pub set_of_pairs : (ℕ → ℕ → Root) → (Root → Labels) → List Probe → Labels
set_of_pairs root set_of pairs l = parity (map (λ (u : Probe). set_of (root u.cycle u.bit) l) pairs)

-- a finding of order d: at least one and at most d different probes, different pairs of leaf and cycle that they show
-- over their windows and that are unknown, and a selection, by which the pairs' set is whole and not empty
pub record IsFinding (flat : Flat) (setup : Setup) (cycles window d : ℕ) (row : ℕ → Row) (reach : Reach)
    (root : ℕ → ℕ → Root) (probes pairs : List Probe) (set_of : Root → Labels) : Type 0 where
  pub some : 0 < length probes
  pub most : length probes ≤ d
  pub each : (p : Probe) → Contains probes p → IsProbe flat.bits setup.clock cycles p
  pub different : HasNoRepeat probes
  pub once : HasNoRepeat pairs
  pub seen : (u : Probe) → Contains pairs u → IsSeen row reach (moments cycles window probes) u
  pub selection : IsSelection flat cycles row root set_of
  pub member : ℕ
  pub not_empty : set_of_pairs root set_of pairs member ≡ true
  pub whole : IsWhole setup.table (set_of_pairs root set_of pairs)

-- a finding exists, over what is known, what is calm, what probes reach and the roots
pub record HasFinding (flat : Flat) (setup : Setup) (cycles window d : ℕ) : Type 0 where
  pub row : ℕ → Row
  pub word : ℕ → ℕ → Row
  pub calm : ℕ → Row
  pub reach : Reach
  pub root : ℕ → ℕ → Root
  pub rooted_word : ℕ → ℕ → ℕ → Root
  pub known : IsKnown flat setup cycles row word
  pub still : (t : ℕ) → t < cycles → IsCalm flat (row (before t)) (row t) (calm t)
  pub reached : (t : ℕ) → t < cycles → IsReachedRow flat (calm t) (reach t)
  pub rooted : IsRooted flat setup cycles row root rooted_word
  pub probes : List Probe
  pub pairs : List Probe
  pub set_of : Root → Labels
  pub finding : IsFinding flat setup cycles window d row reach root probes pairs set_of
