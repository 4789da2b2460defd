-- The laws of security, as facts that contracts name.
use Rattle.std.specs.Prelude.{◌≡◌, ◌≢◌, ℕ, ◌<◌, ◌≤◌, Bool, true, false, List, map, length, Contains, ℤ, pos}
use Rattle.coco_base.specs.declared.netlist.Flat.{Flat}
use Rattle.coco_base.specs.declared.setup.Setup.{Setup}
use Rattle.coco_base.specs.declared.finding.Probe.{Probe}
use Rattle.coco_model.specs.Cells.{xor, sign_total}
use Rattle.coco_model.specs.Netlist.{Valuation, IsRanked, HasOneDriver, IsInRange, HasNoRepeat}
use Rattle.coco_model.specs.Labels.{Choice, choices, label_bit, label_count, secret_bit_count, parity}
use Rattle.coco_model.specs.Setups.{IsBoundTo}
use Rattle.coco_model.specs.Run.{Memory, AreRuns}
use Rattle.coco_model.specs.Known.{Row, IsKnown}
use Rattle.coco_model.specs.Controls.{AreControlsKnown}
use Rattle.coco_model.specs.Reach.{Reach, IsReach}
use Rattle.coco_model.specs.Roots.{Root, IsRooted}
use Rattle.coco_model.specs.Secure.{IsProbe, IsSecure, count_showing}
use Rattle.coco_model.specs.SecureInTime.{IsSecureInTime}
use Rattle.coco_model.specs.Findings.{Labels, IsSelection, IsWhole, IsSeen, set_of_pairs, HasFinding}
use Rattle.model_laws.specs.Laws.{CheckedRun}
use Rattle.walsh_laws.specs.Sums.{parity_below}

-- a netlist without loops and with one driver for each bit, a setup that is bound to it, and what is known of the
-- run, in which every control that applies is known
pub record IsSimulated (flat : Flat) (setup : Setup) (cycles : ℕ) (rank : ℕ → ℕ) (row : ℕ → Row)
    (word : ℕ → ℕ → Row) : Type 0 where
  pub ranked : IsRanked flat rank
  pub driven : HasOneDriver flat
  pub range : IsInRange flat
  pub bound_to : IsBoundTo flat setup
  pub known : IsKnown flat setup cycles row word
  pub controls : (t : ℕ) → t < cycles → AreControlsKnown setup (row t)

-- a run that is simulated: a rank by which cells make no loop, and what is known of bits and of memory words
pub record SimulatedRun (flat : Flat) (setup : Setup) (cycles : ℕ) : Type 0 where
  pub rank : ℕ → ℕ
  pub row : ℕ → Row
  pub word : ℕ → ℕ → Row
  pub is : IsSimulated flat setup cycles rank row word

-- whether pairs of bit and cycle and a set of labels have together an odd number of ones in the run of a choice
abbrev pub is_odd_in_run : List Probe → ℕ → Labels → (Choice → ℕ → Valuation) → Choice → Bool
is_odd_in_run pairs label_number labels run choice =
    xor (parity (map (λ (u : Probe). run choice u.cycle u.bit) pairs))
    (parity_below label_number labels (label_bit choice))

-- how the values of pairs correlate with a set of labels: the sum over all choices of -1 to the power of their ones
abbrev pub correlation : Setup → ℕ → List Probe → Labels → (Choice → ℕ → Valuation) → ℤ
correlation setup cycles pairs labels run =
    sign_total (is_odd_in_run pairs (label_count setup.table cycles) labels run) (choices (label_count setup.table cycles))

-- a pair of bit and cycle of a run
pub record IsPair (flat : Flat) (cycles : ℕ) (pair : Probe) : Type 0 where
  pub bit : pair.bit < flat.bits
  pub cycle : pair.cycle < cycles

-- a selection by which a set of labels is that of pairs
pub record IsSetOfPairs (flat : Flat) (cycles : ℕ) (row : ℕ → Row) (root : ℕ → ℕ → Root) (pairs : List Probe)
    (labels : Labels) : Type 0 where
  pub set_of : Root → Labels
  pub selection : IsSelection flat cycles row root set_of
  pub same : (l : ℕ) → labels l ≡ set_of_pairs root set_of pairs l

-- correlation in a run: where pairs correlate with labels, some selection has these labels as the pairs' set
unfoldable pub RunCorrelationLaw : Type 0
RunCorrelationLaw =
    (flat : Flat) (setup : Setup) (cycles : ℕ) (sim : SimulatedRun flat setup cycles)
    → (root : ℕ → ℕ → Root) (rooted : ℕ → ℕ → ℕ → Root) → IsRooted flat setup cycles sim.row root rooted
    → (run : Choice → ℕ → Valuation) (memory : Choice → ℕ → Memory) → AreRuns flat setup cycles run memory
    → (pairs : List Probe) → ((u : Probe) → Contains pairs u → IsPair flat cycles u)
    → (labels : Labels) → ((l : ℕ) → label_count setup.table cycles ≤ l → labels l ≡ false)
    → correlation setup cycles pairs labels run ≢ pos 0 → IsSetOfPairs flat cycles sim.row root pairs labels

-- pairs that moments show and that are unknown correlate with no secret bits: with no set of labels that is not empty
-- and has all shares or none of each secret bit, and nothing else
pub record IsRunUncorrelated (setup : Setup) (cycles : ℕ) (row : ℕ → Row) (reach : Reach) (run : Choice → ℕ → Valuation)
    (probes : List Probe) : Type 0 where
  pub each : (pairs : List Probe) → HasNoRepeat pairs → ((u : Probe) → Contains pairs u → IsSeen row reach probes u)
      → (labels : Labels) → IsWhole setup.table labels → (l : ℕ) → labels l ≡ true
      → correlation setup cycles pairs labels run ≡ pos 0

-- counting in a run: where what probes show correlates with no secret bits, equally many choices show any
-- observation, whatever the secrets are
unfoldable pub RunCountingLaw : Type 0
RunCountingLaw =
    (flat : Flat) (setup : Setup) (cycles : ℕ) (sim : SimulatedRun flat setup cycles)
    → (reach : Reach) → IsReach flat setup cycles reach
    → (run : Choice → ℕ → Valuation) (memory : Choice → ℕ → Memory) → AreRuns flat setup cycles run memory
    → (probes : List Probe) → ((p : Probe) → Contains probes p → IsProbe flat.bits setup.clock cycles p)
    → IsRunUncorrelated setup cycles sim.row reach run probes
    → (secrets others : List Bool) → length secrets ≡ secret_bit_count setup.table
    → length others ≡ secret_bit_count setup.table
    → (seen : List Bool) → count_showing setup cycles reach run probes secrets seen
    ≡ count_showing setup cycles reach run probes others seen

-- where no finding of an order exists, over a window, the run is secure of this order for probes that last the window
unfoldable pub NoFindingLaw : Type 0
NoFindingLaw =
    (flat : Flat) (setup : Setup) (cycles : ℕ) (sim : SimulatedRun flat setup cycles)
    → (window d : ℕ) → (HasFinding flat setup cycles window d → ⊥) → IsSecure flat setup cycles window d

-- a run that is secure is so under every order of gate events
unfoldable pub InTimeLaw : Type 0
InTimeLaw =
    (flat : Flat) (setup : Setup) (cycles : ℕ) → CheckedRun flat setup cycles → HasOneDriver flat → IsInRange flat
    → (window d : ℕ) → IsSecure flat setup cycles window d → IsSecureInTime flat setup cycles window d
