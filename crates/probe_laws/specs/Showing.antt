-- Choices of bits in cycles, and which probes show a pair of leaf and cycle.
use Rattle.std.specs.Prelude.{◌≡◌, ℕ, suc, ◌+◌, ◌<◌, ◌≤◌, Bool, true, false, List, get_or, Contains, count_by, sum_by, ◌⊎◌}
use Rattle.coco_base.specs.declared.netlist.Wire.TheVariants.{Const, Bit}
use Rattle.circuit_clauses.specs.declared.signal.Signal.{Signal}
use Rattle.circuit_clauses.specs.Signals.{value}
use Rattle.probe_clauses.specs.Probings.{Probing, all_bits, all_cycles, can_probe, is_pair, is_open_in}
use Rattle.probe_clauses.specs.Rows.{at}

-- which bits are chosen in which cycles
abbrev pub Choice : Type 0
Choice = ℕ → ℕ → Bool

-- the bits in cycles whose signals are true
abbrev pub chosen : (ℕ → Bool) → List (List Signal) → Choice
chosen values rows t b = value values (at rows t b)

-- how many bits are chosen, each as often as there are cycles in which it is
abbrev pub count_chosen : Probing → Choice → ℕ
count_chosen run choice = sum_by (λ t. count_by (choice t) (all_bits run)) (all_cycles run)

-- a walk against the wires in a cycle, from a probed bit that is not calm, through live inputs of cells whose outputs are
-- not calm
pub data IsReachedFrom (run : Probing) (t probed : ℕ) : ℕ → Type 0 where
  here : run.moves t probed ≡ true → IsReachedFrom run t probed probed
  through : (cell place bit : ℕ) → Contains run.cells cell → is_open_in run cell place t ≡ true
      → get_or (run.wires cell) place (Const false) ≡ Bit bit → IsReachedFrom run t probed (run.output cell)
      → IsReachedFrom run t probed bit

-- a probe lasts in a cycle: its window begins with the probe's own cycle
pub record LastsIn (window cycle t : ℕ) : Type 0 where
  pub begun : cycle ≤ t
  pub not_over : t < cycle + window

-- a chosen probe shows a leaf in a cycle: in this cycle or the next one it lasts, and the leaf is reached from it
pub record IsShown (run : Probing) (probes : Choice) (t leaf : ℕ) : Type 0 where
  pub cycle : ℕ
  pub bit : ℕ
  pub chosen : probes cycle bit ≡ true
  pub moment : ℕ
  pub when : (moment ≡ t) ⊎ (moment ≡ suc t)
  pub in_run : moment < run.cycles
  pub lasts : LastsIn run.window cycle moment
  pub reached : IsReachedFrom run moment bit leaf

-- a bit of the run in one of its cycles
pub record IsPlace (run : Probing) (t b : ℕ) : Type 0 where
  pub cycle : t < run.cycles
  pub bit : b < run.bits

-- at least one and at most the order of probes, at bits that can be probed, and pairs that these show
pub record IsProbeChoice (run : Probing) (probes pairs : Choice) : Type 0 where
  pub some : 0 < count_chosen run probes
  pub most : count_chosen run probes ≤ run.order
  pub probe_places : (t b : ℕ) → probes t b ≡ true → IsPlace run t b
  pub probed : (t b : ℕ) → probes t b ≡ true → can_probe run b ≡ true
  pub pair_places : (t b : ℕ) → pairs t b ≡ true → IsPlace run t b
  pub are_pairs : (t b : ℕ) → pairs t b ≡ true → is_pair run t b ≡ true
  pub shown : (t b : ℕ) → pairs t b ≡ true → IsShown run probes t b
