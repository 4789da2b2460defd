-- What probes observe, and the security statement: equal counts of choices, whatever the secrets are.
use Rattle.std.specs.Prelude.{◌≡◌, ◌≢◌, ℕ, ◌-◌, ◌<◌, ◌≤◌, min, Bool, List, [], ◌∷◌, map, flat_map, length, filter, Contains, Option, Some}
use Rattle.std.specs.List.{range_with_len}
use Rattle.coco_base.specs.declared.netlist.Flat.{Flat}
use Rattle.coco_base.specs.declared.setup.Setup.{Setup}
use Rattle.coco_base.specs.declared.finding.Probe.{Probe}
use Rattle.coco_model.specs.Netlist.{Valuation}
use Rattle.coco_model.specs.Labels.{Choice, choices_with, secret_bit_count, same_bits}
use Rattle.coco_model.specs.Run.{Memory, AreRuns, before}
use Rattle.coco_model.specs.Reach.{Reach, IsReach}

-- a probe of a run, given its bits and cycles: any bit but the clock, in one of the cycles
pub record IsProbe (bits : ℕ) (clock : Option ℕ) (cycles : ℕ) (probe : Probe) : Type 0 where
  pub bit : probe.bit < bits
  pub no_clock : clock ≢ Some probe.bit
  pub cycle : probe.cycle < cycles

-- the cycles of a probe's window: w cycles, from the probe's own on, cut at the end of the run
abbrev pub window_cycles : ℕ → ℕ → ℕ → List ℕ
window_cycles cycles window cycle = range_with_len cycle (min window (cycles - cycle))

-- a probe lasts a window of cycles: its bit in each of them
abbrev pub lasting : ℕ → ℕ → Probe → List Probe
lasting cycles window p = map (λ cycle. record { bit = p.bit; cycle = cycle }) (window_cycles cycles window p.cycle)

-- the bits of probes in the cycles of their windows, probe by probe and cycle by cycle
abbrev pub moments : ℕ → ℕ → List Probe → List Probe
moments cycles window probes = flat_map (lasting cycles window) probes

-- what is observed in a run at a moment, a bit in a cycle: reached leaf by reached leaf, the leaf's old and new value
-- (register-robust probes)
abbrev pub observed_at : Reach → (ℕ → Valuation) → Probe → List Bool
observed_at reach v p =
    flat_map (λ leaf. v (before p.cycle) leaf ∷ v p.cycle leaf ∷ []) (reach p.cycle p.bit)

-- what is observed at moments, one after the other
abbrev pub observation : Reach → (ℕ → Valuation) → List Probe → List Bool
observation reach v probes = flat_map (observed_at reach v) probes

-- how many choices with these secrets show this observation at moments
abbrev pub count_showing : Setup → ℕ → Reach → (Choice → ℕ → Valuation) → List Probe → List Bool → List Bool → ℕ
count_showing setup cycles reach run probes secrets seen =
    length (filter (λ (c : Choice). same_bits (observation reach (run c) probes) seen)
    (choices_with setup.table cycles secrets))

-- for a given reach, at most d probes observe the same over their windows whatever the secrets are: for each list of
-- bits, equally many choices show it
unfoldable pub IsSecureFor : Flat → Setup → ℕ → ℕ → Reach → ℕ → Type 0
IsSecureFor flat setup cycles window reach d =
    (run : Choice → ℕ → Valuation) (memory : Choice → ℕ → Memory) → AreRuns flat setup cycles run memory
    → (probes : List Probe) → length probes ≤ d
    → ((p : Probe) → Contains probes p → IsProbe flat.bits setup.clock cycles p)
    → (secrets others : List Bool) → length secrets ≡ secret_bit_count setup.table
    → length others ≡ secret_bit_count setup.table
    → (seen : List Bool)
    → count_showing setup cycles reach run (moments cycles window probes) secrets seen
    ≡ count_showing setup cycles reach run (moments cycles window probes) others seen

-- d-th order probing security of probes that last a window, where only calm bits block what a probe reaches
unfoldable pub IsSecure : Flat → Setup → ℕ → ℕ → ℕ → Type 0
IsSecure flat setup cycles window d =
    (reach : Reach) → IsReach flat setup cycles reach → IsSecureFor flat setup cycles window reach d
