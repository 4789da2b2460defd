-- The security statement for every interleaving of gate events: equal counts of choices for each list of waveforms.
use Rattle.std.specs.Prelude.{◌≡◌, ℕ, ◌≤◌, Bool, true, false, ◌&&◌, List, [], ◌∷◌, map, filter, length, Contains}
use Rattle.coco_base.specs.declared.netlist.Flat.{Flat}
use Rattle.coco_base.specs.declared.setup.Setup.{Setup}
use Rattle.coco_base.specs.declared.finding.Probe.{Probe}
use Rattle.coco_model.specs.Netlist.{Valuation}
use Rattle.coco_model.specs.Labels.{Choice, choices_with, secret_bit_count, same_bits}
use Rattle.coco_model.specs.Run.{Memory, AreRuns, before}
use Rattle.coco_model.specs.Events.{Event, waveform}
use Rattle.coco_model.specs.Secure.{IsProbe, moments}

-- the waveform at each moment, where each cycle begins settled and has a schedule of its own
abbrev pub waveforms : Flat → (ℕ → Valuation) → (ℕ → List Event) → List Probe → List (List Bool)
waveforms flat v schedule probes =
    map (λ (p : Probe). waveform flat (v p.cycle) p.bit (v (before p.cycle)) (schedule p.cycle)) probes

-- two lists of waveforms are the same
abbrev pub same_waveforms : List (List Bool) → List (List Bool) → Bool
same_waveforms [] [] = true
same_waveforms [] (y ∷ ys) = false
same_waveforms (x ∷ xs) [] = false
same_waveforms (x ∷ xs) (y ∷ ys) = same_bits x y && same_waveforms xs ys

-- how many choices with these secrets show these waveforms at moments
abbrev pub count_waving : Flat → Setup → ℕ → (Choice → ℕ → Valuation) → (ℕ → List Event) → List Probe → List Bool
    → List (List Bool) → ℕ
count_waving flat setup cycles run schedule probes secrets seen =
    length (filter (λ (c : Choice). same_waveforms (waveforms flat (run c) schedule probes) seen)
    (choices_with setup.table cycles secrets))

-- at most d probes see the same waveforms of their bits in the cycles of their windows whatever the secrets are, under
-- every list of schedules that is fixed before the choice
unfoldable pub IsSecureInTime : Flat → Setup → ℕ → ℕ → ℕ → Type 0
IsSecureInTime flat setup cycles window d =
    (run : Choice → ℕ → Valuation) (memory : Choice → ℕ → Memory) → AreRuns flat setup cycles run memory
    → (schedule : ℕ → List Event) (probes : List Probe) → length probes ≤ d
    → ((p : Probe) → Contains probes p → IsProbe flat.bits setup.clock cycles p)
    → (secrets others : List Bool) → length secrets ≡ secret_bit_count setup.table
    → length others ≡ secret_bit_count setup.table
    → (seen : List (List Bool))
    → count_waving flat setup cycles run schedule (moments cycles window probes) secrets seen
    ≡ count_waving flat setup cycles run schedule (moments cycles window probes) others seen
