-- Probes and pairs in range and in order.
use Rattle.std.specs.Prelude.{ℕ, ◌<◌, ◌≤◌, List, length, Contains, Option}
use Rattle.coco_base.specs.declared.finding.Probe.{Probe}
use Rattle.coco_model.specs.Secure.{IsProbe}
use Rattle.coco_model.specs.WrittenFindings.{AreAscending}

-- each is a probe of a run
abbrev pub AreProbes : ℕ → Option ℕ → ℕ → List Probe → Type 0
AreProbes bits clock cycles probes = (p : Probe) → Contains probes p → IsProbe bits clock cycles p

-- at least one and at most d probes of a run, in ascending order
pub record AreProbesListed (bits cycles : ℕ) (clock : Option ℕ) (d : ℕ) (probes : List Probe) : Type 0 where
  pub some : 0 < length probes
  pub most : length probes ≤ d
  pub each : AreProbes bits clock cycles probes
  pub ascending : AreAscending probes

-- so listed probes, and pairs in ascending order
pub record AreListed (bits cycles : ℕ) (clock : Option ℕ) (d : ℕ) (probes pairs : List Probe) : Type 0 where
  pub probes_listed : AreProbesListed bits cycles clock d probes
  pub in_order : AreAscending pairs
