-- That a run has a meaning: there is something of which the security statements speak.
use Rattle.std.specs.Prelude.{ℕ}
use Rattle.coco_base.specs.declared.netlist.Flat.{Flat}
use Rattle.coco_base.specs.declared.setup.Setup.{Setup}
use Rattle.coco_model.specs.Netlist.{Valuation}
use Rattle.coco_model.specs.Labels.{Choice}
use Rattle.coco_model.specs.Run.{Memory, AreRuns}
use Rattle.coco_model.specs.Known.{Row, IsKnown}
use Rattle.coco_model.specs.Reach.{Reach, IsReach}
use Rattle.coco_model.specs.Roots.{Root, IsRooted}

-- a run of every choice, what is known, roots and what a probe reaches exist, so that what is said of every run and
-- every reach says something
pub record HasMeaning (flat : Flat) (setup : Setup) (cycles : ℕ) : Type 0 where
  pub run : Choice → ℕ → Valuation
  pub memory : Choice → ℕ → Memory
  pub row : ℕ → Row
  pub word : ℕ → ℕ → Row
  pub root : ℕ → ℕ → Root
  pub rooted : ℕ → ℕ → ℕ → Root
  pub reach : Reach
  pub runs : AreRuns flat setup cycles run memory
  pub known : IsKnown flat setup cycles row word
  pub roots : IsRooted flat setup cycles row root rooted
  pub reaches : IsReach flat setup cycles reach
