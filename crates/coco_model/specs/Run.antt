-- The run of a choice.
use Rattle.std.specs.Prelude.{ℕ, zero, suc, ◌<◌, Bool}
use Rattle.coco_base.specs.declared.netlist.Flat.{Flat}
use Rattle.coco_base.specs.declared.setup.Setup.{Setup}
use Rattle.coco_model.specs.Netlist.{Valuation, IsSettled}
use Rattle.coco_model.specs.Labels.{Choice, label_bit}
use Rattle.coco_model.specs.Carried.{States, IsCarried}

-- a value of every bit of every memory word, by the word's address and the bit's place
abbrev pub Memory : Type 0
Memory = ℕ → ℕ → Bool

-- values as states: a constant has itself, and a label its bit of the choice
abbrev pub values : Choice → States Bool
values choice = record { constant = λ b. b; label = label_bit choice }

-- a settled valuation and a memory for each cycle, whose memory ports do what the valuations say
pub record IsRun (flat : Flat) (setup : Setup) (cycles : ℕ) (choice : Choice) (v : ℕ → Valuation)
    (m : ℕ → Memory) : Type 0 where
  pub settled : (t : ℕ) → t < cycles → IsSettled flat (v t)
  pub carried : IsCarried (values choice) flat setup cycles v v m

-- the cycle before; that before cycle 0 is cycle 0 itself
abbrev pub before : ℕ → ℕ
before zero = zero
before (suc t) = t

-- a run of every choice
pub record AreRuns (flat : Flat) (setup : Setup) (cycles : ℕ) (run : Choice → ℕ → Valuation)
    (memory : Choice → ℕ → Memory) : Type 0 where
  pub each : (choice : Choice) → IsRun flat setup cycles choice (run choice) (memory choice)
