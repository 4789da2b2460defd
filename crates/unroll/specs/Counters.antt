-- The program counter in each cycle.
use Rattle.std.specs.Prelude.{◌≡◌, ◌≢◌, ℕ, suc, ◌<◌, List, [], length, get_or, Option, Some, None}
use Rattle.coco_base.specs.declared.netlist.Flat.{Flat}
use Rattle.coco_base.specs.declared.setup.Setup.{Setup}
use Rattle.coco_model.specs.Carried.{number_on}
use Rattle.coco_model.specs.Known.{Row, ones, IsKnown}

-- the number that is known to be on the net of the program counter in a cycle
abbrev pub IsPcNumber : Flat → Setup → ℕ → ℕ → Type 0
IsPcNumber flat setup t number =
    (row : ℕ → Row) (word : ℕ → ℕ → Row) → IsKnown flat setup (suc t) row word
    → number ≡ number_on (ones (row t)) setup.pc

-- it in a cycle, or none where there is no such net
abbrev pub IsPcIn : Flat → Setup → ℕ → Option ℕ → Type 0
IsPcIn flat setup t None = setup.pc ≡ []
IsPcIn flat setup t (Some number) = (setup.pc ≢ []) × IsPcNumber flat setup t number

-- it in each cycle, or in none where there is no such net
pub record ArePcs (flat : Flat) (setup : Setup) (cycles : ℕ) (pcs : List ℕ) : Type 0 where
  pub none : setup.pc ≡ [] → pcs ≡ []
  pub as_long : setup.pc ≢ [] → length pcs ≡ cycles
  pub each : setup.pc ≢ [] → (t : ℕ) → t < cycles → IsPcNumber flat setup t (get_or pcs t 0)
