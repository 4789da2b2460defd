-- Flops that keep their values, and leaves that are known in two cycles.
use Rattle.std.proofs.Common.{◌≡◌, ℕ, zero, suc, ◌<◌, ap, ◌∙◌, arith}
use Rattle.std.specs.Prelude.{Contains}
use Rattle.coco_base.specs.declared.netlist.Flat.{Flat}
use Rattle.coco_base.specs.declared.netlist.FlatFlop.{FlatFlop}
use Rattle.coco_base.specs.declared.netlist.Wire.TheVariants.{Bit}
use Rattle.coco_base.specs.declared.cell.Part.{Part}
use Rattle.coco_base.specs.declared.setup.Setup.{Setup}
use Rattle.coco_model.specs.Run.{before}
use Rattle.coco_model.specs.Known.{Row, IsKnown, wire_part}
use Rattle.coco_model.specs.Calm.{both}

-- a flop that takes its own value is known as it was in cycle 0
pub kept_known : (flat : Flat) (setup : Setup) (cycles : ℕ) (row : ℕ → Row) (word : ℕ → ℕ → Row) → IsKnown flat setup cycles row word
    → (f : FlatFlop) → Contains flat.flops f → f.next ≡ Bit f.output → (p : Part) → row 0 f.output ≡ p → (t : ℕ) → t < cycles
    → row t f.output ≡ p
kept_known flat setup cycles row word known f listed own p start zero below = start
kept_known flat setup cycles row word known f listed own p start (suc t) below =
    (known.carried.next t below).flops f listed ∙ ap (wire_part (row t)) own
    ∙ kept_known flat setup cycles row word known f listed own p start t (omega arith)

pub both_of : (p q a b : Part) → p ≡ a → q ≡ b → both p q ≡ both a b
both_of p q a b e f = cc

pub before_below : (t cycles : ℕ) → t < cycles → before t < cycles
before_below zero cycles below = below
before_below (suc t) cycles below = omega arith
