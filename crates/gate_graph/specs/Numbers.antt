-- Numbers of bits that are in range, wire by wire.
use Rattle.std.specs.Prelude.{ℕ, ◌<◌, List, Option, Some, None, Contains}
use Rattle.coco_base.specs.declared.netlist.Flat.{Flat}
use Rattle.coco_base.specs.declared.netlist.FlatCell.{FlatCell}
use Rattle.coco_base.specs.declared.netlist.FlatFlop.{FlatFlop}
use Rattle.coco_base.specs.declared.netlist.FlatNet.{FlatNet}
use Rattle.coco_base.specs.declared.netlist.FlatPort.{FlatPort}
use Rattle.coco_base.specs.declared.netlist.Wire.{Wire}
use Rattle.coco_model.specs.Netlist.{wires_of, IsWireBelow}

abbrev pub AreWiresBelow : ℕ → List Wire → Type 0
AreWiresBelow bits wires = (w : Wire) → Contains wires w → IsWireBelow bits w

pub record IsCellBelow (bits : ℕ) (cell : FlatCell) : Type 0 where
  pub output : cell.output < bits
  pub inputs : AreWiresBelow bits (wires_of cell)

abbrev pub IsResetBelow : ℕ → Option Wire → Type 0
IsResetBelow bits None = Unit {0}
IsResetBelow bits (Some wire) = IsWireBelow bits wire

pub record IsFlopBelow (bits : ℕ) (flop : FlatFlop) : Type 0 where
  pub output : flop.output < bits
  pub next : IsWireBelow bits flop.next
  pub clock : IsWireBelow bits flop.clock
  pub reset : IsResetBelow bits flop.reset

-- part by part, what `IsInRange` says: of cells and flops, and of ports and nets
pub record AreGatesBelow (flat : Flat) : Type 0 where
  pub cells : (c : FlatCell) → Contains flat.cells c → IsCellBelow flat.bits c
  pub flops : (f : FlatFlop) → Contains flat.flops f → IsFlopBelow flat.bits f

pub record AreNamesBelow (flat : Flat) : Type 0 where
  pub ports : (p : FlatPort) → Contains flat.ports p → AreWiresBelow flat.bits p.wires
  pub nets : (n : FlatNet) → Contains flat.nets n → AreWiresBelow flat.bits n.wires

pub record IsBelow (flat : Flat) : Type 0 where
  pub gates : AreGatesBelow flat
  pub names : AreNamesBelow flat
