use Rattle.std.proofs.Common.{◌≡◌, ◌++◌, length}
use Rattle.coco_model.specs.Netlist.{bits_in}
use Rattle.bind_run.proofs.memories.bits_in.Given as goal

abbrev pub invariant-wires : goal.invariant-wires
invariant-wires l = l.bits.items ++ bits_in l.rest ≡ bits_in l.wires

abbrev pub decreases-wires : goal.decreases-wires
decreases-wires l = length l.rest
