use Rattle.std.proofs.Common.{◌≡◌, map}
use Rattle.std.specs.List.{range_with_len}
use Rattle.coco_base.specs.declared.netlist.Wire.TheVariants.{Bit}
use Rattle.bind_run.proofs.widening.leaf_wires.Given as goal

abbrev pub invariant-bits : goal.invariant-bits
invariant-bits l = l.wires.items ≡ map Bit (range_with_len l.first l.place)
