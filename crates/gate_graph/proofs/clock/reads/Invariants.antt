use Rattle.std.proofs.Common.{◌≡◌, ◌≢◌, ℕ, ◌<◌}
use Rattle.std.specs.Prelude.{slice_get, Some}
use Rattle.coco_base.specs.declared.netlist.Wire.{Wire}
use Rattle.coco_base.specs.declared.netlist.Wire.TheVariants.{Bit}
use Rattle.gate_graph.proofs.clock.reads.Given as goal

abbrev pub invariant-wires : goal.invariant-wires
invariant-wires l = (k : ℕ) (w : Wire) → k < l.number → slice_get l.wires k ≡ Some w → w ≢ Bit l.bit
