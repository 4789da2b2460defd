use Rattle.std.proofs.Common.{◌≡◌, ℕ, ◌<◌}
use Rattle.std.specs.Prelude.{slice_get, Some}
use Rattle.coco_base.specs.declared.netlist.Wire.{Wire}
use Rattle.coco_model.specs.Netlist.{IsWireBelow}
use Rattle.gate_graph.proofs.range.are_wires_below.Given as goal

abbrev pub invariant-wires : goal.invariant-wires
invariant-wires l = (k : ℕ) (x : Wire) → k < l.number → slice_get l.wires k ≡ Some x → IsWireBelow l.bits x
