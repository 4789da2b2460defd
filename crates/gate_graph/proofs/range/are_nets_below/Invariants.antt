use Rattle.std.proofs.Common.{◌≡◌, ℕ, ◌<◌}
use Rattle.std.specs.Prelude.{slice_get, Some}
use Rattle.coco_base.specs.declared.netlist.FlatNet.{FlatNet}
use Rattle.gate_graph.specs.Numbers.{AreWiresBelow}
use Rattle.gate_graph.proofs.range.are_nets_below.Given as goal

abbrev pub invariant-nets : goal.invariant-nets
invariant-nets l = (k : ℕ) (x : FlatNet) → k < l.number → slice_get l.nets k ≡ Some x → AreWiresBelow l.bits x.wires
