use Rattle.std.proofs.Common.{◌≡◌, ℕ, ◌<◌}
use Rattle.std.specs.Prelude.{slice_get, Some}
use Rattle.coco_base.specs.declared.netlist.FlatPort.{FlatPort}
use Rattle.gate_graph.specs.Numbers.{AreWiresBelow}
use Rattle.gate_graph.proofs.range.are_ports_below.Given as goal

abbrev pub invariant-ports : goal.invariant-ports
invariant-ports l = (k : ℕ) (x : FlatPort) → k < l.number → slice_get l.ports k ≡ Some x → AreWiresBelow l.bits x.wires
