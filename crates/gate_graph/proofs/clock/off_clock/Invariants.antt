use Rattle.std.proofs.Common.{◌≡◌, ℕ, ◌<◌}
use Rattle.std.specs.Prelude.{slice_get, Some}
use Rattle.coco_base.specs.declared.netlist.FlatFlop.{FlatFlop}
use Rattle.gate_graph.specs.Clocks.{IsClockWire}
use Rattle.gate_graph.proofs.clock.off_clock.Given as goal

abbrev pub invariant-flops : goal.invariant-flops
invariant-flops l = (k : ℕ) (f : FlatFlop) → k < l.number → slice_get l.flops k ≡ Some f → IsClockWire l.fn.flat l.fn.clock f.clock
