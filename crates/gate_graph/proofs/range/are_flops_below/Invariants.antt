use Rattle.std.proofs.Common.{◌≡◌, ℕ, ◌<◌}
use Rattle.std.specs.Prelude.{slice_get, Some}
use Rattle.coco_base.specs.declared.netlist.FlatFlop.{FlatFlop}
use Rattle.gate_graph.specs.Numbers.{IsFlopBelow}
use Rattle.gate_graph.proofs.range.are_flops_below.Given as goal

abbrev pub invariant-flops : goal.invariant-flops
invariant-flops l = (k : ℕ) (x : FlatFlop) → k < l.number → slice_get l.flops k ≡ Some x → IsFlopBelow l.bits x
