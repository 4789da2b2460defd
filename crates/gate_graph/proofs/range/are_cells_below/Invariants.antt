use Rattle.std.proofs.Common.{◌≡◌, ℕ, ◌<◌}
use Rattle.std.specs.Prelude.{slice_get, Some}
use Rattle.coco_base.specs.declared.netlist.FlatCell.{FlatCell}
use Rattle.gate_graph.specs.Numbers.{IsCellBelow}
use Rattle.gate_graph.proofs.range.are_cells_below.Given as goal

abbrev pub invariant-cells : goal.invariant-cells
invariant-cells l = (k : ℕ) (x : FlatCell) → k < l.number → slice_get l.cells k ≡ Some x → IsCellBelow l.bits x
