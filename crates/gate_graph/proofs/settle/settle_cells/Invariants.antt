use Rattle.std.proofs.Common.{take}
use Rattle.gate_graph.specs.Settled.{IsAfterCells}
use Rattle.gate_graph.proofs.settle.settle_cells.Given as goal

abbrev pub invariant-cells : goal.invariant-cells
invariant-cells l = IsAfterCells l.fn.flat (take l.number-index l.order) l.initial.row l.row
