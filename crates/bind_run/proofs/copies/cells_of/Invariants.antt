use Rattle.std.proofs.Common.{◌≡◌, take}
use Rattle.bind_run.proofs.copies.cells_of.Given as goal

abbrev pub invariant-cells : goal.invariant-cells
invariant-cells l = l.copies.items ≡ take l.cell-index l.cells
