-- the names so far are those of the cells so far
use Rattle.std.proofs.Common.{◌≡◌, ◌++◌, take, flat_map}
use Rattle.std.specs.Prelude.{codes}
use Rattle.refusal_lines.specs.Refusals.{named}
use Rattle.refusal_lines.proofs.faults.add_cells.Given as goal

abbrev pub invariant-cells : goal.invariant-cells
invariant-cells l = l.text.items ≡ l.initial.text.items ++ flat_map (named (codes " ")) (take l.cell-index l.cells)
