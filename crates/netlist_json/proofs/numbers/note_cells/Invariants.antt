-- the numbers of the cells so far are noted
use Rattle.std.proofs.Common.{◌≡◌, ◌++◌, take, flat_map}
use Rattle.netlist_json.specs.Flats.{cell_numbers}
use Rattle.netlist_json.proofs.numbers.note_cells.Given as goal

abbrev pub invariant-cells : goal.invariant-cells
invariant-cells l = l.all.items ≡ l.initial.all.items ++ flat_map cell_numbers (take l.cell-index l.cells)
