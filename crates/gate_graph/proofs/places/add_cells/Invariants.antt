use Rattle.std.proofs.Common.{◌≡◌, ◌++◌, drop}
use Rattle.gate_graph.specs.Drivers.{cell_drivings}
use Rattle.gate_graph.proofs.places.add_cells.Given as goal

abbrev pub invariant-cells : goal.invariant-cells
invariant-cells l = l.places.items ++ cell_drivings l.number (drop l.number l.cells) ≡ l.initial.places.items ++ cell_drivings 0 l.cells
