-- the cells so far, and those of the rest, are the cells of all
use Rattle.std.proofs.Common.{◌≡◌}
use Rattle.serde_json.specs.View.{members_view}
use Rattle.netlist_json.specs.Shape.{each, cell_of}
use Rattle.netlist_json.proofs.Faults.{with_front}
use Rattle.netlist_json.proofs.shape.cells.Given as goal

abbrev pub invariant-cells : goal.invariant-cells
invariant-cells l = with_front l.all (each cell_of (members_view l.name-iterator)) ≡ each cell_of (members_view l.fn.members.entries)
