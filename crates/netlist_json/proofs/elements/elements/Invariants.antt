-- the elements so far, and those of the cells that are left, are those of all
use Rattle.std.proofs.Common.{◌≡◌, drop}
use Rattle.netlist_json.specs.Elements.{elements_of}
use Rattle.netlist_json.proofs.Faults.{with_front}
use Rattle.netlist_json.proofs.elements.elements.Given as goal

abbrev pub invariant-cells : goal.invariant-cells
invariant-cells l = with_front l.all (elements_of (drop l.cell-index l.cells)) ≡ elements_of l.cells
