-- the gates so far, and those of the elements that are left, are the gates of all
use Rattle.std.proofs.Common.{◌≡◌, ◌++◌, drop}
use Rattle.netlist_json.specs.Flats.{flat_gates}
use Rattle.netlist_json.proofs.renumber.gates.Given as goal

abbrev pub invariant-elements : goal.invariant-elements
invariant-elements l = l.all.items ++ flat_gates l.order (drop l.element-index l.elements) ≡ flat_gates l.order l.elements
