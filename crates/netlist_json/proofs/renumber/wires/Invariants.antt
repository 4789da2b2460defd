-- the wires so far have their flat numbers
use Rattle.std.proofs.Common.{◌≡◌, take, map}
use Rattle.netlist_json.specs.Flats.{flat_wire}
use Rattle.netlist_json.proofs.renumber.wires.Given as goal

abbrev pub invariant-wires : goal.invariant-wires
invariant-wires l = l.all ≡ map (flat_wire l.order) (take l.tied-index l.wires)
