-- the ports so far have their flat numbers
use Rattle.std.proofs.Common.{◌≡◌, take, map}
use Rattle.netlist_json.specs.Flats.{flat_port}
use Rattle.netlist_json.proofs.renumber.ports.Given as goal

abbrev pub invariant-ports : goal.invariant-ports
invariant-ports l = l.all ≡ map (flat_port l.order) (take l.port-index l.ports)
