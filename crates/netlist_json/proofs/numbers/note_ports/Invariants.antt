-- the numbers of the ports so far are noted
use Rattle.std.proofs.Common.{◌≡◌, ◌++◌, take, flat_map}
use Rattle.netlist_json.specs.Flats.{port_numbers}
use Rattle.netlist_json.proofs.numbers.note_ports.Given as goal

abbrev pub invariant-ports : goal.invariant-ports
invariant-ports l = l.all.items ≡ l.initial.all.items ++ flat_map port_numbers (take l.port-index l.ports)
