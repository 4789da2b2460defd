-- no connection so far has the port's name
use Rattle.std.proofs.Common.{◌≡◌, drop}
use Rattle.netlist_json.specs.Elements.{wire_at}
use Rattle.netlist_json.proofs.elements.wire_at.Given as goal

abbrev pub invariant-connections : goal.invariant-connections
invariant-connections l = wire_at l.port (drop l.connection-index l.connections) ≡ wire_at l.port l.connections
