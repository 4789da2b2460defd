-- each connection so far is a port
use Rattle.std.proofs.Common.{◌≡◌, drop}
use Rattle.netlist_json.specs.Elements.{all_ports}
use Rattle.netlist_json.proofs.elements.all_ports.Given as goal

abbrev pub invariant-connections : goal.invariant-connections
invariant-connections l = all_ports l.cell l.kind (drop l.connection-index l.connections) ≡ all_ports l.cell l.kind l.connections
