-- no port so far is at fault
use Rattle.std.proofs.Common.{◌≡◌, drop}
use Rattle.netlist_json.specs.Elements.{no_inout}
use Rattle.netlist_json.proofs.elements.no_inout.Given as goal

abbrev pub invariant-ports : goal.invariant-ports
invariant-ports l = no_inout (drop l.port-index l.ports) ≡ no_inout l.ports
