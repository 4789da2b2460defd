-- the ports so far, and those of the rest, are the ports of all
use Rattle.std.proofs.Common.{◌≡◌}
use Rattle.serde_json.specs.View.{members_view}
use Rattle.netlist_json.specs.Shape.{each, port_of}
use Rattle.netlist_json.proofs.Faults.{with_front}
use Rattle.netlist_json.proofs.shape.ports.Given as goal

abbrev pub invariant-ports : goal.invariant-ports
invariant-ports l = with_front l.all (each port_of (members_view l.name-iterator)) ≡ each port_of (members_view l.fn.members.entries)
