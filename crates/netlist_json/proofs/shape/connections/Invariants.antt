-- the connections so far, and those of the rest, are the connections of all
use Rattle.std.proofs.Common.{◌≡◌}
use Rattle.serde_json.specs.View.{members_view}
use Rattle.netlist_json.specs.Shape.{each, connection_of}
use Rattle.netlist_json.proofs.Faults.{with_front}
use Rattle.netlist_json.proofs.shape.connections.Given as goal

abbrev pub invariant-connections : goal.invariant-connections
invariant-connections l = with_front l.all (each (connection_of l.cell) (members_view l.port-iterator)) ≡ each (connection_of l.cell) (members_view l.fn.members.entries)
