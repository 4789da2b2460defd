-- one more
use Rattle.std.proofs.Common.{◌≡◌, Ok, string_bytes}
use Rattle.serde_json.specs.View.{members_view, view}
use Rattle.netlist_json.specs.Shape.{each, connection_of}
use Rattle.netlist_json.proofs.Faults.{each_more}
use Rattle.netlist_json.proofs.shape.connections.Goals as goal

pub connections-preserved : goal.connections-preserved
connections-preserved c =
    let key = string_bytes c.in-Some.port.now in
    let value = view c.in-Some.value.now in
    let read : connection_of c.args.cell.now key value ≡ Ok c.in_ok-connection.field-0 = rw c.as_str.ensures.value at c.in_ok-connection.ensures in
    rw c.in_ok-push.ensures.ok
    (each_more (connection_of c.args.cell.now) c.connections.all c.in_ok-connection.field-0 key value (members_view c.next.new.self) (each (connection_of c.args.cell.now) (members_view c.args.members.now.entries))
    (rw c.in-Some.ensures.steps at c.connections.invariant) read)
