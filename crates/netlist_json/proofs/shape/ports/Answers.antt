-- one more
use Rattle.std.proofs.Common.{◌≡◌, Ok, string_bytes}
use Rattle.serde_json.specs.View.{members_view, view}
use Rattle.netlist_json.specs.Shape.{each, port_of}
use Rattle.netlist_json.proofs.Faults.{each_more}
use Rattle.netlist_json.proofs.shape.ports.Goals as goal

pub ports-preserved : goal.ports-preserved
ports-preserved c =
    let key = string_bytes c.in-Some.name.now in
    let value = view c.in-Some.value.now in
    let read : port_of key value ≡ Ok c.in_ok-port.field-0 = rw c.as_str.ensures.value at c.in_ok-port.ensures in
    rw c.in_ok-push.ensures.ok
    (each_more port_of c.ports.all c.in_ok-port.field-0 key value (members_view c.next.new.self) (each port_of (members_view c.args.members.now.entries))
    (rw c.in-Some.ensures.steps at c.ports.invariant) read)
