-- one more
use Rattle.std.proofs.Common.{◌≡◌, Ok, string_bytes}
use Rattle.serde_json.specs.View.{members_view, view}
use Rattle.netlist_json.specs.Shape.{each, net_of}
use Rattle.netlist_json.proofs.Faults.{each_more}
use Rattle.netlist_json.proofs.shape.nets.Goals as goal

pub nets-preserved : goal.nets-preserved
nets-preserved c =
    let key = string_bytes c.in-Some.name.now in
    let value = view c.in-Some.value.now in
    let read : net_of key value ≡ Ok c.in_ok-net.field-0 = rw c.as_str.ensures.value at c.in_ok-net.ensures in
    rw c.in_ok-push.ensures.ok
    (each_more net_of c.nets.all c.in_ok-net.field-0 key value (members_view c.next.new.self) (each net_of (members_view c.args.members.now.entries))
    (rw c.in-Some.ensures.steps at c.nets.invariant) read)
