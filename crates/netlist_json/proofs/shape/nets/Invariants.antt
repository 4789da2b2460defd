-- the nets so far, and those of the rest, are the nets of all
use Rattle.std.proofs.Common.{◌≡◌}
use Rattle.serde_json.specs.View.{members_view}
use Rattle.netlist_json.specs.Shape.{each, net_of}
use Rattle.netlist_json.proofs.Faults.{with_front}
use Rattle.netlist_json.proofs.shape.nets.Given as goal

abbrev pub invariant-nets : goal.invariant-nets
invariant-nets l = with_front l.all (each net_of (members_view l.name-iterator)) ≡ each net_of (members_view l.fn.members.entries)
