-- the nets so far have their flat numbers
use Rattle.std.proofs.Common.{◌≡◌, take, map}
use Rattle.netlist_json.specs.Flats.{flat_net}
use Rattle.netlist_json.proofs.renumber.nets.Given as goal

abbrev pub invariant-nets : goal.invariant-nets
invariant-nets l = l.all.items ≡ map (flat_net l.order) (take l.net-index l.nets)
