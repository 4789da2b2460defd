-- the numbers of the nets so far are noted
use Rattle.std.proofs.Common.{◌≡◌, ◌++◌, take, flat_map}
use Rattle.netlist_json.specs.Flats.{net_numbers}
use Rattle.netlist_json.proofs.numbers.note_nets.Given as goal

abbrev pub invariant-nets : goal.invariant-nets
invariant-nets l = l.all.items ≡ l.initial.all.items ++ flat_map net_numbers (take l.net-index l.nets)
