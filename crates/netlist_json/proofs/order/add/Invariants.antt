-- the items so far are in the map
use Rattle.std.proofs.Common.{◌≡◌, map, fold}
use Rattle.netlist_json.specs.Flats.{keyed, put_entry}
use Rattle.netlist_json.specs.Keys.{entry_of}
use Rattle.netlist_json.proofs.order.add.Given as goal

abbrev pub invariant-items : goal.invariant-items
invariant-items g l = map entry_of l.entries.entries ≡ fold put_entry (map entry_of l.initial.entries.entries) (keyed g.T.Named.name_of l.made l.yielded)
