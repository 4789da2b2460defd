-- the numbers of the wires so far are noted
use Rattle.std.proofs.Common.{◌≡◌, ◌++◌, take, flat_map}
use Rattle.netlist_json.specs.Flats.{wire_numbers}
use Rattle.netlist_json.proofs.numbers.note_wires.Given as goal

abbrev pub invariant-wires : goal.invariant-wires
invariant-wires l = l.all.items ≡ l.initial.all.items ++ flat_map wire_numbers (take l.wire-index l.wires)
