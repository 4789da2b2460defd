-- the registers so far, and those of the elements that are left, are the registers of all
use Rattle.std.proofs.Common.{◌≡◌, ◌++◌, drop}
use Rattle.netlist_json.specs.Flats.{flat_registers}
use Rattle.netlist_json.proofs.renumber.registers.Given as goal

abbrev pub invariant-elements : goal.invariant-elements
invariant-elements l = l.all.items ++ flat_registers l.order (drop l.element-index l.elements) ≡ flat_registers l.order l.elements
