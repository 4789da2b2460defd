-- the bits so far, and those of the elements that are left, are the bits of all
use Rattle.std.proofs.Common.{◌≡◌, ◌+◌, drop}
use Rattle.netlist_json.specs.Flats.{new_bits}
use Rattle.netlist_json.proofs.flat.bit_count.Given as goal

abbrev pub invariant-elements : goal.invariant-elements
invariant-elements l = l.count + new_bits (drop l.element-index l.elements) ≡ l.fn.first + new_bits l.elements
