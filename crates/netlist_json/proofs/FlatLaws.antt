-- New bits are those of the registers.
use Rattle.std.proofs.Common.{◌≡◌, ◌+◌, ℕ, List, [], ◌∷◌, sum_by, refl}
use Rattle.std.proofs.lemmas.List.Sums.{sum_by-cons}
use Rattle.netlist_json.specs.Flats.{flat_register, flat_registers, mux_count, new_bits}
use Rattle.netlist_json.specs.declared.element.Element.{Element}
use Rattle.netlist_json.specs.declared.element.Element.TheVariants.{Gate, Flop}

pub sum_by-flat_registers : (order : List ℕ) (es : List Element) → sum_by mux_count (flat_registers order es) ≡ new_bits es
sum_by-flat_registers order [] = refl
sum_by-flat_registers order (Gate cell ∷ es) = sum_by-flat_registers order es
sum_by-flat_registers order (Flop r ∷ es) = rw (sum_by-cons mux_count (flat_register order r) (flat_registers order es), sum_by-flat_registers order es) refl
