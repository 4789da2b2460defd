-- The bit lists of a netlist: each place is a bit by its number, or a constant by a text. Undefined (`x`) and high
-- impedance (`z`) read as 0. A number with a fraction or an exponent is no whole number, and no bit.
use Rattle.std.specs.Prelude.{ℕ, List, [], ◌∷◌, ◌||◌, true, false, Option, Some, None, nat_le, option_and_then, option_map, codes, if◌then◌else◌}
use Rattle.std.specs.Str.{bytes_eq}
use Rattle.serde_json.specs.Data.{Data, Items, no_items, item}
use Rattle.serde_json.specs.Find.{as_number, as_str, as_u64}
use Rattle.coco_base.specs.declared.netlist.Wire.{Wire}
use Rattle.coco_base.specs.declared.netlist.Wire.TheVariants.{Const, Bit}

abbrev pub last_number : ℕ
last_number = 2147483647

abbrev pub bit_of : ℕ → Option Wire
bit_of number = if nat_le number last_number then Some (Bit number) else None

abbrev pub constant_of : List ℕ → Option Wire
constant_of text =
    if bytes_eq text (codes "1") then Some (Const true) else
    (if bytes_eq text (codes "0") || bytes_eq text (codes "x") || bytes_eq text (codes "z") then Some (Const false) else None)

-- of a value that is a number, or else of one that is a text
abbrev pub wire_from : Option ℕ → Option (List ℕ) → Option Wire
wire_from (Some number) text = bit_of number
wire_from None (Some text) = constant_of text
wire_from None None = None

abbrev pub wire_of : Data → Option Wire
wire_of d = wire_from (option_and_then as_u64 (as_number d)) (as_str d)

-- the wires of a list, least significant first
abbrev pub wires_of : Items → Option (List Wire)
wires_of no_items = Some []
wires_of (item d ds) = option_and_then (λ w. option_map (λ ws. w ∷ ws) (wires_of ds)) (wire_of d)
