-- The name of a bit: of all nets and ports that have it, that of one whose name does not begin with `$`, if any, and then
-- the least by its bytes, a net before a port of one name.
use Rattle.std.specs.Prelude.{ℕ, ◌+◌, ◌++◌, ◌==◌, List, [], ◌∷◌, length, fold, Bool, true, false, Option, Some, None, codes, if◌then◌else◌}
use Rattle.std.specs.Cmp.Lexicographic.{slice_cmp}
use Rattle.std.specs.Fmt.{decimal}
use Rattle.std.specs.List.{flat_map}
use Rattle.std.specs.Ordering.{nat_cmp, is_lt}
use Rattle.coco_base.specs.declared.netlist.Flat.{Flat}
use Rattle.coco_base.specs.declared.netlist.FlatNet.{FlatNet}
use Rattle.coco_base.specs.declared.netlist.FlatPort.{FlatPort}
use Rattle.coco_base.specs.declared.netlist.Wire.{Wire}
use Rattle.coco_base.specs.declared.netlist.Wire.TheVariants.{Const, Bit}

-- a place of a net or a port: its name, its width, and which of its wires, from 0
pub record NamedPlace : Type 0 where
  pub name : List ℕ
  pub width : ℕ
  pub place : ℕ

abbrev pub is_bit : ℕ → Wire → Bool
is_bit bit (Const b) = false
is_bit bit (Bit n) = n == bit

-- the places of a bit among wires of which the first has this place
abbrev pub places_from : List ℕ → ℕ → ℕ → List Wire → ℕ → List NamedPlace
places_from name width place [] bit = []
places_from name width place (w ∷ ws) bit =
    (if is_bit bit w then record { name = name; width = width; place = place } ∷ [] else []) ++ places_from name width (place + 1) ws bit

abbrev pub net_places : ℕ → FlatNet → List NamedPlace
net_places bit net = places_from net.name (length net.wires) 0 net.wires bit

abbrev pub port_places : ℕ → FlatPort → List NamedPlace
port_places bit port = places_from port.name (length port.wires) 0 port.wires bit

-- the places of a bit in nets, and then in ports
abbrev pub places_of : Flat → ℕ → List NamedPlace
places_of flat bit = flat_map (net_places bit) flat.nets ++ flat_map (port_places bit) flat.ports

-- a name that begins with a dollar sign, as Yosys names what has no name of its own
abbrev pub is_hidden : List ℕ → Bool
is_hidden [] = false
is_hidden (c ∷ cs) = c == 36

-- a name that is not hidden goes before one that is, and else the lesser by its bytes goes first
abbrev pub goes_before : List ℕ → List ℕ → Bool
goes_before a b = by (is_hidden a) (is_hidden b) (is_lt (slice_cmp nat_cmp a b))
  where
    by : Bool → Bool → Bool → Bool
    by false true lesser = true
    by true false lesser = false
    by hidden other lesser = lesser

-- of two places the one whose name goes before the other's, and the earlier one of equals
abbrev pub better : Option NamedPlace → NamedPlace → Option NamedPlace
better None other = Some other
better (Some best) other = if goes_before other.name best.name then Some other else Some best

-- the place that names a bit
abbrev pub naming_place : Flat → ℕ → Option NamedPlace
naming_place flat bit = fold better None (places_of flat bit)

-- the name of a net or a port of one wire, else with the place, and the bit's number where it has no name
abbrev pub place_text : NamedPlace → List ℕ
place_text p = if p.width == 1 then p.name else p.name ++ codes "[" ++ decimal p.place ++ codes "]"

abbrev pub bit_text : ℕ → Option NamedPlace → List ℕ
bit_text bit None = codes "#" ++ decimal bit
bit_text bit (Some p) = place_text p

abbrev pub name_of_bit : Flat → ℕ → List ℕ
name_of_bit flat bit = bit_text bit (naming_place flat bit)
