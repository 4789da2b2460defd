-- What the word of a net means: the wires of a net or port of that name, or else one wire of a net or port.
use Rattle.std.specs.Prelude.{◌≡◌, ℕ, suc, nat_lt, if◌then◌else◌, List, [], ◌++◌, length, map, Option, Some, None, Result, Ok, Err}
use Rattle.std.specs.Borrow.{Bor}
use Rattle.std.specs.List.{slice_range}
use Rattle.std.specs.Map.{lookup}
use Rattle.std.specs.Str.{bytes_eq}
use Rattle.std.specs.Str.Parse.{digits_value}
use Rattle.coco_base.specs.declared.netlist.Flat.{Flat}
use Rattle.coco_base.specs.declared.netlist.FlatNet.{FlatNet}
use Rattle.coco_base.specs.declared.netlist.FlatPort.{FlatPort}
use Rattle.coco_base.specs.declared.netlist.Wire.{Wire}
use Rattle.bind_run.specs.declared.nets.NetFault.{NetFault}
use Rattle.bind_run.specs.declared.nets.NetFault.TheVariants.{Missing, Outside}
use Rattle.bind_run.specs.NetWords.{PlaceWord, place_word}

-- a name and its wires
abbrev pub Named : Type 0
Named = List ℕ × List Wire

abbrev pub net_named : FlatNet → Named
net_named net = (net.name, net.wires)

abbrev pub port_named : FlatPort → Named
port_named port = (port.name, port.wires)

-- the names of nets, and then those of ports
abbrev pub names_of : Flat → List Named
names_of flat = map net_named flat.nets ++ map port_named flat.ports

-- the wires of the first of this name: a net goes before a port
abbrev pub wires_named : List Named → List ℕ → Option (List Wire)
wires_named names name = lookup (bytes_eq name) names

-- one of wires, by its place
abbrev pub wire_at : ℕ → List Wire → Result (List Wire) NetFault
wire_at place wires = if nat_lt place (length wires) then Ok (slice_range wires place (suc place)) else Err Outside

abbrev pub place_in : List ℕ → Option (List Wire) → Result (List Wire) NetFault
place_in digits None = Err Missing
place_in digits (Some wires) = wire_at (digits_value 10 digits) wires

-- where no net or port has the whole word as its name
abbrev pub place_of : List Named → Option PlaceWord → Result (List Wire) NetFault
place_of names None = Err Missing
place_of names (Some word) = place_in word.digits (wires_named names word.name)

abbrev pub or_place : List Named → List ℕ → Option (List Wire) → Result (List Wire) NetFault
or_place names word (Some wires) = Ok wires
or_place names word None = place_of names (place_word word)

-- the wires that a word means among names
abbrev pub meaning_in : List Named → List ℕ → Result (List Wire) NetFault
meaning_in names word = or_place names word (wires_named names word)

abbrev pub meaning_of : Flat → List ℕ → Result (List Wire) NetFault
meaning_of flat word = meaning_in (names_of flat) word

abbrev pub or_no_wires : Result (List Wire) NetFault → List Wire
or_no_wires (Ok wires) = wires
or_no_wires (Err fault) = []

-- the wires of a word, none where it means none
abbrev pub wires_of : Flat → List ℕ → List Wire
wires_of flat word = or_no_wires (meaning_of flat word)

-- ---- what the code has

-- in both tables each name has the same wires
pub record AreAlike (names others : List Named) : Type 0 where
  pub each : (name : List ℕ) → wires_named names name ≡ wires_named others name

abbrev pub seen_wires : Result (Bor (List Wire)) NetFault → Result (List Wire) NetFault
seen_wires (Ok wires) = Ok wires.now
seen_wires (Err fault) = Err fault
