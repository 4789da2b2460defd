-- The names of bits by number.
use Rattle.std.proofs.Common.{◌≡◌, ℕ, ◌<◌, List, length, get_or, arith}
use Rattle.std.proofs.lemmas.List.FromFn.{length-map-range_with_len, get_or-map-range_with_len}
use Rattle.coco_base.specs.BitNames.{name_of_bit}
use Rattle.coco_base.specs.declared.netlist.Flat.{Flat}
use Rattle.leak_report.specs.Places.{names_in}

pub names_long : (flat : Flat) → length (names_in flat) ≡ flat.bits
names_long flat = length-map-range_with_len (name_of_bit flat) 0 flat.bits

pub name_at : (flat : Flat) (bit : ℕ) (other : List ℕ) → bit < flat.bits → get_or (names_in flat) bit other ≡ name_of_bit flat bit
name_at flat bit other within = get_or-map-range_with_len (name_of_bit flat) 0 flat.bits bit bit other within (omega arith)
