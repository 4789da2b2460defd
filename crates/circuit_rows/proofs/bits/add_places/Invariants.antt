-- the places so far are added
use Rattle.std.proofs.Common.{◌≡◌, ◌++◌, map}
use Rattle.std.specs.List.{range_with_len}
use Rattle.circuit_rows.specs.Words.{place_name}
use Rattle.circuit_rows.proofs.bits.add_places.Given as goal

abbrev pub invariant-places : goal.invariant-places
invariant-places l = l.bits ≡ l.initial.bits ++ map (place_name l.name) (range_with_len 0 l.place)
