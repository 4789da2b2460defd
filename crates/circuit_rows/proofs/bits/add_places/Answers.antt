-- one place more
use Rattle.std.proofs.Common.{append_assoc, arith, refl}
use Rattle.std.proofs.lemmas.List.FromFn.{map-range_with_len_more}
use Rattle.circuit_rows.specs.Words.{place_name}
use Rattle.circuit_rows.proofs.bits.add_places.Goals as goal

pub places-preserved : goal.places-preserved
places-preserved c =
    let place = c.places.place in
    let name = place_name c.args.name.now in
    let more = map-range_with_len_more name 0 place place (omega arith) in
    rw (c.in_ok-push.ensures.ok, c.in_ok-place_name.ensures, c.places.invariant, more, append_assoc) refl
