use Rattle.std.proofs.Common.{◌≡◌, ◌+◌, ◌<◌, ◌∷◌, ◌++◌, [], length, get_or, map, take, arith}
use Rattle.std.proofs.lemmas.List.{map_more}
use Rattle.clause_store.specs.declared.line.Cut.{Cut}
use Rattle.derivation_check.proofs.Adding.{adds_both, cut_below}
use Rattle.derivation_check.proofs.used.add_named.Goals as goal

abbrev none : Cut
none = record { var = 0; id = 0 }

pub add_number-requires-in-adding : goal.add_number-requires-in-adding
add_number-requires-in-adding c =
    let line = c.args.line.now in
    let k = c.adding.cut-index in
    let lt : k < length line.cuts = rw c.as_slice-cut-items.ensures at c.adding-test.true in
    let low : (get_or line.cuts k none).id < c.args.count + length c.args.used.now =
    cut_below (c.args.count + length c.args.used.now) line k none lt c.requires in
    let long : length c.adding.used ≡ length c.args.used.now = c.adding.invariant.len in
    rw c.as_slice-cut-items.ensures (omega arith)

pub adding-preserved : goal.adding-preserved
adding-preserved c =
    let line = c.args.line.now in
    let k = c.adding.cut-index in
    let lt : k < length line.cuts = rw c.as_slice-cut-items.ensures at c.adding-test.true in
    let more : map (λ cut. cut.id) (take (k + 1) line.cuts) ≡ map (λ cut. cut.id) (take k line.cuts) ++ (get_or line.cuts k none).id ∷ [] =
    map_more (λ cut. cut.id) line.cuts k none lt in
    rw more (adds_both c.args.count (line.first ∷ map (λ cut. cut.id) (take k line.cuts)) ((get_or line.cuts k none).id ∷ []) c.args.used.now c.adding.used c.add_number-in-adding.new.used
    c.adding.invariant (rw c.as_slice-cut-items.ensures at c.add_number-in-adding.ensures))
