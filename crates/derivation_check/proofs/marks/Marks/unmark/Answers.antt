use Rattle.std.proofs.Common.{◌≡◌, ◌+◌, ◌<◌, length, None, arith}
use Rattle.std.proofs.Math.ListN.{set}
use Rattle.derivation_check.specs.Marked.{marked_count, signs_in}
use Rattle.derivation_check.proofs.Counts.{count_pos, count_unmarked, marked_within}
use Rattle.derivation_check.proofs.marks.Marks.unmark.Goals as goal

pub overflow_sub-self : goal.overflow_sub-self
overflow_sub-self c =
    let v : c.args.self.now ≡ c.self.inside.signs.items = cc in
    let some : signs_in c.self.inside.signs.items c.args.var ≡ None → ⊥ = rw v at c.requires in
    let in_range : c.args.var < length c.self.inside.signs.items = marked_within c.self.inside.signs.items c.args.var some in
    let count : c.self.inside.count ≡ marked_count c.self.inside.signs.items = c.self.invariant in
    omega (arith, count_pos c.self.inside.signs.items c.args.var in_range some)

pub invariant_of-self : goal.invariant_of-self
invariant_of-self c =
    let v : c.args.self.now ≡ c.self.inside.signs.items = cc in
    let some : signs_in c.self.inside.signs.items c.args.var ≡ None → ⊥ = rw v at c.requires in
    let in_range : c.args.var < length c.self.inside.signs.items = marked_within c.self.inside.signs.items c.args.var some in
    let count : c.self.inside.count ≡ marked_count c.self.inside.signs.items = c.self.invariant in
    let less : marked_count (set c.self.inside.signs.items c.args.var None) + 1 ≡ marked_count c.self.inside.signs.items =
    count_unmarked c.self.inside.signs.items c.args.var in_range some in
    omega arith
