use Rattle.std.proofs.Common.{◌≡◌, ◌+◌, ◌<◌, length, None, Some, get_or, ap, arith}
use Rattle.std.proofs.Math.ListN.{set}
use Rattle.derivation_check.specs.Marked.{marked_count}
use Rattle.derivation_check.proofs.Counts.{count_lt, count_marked}
use Rattle.derivation_check.proofs.marks.Marks.mark.Goals as goal

pub overflow_add-self : goal.overflow_add-self
overflow_add-self c =
    let v : c.args.self.now ≡ c.self.inside.signs.items = cc in
    let in_range : c.args.lit.var < length c.self.inside.signs.items = omega (arith, ap length v) in
    let none : get_or c.self.inside.signs.items c.args.lit.var None ≡ None = rw v at c.requires.unmarked in
    omega (arith, count_lt c.self.inside.signs.items c.args.lit.var in_range none)

pub invariant_of-self : goal.invariant_of-self
invariant_of-self c =
    let v : c.args.self.now ≡ c.self.inside.signs.items = cc in
    let in_range : c.args.lit.var < length c.self.inside.signs.items = omega (arith, ap length v) in
    let none : get_or c.self.inside.signs.items c.args.lit.var None ≡ None = rw v at c.requires.unmarked in
    let count : c.self.inside.count ≡ marked_count c.self.inside.signs.items = c.self.invariant in
    let more : marked_count (set c.self.inside.signs.items c.args.lit.var (Some c.args.lit.positive)) ≡ marked_count c.self.inside.signs.items + 1 =
    count_marked c.self.inside.signs.items c.args.lit.var c.args.lit.positive in_range none in
    omega arith
