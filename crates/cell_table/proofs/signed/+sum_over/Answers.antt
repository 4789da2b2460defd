use Rattle.std.proofs.Common.{rules, w32, ◌≡◌, to_z, of_z}
use Rattle.cell_table.proofs.Sums.{bounded_by_eight, sum-returns, IsBounded-returns}
use Rattle.cell_table.proofs.signed.+sum_over.Goals as goal

pub sum_at_place-requires-clause-zero : goal.sum_at_place-requires-clause-zero
sum_at_place-requires-clause-zero t c =
    let e : to_z w32 (of_z w32 c.sum_over-zero.result) ≡ c.sum_over-zero.result = search rules in
    rw e (bounded_by_eight c.args.kind c.args.place c.args.parts.now _ c.requires c.in-len1-up.len_at_least c.sum_over-zero.ensures.bound)

pub sum_at_place-requires-clause-one : goal.sum_at_place-requires-clause-one
sum_at_place-requires-clause-one t c =
    let e : to_z w32 (of_z w32 c.sum_over-one.result) ≡ c.sum_over-one.result = search rules in
    rw e (bounded_by_eight c.args.kind c.args.place c.args.parts.now _ c.requires c.in-len1-up.len_at_least c.sum_over-one.ensures.bound)

pub returns-clause-sum : goal.returns-clause-sum
returns-clause-sum t c =
    let e : to_z w32 (of_z w32 c.sum_over-zero.result) ≡ c.sum_over-zero.result = search rules in
    let f : to_z w32 (of_z w32 c.sum_over-one.result) ≡ c.sum_over-one.result = search rules in
    let g : to_z w32 (of_z w32 c.sum_at_place.result) ≡ c.sum_at_place.result = search rules in
    let j = rw (e, f) at c.sum_at_place.ensures in
    let z = rw c.with_value.ensures at c.sum_over-zero.ensures.sum in
    let o = rw c.with_value-2.ensures at c.sum_over-one.ensures.sum in
    rw g (sum-returns c.args.kind c.args.inputs c.args.place c.args.set c.args.parts.now c.sum_over-zero.result c.sum_over-one.result c.sum_at_place.result
    (search rules) c.requires c.in-len1-up.len_at_least z o j)

pub returns-clause-bound : goal.returns-clause-bound
returns-clause-bound t c =
    let e : to_z w32 (of_z w32 c.sum_over-zero.result) ≡ c.sum_over-zero.result = search rules in
    let f : to_z w32 (of_z w32 c.sum_over-one.result) ≡ c.sum_over-one.result = search rules in
    let g : to_z w32 (of_z w32 c.sum_at_place.result) ≡ c.sum_at_place.result = search rules in
    let j = rw (e, f) at c.sum_at_place.ensures in
    rw g (IsBounded-returns c.args.parts.now _ _ c.sum_over-zero.result c.sum_over-one.result c.sum_at_place.result c.in-len1-up.len_at_least
    c.sum_over-zero.ensures.bound c.sum_over-one.ensures.bound j)
