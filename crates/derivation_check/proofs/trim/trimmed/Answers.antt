use Rattle.std.proofs.Common.{length}
use Rattle.derivation_check.proofs.Trimming.{valid_earlier, picked_valid, picked_fresh, picked_fewer}
use Rattle.derivation_check.proofs.trim.trimmed.Goals as goal

pub used_lines-requires : goal.used_lines-requires
used_lines-requires c = rw (c.count-count.ensures.count, c.as_slice-lines.ensures) (valid_earlier c.args.store.now c.args.derivation.now.lines c.requires.valid)

pub pick-requires-clause-earlier : goal.pick-requires-clause-earlier
pick-requires-clause-earlier c = rw (c.count-count.ensures.count, c.as_slice-lines.ensures) (valid_earlier c.args.store.now c.args.derivation.now.lines c.requires.valid)

pub returns-clause-fewer : goal.returns-clause-fewer
returns-clause-fewer c =
    let part = rw (c.count-count.ensures.count, c.as_slice-lines.ensures) at c.in_ok-pick.ensures.picked in
    picked_fewer (length c.args.store.now) c.args.derivation.now.lines c.in_ok-pick.field-0 part

pub returns-clause-valid : goal.returns-clause-valid
returns-clause-valid c =
    let part = rw (c.count-count.ensures.count, c.as_slice-lines.ensures) at c.in_ok-pick.ensures.picked in
    let low = rw c.count-count.ensures.count at c.in_ok-pick.ensures.earlier in
    picked_valid c.args.store.now c.args.derivation.now.lines c.in_ok-pick.field-0 part low c.requires.valid

pub returns-clause-fresh : goal.returns-clause-fresh
returns-clause-fresh c = λ fresh.
    let part = rw (c.count-count.ensures.count, c.as_slice-lines.ensures) at c.in_ok-pick.ensures.picked in
    picked_fresh c.args.store.now c.args.derivation.now.lines c.in_ok-pick.field-0 part fresh
