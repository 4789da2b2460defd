use Rattle.std.proofs.Common.{◌≡◌, ◌+◌, ◌<◌, length, true, false, sym, ◌∙◌, ap, arith}
use Rattle.std.proofs.Math.ListN.{set}
use Rattle.clause_solver.specs.Analysis.{is_marked, marked_from}
use Rattle.clause_solver.proofs.CountFacts.{marked_le}
use Rattle.clause_solver.proofs.MarkFacts.{some_and, count_more, count_same}
use Rattle.clause_solver.proofs.marks.mark.Goals as goal

pub overflow_add-result : goal.overflow_add-result
overflow_add-result c =
    let x = c.place-place.ensures.coherent in
    omega (arith, marked_le c.args.marks.now c.args.trail.now.lits c.args.start, x.bound, x.small, c.requires.counted)

pub returns-then-place-start-clause-counted : goal.returns-then-place-start-clause-counted
returns-then-place-start-clause-counted c =
    let x = c.place-place.ensures.coherent in
    let at = some_and _ _ c.place-place.ensures.place in
    let unmarked : is_marked c.args.marks.now at.0.var ≡ false = ap (is_marked c.args.marks.now) at.2 ∙ c.if-marks-var.false in
    let lt : at.0.var < length c.args.marks.now = rw at.2 (omega (arith, c.requires.len, c.requires.range)) in
    let more = count_more c.args.marks.now _ c.place-place.result c.args.start at.0 x.fresh at.1 lt unmarked c.if-place-start.true in
    ap (λ n. n + 1) c.requires.counted ∙ sym more ∙ ap (λ v. marked_from (set c.args.marks.now v true) c.args.trail.now.lits c.args.start) at.2

pub returns-clause-counted : goal.returns-clause-counted
returns-clause-counted c =
    let x = c.place-place.ensures.coherent in
    let at = some_and _ _ c.place-place.ensures.place in
    let lt : at.0.var < length c.args.marks.now = rw at.2 (omega (arith, c.requires.len, c.requires.range)) in
    let same = count_same c.args.marks.now _ c.place-place.result c.args.start at.0 x.fresh at.1 lt c.if-place-start.false in
    c.requires.counted ∙ sym same ∙ ap (λ v. marked_from (set c.args.marks.now v true) c.args.trail.now.lits c.args.start) at.2
