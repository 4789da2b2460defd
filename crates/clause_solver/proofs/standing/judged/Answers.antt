use Rattle.std.proofs.Common.{false, sym, ◌∙◌, arith}
use Rattle.std.proofs.lemmas.Option.{slice_get-get_or}
use Rattle.clause_store.specs.declared.lit.Lit.{Lit}
use Rattle.clause_solver.proofs.StandingFacts.{beq_true, beq_false, judged_true, judged_two, judged_false, judged_open}
use Rattle.clause_solver.proofs.standing.judged.Goals as goal
use Rattle.clause_solver.proofs.standing.judged.Goals.{in-Some+else-sign-lit, in-None+in-None-found}

abbrev some_lit : Lit
some_lit = record { var = 0; positive = false }

pub returns-then-sign-lit : goal.returns-then-sign-lit
returns-then-sign-lit c =
    let here = slice_get-get_or c.args.clause.now c.judging.lit-index some_lit (omega arith) in
    judged_true _ _ c.requires.ascends c.judging.lit-index _ c.in-Some.sign here (sym c.value.ensures ∙ c.in-Some.is) (beq_true _ _ c.if-sign-lit.true)

pub returns-in-Some-found : goal.returns-in-Some-found
returns-in-Some-found c =
    let here = slice_get-get_or c.args.clause.now c.judging.lit-index some_lit (omega arith) in
    judged_two _ _ c.requires.ascends c.judging.lit-index _ c.in-Some-found.field-0 here (sym c.value.ensures ∙ c.in-None.is) (rw c.in-Some-found.is at c.judging.invariant)

pub judging-preserved : goal.judging-preserved
judging-preserved c =
    let here = slice_get-get_or c.args.clause.now c.judging.lit-index some_lit (omega arith) in
    elim c.match-value.branch [
      | in-Some+else-sign-lit w ↦ rw w.found-is (judged_false _ _ c.judging.lit-index _ c.judging.found w.in-Some.sign here (sym c.value.ensures ∙ w.in-Some.is) (beq_false _ _ w.if-sign-lit.false) c.judging.invariant)
      | in-None+in-None-found w ↦ rw w.found-is (judged_open _ _ c.requires.ascends c.judging.lit-index _ here (sym c.value.ensures ∙ w.in-None.is) (rw w.in-None-found.is at c.judging.invariant))
    ]
