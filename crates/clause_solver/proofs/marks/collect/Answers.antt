use Rattle.std.proofs.Common.{◌≡◌, ◌<◌, ◌++◌, ◌∷◌, [], Some, length, sym, ◌∙◌, arith}
use Rattle.clause_store.specs.Signs.{sign_of}
use Rattle.clause_solver.proofs.MarkFacts.{false_lit, collected_skip, collected_unset, collected_cut, collected_signs, collected_clear}
use Rattle.clause_solver.proofs.marks.collect.Goals as goal
use Rattle.clause_solver.proofs.marks.collect.Goals.{then-marks-var+in-Some+in_ok-push-in-Some, then-marks-var+in-None, else-marks-var}

pub returns-clause-signs : goal.returns-clause-signs
returns-clause-signs c = collected_signs _ _ c.collecting.var _ _ c.collecting.invariant (omega arith)

pub returns-clause-clear : goal.returns-clause-clear
returns-clause-clear c = collected_clear _ _ c.collecting.var _ _ c.collecting.invariant (omega arith)

pub collecting-preserved : goal.collecting-preserved
collecting-preserved c =
    let lt : c.collecting.var < length c.collecting.marks = omega (arith, c.requires, c.vars-var-end.ensures.vars, c.collecting.auto.marks) in
    elim c.if-marks-var.branch [
      | then-marks-var+in-Some+in_ok-push-in-Some w ↦
          let is : sign_of c.args.trail.now.lits c.collecting.var ≡ Some w.in-Some.sign = sym w.value.ensures ∙ w.in-Some.is in
          let push : w.push.new.self ≡ c.collecting.clause ++ false_lit c.collecting.var w.in-Some.sign ∷ [] = w.in_ok-push-in-Some.ensures.ok in
          rw (w.marks-is, w.clause-is, push) (collected_cut _ _ c.collecting.var _ _ w.in-Some.sign c.collecting.invariant lt w.if-marks-var.true is)
      | then-marks-var+in-None w ↦ rw (w.marks-is, w.clause-is) (collected_unset _ _ c.collecting.var _ _ c.collecting.invariant lt (sym w.value.ensures ∙ w.in-None.is))
      | else-marks-var w ↦ rw (w.marks-is, w.clause-is) (collected_skip _ _ c.collecting.var _ _ c.collecting.invariant w.if-marks-var.false)
    ]
