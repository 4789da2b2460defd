use Rattle.std.proofs.Common.{◌≡◌, Some, sym, ap, ◌∙◌, arith}
use Rattle.std.specs.Prelude.{slice_get}
use Rattle.clause_store.specs.declared.lit.Lit.{Lit}
use Rattle.clause_store.specs.Derivations.{clauses_of}
use Rattle.clause_solver.specs.Watches.{opposite_of}
use Rattle.clause_solver.proofs.PropagationFacts.{extends_itself, extends_trans}
use Rattle.clause_solver.proofs.SettleFacts.{pending_first, pending_last}
use Rattle.clause_solver.proofs.GuardFacts.{opposite_twice, extends_at}
use Rattle.clause_solver.proofs.propagate.visit_all.Goals as goal

pub visiting-init : goal.visiting-init
visiting-init c =
    let at : slice_get c.args.trail.now.lits c.args.place ≡ Some (opposite_of c.opposite-lit.result) = c.lit.ensures ∙ ap (λ (l : Lit). Some l) (sym (opposite_twice c.lit.result)) ∙ ap (λ (l : Lit). Some (opposite_of l)) (sym c.opposite-lit.ensures) in
    record {
      guarded = c.requires.watched.guarded;
      extends = extends_itself c.args.trail.now;
      at_place = at;
      pending = pending_first _ c.args.trail.now c.args.watches.now c.opposite-lit.result c.args.place c.requires.watched at;
    }

pub visiting-preserved-in-Stays : goal.visiting-preserved-in-Stays
visiting-preserved-in-Stays c =
    let left = rw c.in-Stays.is at c.in_ok-look_at.ensures.visited in
    record {
      guarded = c.in_ok-look_at.ensures.guarded;
      extends = extends_trans _ _ _ c.visiting.invariant.extends c.in_ok-look_at.ensures.extends;
      at_place = extends_at _ _ _ _ c.in_ok-look_at.ensures.extends c.visiting.invariant.at_place;
      pending = left.pending;
    }

pub visiting-preserved : goal.visiting-preserved
visiting-preserved c =
    let left = rw c.in-Gone.is at c.in_ok-look_at.ensures.visited in
    record {
      guarded = c.in_ok-look_at.ensures.guarded;
      extends = extends_trans _ _ _ c.visiting.invariant.extends c.in_ok-look_at.ensures.extends;
      at_place = extends_at _ _ _ _ c.in_ok-look_at.ensures.extends c.visiting.invariant.at_place;
      pending = left.pending;
    }

pub returns-clause-settled : goal.returns-clause-settled
returns-clause-settled c =
    pending_last (clauses_of c.args.store.now c.args.lines.now) c.visiting.trail c.visiting.watches c.opposite-lit.result c.args.place c.visiting.entry (omega (arith, c.count.ensures, c.visiting-test.false)) c.visiting.invariant.pending
