use Rattle.std.proofs.Common.{◌≡◌, length, take, subst, arith}
use Rattle.clause_store.specs.Derivations.{clauses_of}
use Rattle.clause_solver.specs.Watches.{IsSettled}
use Rattle.clause_solver.proofs.propagate.propagate.Goals as goal

pub returns-clause-settled : goal.returns-clause-settled
returns-clause-settled c =
    let x = c.propagating.invariant.watched in
    let end : c.propagating.next ≡ length c.propagating.trail.lits = omega (arith, x.within, c.len.ensures.len, c.propagating-test.false) in
    subst (λ n. IsSettled (clauses_of c.args.store.now c.args.lines.now) c.propagating.watches (take n c.propagating.trail.lits) c.propagating.trail.lits) end x.settled
