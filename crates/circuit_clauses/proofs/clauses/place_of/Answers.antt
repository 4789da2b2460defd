use Rattle.circuit_clauses.proofs.Placing.{below_before}
use Rattle.circuit_clauses.proofs.clauses.place_of.Goals as goal

pub returns-then-lits-place-clause-before : goal.returns-then-lits-place-clause-before
returns-then-lits-place-clause-before c =
    below_before c.args.lits.now c.walking.place c.args.var _ c.requires c.walking.invariant.0 c.walking-test.true c.if-lits-place.true
