use Rattle.std.proofs.Common.{◌≡◌, length}
use Rattle.clause_store.specs.Derivations.{clauses_of}
use Rattle.clause_solver.specs.Analysis.{IsChained}
use Rattle.clause_solver.proofs.analysis.analyze.Given as goal

abbrev pub invariant-cutting : goal.invariant-cutting
invariant-cutting l = record {
  chained : IsChained (clauses_of l.store l.lines) l.trail l.chain.first l.chain.cuts l.marks l.top l.count;
  first : l.chain.first ≡ l.id;
  len : length l.marks ≡ l.trail.vars;
}

abbrev pub decreases-cutting : goal.decreases-cutting
decreases-cutting l = l.top
