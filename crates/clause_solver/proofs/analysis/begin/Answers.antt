use Rattle.std.proofs.Common.{◌≡◌, Some, sym, ◌∙◌, ap}
use Rattle.std.specs.Prelude.{slice_get}
use Rattle.clause_store.specs.Derivations.{clauses_of}
use Rattle.clause_solver.specs.Analysis.{marked_from}
use Rattle.clause_solver.proofs.PropagationFacts.{range_at}
use Rattle.clause_solver.proofs.AnalysisFacts.{clear_count, chained_begin}
use Rattle.clause_solver.proofs.analysis.begin.Goals as goal

pub mark_clause-requires-clause-range : goal.mark_clause-requires-clause-range
mark_clause-requires-clause-range c =
    let named : slice_get (clauses_of c.args.store.now c.args.lines.now) c.args.id ≡ Some c.in-Some.clause.now = sym c.in-Some.ensures in
    range_at _ _ c.requires.explained.in_range c.args.id _ named

pub mark_clause-requires-clause-counted : goal.mark_clause-requires-clause-counted
mark_clause-requires-clause-counted c = clear_count c.args.marks.now c.args.trail.now.lits c.args.start c.requires.clear

pub returns-in-Some-clause-chained : goal.returns-in-Some-clause-chained
returns-in-Some-clause-chained c =
    let named : slice_get (clauses_of c.args.store.now c.args.lines.now) c.args.id ≡ Some c.in-Some.clause.now = sym c.in-Some.ensures in
    chained_begin _ _ c.args.id _ c.args.marks.now _ _ c.requires.explained c.requires.broken named c.requires.clear c.mark_clause.ensures.marked (c.mark_clause.ensures.counted ∙ ap (marked_from c.mark_clause.new.marks c.args.trail.now.lits) c.requires.start)
