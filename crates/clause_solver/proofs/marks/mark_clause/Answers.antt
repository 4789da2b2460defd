use Rattle.std.proofs.Common.{false, ◌∙◌, arith}
use Rattle.std.proofs.lemmas.Option.{slice_get-get_or}
use Rattle.clause_store.specs.declared.lit.Lit.{Lit}
use Rattle.clause_solver.proofs.MarkFacts.{marked_more, covered_at}
use Rattle.clause_solver.proofs.marks.mark_clause.Goals as goal

abbrev some_lit : Lit
some_lit = record { var = 0; positive = false }

pub mark-total-requires-clause-set : goal.mark-total-requires-clause-set
mark-total-requires-clause-set c =
    let here = slice_get-get_or c.args.clause.now c.marking.lit-index some_lit (omega arith) in
    covered_at _ _ c.marking.lit-index _ c.requires.range.ascends here c.requires.covered

pub marking-preserved : goal.marking-preserved
marking-preserved c =
    let here = slice_get-get_or c.args.clause.now c.marking.lit-index some_lit (omega arith) in
    record {
      len = c.mark-total.ensures.len ∙ c.marking.invariant.len;
      counted = c.mark-total.ensures.counted;
      grows = omega (arith, c.mark-total.ensures.grows, c.marking.invariant.grows);
      marked = marked_more _ _ _ _ c.marking.lit-index _ c.requires.range.ascends here c.marking.invariant.marked c.mark-total.ensures.marked c.mark-total.ensures.others;
    }
