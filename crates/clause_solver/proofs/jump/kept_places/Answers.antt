use Rattle.std.proofs.Common.{false, inl, inr, arith}
use Rattle.std.proofs.lemmas.Option.{slice_get-get_or}
use Rattle.clause_store.specs.declared.lit.Lit.{Lit}
use Rattle.clause_solver.proofs.MarkFacts.{covered_at, some_and}
use Rattle.clause_solver.proofs.JumpFacts.{kept_more, kept_same}
use Rattle.clause_solver.proofs.jump.kept_places.Goals as goal
use Rattle.clause_solver.proofs.jump.kept_places.Goals.{then-place-start+then-place-kept, else-place-start, else-place-start-via-then-place-start+else-place-kept, else-place-start-via-else-place-start}

abbrev some_lit : Lit
some_lit = record { var = 0; positive = false }

pub place-place-requires : goal.place-place-requires
place-place-requires c =
    let here = slice_get-get_or c.args.clause.now c.keeping.lit-index some_lit (omega arith) in
    covered_at _ _ c.keeping.lit-index _ c.requires.range.ascends here c.requires.covered

pub keeping-preserved : goal.keeping-preserved
keeping-preserved c =
    let here = slice_get-get_or c.args.clause.now c.keeping.lit-index some_lit (omega arith) in
    let at = some_and _ _ c.place-place.ensures.place in
    let fresh = c.place-place.ensures.coherent.fresh in
    elim c.if-place-start.branch [
      | then-place-start+then-place-kept w ↦ rw w.kept-is (kept_more _ _ _ c.keeping.kept c.place-place.result c.args.trail.now.vars _ at.0 c.requires.range at.1 at.2 c.keeping.lit-index here w.if-place-start.true w.if-place-kept.true c.keeping.invariant)
      | else-place-start w ↦
          elim w.else-place-start.branch [
            | else-place-start-via-then-place-start+else-place-kept w' ↦ rw w.kept-is (kept_same _ _ _ c.keeping.kept c.place-place.result _ at.0 fresh at.1 at.2 c.keeping.lit-index here (inr w'.if-place-kept.false) c.keeping.invariant)
            | else-place-start-via-else-place-start w' ↦ rw w.kept-is (kept_same _ _ _ c.keeping.kept c.place-place.result _ at.0 fresh at.1 at.2 c.keeping.lit-index here (inl w'.if-place-start.false) c.keeping.invariant)
          ]
    ]
