use Rattle.std.proofs.Common.{◌≡◌, ◌<◌, ◌+◌, true, false, not, [], ◌∷◌, ◌++◌, length, take, get_or, None, Some, ap, sym, arith, ◌∙◌}
use Rattle.std.proofs.lemmas.List.{take_more, length-set}
use Rattle.std.proofs.Math.ListN.{set}
use Rattle.std.specs.Option.{option_or}
use Rattle.clause_store.specs.declared.lit.Lit.{Lit}
use Rattle.clause_store.specs.Signs.{sign_of}
use Rattle.clause_store.specs.Resolvents.{opposite}
use Rattle.derivation_check.specs.Marked.{signs_in}
use Rattle.derivation_check.proofs.Clauses.{lit_within, sign_before, sign_at}
use Rattle.derivation_check.proofs.Merges.{merged_more, merged_same, clash_at, not_false, not_true}
use Rattle.derivation_check.proofs.chain.merge.Goals.{else-lit-var-via-then-lit-var+else-not-merge_lit, else-lit-var-via-else-lit-var}
use Rattle.derivation_check.proofs.chain.merge.Goals as goal

abbrev none : Lit
none = record { var = 0; positive = false }

pub merge_lit-requires : goal.merge_lit-requires
merge_lit-requires c =
    let h : (get_or c.args.clause.now c.merging.lit-index none).var < length c.args.marks.now =
    lit_within c.args.clause.now c.merging.lit-index none (length c.args.marks.now) c.requires.ascending (omega arith) c.requires.within in
    let n : length c.merging.marks ≡ length c.args.marks.now = c.merging.invariant.size in
    omega arith

pub returns-then-not-merge_lit-clause-merged : goal.returns-then-not-merge_lit-clause-merged
returns-then-not-merge_lit-clause-merged c =
    let l : Lit = get_or c.args.clause.now c.merging.lit-index none in
    let before : sign_of (take c.merging.lit-index c.args.clause.now) l.var ≡ None = sign_before c.args.clause.now c.merging.lit-index none c.requires.ascending (omega arith) in
    let at : sign_of c.args.clause.now l.var ≡ Some l.positive = sign_at c.args.clause.now c.merging.lit-index none c.requires.ascending (omega arith) in
    let answer : false ≡ not (opposite (signs_in c.merging.marks l.var) (Some l.positive)) = c.if-not-merge_lit.ensures.answer in
    let clash : opposite (signs_in c.merging.marks l.var) (Some l.positive) ≡ true = not_false (opposite (signs_in c.merging.marks l.var) (Some l.positive)) (sym answer) in
    clash_at c.args.var (signs_in c.args.marks.now) c.merging.marks (take c.merging.lit-index c.args.clause.now) c.args.clause.now l c.if-lit-var.true before at clash c.merging.invariant.merged

pub merging-preserved : goal.merging-preserved
merging-preserved c =
    let l : Lit = get_or c.args.clause.now c.merging.lit-index none in
    let front : take (c.merging.lit-index + 1) c.args.clause.now ≡ take c.merging.lit-index c.args.clause.now ++ l ∷ [] =
    take_more c.args.clause.now c.merging.lit-index none (omega arith) in
    let n : length c.merging.marks ≡ length c.args.marks.now = c.merging.invariant.size in
    let before : sign_of (take c.merging.lit-index c.args.clause.now) l.var ≡ None = sign_before c.args.clause.now c.merging.lit-index none c.requires.ascending (omega arith) in
    let h : l.var < length c.args.marks.now = lit_within c.args.clause.now c.merging.lit-index none (length c.args.marks.now) c.requires.ascending (omega arith) c.requires.within in
    elim c.else-lit-var.branch [
      | else-lit-var-via-then-lit-var+else-not-merge_lit w ↦
          let answer : true ≡ not (opposite (signs_in c.merging.marks l.var) (Some l.positive)) = w.if-not-merge_lit.ensures.answer in
          let fits : opposite (signs_in c.merging.marks l.var) (Some l.positive) ≡ false = not_true (opposite (signs_in c.merging.marks l.var) (Some l.positive)) (sym answer) in
          let new : c.else-lit-var.marks ≡ set c.merging.marks l.var (option_or (signs_in c.merging.marks l.var) (Some l.positive)) = w.marks-is ∙ w.merge_lit.ensures.set in
          record {
            size = ap length new ∙ length-set c.merging.marks l.var (option_or (signs_in c.merging.marks l.var) (Some l.positive)) ∙ n;
            merged = rw (new, front) (merged_more c.args.var (signs_in c.args.marks.now) c.merging.marks (take c.merging.lit-index c.args.clause.now) l (omega arith) w.if-lit-var.true before fits c.merging.invariant.merged);
          }
      | else-lit-var-via-else-lit-var w ↦
          record {
            size = ap length w.marks-is ∙ n;
            merged = rw (w.marks-is, front) (merged_same c.args.var (signs_in c.args.marks.now) c.merging.marks (take c.merging.lit-index c.args.clause.now) l w.if-lit-var.false c.merging.invariant.merged);
          }
    ]
