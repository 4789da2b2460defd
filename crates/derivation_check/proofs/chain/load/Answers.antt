use Rattle.std.proofs.Common.{◌≡◌, ◌<◌, ◌+◌, false, [], ◌∷◌, ◌++◌, length, take, get_or, None, Some, ap, arith, ◌∙◌}
use Rattle.std.proofs.lemmas.List.{take_more, length-set}
use Rattle.clause_store.specs.declared.lit.Lit.{Lit}
use Rattle.clause_store.specs.Signs.{sign_of}
use Rattle.derivation_check.proofs.Clauses.{lit_within, sign_before}
use Rattle.derivation_check.proofs.Merges.{loaded_more}
use Rattle.derivation_check.proofs.chain.load.Goals as goal

abbrev none : Lit
none = record { var = 0; positive = false }

pub mark-requires-clause-in_range : goal.mark-requires-clause-in_range
mark-requires-clause-in_range c =
    let h : (get_or c.args.clause.now c.loading.lit-index none).var < length c.args.marks.now =
    lit_within c.args.clause.now c.loading.lit-index none (length c.args.marks.now) c.requires.ascending (omega arith) c.requires.within in
    let n : length c.loading.marks ≡ length c.args.marks.now = c.loading.invariant.size in
    omega arith

pub mark-requires-clause-unmarked : goal.mark-requires-clause-unmarked
mark-requires-clause-unmarked c =
    c.loading.invariant.signs (get_or c.args.clause.now c.loading.lit-index none).var
    ∙ sign_before c.args.clause.now c.loading.lit-index none c.requires.ascending (omega arith)

pub loading-preserved : goal.loading-preserved
loading-preserved c =
    let l : Lit = get_or c.args.clause.now c.loading.lit-index none in
    let front : take (c.loading.lit-index + 1) c.args.clause.now ≡ take c.loading.lit-index c.args.clause.now ++ l ∷ [] =
    take_more c.args.clause.now c.loading.lit-index none (omega arith) in
    let n : length c.loading.marks ≡ length c.args.marks.now = c.loading.invariant.size in
    let h : l.var < length c.args.marks.now = lit_within c.args.clause.now c.loading.lit-index none (length c.args.marks.now) c.requires.ascending (omega arith) c.requires.within in
    let before : sign_of (take c.loading.lit-index c.args.clause.now) l.var ≡ None = sign_before c.args.clause.now c.loading.lit-index none c.requires.ascending (omega arith) in
    record {
      size = ap length c.mark.ensures ∙ length-set c.loading.marks l.var (Some l.positive) ∙ n;
      signs = λ v. rw (c.mark.ensures, front) (loaded_more c.loading.marks (take c.loading.lit-index c.args.clause.now) l (omega arith) before c.loading.invariant.signs v);
    }
