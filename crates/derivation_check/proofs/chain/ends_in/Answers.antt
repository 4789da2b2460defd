use Rattle.std.proofs.Common.{◌≡◌, false, ◌+◌, ◌<◌, [], ◌∷◌, ◌++◌, length, take, get_or, None, Some, arith, ◌∙◌}
use Rattle.std.proofs.lemmas.List.{take_more}
use Rattle.std.proofs.lemmas.Grind.{common_steps}
use Rattle.clause_store.specs.declared.lit.Lit.{Lit}
use Rattle.clause_store.specs.Signs.{sign_of}
use Rattle.derivation_check.specs.Marked.{signs_in, IsTaken}
use Rattle.derivation_check.proofs.Counts.{marked_within}
use Rattle.derivation_check.proofs.Clauses.{sign_before, sign_at}
use Rattle.derivation_check.proofs.Takings.{taken_more, taken_all}
use Rattle.derivation_check.proofs.chain.ends_in.Goals as goal

abbrev none : Lit
none = record { var = 0; positive = false }

pub returns-then-not-take_off-clause-same : goal.returns-then-not-take_off-clause-same
returns-then-not-take_off-clause-same c = λ same.
    let l : Lit = get_or c.args.clause.now c.taking.lit-index none in
    let before : sign_of (take c.taking.lit-index c.args.clause.now) l.var ≡ None = sign_before c.args.clause.now c.taking.lit-index none c.requires (omega arith) in
    let at : sign_of c.args.clause.now l.var ≡ Some l.positive = sign_at c.args.clause.now c.taking.lit-index none c.requires (omega arith) in
    c.if-not-take_off.ensures.taken (c.taking.invariant.taken.left l.var before ∙ same l.var ∙ at)

pub taking-preserved : goal.taking-preserved
taking-preserved c =
    let l : Lit = get_or c.args.clause.now c.taking.lit-index none in
    let front : take (c.taking.lit-index + 1) c.args.clause.now ≡ take c.taking.lit-index c.args.clause.now ++ l ∷ [] =
    take_more c.args.clause.now c.taking.lit-index none (omega arith) in
    let before : sign_of (take c.taking.lit-index c.args.clause.now) l.var ≡ None = sign_before c.args.clause.now c.taking.lit-index none c.requires (omega arith) in
    let marked : signs_in c.taking.marks l.var ≡ Some l.positive = c.if-not-take_off.ensures.taken.0 in
    let lt : l.var < length c.taking.marks = marked_within c.taking.marks l.var (λ e. let h : signs_in c.taking.marks l.var ≡ None = e in absurd (cc)) in
    record {
      size = c.take_off.ensures.size ∙ c.taking.invariant.size;
      taken = rw (c.if-not-take_off.ensures.taken.1, front) (taken_more (signs_in c.args.marks.now) c.taking.marks (take c.taking.lit-index c.args.clause.now) l lt before marked c.taking.invariant.taken);
    }

pub returns-clause-same : goal.returns-clause-same
returns-clause-same c =
    let all : take c.taking.lit-index c.args.clause.now ≡ c.args.clause.now = grind (arith, common_steps) in
    let taken : IsTaken c.args.clause.now (signs_in c.args.marks.now) (signs_in c.taking.marks) = rw all at c.taking.invariant.taken in
    taken_all (signs_in c.args.marks.now) c.taking.marks c.args.clause.now c.is_clear.result taken c.is_clear.ensures
