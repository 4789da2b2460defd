use Rattle.std.proofs.Common.{◌∙◌, length, refl, sym}
use Rattle.clause_store.specs.Derivations.{clauses_of}
use Rattle.derivation_check.proofs.Lines.{valid_answer}
use Rattle.derivation_check.proofs.line.is_valid.Goals as goal

pub returns-clause-valid : goal.returns-clause-valid
returns-clause-valid c =
    valid_answer (clauses_of c.args.store.now c.args.before.now) c.args.line.now c.in-Some.start.now c.load.new.marks c.follow.new.marks c.ends_in.new.marks (length c.args.marks.now) c.ends_in.result
    (rw c.as_slice.ensures at (c.if-not-is_ascending.ensures.0 refl)) (sym c.in-Some.ensures) c.load.ensures.signs
    (rw c.as_slice-2.ensures at c.if-not-follow.ensures.leads) (c.follow.ensures.size ∙ c.load.ensures.size)
    (rw c.as_slice-3.ensures at c.ends_in.ensures.same)
