use Rattle.std.proofs.Common.{sym}
use Rattle.clause_store.specs.Derivations.{clauses_of}
use Rattle.derivation_check.specs.Marked.{signs_in}
use Rattle.derivation_check.proofs.Chains.{cut_answer}
use Rattle.derivation_check.proofs.chain.cut_once.Goals as goal

pub returns-in-Some-clause-cut : goal.returns-in-Some-clause-cut
returns-in-Some-clause-cut c =
    cut_answer (clauses_of c.args.store.now c.args.lines.now) c.args.cut c.in-Some.clause.now (signs_in c.args.marks.now) (signs_in c.resolve.new.marks) c.resolve.result (sym c.in-Some.ensures) c.resolve.ensures.resolvent
