use Rattle.clause_store.proofs.Signs.{clauses_by_sign}
use Rattle.clause_store.proofs.laws.signs_tell_clauses.Goals as goal

pub returns : goal.returns
returns c = clauses_by_sign
