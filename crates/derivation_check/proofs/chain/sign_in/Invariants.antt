use Rattle.std.proofs.Common.{◌≡◌, drop}
use Rattle.clause_store.specs.Signs.{sign_of}
use Rattle.derivation_check.proofs.chain.sign_in.Given as goal

abbrev pub invariant-looking : goal.invariant-looking
invariant-looking l = sign_of (drop l.lit-index l.clause) l.var ≡ sign_of l.clause l.var
