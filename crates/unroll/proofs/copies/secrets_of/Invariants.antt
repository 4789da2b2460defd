use Rattle.std.proofs.Common.{◌≡◌, take}
use Rattle.unroll.proofs.copies.secrets_of.Given as goal

abbrev pub invariant-secrets : goal.invariant-secrets
invariant-secrets l = l.copies.items ≡ take l.secret-index l.secrets
