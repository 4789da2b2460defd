use Rattle.std.proofs.Common.{◌≡◌, ℕ, ◌<◌, false}
use Rattle.probe_clauses.specs.Probings.{probing_of}
use Rattle.probe_clauses.proofs.run.ProbedRun.moves_ever.Given as goal

abbrev pub invariant-cycles : goal.invariant-cycles
invariant-cycles l = (t : ℕ) → t < l.cycle → (probing_of l.self).moves t l.bit ≡ false
