use Rattle.std.proofs.Common.{◌≡◌, ℕ, ◌<◌, ◌≤◌, ◌+◌, false}
use Rattle.probe_clauses.specs.Probings.{probing_of, is_open_in}
use Rattle.probe_clauses.proofs.run.ProbedRun.is_open.Given as goal

abbrev pub invariant-cycles : goal.invariant-cycles
invariant-cycles l =
    (t : ℕ) → l.times.first ≤ t → t < l.times.first + l.i → is_open_in (probing_of l.self) l.cell l.place t ≡ false
