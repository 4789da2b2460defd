use Rattle.std.proofs.Common.{◌≡◌, map}
use Rattle.std.specs.List.{range_with_len}
use Rattle.probe_clauses.specs.Probings.{probing_of}
use Rattle.probe_clauses.proofs.run.ProbedRun.moving_cycles.Given as goal

abbrev pub invariant-cycles : goal.invariant-cycles
invariant-cycles l = l.flags ≡ map (λ t. (probing_of l.self).moves t l.bit) (range_with_len 0 l.cycle)
