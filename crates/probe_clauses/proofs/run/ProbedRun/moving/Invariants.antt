use Rattle.std.proofs.Common.{◌≡◌, map}
use Rattle.std.specs.List.{range_with_len}
use Rattle.probe_clauses.specs.Probings.{probing_of, is_moving}
use Rattle.probe_clauses.proofs.run.ProbedRun.moving.Given as goal

abbrev pub invariant-bits : goal.invariant-bits
invariant-bits l = l.flags ≡ map (is_moving (probing_of l.self)) (range_with_len 0 l.bit)
