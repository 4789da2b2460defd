use Rattle.std.proofs.Common.{◌≡◌, map}
use Rattle.std.specs.List.{range_with_len}
use Rattle.probe_clauses.specs.Probings.{probing_of}
use Rattle.probe_clauses.specs.Passes.{start_in}
use Rattle.probe_clauses.proofs.reach.starts_in.Given as goal

abbrev pub invariant-bits : goal.invariant-bits
invariant-bits l = l.row.items ≡ map (start_in (probing_of l.run) l.active l.cycle) (range_with_len 0 l.bit)
