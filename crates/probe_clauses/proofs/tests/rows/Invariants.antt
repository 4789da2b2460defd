use Rattle.std.proofs.Common.{All}
use Rattle.calm_reach.specs.CalmRows.{HasPlaces}
use Rattle.probe_clauses.proofs.tests.rows.Given as goal

abbrev pub invariant-inputs : goal.invariant-inputs
invariant-inputs l = All (HasPlaces l.graph.flat) l.rows.items
