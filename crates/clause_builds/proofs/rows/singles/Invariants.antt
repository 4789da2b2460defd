use Rattle.std.proofs.Common.{◌≡◌, take}
use Rattle.clause_builds.specs.Rows.{singles}
use Rattle.clause_builds.proofs.rows.singles.Given as goal

abbrev pub invariant-signals : goal.invariant-signals
invariant-signals l = l.parts ≡ singles (take l.signal-index l.signals)
