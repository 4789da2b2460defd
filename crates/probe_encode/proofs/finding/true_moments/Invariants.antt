use Rattle.std.proofs.Common.{◌≡◌, ◌++◌, drop}
use Rattle.probe_encode.specs.Readings.{true_moments}
use Rattle.probe_encode.specs.Readable.{values_of}
use Rattle.probe_encode.proofs.finding.true_moments.Given as goal

abbrev pub invariant-cycles : goal.invariant-cycles
invariant-cycles l =
    let values = values_of l.model in
    l.moments ++ true_moments values l.cycle (drop l.cycle l.rows) ≡ true_moments values 0 l.rows
