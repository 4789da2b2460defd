use Rattle.std.proofs.Common.{◌≡◌, ◌+◌, length}
use Rattle.bind_run.specs.Inputs.{with_starts}
use Rattle.bind_run.specs.Sources.{source_starts}
use Rattle.bind_run.proofs.starts.give.Given as goal

abbrev pub invariant-wires : goal.invariant-wires
invariant-wires l = record {
  starts : with_starts l.starts (source_starts l.source l.place l.rest) ≡ with_starts l.initial.starts (source_starts l.source 0 l.wires);
  size : l.place + length l.rest ≡ length l.wires;
}

abbrev pub decreases-wires : goal.decreases-wires
decreases-wires l = length l.rest
