use Rattle.std.proofs.Common.{◌≡◌, ◌+◌, length}
use Rattle.bind_run.specs.Inputs.{fresh_count, given_starts, starts_of, with_starts}
use Rattle.bind_run.specs.Values.{HaveRoom}
use Rattle.bind_run.proofs.circuit.Circuit.starts_of.Given as goal

abbrev pub invariant-lines : goal.invariant-lines
invariant-lines l = record {
  starts : with_starts l.starts.items (given_starts l.self.flat l.words l.fresh l.rest) ≡ starts_of l.self.flat l.words l.lines;
  count : l.fresh + fresh_count l.self.flat l.rest ≡ fresh_count l.self.flat l.lines;
  room : HaveRoom l.rest;
}

abbrev pub decreases-lines : goal.decreases-lines
decreases-lines l = length l.rest
