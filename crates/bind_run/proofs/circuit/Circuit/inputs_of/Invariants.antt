use Rattle.std.proofs.Common.{◌≡◌, ◌+◌, ◌++◌, length}
use Rattle.bind_run.specs.Inputs.{fresh_count, inputs_of}
use Rattle.bind_run.specs.Values.{HaveRoom}
use Rattle.bind_run.proofs.circuit.Circuit.inputs_of.Given as goal

abbrev pub invariant-lines : goal.invariant-lines
invariant-lines l = record {
  plans : l.plans.items ++ inputs_of l.self.flat l.fresh l.rest ≡ inputs_of l.self.flat 0 l.lines;
  count : l.fresh + fresh_count l.self.flat l.rest ≡ fresh_count l.self.flat l.lines;
  room : HaveRoom l.rest;
}

abbrev pub decreases-lines : goal.decreases-lines
decreases-lines l = length l.rest
