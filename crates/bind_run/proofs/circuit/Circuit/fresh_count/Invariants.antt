use Rattle.std.proofs.Common.{◌≡◌, ◌+◌, length}
use Rattle.bind_run.specs.Inputs.{fresh_count}
use Rattle.bind_run.proofs.circuit.Circuit.fresh_count.Given as goal

abbrev pub invariant-lines : goal.invariant-lines
invariant-lines l = l.count + fresh_count l.self.flat l.rest ≡ fresh_count l.self.flat l.lines

abbrev pub decreases-lines : goal.decreases-lines
decreases-lines l = length l.rest
