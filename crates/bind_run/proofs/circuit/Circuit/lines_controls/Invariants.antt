use Rattle.std.proofs.Common.{◌≡◌, ◌+◌, ◌++◌, length}
use Rattle.bind_run.specs.Controls.{lines_controls, ports_count}
use Rattle.bind_run.proofs.circuit.Circuit.lines_controls.Given as goal

abbrev pub invariant-lines : goal.invariant-lines
invariant-lines l = record {
  plans : l.plans.items ++ lines_controls l.self.flat l.port l.rest ≡ lines_controls l.self.flat 0 l.lines;
  count : l.port + ports_count l.rest ≡ ports_count l.lines;
}

abbrev pub decreases-lines : goal.decreases-lines
decreases-lines l = length l.rest
