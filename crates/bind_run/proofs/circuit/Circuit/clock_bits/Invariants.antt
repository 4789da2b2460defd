use Rattle.std.proofs.Common.{◌≡◌, ◌++◌, length}
use Rattle.std.specs.Prelude.{flat_map}
use Rattle.bind_run.specs.SetupParts.{line_clock}
use Rattle.bind_run.proofs.circuit.Circuit.clock_bits.Given as goal

abbrev pub invariant-lines : goal.invariant-lines
invariant-lines l = l.bits.items ++ flat_map (line_clock l.self.flat) l.rest ≡ flat_map (line_clock l.self.flat) l.lines

abbrev pub decreases-lines : goal.decreases-lines
decreases-lines l = length l.rest
