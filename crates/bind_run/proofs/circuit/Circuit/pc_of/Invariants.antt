use Rattle.std.proofs.Common.{◌≡◌, ◌++◌, length}
use Rattle.std.specs.Prelude.{flat_map}
use Rattle.bind_run.specs.SetupParts.{line_pc}
use Rattle.bind_run.proofs.circuit.Circuit.pc_of.Given as goal

abbrev pub invariant-lines : goal.invariant-lines
invariant-lines l = l.wires.items ++ flat_map (line_pc l.self.flat) l.rest ≡ flat_map (line_pc l.self.flat) l.lines

abbrev pub decreases-lines : goal.decreases-lines
decreases-lines l = length l.rest
