use Rattle.std.proofs.Common.{◌≡◌, ◌++◌, length}
use Rattle.std.specs.Prelude.{flat_map}
use Rattle.bind_run.specs.Memories.{line_leaves}
use Rattle.bind_run.proofs.circuit.Circuit.leaves_of.Given as goal

abbrev pub invariant-lines : goal.invariant-lines
invariant-lines l = l.plans.items ++ flat_map (line_leaves l.self.flat) l.rest ≡ flat_map (line_leaves l.self.flat) l.lines

abbrev pub decreases-lines : goal.decreases-lines
decreases-lines l = length l.rest
