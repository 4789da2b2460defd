use Rattle.std.proofs.Common.{◌≡◌, length}
use Rattle.std.specs.Prelude.{flat_map}
use Rattle.bind_run.specs.Binding.{after_needs, bound_by}
use Rattle.bind_run.specs.Needs.{needs_of}
use Rattle.bind_run.proofs.circuit.Circuit.bound_by.Given as goal

abbrev pub invariant-lines : goal.invariant-lines
invariant-lines l =
    after_needs l.self.flat l.self.clock l.bound (flat_map (needs_of l.self.flat) l.rest) ≡ bound_by l.self.flat l.self.clock l.lines

abbrev pub decreases-lines : goal.decreases-lines
decreases-lines l = length l.rest
