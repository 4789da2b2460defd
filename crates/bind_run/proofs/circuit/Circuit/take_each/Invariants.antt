use Rattle.std.proofs.Common.{◌≡◌, map, length}
use Rattle.bind_run.specs.Binding.{after_needs}
use Rattle.bind_run.specs.SeenNeeds.{seen_need}
use Rattle.bind_run.proofs.circuit.Circuit.take_each.Given as goal

abbrev pub invariant-needs : goal.invariant-needs
invariant-needs l =
    after_needs l.self.flat l.self.clock l.bound (map seen_need l.rest) ≡ after_needs l.self.flat l.self.clock l.initial.bound (map seen_need l.needs)

abbrev pub decreases-needs : goal.decreases-needs
decreases-needs l = length l.rest
