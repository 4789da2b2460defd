use Rattle.std.proofs.Common.{◌≡◌}
use Rattle.glitch_world.proofs.tests.waveform.Given as goal

abbrev pub invariant-events : goal.invariant-events
invariant-events l = l.world.gates ≡ l.initial.world.gates
