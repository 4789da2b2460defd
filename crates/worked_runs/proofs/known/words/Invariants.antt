use Rattle.std.proofs.Common.{◌≡◌}
use Rattle.std.specs.Prelude.{None}
use Rattle.worked_runs.proofs.known.words.Given as goal

abbrev pub invariant-cycles : goal.invariant-cycles
invariant-cycles g l = record {
  cycles : l.sim.cycles ≡ l.cycle-counter;
  good : l.sim.fault ≡ None;
}
