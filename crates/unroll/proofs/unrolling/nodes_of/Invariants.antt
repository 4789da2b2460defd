use Rattle.std.proofs.Common.{◌≡◌, ℕ, suc}
use Rattle.coco_model.specs.Stepped.{HasNoFault}
use Rattle.unroll.specs.RootedRuns.{RootedRun}
use Rattle.unroll.specs.Walks.{IsDone, IsRunTo, IsSized, IsStanding}
use Rattle.unroll.proofs.unrolling.nodes_of.Given as goal

abbrev pub invariant-cycles : goal.invariant-cycles
invariant-cycles l = record {
  standing : IsStanding l.graph l.setup l.cycle l.sim;
  sized : IsSized l.graph l.cycles l.walk;
  good : (t : ℕ) → l.cycle ≡ suc t → HasNoFault l.graph.flat l.setup (suc t);
  done : (run : RootedRun) → IsRunTo l.graph l.setup l.cycles run → IsDone l.graph l.setup run l.cycle l.walk;
}
