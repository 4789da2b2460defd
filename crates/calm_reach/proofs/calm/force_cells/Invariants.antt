use Rattle.calm_reach.specs.Forcing.{AreForcedTo, AgreeOnLeaves}
use Rattle.calm_reach.proofs.calm.force_cells.Given as goal

abbrev pub invariant-cells : goal.invariant-cells
invariant-cells l = AreForcedTo l.graph l.number-index l.parts × AgreeOnLeaves l.graph.flat l.initial.parts l.parts
