use Rattle.std.proofs.Common.{◌≡◌, drop, length}
use Rattle.clause_builds.specs.Builds.{through}
use Rattle.clause_builds.proofs.Leaving.{IsLeft}
use Rattle.node_clauses.specs.Choices.{four_places}
use Rattle.node_clauses.specs.Sums.{add_operand_at, add_operands}
use Rattle.node_clauses.proofs.operands.add_operands.Given as goal

abbrev pub invariant-places : goal.invariant-places
invariant-places l =
    record {
      left : IsLeft l.fn.form (add_operands l.fn.selected l.fn.operands l.fn.weight l.fn.weights) l.form (through (add_operand_at l.selected l.operands l.weight) (drop l.place four_places) l.weights);
      long : length l.weights ≡ length l.fn.weights;
    }
