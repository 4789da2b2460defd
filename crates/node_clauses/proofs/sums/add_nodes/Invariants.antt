use Rattle.std.proofs.Common.{◌≤◌, length}
use Rattle.clause_builds.proofs.Leaving.{IsLeft}
use Rattle.node_clauses.specs.Sums.{add_nodes, run_of, AreSized}
use Rattle.node_clauses.proofs.sums.add_nodes.Given as goal

abbrev pub invariant-nodes : goal.invariant-nodes
invariant-nodes l =
    record {
      left : IsLeft l.fn.form (add_nodes (run_of l.fn.run) (length l.fn.run.nodes.now) l.fn.sums) l.form (add_nodes (run_of l.fn.run) l.left l.sums);
      within : l.left ≤ length l.fn.run.nodes.now;
      sized : AreSized (run_of l.fn.run) l.sums;
    }

abbrev pub decreases-nodes : goal.decreases-nodes
decreases-nodes l = l.left
