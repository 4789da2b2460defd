-- The size of the clauses of nodes, as a fact that a contract names.
use Rattle.std.specs.Prelude.{ℕ, ◌+◌, ◌*◌, ◌≤◌, List, length}
use Rattle.circuit_clauses.specs.declared.signal.Signal.{Signal}
use Rattle.circuit_clauses.specs.Steps.{variables_after, clauses_of_steps}
use Rattle.node_clauses.specs.Sums.{NodeRun, node_sums}

-- the most variables that a node takes: a selector for each of four places, and a gate for each
abbrev pub variables_a_node : ℕ
variables_a_node = 8

-- the most clauses: one for each set of places, and those of the gates
abbrev pub clauses_a_node : ℕ
clauses_a_node = 40

-- the nodes of a run take no more, from whichever variable on
pub record IsWithin (run : NodeRun) (weights : List Signal) (var : ℕ) : Type 0 where
  pub vars : variables_after var (node_sums run weights var).steps ≤ var + length run.nodes * variables_a_node
  pub clauses : length (clauses_of_steps var (node_sums run weights var).steps) ≤ length run.nodes * clauses_a_node

abbrev pub SizeLaw : Type 0
SizeLaw = (run : NodeRun) (weights : List Signal) (var : ℕ) → IsWithin run weights var
