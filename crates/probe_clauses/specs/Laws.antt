-- The size of the clauses about probes, as a fact that a contract names.
use Rattle.std.specs.Prelude.{ℕ, ◌+◌, ◌*◌, ◌≤◌, length}
use Rattle.circuit_clauses.specs.Steps.{variables_after, clauses_of_steps}
use Rattle.gate_graph.specs.Graphs.{IsBuilt}
use Rattle.probe_clauses.specs.RunViews.{RunView}
use Rattle.probe_clauses.specs.Probings.{probing_of}
use Rattle.probe_clauses.specs.Parts.{probe_part}

-- the most variables and clauses, by the numbers of bits and cycles and the order
abbrev pub most_variables : ℕ → ℕ → ℕ → ℕ
most_variables bits cycles order = bits * (3 * order + 4) + cycles * bits * (6 * order + 7) + cycles * 3

abbrev pub most_clauses : ℕ → ℕ → ℕ → ℕ
most_clauses bits cycles order = bits * (12 * order + 13) + cycles * bits * (24 * order + 24) + cycles * 12 + 1

-- for an order of at least 1 the clauses about probes take no more, from whichever variable on
pub record IsWithin (view : RunView) (var : ℕ) : Type 0 where
  pub vars : (let run = probing_of view in
      variables_after var (probe_part run var).steps ≤ var + most_variables run.bits run.cycles run.order)
  pub clauses : (let run = probing_of view in
      length (clauses_of_steps var (probe_part run var).steps) ≤ most_clauses run.bits run.cycles run.order)

abbrev pub SizeLaw : Type 0
SizeLaw = (view : RunView) (var : ℕ) → IsBuilt view.gates → 1 ≤ view.order → IsWithin view var
