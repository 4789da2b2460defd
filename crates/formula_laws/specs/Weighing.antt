-- The law of weights: the sum that the clauses about nodes tell is the set of the chosen pairs.
use Rattle.std.specs.Prelude.{◌≡◌, ℕ, Bool, List, length}
use Rattle.coco_base.specs.declared.finding.Probe.{Probe}
use Rattle.coco_base.specs.declared.unrolled.Unrolled.{Unrolled}
use Rattle.coco_model.specs.Findings.{Labels}
use Rattle.coco_model.specs.Reach.{Reach}
use Rattle.coco_model.specs.UnrolledRuns.{index_of}
use Rattle.coco_model.specs.WrittenFindings.{set_of_nodes}
use Rattle.circuit_clauses.specs.declared.signal.Signal.{Signal}
use Rattle.circuit_clauses.specs.Meanings.{IsBelow}
use Rattle.circuit_clauses.specs.Steps.{variables_after}
use Rattle.clause_builds.specs.Rows.{signal_at}
use Rattle.label_cone.specs.Coned.{Coned}
use Rattle.node_laws.specs.Laws.{IsWeighed}
use Rattle.node_laws.specs.Readings.{weighed_sum}
use Rattle.probe_clauses.specs.RunViews.{RunView}
use Rattle.probe_clauses.specs.Probings.{probing_of}
use Rattle.probe_clauses.specs.Parts.{probe_part}
use Rattle.probe_laws.specs.Showing.{chosen}
use Rattle.probe_encode.specs.Formulas.{nodes_of}
use Rattle.probe_encode.specs.Sources.{encoding_of}
use Rattle.probe_encode.specs.Weights.{pair_weights}
use Rattle.formula_laws.specs.Probes.{AreListed}
use Rattle.formula_laws.specs.Runs.{IsFormulaRun}

-- the signals of the pairs that the clauses about probes make from a variable on
abbrev pub pair_signals : RunView → ℕ → List (List Signal)
pair_signals view var = (probe_part (probing_of view) var).result.pairs

-- whether the nodes of chosen pairs are weighed: their sum is the pairs' set
pub record WeighsPairs (view : RunView) (u : Unrolled) (coned : Coned) (var : ℕ) : Type 0 where
  pub weighed : IsWeighed (nodes_of (encoding_of view u coned)) (pair_weights view (pair_signals view var))
  pub below : (i : ℕ) → IsBelow (variables_after var (probe_part (probing_of view) var).steps)
      (signal_at (pair_weights view (pair_signals view var)) i)
  pub sum : (values : ℕ → Bool) (shown : List Probe) → AreListed (chosen values (pair_signals view var)) shown
      → (sets : ℕ → Labels) (l : ℕ)
      → weighed_sum values (pair_weights view (pair_signals view var)) sets (length u.nodes) l
      ≡ set_of_nodes (index_of u) sets shown l

unfoldable pub WeightsLaw : Type 0
WeightsLaw =
    (view : RunView) (u : Unrolled) (coned : Coned) (reach : Reach) → IsFormulaRun view u coned reach
    → (var : ℕ) → WeighsPairs view u coned var
