-- The finding that values of the variables read as.
use Rattle.std.specs.Prelude.{ℕ, ◌+◌, Bool, List, [], ◌∷◌, ◌++◌, map, filter, length}
use Rattle.std.specs.List.{range_with_len}
use Rattle.coco_base.specs.declared.finding.Probe.{Probe}
use Rattle.coco_base.specs.declared.finding.Finding.{Finding}
use Rattle.coco_model.specs.Goals.{variable_of}
use Rattle.circuit_clauses.specs.declared.signal.Signal.{Signal}
use Rattle.circuit_clauses.specs.Signals.{value}
use Rattle.clause_builds.specs.Rows.{signal_at}
use Rattle.node_clauses.specs.Chosen.{chosen_numbers}
use Rattle.probe_encode.specs.Formulas.{Tables}

abbrev pub moment : ℕ → ℕ → Probe
moment t b = record { bit = b; cycle = t }

-- the places of a row whose signals are true
abbrev pub true_places : (ℕ → Bool) → List Signal → List ℕ
true_places values row = filter (λ b. value values (signal_at row b)) (range_with_len 0 (length row))

-- the bits and cycles whose signals are true, by cycle and then by bit; t is the cycle of the first row
abbrev pub true_moments : (ℕ → Bool) → ℕ → List (List Signal) → List Probe
true_moments values t [] = []
true_moments values t (row ∷ rows) = map (moment t) (true_places values row) ++ true_moments values (t + 1) rows

-- the labels whose variables are true
abbrev pub true_labels : (ℕ → Bool) → Tables → List ℕ
true_labels values tables =
    filter (λ l. value values (signal_at tables.variables (variable_of tables.labels l))) tables.labels

-- probes, pairs, a choice for each node, and the labels of the set
abbrev pub finding_of : Tables → (ℕ → Bool) → Finding
finding_of tables values = record {
  probes = true_moments values 0 tables.probes;
  seen = true_moments values 0 tables.pairs;
  selection = record { choices = chosen_numbers values tables.selections };
  set = true_labels values tables;
}
