-- Tables by which a model can be read, and what it is read with.
use Rattle.std.specs.Prelude.{ℕ, ◌<◌, ◌^◌, Bool, false, List, [], filter, length, get_or}
use Rattle.std.specs.List.Sorted.{IsStrictlyIncreasing}
use Rattle.coco_model.specs.Goals.{variable_of}
use Rattle.circuit_clauses.specs.declared.signal.Signal.{Signal}
use Rattle.circuit_clauses.specs.Signals.{value}
use Rattle.clause_builds.specs.Rows.{signal_at}
use Rattle.probe_encode.specs.Formulas.{Tables}

-- the values of a model; a variable beyond it is false
abbrev pub values_of : List Bool → ℕ → Bool
values_of model v = get_or model v false

-- of labels those whose variables are true
abbrev pub labels_by : (ℕ → Bool) → List Signal → List ℕ → List ℕ
labels_by values variables labels = filter (λ l. value values (signal_at variables (variable_of labels l))) labels

-- cycles and bits have numbers of 32 bits
pub record AreNumbered (rows : List (List Signal)) : Type 0 where
  pub cycles : length rows < 2 ^ 32
  pub bits : (t : ℕ) → length (get_or rows t []) < 2 ^ 32

-- labels ascend, and cycles and bits are numbered
pub record AreReadable (tables : Tables) : Type 0 where
  pub labels : IsStrictlyIncreasing tables.labels
  pub probes : AreNumbered tables.probes
  pub pairs : AreNumbered tables.pairs
