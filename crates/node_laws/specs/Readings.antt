-- What the laws ask of the nodes of a run, and the sum of the weighed nodes that values of the variables tell.
use Rattle.std.specs.Prelude.{◌≡◌, ℕ, Bool, false, ◌&&◌, List, map, length, get_or}
use Rattle.std.specs.List.{range_with_len}
use Rattle.coco_base.specs.declared.cell.Kind.{Kind}
use Rattle.coco_base.specs.declared.cell.Part.{Part}
use Rattle.coco_base.specs.declared.unrolled.Node.{Node}
use Rattle.coco_base.specs.declared.unrolled.Node.TheVariants.{Nothing, Gate}
use Rattle.coco_model.specs.Labels.{parity}
use Rattle.coco_model.specs.Findings.{Labels}
use Rattle.circuit_clauses.specs.declared.signal.Signal.{Signal}
use Rattle.circuit_clauses.specs.declared.signal.Signal.TheVariants.{Constant}
use Rattle.circuit_clauses.specs.Signals.{value}
use Rattle.clause_builds.specs.Rows.{signal_at}

-- each gate has four places, and an operand for each of them
abbrev pub AreWhole : List Node → Type 0
AreWhole nodes =
    (i : ℕ) (kind : Kind) (parts : List Part) (operands : List ℕ) → get_or nodes i Nothing ≡ Gate kind parts operands
    → (length parts ≡ 4) × (length operands ≡ 4)

-- no gate is weighed: gates are in the sum by their readers alone
abbrev pub AreOfLeaves : List Node → List Signal → Type 0
AreOfLeaves nodes weights =
    (i : ℕ) (kind : Kind) (parts : List Part) (operands : List ℕ) → get_or nodes i Nothing ≡ Gate kind parts operands
    → signal_at weights i ≡ Constant false

-- whether a label is in the sum of the sets of the first n nodes that are weighed
abbrev pub weighed_sum : (ℕ → Bool) → List Signal → (ℕ → Labels) → ℕ → Labels
weighed_sum values weights sets n l =
    parity (map (λ i. value values (signal_at weights i) && sets i l) (range_with_len 0 n))
