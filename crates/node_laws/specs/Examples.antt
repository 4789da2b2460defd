-- A run of four nodes, at which the premises of the laws can be seen to hold.
use Rattle.std.specs.Prelude.{true, false, List, [], ◌∷◌}
use Rattle.coco_base.specs.declared.cell.Kind.TheVariants.{And}
use Rattle.coco_base.specs.declared.cell.Part.TheVariants.{Zero, Vary}
use Rattle.coco_base.specs.declared.unrolled.Node.TheVariants.{Label, Copy, Gate}
use Rattle.circuit_clauses.specs.declared.signal.Signal.{Signal}
use Rattle.circuit_clauses.specs.declared.signal.Signal.TheVariants.{Constant, Literal}
use Rattle.node_clauses.specs.Sums.{NodeRun}

-- two labels, their conjunction, and a flop that keeps it
abbrev pub and_run : NodeRun
and_run = record {
  nodes = Label 0 ∷ Label 1 ∷ Gate And (Vary ∷ Vary ∷ Zero ∷ Zero ∷ []) (0 ∷ 1 ∷ 0 ∷ 0 ∷ []) ∷ Copy 2 ∷ [];
  matters = true ∷ true ∷ true ∷ false ∷ [];
  labels = 0 ∷ 1 ∷ [];
}

-- the flop alone can be in the sum, by variable 0
abbrev pub flop_weights : List Signal
flop_weights =
    Constant false ∷ Constant false ∷ Constant false ∷ Literal (record { var = 0; positive = false }) ∷ []
