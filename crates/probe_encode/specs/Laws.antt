-- The formula of a run within the limits fits, as a fact that a contract names.
use Rattle.coco_base.specs.declared.unrolled.Unrolled.{Unrolled}
use Rattle.circuit_clauses.specs.Formulas.{Fits}
use Rattle.gate_graph.specs.Graphs.{IsBuilt}
use Rattle.label_cone.specs.Coned.{Coned}
use Rattle.probe_clauses.specs.RunViews.{RunView}
use Rattle.probe_encode.specs.Formulas.{encoded}
use Rattle.probe_encode.specs.Sources.{IsSource, encoding_of}

-- at most 2^30 variables and 2^31 clauses
abbrev pub FitLaw : Type 0
FitLaw = (view : RunView) (unrolled : Unrolled) (coned : Coned) → IsBuilt view.gates → IsSource view unrolled coned
    → Fits (encoded (encoding_of view unrolled coned)).formula
