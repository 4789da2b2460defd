use Rattle.std.proofs.Common.{◌≡◌}
use Rattle.std.specs.Prelude.{slice_get, Some}
use Rattle.coco_base.specs.declared.netlist.FlatCell.{FlatCell}
use Rattle.calm_reach.proofs.WalkLemmas.{IsPartAdded}
use Rattle.calm_reach.proofs.walk.add_inputs.Given as goal

abbrev pub invariant-inputs : goal.invariant-inputs
invariant-inputs l =
    (c : FlatCell) → slice_get l.graph.flat.cells l.number ≡ Some c
    → IsPartAdded l.row l.number c l.place l.initial.met l.met
