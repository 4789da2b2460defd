use Rattle.std.proofs.Common.{◌≡◌, ℕ, ◌<◌}
use Rattle.std.specs.Prelude.{slice_get, Some}
use Rattle.coco_base.specs.declared.netlist.Wire.{Wire}
use Rattle.coco_model.specs.Roots.{IsSteady}
use Rattle.coco_model.specs.Stepped.{row_of}
use Rattle.unroll.specs.NodeRows.{roots_of}
use Rattle.unroll.proofs.cells.is_kept.Given as goal

abbrev pub invariant-inputs : goal.invariant-inputs
invariant-inputs l = (k : ℕ) (w : Wire) → k < l.wire-index → slice_get l.wire-items k ≡ Some w
    → IsSteady (row_of l.at.before.now) (row_of l.at.known.now) (roots_of l.old) (roots_of l.roots) w
