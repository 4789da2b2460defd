use Rattle.coco_model.specs.Controls.{IsUnknownControl}
use Rattle.coco_model.specs.Stepped.{row_of}
use Rattle.cycle_sim.proofs.CheckLemmas.{IsNoneBefore}
use Rattle.cycle_sim.proofs.checks.unknown_control.Given as goal

abbrev pub invariant-controls : goal.invariant-controls
invariant-controls l = IsNoneBefore (IsUnknownControl l.setup (row_of l.row)) l.setup.controls l.number
