use Rattle.coco_model.specs.Controls.{IsResetActive}
use Rattle.coco_model.specs.Stepped.{row_of}
use Rattle.cycle_sim.proofs.CheckLemmas.{IsNoneBefore}
use Rattle.cycle_sim.proofs.checks.active_reset.Given as goal

abbrev pub invariant-flops : goal.invariant-flops
invariant-flops l = IsNoneBefore (IsResetActive (row_of l.row)) l.graph.flat.flops l.number
