use Rattle.coco_model.specs.Controls.{IsOutside}
use Rattle.coco_model.specs.Stepped.{row_of}
use Rattle.cycle_sim.proofs.CheckLemmas.{IsNoneBefore}
use Rattle.cycle_sim.proofs.checks.outside_address.Given as goal

abbrev pub invariant-ports : goal.invariant-ports
invariant-ports l = IsNoneBefore (IsOutside (row_of l.row)) l.setup.memories l.number
