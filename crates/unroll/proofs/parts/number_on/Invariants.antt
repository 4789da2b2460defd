use Rattle.std.proofs.Common.{◌≡◌, ◌≤◌, drop, length}
use Rattle.coco_model.specs.Carried.{number_on}
use Rattle.coco_model.specs.Known.{ones}
use Rattle.coco_model.specs.Stepped.{row_of}
use Rattle.unroll.proofs.parts.number_on.Given as goal

abbrev pub invariant-digits : goal.invariant-digits
invariant-digits l = record {
  within : l.rest ≤ length l.wires;
  so_far : l.number ≡ number_on (ones (row_of l.row)) (drop l.rest l.wires);
}

abbrev pub decreases-digits : goal.decreases-digits
decreases-digits l = l.rest
