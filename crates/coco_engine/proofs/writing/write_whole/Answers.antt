-- one piece more is taken
use Rattle.std.proofs.Common.{arith, refl}
use Rattle.std.proofs.Math.Seq.{take-add}
use Rattle.coco_engine.proofs.Pieces.{after_more}
use Rattle.coco_engine.proofs.writing.write_whole.Goals as goal

pub writing-preserved : goal.writing-preserved
writing-preserved g c = record {
  within = omega (arith, c.in_ok-done.ensures.count);
  later = omega (arith, c.in_ok-done.ensures.cause.later);
  taken = rw (c.in_ok-done.ensures.ok, c.writing.invariant.taken, after_more, c.rest.ensures.value, take-add) refl;
}
