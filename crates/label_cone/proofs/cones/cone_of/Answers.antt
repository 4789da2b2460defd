use Rattle.std.proofs.Common.{◌≡◌, ℕ, ◌+◌, ◌*◌, true, length, refl, sym, ap, subst}
use Rattle.coco_model.specs.Matters.{mattering_weight}
use Rattle.label_cone.specs.Coned.{mark_at}
use Rattle.label_cone.specs.NodeCones.{cone_at, cones_in, node_in}
use Rattle.label_cone.specs.Weights.{weighs}
use Rattle.label_cone.proofs.ConedLemmas.{coned_run, sum_above}
use Rattle.label_cone.proofs.WeightLemmas.{mattering_weighs}
use Rattle.label_cone.proofs.cones.cone_of.Goals as goal

pub need-requires-clause-weighing : goal.need-requires-clause-weighing
need-requires-clause-weighing c =
    subst (λ ms. (i : ℕ) → mark_at ms i ≡ true → weighs (node_in c.as_slice-nodes.result.now i) ≡ true) (sym c.as_slice.ensures.value)
    (mattering_weighs c.as_slice-nodes.result.now c.in_ok-marks.marks.items c.in_ok-marks.ensures.marks c.in_ok-marks.ensures.as_long)

pub returns-in-Ok-clause-cones : goal.returns-in-Ok-clause-cones
returns-in-Ok-clause-cones c =
    coned_run c.args.unrolled.now c.args.order c.as_slice-nodes.result.now c.in_ok-cones.cones.sets c.in_ok-cones.cones.places.items
    c.in_ok-marks.marks.items c.in-Ok.need (length c.as_slice-nodes.result.now * (c.from.result + 1))
    c.requires.unrolled c.as_slice-nodes.ensures c.in_ok-cones.ensures.sets c.in_ok-cones.ensures.cones
    c.in_ok-marks.ensures.marks c.in_ok-marks.ensures.as_long (ap (λ k. length c.as_slice-nodes.result.now * (k + 1)) c.from.ensures)
    (subst (λ ms. c.in-Ok.need ≡ length c.as_slice-nodes.result.now * (c.from.result + 1)
    + mattering_weight (mark_at ms) (cone_at (cones_in c.in_ok-cones.cones.sets c.in_ok-cones.cones.places.items)) 0 c.as_slice-nodes.result.now)
    c.as_slice.ensures.value c.in-Ok.ensures.need)

pub returns-in-Err-clause-too_large : goal.returns-in-Err-clause-too_large
returns-in-Err-clause-too_large c = (
  refl,
  sum_above c.args.unrolled.now c.args.order c.args.limits.now.weight c.in-Err.count c.as_slice-nodes.result.now
      c.in_ok-cones.cones.sets c.in_ok-cones.cones.places.items (length c.as_slice-nodes.result.now * (c.from.result + 1))
      c.requires.unrolled c.as_slice-nodes.ensures c.in_ok-cones.ensures.sets c.in_ok-cones.ensures.cones
      (ap (λ k. length c.as_slice-nodes.result.now * (k + 1)) c.from.ensures) c.in-Err.ensures.above,
)
