use Rattle.std.proofs.Common.{get_or, refl, arith}
use Rattle.gate_graph.specs.declared.driver.Driver.TheVariants.{Cell}
use Rattle.gate_graph.proofs.OrderLemmas.{order_cell, order_leaf, order_all, low_ranks}
use Rattle.gate_graph.proofs.StepLemmas.{no_output}
use Rattle.gate_graph.proofs.WiredLemmas.{driver_read}
use Rattle.gate_graph.proofs.ranks.order_of.Goals as goal
use Rattle.gate_graph.proofs.ranks.order_of.Goals.{in-Cell+in_ok-push, in_default}

pub places-preserved : goal.places-preserved
places-preserved c = elim c.match-drivers-bits.branch [
  | in-Cell+in_ok-push w ↦ rw (w.order-is, w.in_ok-push.ensures.items)
      (order_cell c.args.flat.now c.requires.wired.one_driver c.args.bits.now c.args.ranks.now c.requires.arranged c.requires.places c.requires.as_long c.requires.wired.range.outputs c.places.place w.in-Cell.cell (get_or c.args.bits.now c.places.place 0) c.places.order.items c.places-test.true refl
      (driver_read c.args.flat.now c.args.drivers.now c.requires.wired (get_or c.args.bits.now c.places.place 0) (let l = c.requires.as_long in let b = c.requires.arranged.below c.places.place c.places-test.true in omega arith) _ (Cell w.in-Cell.cell) w.in-Cell.is) c.places.invariant)
  | in_default w ↦ rw w.order-is
      (order_leaf c.args.flat.now c.args.bits.now c.args.ranks.now c.requires.arranged c.requires.places c.requires.as_long c.requires.wired.range.outputs
      c.places.place (get_or c.args.bits.now c.places.place 0) c.places.order.items c.places-test.true refl
      (no_output c.args.flat.now c.args.drivers.now c.requires.wired (get_or c.args.bits.now c.places.place 0) (let l = c.requires.as_long in let b = c.requires.arranged.below c.places.place c.places-test.true in omega arith) _ w.in_default.not-Cell) c.places.invariant)
]

pub returns : goal.returns
returns c =
    order_all c.args.flat.now c.args.ranks.now c.places.place c.places.order.items
    (λ i inside.
    let r = low_ranks c.args.flat.now c.args.bits.now c.args.ranks.now c.requires.arranged c.requires.places c.requires.as_long c.requires.wired.range.outputs i inside in
    let t = c.places-test.false in omega arith) c.places.invariant
