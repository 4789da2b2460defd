use Rattle.std.proofs.Common.{◌∙◌}
use Rattle.probe_clauses.proofs.Sized.{room_fits}
use Rattle.probe_clauses.proofs.room.can_add_probes.Goals as goal

pub returns : goal.returns
returns c = λ h.
    room_fits c.args.form.now c.args.run.now c.from-bits.result c.cycles-cycles.result c.order-order.result c.times-places.result c.times.result c.times-2.result c.times-3.result c.times-4.result
    c.cells-cells.ensures.built (c.from-bits.ensures ∙ c.bits.ensures) c.cycles-cycles.ensures c.order-order.ensures c.if-order-lt1.false c.times-places.ensures.product
    c.times.ensures.product c.times-2.ensures.product c.times-3.ensures.product c.times-4.ensures.product (c.has_room.ensures.vars h) (c.has_room.ensures.clauses h)
