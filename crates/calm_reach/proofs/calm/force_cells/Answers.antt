use Rattle.std.proofs.Common.{◌≡◌, ◌<◌, length, get_or, subst, arith}
use Rattle.std.specs.Prelude.{Contains, slice_get, Some}
use Rattle.std.proofs.lemmas.List.Elements.{Contains-get_or}
use Rattle.coco_model.specs.Cells.{IsForced}
use Rattle.model_laws.proofs.Lists.{member_of_place}
use Rattle.calm_reach.proofs.ForcingLemmas.{forced_more, leaves_more}
use Rattle.calm_reach.proofs.calm.force_cells.Goals as goal

pub cell-cell-requires : goal.cell-cell-requires
cell-cell-requires c =
    c.order-order.ensures.built.order.numbers _
    (subst (λ o. Contains o (get_or c.order-order.result.now c.cells.number-index 0)) c.order-order.ensures.order
    (Contains-get_or c.order-order.result.now c.cells.number-index 0 c.cells-test.true))

pub bounds-parts-cell : goal.bounds-parts-cell
bounds-parts-cell c =
    let out = c.order-order.ensures.built.range.outputs c.cell-cell.result.now
    (member_of_place c.args.graph.now.flat.cells (get_or c.order-order.result.now c.cells.number-index 0) c.cell-cell.result.now c.cell-cell.ensures.cell) in
    let long = c.cells.auto.parts in let first = c.requires in
    omega (arith, out, long, first)

pub cells-preserved : goal.cells-preserved
cells-preserved c =
    let out = c.order-order.ensures.built.range.outputs c.cell-cell.result.now
    (member_of_place c.args.graph.now.flat.cells (get_or c.order-order.result.now c.cells.number-index 0) c.cell-cell.result.now c.cell-cell.ensures.cell) in
    let long = c.cells.auto.parts in let first = c.requires in
    let o = c.order-order.ensures.order in
    let at : slice_get c.args.graph.now.flat.cells (get_or c.args.graph.now.order c.cells.number-index 0) ≡ Some c.cell-cell.result.now =
    subst (λ l. slice_get c.args.graph.now.flat.cells (get_or l c.cells.number-index 0) ≡ Some c.cell-cell.result.now) o c.cell-cell.ensures.cell in (
      forced_more c.args.graph.now c.cells.parts c.cells.number-index c.cell-cell.result.now c.forced.result c.order-order.ensures.built
          (subst (λ l. c.cells.number-index < length l) o c.cells-test.true) at (omega (arith, out, long, first))
          (subst (λ ps. IsForced c.cell-cell.result.now.kind ps c.forced.result) c.cell_parts.ensures.parts c.forced.ensures) c.cells.invariant.0,
      leaves_more c.args.graph.now.flat c.args.parts.now c.cells.parts (get_or c.args.graph.now.order c.cells.number-index 0) c.cell-cell.result.now c.forced.result at c.cells.invariant.1,
    )
