use Rattle.std.proofs.Common.{◌≡◌, ◌<◌, length, get_or, set, take, refl, sym, ◌∙◌, ap, subst, arith}
use Rattle.std.specs.Prelude.{slice_get, Some}
use Rattle.coco_model.specs.Netlist.{cell_value}
use Rattle.model_laws.proofs.Lists.{member_of_place}
use Rattle.gate_graph.proofs.Items.{read_at}
use Rattle.std.proofs.lemmas.List.{take_more, take_all}
use Rattle.std.proofs.lemmas.List.Elements.{Contains-get_or}
use Rattle.gate_graph.specs.Settled.{valuation_of, IsAfterCells}
use Rattle.gate_graph.proofs.SettleLemmas.{cells_more}
use Rattle.gate_graph.proofs.settle.settle_cells.Goals as goal

pub bounds-as_slice-number : goal.bounds-as_slice-number
bounds-as_slice-number c = rw c.as_slice.ensures (c.requires.numbers _ (Contains-get_or c.args.order.now c.cells.number-index 0 c.cells-test.true))

pub bounds-row-cell : goal.bounds-row-cell
bounds-row-cell c =
    let n = get_or c.args.order.now c.cells.number-index 0 in
    let x = c.index-as_slice-number.result in
    let below : n < length c.as_slice.result.now = rw c.as_slice.ensures (c.requires.numbers _ (Contains-get_or c.args.order.now c.cells.number-index 0 c.cells-test.true)) in
    let at : slice_get c.args.flat.now.cells n ≡ Some x = ap (λ ys. slice_get ys n) (sym c.as_slice.ensures) ∙ read_at c.as_slice.result.now n x below c.index-as_slice-number.is in
    let out : x.output < c.args.flat.now.bits = c.requires.range.outputs x (member_of_place c.args.flat.now.cells n x at) in
    let long = c.cells.auto.row in
    let first = c.requires.row in
    omega arith

pub cells-preserved : goal.cells-preserved
cells-preserved c =
    let n = get_or c.args.order.now c.cells.number-index 0 in
    let x = c.index-as_slice-number.result in
    let below : n < length c.as_slice.result.now = rw c.as_slice.ensures (c.requires.numbers _ (Contains-get_or c.args.order.now c.cells.number-index 0 c.cells-test.true)) in
    let at : slice_get c.args.flat.now.cells n ≡ Some x = ap (λ ys. slice_get ys n) (sym c.as_slice.ensures) ∙ read_at c.as_slice.result.now n x below c.index-as_slice-number.is in
    let out : x.output < c.args.flat.now.bits = c.requires.range.outputs x (member_of_place c.args.flat.now.cells n x at) in
    let long = c.cells.auto.row in
    let first = c.requires.row in
    let value : c.cell_value.result ≡ cell_value (valuation_of c.cells.row) x = cc (c.cell_value.ensures, c.index-as_slice-number.is) in
    subst (λ o. IsAfterCells c.args.flat.now o c.args.row.now (set c.cells.row x.output c.cell_value.result)) (sym (take_more c.args.order.now c.cells.number-index 0 c.cells-test.true))
    (cells_more c.args.flat.now (take c.cells.number-index c.args.order.now) n x c.args.row.now c.cells.row c.cell_value.result at (omega arith) value c.cells.invariant)

pub returns : goal.returns
returns c =
    subst (λ o. IsAfterCells c.args.flat.now o c.args.row.now c.cells.row) (take_all c.cells.number-index c.args.order.now c.cells-test.false) c.cells.invariant
