use Rattle.std.proofs.Common.{ℕ, ◌+◌, ◌≤◌, List, length, get_or, set, sym, ◌∙◌, ap, subst, arith}
use Rattle.std.specs.Prelude.{Contains, slice_get}
use Rattle.std.proofs.lemmas.List.Elements.{Contains-get_or}
use Rattle.std.proofs.Math.ListN.{length-set}
use Rattle.model_laws.proofs.Lists.{member_of_place}
use Rattle.gate_graph.proofs.Items.{some_at}
use Rattle.cycle_sim.proofs.SettleLemmas.{AreSettled, settled_more, settled_all}
use Rattle.cycle_sim.proofs.settle.settle.Goals as goal

pub cell-cell-requires : goal.cell-cell-requires
cell-cell-requires c =
    let n = get_or c.order-number-items.result.now c.cells.number-index 0 in
    c.order-number-items.ensures.built.order.numbers n (subst (λ (os : List ℕ). Contains os n) c.order-number-items.ensures.order
    (Contains-get_or c.order-number-items.result.now c.cells.number-index 0 c.cells-test.true))

pub bounds-row-cell : goal.bounds-row-cell
bounds-row-cell c =
    let n = get_or c.order-number-items.result.now c.cells.number-index 0 in
    let inside = c.order-number-items.ensures.built.range.outputs c.cell-cell.result.now (member_of_place c.args.graph.now.flat.cells n c.cell-cell.result.now c.cell-cell.ensures.cell) in
    let long = c.cells.auto.row in
    let first = c.requires in
    omega arith

pub cells-preserved : goal.cells-preserved
cells-preserved c =
    let g = c.args.graph.now in
    let os = c.order-number-items.result.now in
    let n = get_or os c.cells.number-index 0 in
    let x = c.cell-cell.result.now in
    let same = c.order-number-items.ensures.order in
    let inside = c.order-number-items.ensures.built.range.outputs x (member_of_place g.flat.cells n x c.cell-cell.ensures.cell) in
    let long = c.cells.auto.row in
    let first = c.requires in
    subst (λ (ns : List ℕ). AreSettled g.flat ns (c.cells.number-index + 1) c.args.row.now (set c.cells.row x.output c.cell_part.result)) (sym same)
    (settled_more g c.order-number-items.ensures.built c.cells.number-index n x c.args.row.now c.cells.row c.cell_part.result
    (ap (λ (ns : List ℕ). slice_get ns c.cells.number-index) (sym same) ∙ some_at os c.cells.number-index 0 c.cells-test.true)
    c.cell-cell.ensures.cell (omega arith) c.cell_part.ensures
    (subst (λ (ns : List ℕ). AreSettled g.flat ns c.cells.number-index c.args.row.now c.cells.row) same c.cells.invariant)
    (length-set c.cells.row x.output c.cell_part.result))

pub returns-clause-forced : goal.returns-clause-forced
returns-clause-forced c =
    let g = c.args.graph.now in
    let same = c.order-number-items.ensures.order in
    settled_all g c.order-number-items.ensures.built c.cells.number-index c.args.row.now c.cells.row
    (subst (λ (ns : List ℕ). length ns ≤ c.cells.number-index) same c.cells-test.false)
    (subst (λ (ns : List ℕ). AreSettled g.flat ns c.cells.number-index c.args.row.now c.cells.row) same c.cells.invariant)
