use Rattle.std.proofs.Common.{ℕ, ◌≤◌, List, length, get_or, sym, ◌∙◌, ap, subst, arith}
use Rattle.std.specs.Prelude.{Contains, slice_get}
use Rattle.std.proofs.lemmas.List.Elements.{Contains-get_or}
use Rattle.model_laws.proofs.Lists.{member_of_place}
use Rattle.gate_graph.proofs.Items.{some_at}
use Rattle.unroll.proofs.SettleLemmas.{noded_none, noded_more, noded_all}
use Rattle.unroll.proofs.cells.settle.Goals as goal

pub cells-init : goal.cells-init
cells-init c =
    let m = c.args.at.now in
    noded_none m.graph.now m.setup.now m.cycle m.known.now m.before.now c.args.old.now c.args.now.now c.args.roots.now

pub cell-cell-requires : goal.cell-cell-requires
cell-cell-requires c =
    let n = get_or c.order-number-items.result.now c.cells.number-index 0 in
    c.order-number-items.ensures.built.order.numbers n (subst (λ (os : List ℕ). Contains os n) c.order-number-items.ensures.order
    (Contains-get_or c.order-number-items.result.now c.cells.number-index 0 c.cells-test.true))

pub entry_of-entry-requires-clause-output : goal.entry_of-entry-requires-clause-output
entry_of-entry-requires-clause-output c =
    let n = get_or c.order-number-items.result.now c.cells.number-index 0 in
    c.order-number-items.ensures.built.range.outputs c.cell-cell.result.now (member_of_place c.args.at.now.graph.now.flat.cells n c.cell-cell.result.now c.cell-cell.ensures.cell)

pub entry_of-entry-requires-clause-inputs : goal.entry_of-entry-requires-clause-inputs
entry_of-entry-requires-clause-inputs c =
    let n = get_or c.order-number-items.result.now c.cells.number-index 0 in
    c.order-number-items.ensures.built.range.inputs c.cell-cell.result.now (member_of_place c.args.at.now.graph.now.flat.cells n c.cell-cell.result.now c.cell-cell.ensures.cell)

pub bounds-now-cell : goal.bounds-now-cell
bounds-now-cell c =
    let n = get_or c.order-number-items.result.now c.cells.number-index 0 in
    let inside = c.order-number-items.ensures.built.range.outputs c.cell-cell.result.now (member_of_place c.args.at.now.graph.now.flat.cells n c.cell-cell.result.now c.cell-cell.ensures.cell) in
    let long = c.cells.auto.now in
    let first = c.requires.now in
    omega arith

pub bounds-roots-cell : goal.bounds-roots-cell
bounds-roots-cell c =
    let n = get_or c.order-number-items.result.now c.cells.number-index 0 in
    let inside = c.order-number-items.ensures.built.range.outputs c.cell-cell.result.now (member_of_place c.args.at.now.graph.now.flat.cells n c.cell-cell.result.now c.cell-cell.ensures.cell) in
    let long = c.cells.auto.roots in
    let first = c.requires.roots in
    omega arith

pub cells-preserved : goal.cells-preserved
cells-preserved c =
    let m = c.args.at.now in
    let os = c.order-number-items.result.now in
    let n = get_or os c.cells.number-index 0 in
    let x = c.cell-cell.result.now in
    let same = c.order-number-items.ensures.order in
    let inside = c.order-number-items.ensures.built.range.outputs x (member_of_place m.graph.now.flat.cells n x c.cell-cell.ensures.cell) in
    let long = c.cells.auto.now in
    let long_roots = c.cells.auto.roots in
    let first = c.requires.now in
    let first_roots = c.requires.roots in
    noded_more m.graph.now m.setup.now c.order-number-items.ensures.built m.cycle m.known.now m.before.now c.args.old.now c.cells.number-index n x
    c.args.now.now c.cells.now c.args.roots.now c.cells.roots
    (ap (λ (ns : List ℕ). slice_get ns c.cells.number-index) (sym same) ∙ some_at os c.cells.number-index 0 c.cells-test.true)
    c.cell-cell.ensures.cell c.cells.invariant c.entry_of-entry.result.node c.entry_of-entry.result.root (omega arith) (omega arith)
    c.entry_of-entry.ensures

pub returns-clause-settled : goal.returns-clause-settled
returns-clause-settled c =
    let m = c.args.at.now in
    noded_all m.graph.now m.setup.now c.order-number-items.ensures.built m.cycle m.known.now m.before.now c.args.old.now c.cells.number-index
    c.args.now.now c.cells.now c.args.roots.now c.cells.roots
    (subst (λ (ns : List ℕ). length ns ≤ c.cells.number-index) c.order-number-items.ensures.order c.cells-test.false) c.cells.invariant
