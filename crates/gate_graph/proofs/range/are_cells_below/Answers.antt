use Rattle.std.proofs.Common.{refl, sym, subst}
use Rattle.coco_base.specs.declared.netlist.FlatCell.{FlatCell}
use Rattle.model_laws.proofs.Lists.{member_of_place}
use Rattle.gate_graph.specs.Numbers.{IsCellBelow}
use Rattle.gate_graph.proofs.Items.{read_at, each_more, by_place}
use Rattle.gate_graph.proofs.range.are_cells_below.Goals as goal

pub returns-then-not-is_cell_below : goal.returns-then-not-is_cell_below
returns-then-not-is_cell_below c = (λ t. absurd (let e = t in cc), λ all. c.if-not-is_cell_below.ensures.1 (all c.index-cells-number.result (member_of_place c.args.cells.now c.cells.number c.index-cells-number.result (read_at c.args.cells.now c.cells.number c.index-cells-number.result c.cells-test.true c.index-cells-number.is))))

pub cells-preserved : goal.cells-preserved
cells-preserved c =
    each_more (λ (x : FlatCell). IsCellBelow c.args.bits x) c.args.cells.now c.cells.number c.index-cells-number.result
    (read_at c.args.cells.now c.cells.number c.index-cells-number.result c.cells-test.true c.index-cells-number.is) (c.if-not-is_cell_below.ensures.0 refl) c.cells.invariant

pub returns : goal.returns
returns c = (λ t. by_place (λ (x : FlatCell). IsCellBelow c.args.bits x) c.args.cells.now c.cells.number c.cells-test.false c.cells.invariant, λ all. refl)
