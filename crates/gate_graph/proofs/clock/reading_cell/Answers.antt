use Rattle.std.proofs.Common.{refl, sym, subst}
use Rattle.std.specs.Prelude.{Contains}
use Rattle.coco_base.specs.declared.netlist.FlatCell.{FlatCell}
use Rattle.coco_base.specs.declared.netlist.Wire.TheVariants.{Bit}
use Rattle.coco_model.specs.Netlist.{wires_of}
use Rattle.gate_graph.proofs.ClockLemmas.{first_at}
use Rattle.gate_graph.proofs.Items.{read_at, each_more, by_place}
use Rattle.gate_graph.proofs.clock.reading_cell.Goals as goal

pub returns-then-reads-clause-some : goal.returns-then-reads-clause-some
returns-then-reads-clause-some c =
    first_at (λ (d : FlatCell). Contains (wires_of d) (Bit c.args.bit)) c.args.cells.now c.cells.number c.index-cells-number.result
    (read_at c.args.cells.now c.cells.number c.index-cells-number.result c.cells-test.true c.index-cells-number.is) (c.if-reads.ensures.0 refl) c.cells.invariant

pub cells-preserved : goal.cells-preserved
cells-preserved c =
    each_more (λ (d : FlatCell). Contains (wires_of d) (Bit c.args.bit) → ⊥) c.args.cells.now c.cells.number c.index-cells-number.result
    (read_at c.args.cells.now c.cells.number c.index-cells-number.result c.cells-test.true c.index-cells-number.is) (λ reads. let e = c.if-reads.ensures.1 reads in absurd cc) c.cells.invariant

pub returns-clause-none : goal.returns-clause-none
returns-clause-none c =
    by_place (λ (d : FlatCell). Contains (wires_of d) (Bit c.args.bit) → ⊥) c.args.cells.now c.cells.number c.cells-test.false c.cells.invariant
