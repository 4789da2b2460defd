use Rattle.coco_model.specs.Stepped.{row_of}
use Rattle.unroll.specs.RootedRuns.{number_in}
use Rattle.unroll.proofs.GateLemmas.{gate_is}
use Rattle.unroll.proofs.cells.gate_of.Goals as goal

pub returns-clause-gate : goal.returns-clause-gate
returns-clause-gate c =
    rw (c.part_at.ensures, c.part_at-2.ensures, c.part_at-3.ensures, c.part_at-4.ensures, c.operand_at.ensures, c.operand_at-2.ensures, c.operand_at-3.ensures, c.operand_at-4.ensures)
    (gate_is (number_in c.args.at.now.graph.now c.args.at.now.cycle) (row_of c.args.at.now.known.now) c.args.cell.now c.wires_of-wires.result.now
    c.wires_of-wires.ensures.wires c.wires_of-wires.ensures.count)
