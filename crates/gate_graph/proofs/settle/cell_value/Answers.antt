use Rattle.std.proofs.Common.{◌∙◌}
use Rattle.gate_graph.specs.Settled.{valuation_of}
use Rattle.gate_graph.proofs.SettleLemmas.{seen}
use Rattle.gate_graph.proofs.settle.cell_value.Goals as goal

pub returns : goal.returns
returns c =
    rw (c.wire_value.ensures, c.wire_value-2.ensures, c.wire_value-3.ensures, c.wire_value-4.ensures) at c.value.ensures
    ∙ seen c.args.cell.now.kind (valuation_of c.args.row.now) c.args.cell.now.inputs
