use Rattle.std.proofs.Common.{sym, ◌∙◌, ap}
use Rattle.std.specs.Prelude.{slice_get}
use Rattle.model_laws.proofs.Lists.{member_of_place}
use Rattle.gate_graph.proofs.Items.{read_at}
use Rattle.bind_run.proofs.controls.push_resets.Goals as goal

pub wire_name-requires-clause-below : goal.wire_name-requires-clause-below
wire_name-requires-clause-below c =
    c.requires.range.resets c.flop-item.result
    (member_of_place c.args.flat.now.flops c.flops.flop-index c.flop-item.result
    (ap (λ ys. slice_get ys c.flops.flop-index) (sym c.as_slice-flops.ensures)
    ∙ read_at c.as_slice-flops.result.now c.flops.flop-index c.flop-item.result c.flops-test.true c.flop-item.is))
    c.in-Some.wire c.in-Some.is
