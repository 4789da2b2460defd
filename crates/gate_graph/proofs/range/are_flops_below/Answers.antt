use Rattle.std.proofs.Common.{refl, sym, subst}
use Rattle.coco_base.specs.declared.netlist.FlatFlop.{FlatFlop}
use Rattle.model_laws.proofs.Lists.{member_of_place}
use Rattle.gate_graph.specs.Numbers.{IsFlopBelow}
use Rattle.gate_graph.proofs.Items.{read_at, each_more, by_place}
use Rattle.gate_graph.proofs.range.are_flops_below.Goals as goal

pub returns-then-not-is_flop_below : goal.returns-then-not-is_flop_below
returns-then-not-is_flop_below c = (λ t. absurd (let e = t in cc), λ all. c.if-not-is_flop_below.ensures.1 (all c.index-flops-number.result (member_of_place c.args.flops.now c.flops.number c.index-flops-number.result (read_at c.args.flops.now c.flops.number c.index-flops-number.result c.flops-test.true c.index-flops-number.is))))

pub flops-preserved : goal.flops-preserved
flops-preserved c =
    each_more (λ (x : FlatFlop). IsFlopBelow c.args.bits x) c.args.flops.now c.flops.number c.index-flops-number.result
    (read_at c.args.flops.now c.flops.number c.index-flops-number.result c.flops-test.true c.index-flops-number.is) (c.if-not-is_flop_below.ensures.0 refl) c.flops.invariant

pub returns : goal.returns
returns c = (λ t. by_place (λ (x : FlatFlop). IsFlopBelow c.args.bits x) c.args.flops.now c.flops.number c.flops-test.false c.flops.invariant, λ all. refl)
