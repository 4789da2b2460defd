use Rattle.std.proofs.Common.{refl}
use Rattle.coco_base.specs.declared.netlist.FlatFlop.{FlatFlop}
use Rattle.gate_graph.specs.Clocks.{ReadsAsValue}
use Rattle.gate_graph.proofs.ClockLemmas.{first_at}
use Rattle.gate_graph.proofs.Items.{read_at, each_more, by_place}
use Rattle.gate_graph.proofs.clock.reading_flop.Goals as goal

pub returns-then-reads_as_value-clause-some : goal.returns-then-reads_as_value-clause-some
returns-then-reads_as_value-clause-some c =
    first_at (λ (g : FlatFlop). ReadsAsValue g c.args.bit) c.args.flops.now c.flops.number c.index-flops-number.result
    (read_at c.args.flops.now c.flops.number c.index-flops-number.result c.flops-test.true c.index-flops-number.is) (c.if-reads_as_value.ensures.0 refl) c.flops.invariant

pub flops-preserved : goal.flops-preserved
flops-preserved c =
    each_more (λ (g : FlatFlop). ReadsAsValue g c.args.bit → ⊥) c.args.flops.now c.flops.number c.index-flops-number.result
    (read_at c.args.flops.now c.flops.number c.index-flops-number.result c.flops-test.true c.index-flops-number.is) (λ reads. let e = c.if-reads_as_value.ensures.1 reads in absurd cc) c.flops.invariant

pub returns-clause-none : goal.returns-clause-none
returns-clause-none c = by_place (λ (g : FlatFlop). ReadsAsValue g c.args.bit → ⊥) c.args.flops.now c.flops.number c.flops-test.false c.flops.invariant
