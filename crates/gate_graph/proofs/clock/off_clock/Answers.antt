use Rattle.std.proofs.Common.{refl, sym, ◌∙◌, ap, subst}
use Rattle.std.specs.Prelude.{Contains, slice_get}
use Rattle.coco_base.specs.declared.netlist.FlatFlop.{FlatFlop}
use Rattle.model_laws.proofs.Lists.{member_of_place}
use Rattle.gate_graph.specs.Clocks.{IsClockWire, IsOffClock, IsFirstOf}
use Rattle.gate_graph.proofs.ClockLemmas.{first_at}
use Rattle.gate_graph.proofs.Items.{read_at, each_more, by_place}
use Rattle.gate_graph.proofs.clock.off_clock.Goals as goal

pub is_on_clock-requires-clause-below : goal.is_on_clock-requires-clause-below
is_on_clock-requires-clause-below c =
    c.requires.range.clocks c.index-flops-number.result (member_of_place c.args.flat.now.flops c.flops.number c.index-flops-number.result
    (ap (λ ys. slice_get ys c.flops.number) (sym c.as_slice-flops.ensures) ∙ read_at c.as_slice-flops.result.now c.flops.number c.index-flops-number.result c.flops-test.true c.index-flops-number.is))

pub returns-then-not-is_on_clock-clause-some : goal.returns-then-not-is_on_clock-clause-some
returns-then-not-is_on_clock-clause-some c =
    subst (λ fs. IsFirstOf (IsOffClock c.args.flat.now c.args.clock) fs c.index-flops-number.result) c.as_slice-flops.ensures
    (first_at (IsOffClock c.args.flat.now c.args.clock) c.as_slice-flops.result.now c.flops.number c.index-flops-number.result
    (read_at c.as_slice-flops.result.now c.flops.number c.index-flops-number.result c.flops-test.true c.index-flops-number.is) (λ on. let e = c.if-not-is_on_clock.ensures.1 on in absurd cc) (λ k f below at_k off. off (c.flops.invariant k f below at_k)))

pub flops-preserved : goal.flops-preserved
flops-preserved c =
    each_more (λ (f : FlatFlop). IsClockWire c.args.flat.now c.args.clock f.clock) c.as_slice-flops.result.now c.flops.number c.index-flops-number.result
    (read_at c.as_slice-flops.result.now c.flops.number c.index-flops-number.result c.flops-test.true c.index-flops-number.is) (c.if-not-is_on_clock.ensures.0 refl) c.flops.invariant

pub returns-clause-none : goal.returns-clause-none
returns-clause-none c =
    subst (λ fs. (f : FlatFlop) → Contains fs f → IsClockWire c.args.flat.now c.args.clock f.clock) c.as_slice-flops.ensures
    (by_place (λ (f : FlatFlop). IsClockWire c.args.flat.now c.args.clock f.clock) c.as_slice-flops.result.now c.flops.number c.flops-test.false c.flops.invariant)
