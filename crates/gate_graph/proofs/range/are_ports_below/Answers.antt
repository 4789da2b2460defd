use Rattle.std.proofs.Common.{refl, sym, ◌∙◌, ap, subst}
use Rattle.coco_base.specs.declared.netlist.FlatPort.{FlatPort}
use Rattle.model_laws.proofs.Lists.{member_of_place}
use Rattle.gate_graph.specs.Numbers.{AreWiresBelow}
use Rattle.gate_graph.proofs.Items.{read_at, each_more, by_place}
use Rattle.gate_graph.proofs.range.are_ports_below.Goals as goal

pub returns-then-not-are_wires_below : goal.returns-then-not-are_wires_below
returns-then-not-are_wires_below c = (λ t. absurd (let e = t in cc), λ all. c.if-not-are_wires_below.ensures.1 (subst (AreWiresBelow c.args.bits) (sym (c.as_slice.ensures ∙ sym (ap (λ (x : FlatPort). x.wires) c.index-ports-number.is))) (all c.index-ports-number.result (member_of_place c.args.ports.now c.ports.number c.index-ports-number.result (read_at c.args.ports.now c.ports.number c.index-ports-number.result c.ports-test.true c.index-ports-number.is)))))

pub ports-preserved : goal.ports-preserved
ports-preserved c =
    each_more (λ (x : FlatPort). AreWiresBelow c.args.bits x.wires) c.args.ports.now c.ports.number c.index-ports-number.result
    (read_at c.args.ports.now c.ports.number c.index-ports-number.result c.ports-test.true c.index-ports-number.is) (subst (AreWiresBelow c.args.bits) (c.as_slice.ensures ∙ sym (ap (λ (x : FlatPort). x.wires) c.index-ports-number.is)) (c.if-not-are_wires_below.ensures.0 refl)) c.ports.invariant

pub returns : goal.returns
returns c = (λ t. by_place (λ (x : FlatPort). AreWiresBelow c.args.bits x.wires) c.args.ports.now c.ports.number c.ports-test.false c.ports.invariant, λ all. refl)
