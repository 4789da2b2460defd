use Rattle.std.proofs.Common.{refl, sym, ◌∙◌, ap, subst}
use Rattle.coco_base.specs.declared.netlist.FlatNet.{FlatNet}
use Rattle.model_laws.proofs.Lists.{member_of_place}
use Rattle.gate_graph.specs.Numbers.{AreWiresBelow}
use Rattle.gate_graph.proofs.Items.{read_at, each_more, by_place}
use Rattle.gate_graph.proofs.range.are_nets_below.Goals as goal

pub returns-then-not-are_wires_below : goal.returns-then-not-are_wires_below
returns-then-not-are_wires_below c = (λ t. absurd (let e = t in cc), λ all. c.if-not-are_wires_below.ensures.1 (subst (AreWiresBelow c.args.bits) (sym (c.as_slice.ensures ∙ sym (ap (λ (x : FlatNet). x.wires) c.index-nets-number.is))) (all c.index-nets-number.result (member_of_place c.args.nets.now c.nets.number c.index-nets-number.result (read_at c.args.nets.now c.nets.number c.index-nets-number.result c.nets-test.true c.index-nets-number.is)))))

pub nets-preserved : goal.nets-preserved
nets-preserved c =
    each_more (λ (x : FlatNet). AreWiresBelow c.args.bits x.wires) c.args.nets.now c.nets.number c.index-nets-number.result
    (read_at c.args.nets.now c.nets.number c.index-nets-number.result c.nets-test.true c.index-nets-number.is) (subst (AreWiresBelow c.args.bits) (c.as_slice.ensures ∙ sym (ap (λ (x : FlatNet). x.wires) c.index-nets-number.is)) (c.if-not-are_wires_below.ensures.0 refl)) c.nets.invariant

pub returns : goal.returns
returns c = (λ t. by_place (λ (x : FlatNet). AreWiresBelow c.args.bits x.wires) c.args.nets.now c.nets.number c.nets-test.false c.nets.invariant, λ all. refl)
