use Rattle.std.proofs.Common.{◌≡◌, true, false, refl, sym, subst}
use Rattle.std.specs.Prelude.{Contains}
use Rattle.coco_base.specs.declared.netlist.FlatPort.{FlatPort}
use Rattle.coco_base.specs.declared.netlist.FlatNet.{FlatNet}
use Rattle.gate_graph.specs.Numbers.{AreWiresBelow}
use Rattle.gate_graph.proofs.range.are_names_below.Goals as goal

pub returns-then-are_ports_below : goal.returns-then-are_ports_below
returns-then-are_ports_below c = (
  λ t. record {
    ports = subst (λ xs. (x : FlatPort) → Contains xs x → AreWiresBelow c.args.flat.now.bits x.wires) c.as_slice-ports.ensures (c.if-are_ports_below.ensures.0 refl);
    nets = subst (λ xs. (x : FlatNet) → Contains xs x → AreWiresBelow c.args.flat.now.bits x.wires) c.as_slice-nets.ensures (c.are_nets_below.ensures.0 t);
  },
  λ p. c.are_nets_below.ensures.1 (subst (λ xs. (x : FlatNet) → Contains xs x → AreWiresBelow c.args.flat.now.bits x.wires) (sym c.as_slice-nets.ensures) p.nets),
)

pub returns-else-are_ports_below : goal.returns-else-are_ports_below
returns-else-are_ports_below c = (
  λ t. absurd (let e : c.are_ports_below.result ≡ true = t in let f : c.are_ports_below.result ≡ false = c.if-are_ports_below.false in cc),
  λ p. c.are_ports_below.ensures.1 (subst (λ xs. (x : FlatPort) → Contains xs x → AreWiresBelow c.args.flat.now.bits x.wires) (sym c.as_slice-ports.ensures) p.ports),
)
