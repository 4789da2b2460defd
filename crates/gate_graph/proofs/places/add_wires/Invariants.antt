use Rattle.std.proofs.Common.{◌≡◌, ◌++◌, map, drop}
use Rattle.coco_model.specs.Netlist.{bits_in}
use Rattle.gate_graph.specs.Drivers.{port_driving}
use Rattle.gate_graph.proofs.places.add_wires.Given as goal

abbrev pub invariant-wires : goal.invariant-wires
invariant-wires l =
    l.places.items ++ map (port_driving l.number) (bits_in (drop l.wire-index l.wires))
    ≡ l.initial.places.items ++ map (port_driving l.number) (bits_in l.wires)
