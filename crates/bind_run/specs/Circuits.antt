-- What a netlist with its graph and its names has.
use Rattle.std.specs.Prelude.{◌≡◌, List}
use Rattle.coco_base.specs.declared.netlist.Flat.{Flat}
use Rattle.gate_graph.specs.Graphs.{Gates}
use Rattle.bind_run.specs.Nets.{AreAlike, Named, names_of}

-- the graph is of the netlist, and each name has the wires that it has there
pub record IsCircuit (flat : Flat) (gates : Gates) (names : List Named) : Type 0 where
  pub flat_is : gates.flat ≡ flat
  pub names_are : AreAlike names (names_of flat)
