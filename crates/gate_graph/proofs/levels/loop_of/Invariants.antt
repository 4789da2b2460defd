use Rattle.std.proofs.Common.{◌≡◌, map, take}
use Rattle.gate_graph.specs.declared.driver.Driver.TheVariants.{Cell}
use Rattle.gate_graph.specs.Drivers.{driver_name}
use Rattle.gate_graph.proofs.levels.loop_of.Given as goal

abbrev pub invariant-names : goal.invariant-names
invariant-names l = l.cells ≡ map (λ i. driver_name l.fn.flat (Cell i)) (take l.number-index l.met)
