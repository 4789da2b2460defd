-- The parts of a graph make one.
use Rattle.std.proofs.Common.{◌≡◌, ℕ, ◌⊎◌, inl, inr, List, get_or, subst}
use Rattle.std.specs.Prelude.{Option}
use Rattle.coco_base.specs.declared.netlist.Flat.{Flat}
use Rattle.coco_base.specs.declared.netlist.Wire.TheVariants.{Bit}
use Rattle.coco_model.specs.Netlist.{IsRanked}
use Rattle.gate_graph.specs.declared.driver.Driver.{Driver}
use Rattle.gate_graph.specs.Drivers.{IsWired}
use Rattle.gate_graph.specs.Ranks.{AreRanks, IsRankOrder}
use Rattle.gate_graph.specs.Clocks.{IsGraphClock}
use Rattle.gate_graph.specs.Graphs.{IsBuilt, gates_of}
use Rattle.gate_graph.specs.Marks.{AreBitLevels}
use Rattle.gate_graph.specs.Standings.{AreByRank, ArePlaces}
use Rattle.gate_graph.proofs.LevelLemmas.{level_above}
use Rattle.gate_graph.proofs.OrderLemmas.{exact_ranks, cell_order}

pub built : (flat : Flat) (drivers : List Driver) (levels bits ranks order : List ℕ) (clock : Option ℕ) → IsWired flat drivers → AreBitLevels flat levels
    → AreByRank levels bits → ArePlaces bits ranks → IsRankOrder flat ranks order → IsGraphClock flat clock → IsBuilt (gates_of flat drivers ranks order clock)
built flat drivers levels bits ranks order clock w l by p o is_clock = record {
  range = w.range;
  numbers = w.numbers;
  one_driver = w.one_driver;
  drivers = w.driven;
  level = λ b. get_or levels b 0;
  levels = l.each;
  ranks = exact;
  ranked = ranked;
  order = o;
  cell_order = cell_order flat w.one_driver ranks order ranked o;
  clock = is_clock;
}
  where
    exact : AreRanks flat (λ b. get_or levels b 0) ranks
    exact = exact_ranks flat levels bits ranks by p l.as_long

    ranked : IsRanked flat (λ b. get_or ranks b 0)
    ranked = record {
      cells = λ c listed b read.
          exact.ordered b c.output (w.range.inputs c listed (Bit b) read) (w.range.outputs c listed)
          (inl (level_above flat w.one_driver (λ a. get_or levels a 0) l.each c listed b read));
    }
