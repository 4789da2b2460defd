-- What contracts see of a graph, and what a graph has that was built from a netlist.
use Rattle.std.specs.Prelude.{◌≡◌, ℕ, ◌<◌, List, [], get_or, Option}
use Rattle.coco_base.specs.declared.netlist.Flat.{Flat}
use Rattle.coco_model.specs.Netlist.{HasOneDriver, IsInRange, IsRanked}
use Rattle.coco_model.specs.Events.{IsCellOrder}
use Rattle.gate_graph.specs.declared.driver.Driver.{Driver}
use Rattle.gate_graph.specs.Drivers.{AreDrivers, HasNumbers}
use Rattle.gate_graph.specs.Levels.{AreLevels}
use Rattle.gate_graph.specs.Ranks.{AreRanks, IsRankOrder}
use Rattle.gate_graph.specs.Clocks.{IsGraphClock}

-- a netlist, what drives each bit, the rank of each bit, the cells by rank, and the clock
pub record Gates : Type 0 where
  pub flat : Flat
  pub drivers : List Driver
  pub ranks : List ℕ
  pub order : List ℕ
  pub clock : Option ℕ

-- what contracts see, from the parts
abbrev pub gates_of : Flat → List Driver → List ℕ → List ℕ → Option ℕ → Gates
gates_of flat drivers ranks order clock =
    record { flat = flat; drivers = drivers; ranks = ranks; order = order; clock = clock }

-- the rank of a bit
abbrev pub rank_in : Gates → ℕ → ℕ
rank_in gates bit = get_or gates.ranks bit 0

-- what is kept of a netlist is what the netlist has: drivers, ranks, order and clock; and the netlist has no bit with two
-- drivers, no loop and no second clock
pub record IsBuilt (gates : Gates) : Type 0 where
  pub range : IsInRange gates.flat
  pub numbers : HasNumbers gates.flat
  pub one_driver : HasOneDriver gates.flat
  pub drivers : AreDrivers gates.flat gates.drivers
  pub level : ℕ → ℕ
  pub levels : AreLevels gates.flat level
  pub ranks : AreRanks gates.flat level gates.ranks
  pub ranked : IsRanked gates.flat (rank_in gates)
  pub order : IsRankOrder gates.flat gates.ranks gates.order
  pub cell_order : IsCellOrder gates.flat [] gates.order
  pub clock : IsGraphClock gates.flat gates.clock

-- the graph of a netlist
pub record IsGraphOf (flat : Flat) (gates : Gates) : Type 0 where
  pub flat_is : gates.flat ≡ flat
  pub built : IsBuilt gates
