-- What the clauses about probes are made from.
use Rattle.std.specs.Prelude.{ℕ, ◌+◌, ◌*◌, Bool, true, false, cond, not, ◌&&◌, ◌||◌, nat_eq, List, [], map, reverse, length, get_or, Option, Some, None}
use Rattle.std.specs.List.{list_any, range_with_len}
use Rattle.coco_base.specs.declared.cell.Part.{Part}
use Rattle.coco_base.specs.declared.cell.Part.TheVariants.{Zero, One, Vary}
use Rattle.coco_base.specs.declared.netlist.Flat.{Flat}
use Rattle.coco_base.specs.declared.netlist.FlatCell.{FlatCell}
use Rattle.coco_base.specs.declared.netlist.Wire.{Wire}
use Rattle.coco_base.specs.declared.netlist.Wire.TheVariants.{Const}
use Rattle.coco_base.specs.declared.unrolled.Node.{Node}
use Rattle.coco_base.specs.declared.unrolled.Node.TheVariants.{Nothing, Label, Copy, Gate}
use Rattle.coco_model.specs.Netlist.{wires_of}
use Rattle.gate_graph.specs.declared.driver.Driver.{Driver}
use Rattle.gate_graph.specs.declared.driver.Driver.TheVariants as driver
use Rattle.calm_reach.specs.CalmRows.{Calmness, calm_of, is_live}
use Rattle.probe_clauses.specs.RunViews.{RunView}

-- the numbers of bits and cycles, the clock, how many probes there may be, and how many cycles each lasts; the numbers
-- of the cells, those whose outputs have higher ranks first, and the output and the wires of each; by cycle and bit,
-- whether a bit is not calm (none moves after the last cycle), and by cycle, cell and place whether an input is live;
-- which bits are leaves; and by cycle and bit whether it is known what the bit is
pub record Probing : Type 0 where
  pub bits : ℕ
  pub cycles : ℕ
  pub clock : Option ℕ
  pub order : ℕ
  pub window : ℕ
  pub cells : List ℕ
  pub output : ℕ → ℕ
  pub wires : ℕ → List Wire
  pub moves : ℕ → ℕ → Bool
  pub is_live : ℕ → ℕ → ℕ → Bool
  pub is_leaf : ℕ → Bool
  pub is_known : ℕ → ℕ → Bool

abbrev pub varies : Part → Bool
varies Vary = true
varies Zero = false
varies One = false

abbrev pub is_nothing : Node → Bool
is_nothing Nothing = true
is_nothing (Label l) = false
is_nothing (Copy i) = false
is_nothing (Gate kind parts operands) = false

-- an input port or a flop
abbrev pub drives_leaf : Driver → Bool
drives_leaf (driver.Port number) = true
drives_leaf (driver.Flop number) = true
drives_leaf (driver.Cell number) = false
drives_leaf driver.Nothing = false

-- the row of a cycle; nothing moves in one after the last
abbrev pub row_at : List Calmness → ℕ → Calmness
row_at rows t = get_or rows t (record { parts = []; cells = 0; masks = [] })

abbrev pub output_of_cell : Flat → ℕ → ℕ
output_of_cell flat number = get_or (map (λ (c : FlatCell). c.output) flat.cells) number 0

abbrev pub wires_of_cell : Flat → ℕ → List Wire
wires_of_cell flat number = get_or (map wires_of flat.cells) number []

-- what the clauses are made from, by graph, nodes and calm rows
abbrev pub probing_of : RunView → Probing
probing_of view =
    record {
      bits = view.gates.flat.bits;
      cycles = length view.rows;
      clock = view.clock;
      order = view.order;
      window = view.window;
      cells = reverse view.gates.order;
      output = output_of_cell view.gates.flat;
      wires = wires_of_cell view.gates.flat;
      moves = λ t b. varies (calm_of (row_at view.rows t) b);
      is_live = λ t cell place. is_live (row_at view.rows t) cell place;
      is_leaf = λ b. drives_leaf (get_or view.gates.drivers b driver.Nothing);
      is_known = λ t b. is_nothing (get_or view.nodes (t * view.gates.flat.bits + get_or view.ranks b 0) Nothing);
    }

abbrev pub all_bits : Probing → List ℕ
all_bits run = range_with_len 0 run.bits

abbrev pub all_cycles : Probing → List ℕ
all_cycles run = range_with_len 0 run.cycles

abbrev pub is_clock : Option ℕ → ℕ → Bool
is_clock None bit = false
is_clock (Some clock) bit = nat_eq clock bit

-- a bit can be probed: it is not the clock
abbrev pub can_probe : Probing → ℕ → Bool
can_probe run b = not (is_clock run.clock b)

-- a bit is not calm in some cycle
abbrev pub moves_ever : Probing → ℕ → Bool
moves_ever run b = list_any (λ t. run.moves t b) (all_cycles run)

-- a bit can be probed and is not calm in some cycle
abbrev pub is_moving : Probing → ℕ → Bool
is_moving run b = can_probe run b && moves_ever run b

-- by bit
abbrev pub probed : Probing → List Bool
probed run = map (can_probe run) (all_bits run)

abbrev pub moving : Probing → List Bool
moving run = map (is_moving run) (all_bits run)

-- a pair of cycle and leaf that is unknown and that some probe shows: the leaf is not calm in the cycle or the next one
abbrev pub is_pair : Probing → ℕ → ℕ → Bool
is_pair run t b =
    run.is_leaf b && (can_probe run b && (not (run.is_known t b) && (run.moves t b || run.moves (t + 1) b)))

-- a cell lets an input through to its output in a cycle: the input is live and the output is not calm
abbrev pub is_open_in : Probing → ℕ → ℕ → ℕ → Bool
is_open_in run cell place t = run.moves t (run.output cell) && run.is_live t cell place

-- the same in some of these cycles
abbrev pub is_open : Probing → List ℕ → ℕ → ℕ → Bool
is_open run times cell place = list_any (is_open_in run cell place) times

-- the wire at a place of a cell that is open in some of these cycles; elsewhere a constant
abbrev pub open_wire : Probing → List ℕ → ℕ → ℕ → Wire
open_wire run times cell place =
    cond (is_open run times cell place) (get_or (run.wires cell) place (Const false)) (Const false)
