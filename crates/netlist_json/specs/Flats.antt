-- From a module to the flat netlist. The numbers that occur in the module become 0, 1, 2 and so on, in ascending order.
-- Each enable and each synchronous reset becomes a multiplexer before its flop, with a bit of its own; these bits
-- follow, flop by flop in order of names, the inner multiplexer first. Cells and nets stand in order of names; of equal
-- names the one of the file comes first.
use Rattle.std.specs.Prelude.{ℕ, ◌+◌, ◌==◌, List, [], ◌∷◌, ◌++◌, length, map, flat_map, fold, true, false, Bool, Option, Some, None, nat_lt, Result, Ok, Err, codes, if◌then◌else◌}
use Rattle.std.specs.Cmp.Lexicographic.{slice_cmp}
use Rattle.std.specs.Ordering.{nat_cmp, ordering_then}
use Rattle.std.specs.BTreeMap.{insert_entry}
use Rattle.std.specs.BTreeSet.{insert_key}
use Rattle.std.specs.declared.cmp.Ordering.{Ordering}
use Rattle.serde_json.specs.Data.{Data}
use Rattle.coco_base.specs.declared.cell.Kind.TheVariants.{Mux}
use Rattle.coco_base.specs.declared.netlist.Flat.{Flat}
use Rattle.coco_base.specs.declared.netlist.FlatCell.{FlatCell}
use Rattle.coco_base.specs.declared.netlist.FlatFlop.{FlatFlop}
use Rattle.coco_base.specs.declared.netlist.FlatNet.{FlatNet}
use Rattle.coco_base.specs.declared.netlist.FlatPort.{FlatPort}
use Rattle.coco_base.specs.declared.netlist.Wire.{Wire}
use Rattle.coco_base.specs.declared.netlist.Wire.TheVariants.{Const, Bit}
use Rattle.netlist_json.specs.CellTypes.{mux_steps}
use Rattle.netlist_json.specs.Elements.{elements_of, no_inout}
use Rattle.netlist_json.specs.Faults.{◌>>=◌}
use Rattle.netlist_json.specs.Json.{json_of}
use Rattle.netlist_json.specs.Shape.{source_of}
use Rattle.netlist_json.specs.declared.cell_type.MuxStep.{MuxStep}
use Rattle.netlist_json.specs.declared.cell_type.MuxStep.TheVariants.{EnableMux, ResetMux}
use Rattle.netlist_json.specs.declared.cell_type.Reset.{Reset}
use Rattle.netlist_json.specs.declared.cell_type.Reset.TheVariants.{NoReset, Asynchronous, Synchronous}
use Rattle.netlist_json.specs.declared.element.Element.{Element}
use Rattle.netlist_json.specs.declared.element.Element.TheVariants.{Gate, Flop}
use Rattle.netlist_json.specs.declared.element.Register.{Register}
use Rattle.netlist_json.specs.declared.fault.NetFault.{NetFault}
use Rattle.netlist_json.specs.declared.fault.NetFault.TheVariants.{NotJson, TooMany}
use Rattle.netlist_json.specs.declared.source.Direction.{Direction}
use Rattle.netlist_json.specs.declared.source.Direction.TheVariants.{Input, Output, Inout}
use Rattle.netlist_json.specs.declared.source.Source.{Source}
use Rattle.netlist_json.specs.declared.source.SourceCell.{SourceCell}
use Rattle.netlist_json.specs.declared.source.SourcePort.{SourcePort}

-- ---- numbers

-- the different numbers of a list, in ascending order
abbrev pub ascending : List ℕ → List ℕ
ascending numbers = fold (insert_key nat_cmp) [] numbers

abbrev pub wire_numbers : Wire → List ℕ
wire_numbers (Const b) = []
wire_numbers (Bit number) = number ∷ []

abbrev pub net_numbers : FlatNet → List ℕ
net_numbers net = flat_map wire_numbers net.wires

abbrev pub port_numbers : SourcePort → List ℕ
port_numbers port = flat_map wire_numbers port.wires

abbrev pub cell_numbers : SourceCell → List ℕ
cell_numbers cell = flat_map net_numbers cell.connections

-- each number that occurs in a module
abbrev pub numbers_in : Source → List ℕ
numbers_in m = flat_map port_numbers m.ports ++ flat_map cell_numbers m.cells ++ flat_map net_numbers m.nets

-- the place of a number among numbers in order, and their count where it is not there
abbrev pub place_of : List ℕ → ℕ → ℕ
place_of [] n = 0
place_of (k ∷ ks) n = if k == n then 0 else place_of ks n + 1

abbrev pub flat_wire : List ℕ → Wire → Wire
flat_wire order (Const b) = Const b
flat_wire order (Bit n) = Bit (place_of order n)

abbrev pub is_input : Direction → Bool
is_input Input = true
is_input Output = false
is_input Inout = false

abbrev pub flat_port : List ℕ → SourcePort → FlatPort
flat_port order p = record { name = p.name; input = is_input p.direction; wires = map (flat_wire order) p.wires }

abbrev pub flat_net : List ℕ → FlatNet → FlatNet
flat_net order n = record { name = n.name; wires = map (flat_wire order) n.wires }

abbrev pub flat_gate : List ℕ → FlatCell → FlatCell
flat_gate order c = record { name = c.name; kind = c.kind; inputs = map (flat_wire order) c.inputs; output = place_of order c.output }

abbrev pub flat_register : List ℕ → Register → Register
flat_register order r = record r {
  next = flat_wire order r.next;
  clock = flat_wire order r.clock;
  enable = flat_wire order r.enable;
  reset = flat_wire order r.reset;
  output = place_of order r.output;
}

abbrev pub flat_gates : List ℕ → List Element → List FlatCell
flat_gates order [] = []
flat_gates order (Gate cell ∷ es) = flat_gate order cell ∷ flat_gates order es
flat_gates order (Flop r ∷ es) = flat_gates order es

abbrev pub flat_registers : List ℕ → List Element → List Register
flat_registers order [] = []
flat_registers order (Gate cell ∷ es) = flat_registers order es
flat_registers order (Flop r ∷ es) = flat_register order r ∷ flat_registers order es

-- ---- multiplexers

-- what a multiplexer is tied to that takes `active` where its control has the level, and else `idle`
abbrev pub mux_inputs : Bool → Wire → Wire → Wire → List Wire
mux_inputs true active idle control = idle ∷ active ∷ control ∷ Const false ∷ []
mux_inputs false active idle control = active ∷ idle ∷ control ∷ Const false ∷ []

-- an enabled flop takes the inner value and else keeps its own; a reset one takes the reset value and else the inner one
abbrev pub mux_of : Register → MuxStep → Wire → ℕ → FlatCell
mux_of r EnableMux inner bit =
    record {
      name = r.name ++ codes ".e";
      kind = Mux;
      output = bit;
      inputs = mux_inputs r.kind.enable_level inner (Bit r.output) r.enable;
    }
mux_of r ResetMux inner bit =
    record {
      name = r.name ++ codes ".r";
      kind = Mux;
      output = bit;
      inputs = mux_inputs r.kind.reset_level (Const r.kind.reset_value) inner r.reset;
    }

abbrev pub muxes_of : Register → List MuxStep → Wire → ℕ → List FlatCell
muxes_of r [] inner bit = []
muxes_of r (s ∷ ss) inner bit = mux_of r s inner bit ∷ muxes_of r ss (Bit bit) (bit + 1)

-- the output of the outer multiplexer
abbrev pub outer_wire : List MuxStep → Wire → ℕ → Wire
outer_wire [] inner bit = inner
outer_wire (s ∷ ss) inner bit = outer_wire ss (Bit bit) (bit + 1)

abbrev pub reset_wire : Reset → Wire → Option Wire
reset_wire NoReset wire = None
reset_wire Asynchronous wire = Some wire
reset_wire Synchronous wire = None

abbrev pub active_level : Reset → Bool → Bool
active_level NoReset level = false
active_level Asynchronous level = level
active_level Synchronous level = false

abbrev pub flop_at : Register → ℕ → FlatFlop
flop_at r bit = record {
  name = r.name;
  clock = r.clock;
  next = outer_wire (mux_steps r.kind) r.next bit;
  output = r.output;
  reset = reset_wire r.kind.reset r.reset;
  level = active_level r.kind.reset r.kind.reset_level;
}

-- the multiplexers and the flops of registers, of which the first has its new bits from this number on
abbrev pub all_muxes : List Register → ℕ → List FlatCell
all_muxes [] bit = []
all_muxes (r ∷ rs) bit = muxes_of r (mux_steps r.kind) r.next bit ++ all_muxes rs (bit + length (mux_steps r.kind))

abbrev pub all_flops : List Register → ℕ → List FlatFlop
all_flops [] bit = []
all_flops (r ∷ rs) bit = flop_at r bit ∷ all_flops rs (bit + length (mux_steps r.kind))

-- how many new bits there are
abbrev pub mux_count : Register → ℕ
mux_count r = length (mux_steps r.kind)

abbrev pub new_bits : List Element → ℕ
new_bits [] = 0
new_bits (Gate cell ∷ es) = new_bits es
new_bits (Flop r ∷ es) = mux_count r + new_bits es

abbrev pub mux_net : FlatCell → FlatNet
mux_net mux = record { name = mux.name; wires = Bit mux.output ∷ [] }

-- ---- order

-- a name, and 0 for what is in the file and 1 for what is made
abbrev pub key_cmp : List ℕ × ℕ → List ℕ × ℕ → Ordering
key_cmp a b = ordering_then (slice_cmp nat_cmp a.0 b.0) (nat_cmp a.1 b.1)

abbrev pub put_entry : {X : Type 0} → List ((List ℕ × ℕ) × X) → (List ℕ × ℕ) × X → List ((List ℕ × ℕ) × X)
put_entry entries e = insert_entry key_cmp entries e.0 e.1

abbrev pub keyed : {X : Type 0} → (X → List ℕ) → ℕ → List X → List ((List ℕ × ℕ) × X)
keyed name made xs = map (λ x. ((name x, made), x)) xs

abbrev pub in_order : {X : Type 0} → List ((List ℕ × ℕ) × X) → List X
in_order entries = map (λ e. e.1) (fold put_entry [] entries)

abbrev pub merged : {X : Type 0} → (X → List ℕ) → List X → List X → List X
merged name file made = in_order (keyed name 0 file ++ keyed name 1 made)

-- ---- the flat netlist

abbrev pub flat_with : List ℕ → Source → List Element → Flat
flat_with order source elements =
    let muxes = all_muxes (flat_registers order elements) (length order) in
    record {
      bits = length order + new_bits elements;
      ports = map (flat_port order) source.ports;
      cells = merged (λ c. c.name) (flat_gates order elements) muxes;
      flops = all_flops (flat_registers order elements) (length order);
      nets = merged (λ n. n.name) (map (flat_net order) source.nets) (map mux_net muxes);
    }

abbrev pub within : ℕ → ℕ → Result ℕ NetFault
within limit count = if nat_lt limit count then Err (TooMany count limit) else Ok count

abbrev pub flat_of : ℕ → Source → Result Flat NetFault
flat_of limit source = do
  ports ← no_inout source.ports
  elements ← elements_of source.cells
  bits ← within limit (length (ascending (numbers_in source)) + new_bits elements)
  Ok (flat_with (ascending (numbers_in source)) source elements)

-- the flat netlist of a JSON value
abbrev pub netlist_of : ℕ → Option (List ℕ) → Data → Result Flat NetFault
netlist_of limit top d = do
  source ← source_of top d
  flat_of limit source

-- the flat netlist of the bytes of a file
abbrev pub netlist_of_value : ℕ → Option (List ℕ) → Option Data → Result Flat NetFault
netlist_of_value limit top None = Err NotJson
netlist_of_value limit top (Some d) = netlist_of limit top d

abbrev pub netlist_from : ℕ → Option (List ℕ) → List ℕ → Result Flat NetFault
netlist_from limit top bytes = netlist_of_value limit top (json_of bytes)
