-- The gates and the flops of a module, their wires by the numbers of the file. A cell is at fault where its type is not
-- one that is read, or else by the first of its ports that is missing, is not one bit wide or is an output that is tied
-- to a constant (the ports of the type in order, the output last), or else by the first connection that is no port.
use Rattle.std.specs.Prelude.{ℕ, ◌||◌, List, [], ◌∷◌, Bool, true, false, not, Option, Some, None, option_and_then, find, codes, Result, Ok, Err, ⊤, slice_index_or, if◌then◌else◌}
use Rattle.std.specs.List.{list_any}
use Rattle.std.specs.Str.{bytes_eq}
use Rattle.coco_base.specs.declared.netlist.FlatNet.{FlatNet}
use Rattle.coco_base.specs.declared.netlist.Wire.{Wire}
use Rattle.coco_base.specs.declared.netlist.Wire.TheVariants.{Const, Bit}
use Rattle.netlist_json.specs.CellTypes.{input_ports, output_port, type_of}
use Rattle.netlist_json.specs.Faults.{◌>>=◌}
use Rattle.netlist_json.specs.declared.cell_type.CellType.{CellType}
use Rattle.netlist_json.specs.declared.cell_type.CellType.TheVariants as types
use Rattle.netlist_json.specs.declared.cell_type.FlopType.{FlopType}
use Rattle.netlist_json.specs.declared.element.Element.{Element}
use Rattle.netlist_json.specs.declared.element.Element.TheVariants.{Gate, Flop}
use Rattle.netlist_json.specs.declared.element.Register.{Register}
use Rattle.netlist_json.specs.declared.fault.NetFault.{NetFault}
use Rattle.netlist_json.specs.declared.fault.NetFault.TheVariants.{Inout, UnknownCell, BadConnection}
use Rattle.netlist_json.specs.declared.source.Direction.{Direction}
use Rattle.netlist_json.specs.declared.source.Direction.TheVariants as directions
use Rattle.netlist_json.specs.declared.source.SourceCell.{SourceCell}
use Rattle.netlist_json.specs.declared.source.SourcePort.{SourcePort}

-- ---- ports

abbrev pub is_inout : Direction → Bool
is_inout directions.Inout = true
is_inout direction = false

-- the first port that is neither an input nor an output
abbrev pub no_inout : List SourcePort → Result ⊤ NetFault
no_inout [] = Ok tt
no_inout (p ∷ ps) = if is_inout p.direction then Err (Inout p.name) else no_inout ps

-- ---- connections

-- the wire of a connection of one bit
abbrev pub only_wire : List Wire → Option Wire
only_wire [] = None
only_wire (w ∷ []) = Some w
only_wire (w ∷ v ∷ ws) = None

abbrev pub wire_at : List ℕ → List FlatNet → Option Wire
wire_at port [] = None
wire_at port (c ∷ cs) = if bytes_eq c.name port then only_wire c.wires else wire_at port cs

abbrev pub number_of : Wire → Option ℕ
number_of (Const b) = None
number_of (Bit n) = Some n

abbrev pub or_bad : {X : Type 0} → List ℕ → List ℕ → Option X → Result X NetFault
or_bad cell port None = Err (BadConnection cell port)
or_bad cell port (Some x) = Ok x

-- what an input is tied to; a place that the type has not is 0
abbrev pub input_of : SourceCell → Option (List ℕ) → Result Wire NetFault
input_of cell None = Ok (Const false)
input_of cell (Some port) = or_bad cell.name port (wire_at port cell.connections)

abbrev pub inputs_of : SourceCell → List (Option (List ℕ)) → Result (List Wire) NetFault
inputs_of cell [] = Ok []
inputs_of cell (port ∷ ports) = do
  w ← input_of cell port
  ws ← inputs_of cell ports
  Ok (w ∷ ws)

-- the bit that an output drives
abbrev pub output_of : SourceCell → List ℕ → Result ℕ NetFault
output_of cell port = or_bad cell.name port (option_and_then number_of (wire_at port cell.connections))

abbrev pub is_named : List ℕ → Option (List ℕ) → Bool
is_named name None = false
is_named name (Some port) = bytes_eq name port

abbrev pub is_port : CellType → List ℕ → Bool
is_port type name = bytes_eq name (output_port type) || list_any (is_named name) (input_ports type)

-- the first connection that is no port
abbrev pub all_ports : List ℕ → CellType → List FlatNet → Result ⊤ NetFault
all_ports cell type [] = Ok tt
all_ports cell type (c ∷ cs) = if is_port type c.name then all_ports cell type cs else Err (BadConnection cell c.name)

-- ---- cells

abbrev pub or_unknown : SourceCell → Option CellType → Result CellType NetFault
or_unknown cell None = Err (UnknownCell cell.name cell.kind)
or_unknown cell (Some type) = Ok type

-- which input of a list of four
abbrev pub nth : ℕ → List Wire → Wire
nth place inputs = slice_index_or inputs place (Const false)

abbrev pub register : List ℕ → FlopType → List Wire → ℕ → Register
register name kind inputs output =
    record {
      name = name;
      kind = kind;
      next = nth 0 inputs;
      clock = nth 1 inputs;
      enable = nth 2 inputs;
      reset = nth 3 inputs;
      output = output;
    }

abbrev pub element : List ℕ → CellType → List Wire → ℕ → Element
element name (types.Gate kind) inputs output = Gate (record { name = name; kind = kind; inputs = inputs; output = output })
element name (types.Flop kind) inputs output = Flop (register name kind inputs output)

abbrev pub element_of : SourceCell → Result Element NetFault
element_of cell = do
  type ← or_unknown cell (type_of cell.kind)
  inputs ← inputs_of cell (input_ports type)
  output ← output_of cell (output_port type)
  ports ← all_ports cell.name type cell.connections
  Ok (element cell.name type inputs output)

-- a cell that tells of the source and is no part of the circuit
abbrev pub is_scope : SourceCell → Bool
is_scope cell = bytes_eq cell.kind (codes "$scopeinfo")

abbrev pub elements_of : List SourceCell → Result (List Element) NetFault
elements_of [] = Ok []
elements_of (cell ∷ cells) = if is_scope cell then elements_of cells else do
  e ← element_of cell
  es ← elements_of cells
  Ok (e ∷ es)
