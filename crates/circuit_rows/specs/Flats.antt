-- The flat netlist of a circuit.
use Rattle.std.specs.Prelude.{ℕ, List, [], ◌∷◌, ◌++◌, length, map, min, slice_get, Bool, true, false, Option, Some, None, option_map, unwrap_or, Result, Ok, codes, if◌then◌else◌}
use Rattle.std.specs.Str.{bytes_eq}
use Rattle.coco_base.specs.declared.netlist.Flat.{Flat}
use Rattle.coco_base.specs.declared.netlist.FlatCell.{FlatCell}
use Rattle.coco_base.specs.declared.netlist.FlatFlop.{FlatFlop}
use Rattle.coco_base.specs.declared.netlist.Wire.{Wire}
use Rattle.coco_base.specs.declared.netlist.Wire.TheVariants.{Const, Bit}
use Rattle.circuit_rows.specs.Circuits.{circuit_of, from_line, when_ok}
use Rattle.circuit_rows.specs.Gates.{Shape, gate_of, named}
use Rattle.circuit_rows.specs.Words.{◌>>=◌}
use Rattle.circuit_rows.specs.declared.circuit.Circuit.{Circuit}
use Rattle.circuit_rows.specs.declared.circuit.Form.{Form}
use Rattle.circuit_rows.specs.declared.circuit.Form.TheVariants.{Input, Net, Cell}
use Rattle.circuit_rows.specs.declared.circuit.Pin.{Pin}
use Rattle.circuit_rows.specs.declared.circuit.Row.{Row}

-- the wire of a port, and constant 0 where the port is missing
abbrev pub pin_wire : List Pin → List ℕ → Wire
pin_wire [] port = Const false
pin_wire (pin ∷ pins) port = if bytes_eq pin.port port then pin.wire else pin_wire pins port

abbrev pub bit_of : Wire → Option ℕ
bit_of (Const b) = None
bit_of (Bit n) = Some n

abbrev pub cell_name : List ℕ → List ℕ
cell_name name = codes "c_" ++ name

-- ---- gates

abbrev pub lettered_wire : List Pin → Option ℕ → Wire
lettered_wire pins None = Const false
lettered_wire pins (Some letter) = pin_wire pins (letter ∷ [])

-- the wire of the input at a place of these letters
abbrev pub input_wire : List Pin → List ℕ → ℕ → Wire
input_wire pins letters place = lettered_wire pins (slice_get letters place)

abbrev pub gate_cell : List ℕ → List Pin → Shape → Option FlatCell
gate_cell name pins shape = do
  output ← bit_of (pin_wire pins (codes "Y"))
  Some (record {
    name = cell_name name;
    kind = shape.0;
    inputs = map (input_wire pins shape.1) (0 ∷ 1 ∷ 2 ∷ 3 ∷ []);
    output = output;
  })

-- ---- flops

-- the active level of the asynchronous reset of a flop, if it has one, by its word
abbrev pub flops : List (List ℕ × Option Bool)
flops = (codes "FLOP", None)
    ∷ (codes "$_DFF_P_", None)
    ∷ (codes "$_DFF_PN0_", Some false)
    ∷ (codes "$_DFF_PN1_", Some false)
    ∷ (codes "$_DFF_PP0_", Some true)
    ∷ (codes "$_DFF_PP1_", Some true) ∷ []

abbrev pub flop : List ℕ → List Pin → Option Bool → Option FlatFlop
flop name pins level = do
  output ← bit_of (pin_wire pins (codes "Q"))
  Some (record {
    name = cell_name name;
    clock = pin_wire pins (codes "C");
    next = pin_wire pins (codes "D");
    output = output;
    reset = option_map (λ l. pin_wire pins (codes "R")) level;
    level = unwrap_or level false;
  })

-- ---- row by row

abbrev pub with_gate : Flat → Option FlatCell → Option Flat
with_gate flat None = None
with_gate flat (Some cell) = Some (record flat { cells = flat.cells ++ cell ∷ [] })

abbrev pub with_flop : Flat → Option FlatFlop → Option Flat
with_flop flat None = None
with_flop flat (Some f) = Some (record flat { flops = flat.flops ++ f ∷ [] })

abbrev pub with_cell : Flat → List ℕ → List ℕ → List Pin → Option Shape → Option Flat
with_cell flat name word pins (Some shape) = with_gate flat (gate_cell name pins shape)
with_cell flat name word pins None = with_flop flat (named flops word >>= flop name pins)

abbrev pub with_form : Flat → Row → Form → Option Flat
with_form flat row Input =
    Some (record flat { ports = flat.ports ++ record { name = row.name; input = true; wires = row.wires } ∷ [] })
with_form flat row Net = Some flat
with_form flat row (Cell word pins) = with_cell flat row.name word pins (gate_of word)

abbrev pub with_net : Flat → Row → Flat
with_net flat row = record flat { nets = flat.nets ++ record { name = row.name; wires = row.wires } ∷ [] }

abbrev pub flat_after : Flat → List Row → Result Flat ℕ
flat_after flat [] = Ok flat
flat_after flat (row ∷ rows) =
    from_line row.line (with_form (with_net flat row) row row.form) (λ next. flat_after next rows)

abbrev pub bare : ℕ → Flat
bare bits = record { bits = bits; ports = []; cells = []; flops = []; nets = [] }

-- the flat netlist, or the line of the first row by name whose cell is not flat
abbrev pub flat_of : Circuit → Result Flat ℕ
flat_of c = flat_after (bare (min (length c.bits) 4294967295)) c.rows

-- the flat netlist of rows
abbrev pub flat_from : List ℕ → Result Flat ℕ
flat_from text = when_ok (circuit_of text) flat_of
