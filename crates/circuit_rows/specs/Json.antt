-- The JSON text of a circuit.
use Rattle.std.specs.Prelude.{ℕ, ◌+◌, List, [], ◌∷◌, ◌++◌, map, flat_map, true, false, Result, Ok, codes}
use Rattle.std.specs.Fmt.{decimal}
use Rattle.coco_base.specs.declared.netlist.Wire.{Wire}
use Rattle.coco_base.specs.declared.netlist.Wire.TheVariants.{Const, Bit}
use Rattle.circuit_rows.specs.Circuits.{circuit_of, when_ok}
use Rattle.circuit_rows.specs.Gates.{type_of}
use Rattle.circuit_rows.specs.declared.circuit.Form.{Form}
use Rattle.circuit_rows.specs.declared.circuit.Form.TheVariants.{Input, Net, Cell}
use Rattle.circuit_rows.specs.declared.circuit.Pin.{Pin}
use Rattle.circuit_rows.specs.declared.circuit.Row.{Row}

abbrev pub after_comma : List ℕ → List ℕ
after_comma text = codes "," ++ text

-- texts with commas between
abbrev pub listed : List (List ℕ) → List ℕ
listed [] = []
listed (text ∷ texts) = text ++ flat_map after_comma texts

abbrev pub quoted : List ℕ → List ℕ
quoted text = codes "\"" ++ text ++ codes "\""

-- the bit 0 has the number 2
abbrev pub wire_text : Wire → List ℕ
wire_text (Const false) = quoted (codes "0")
wire_text (Const true) = quoted (codes "1")
wire_text (Bit n) = decimal (n + 2)

abbrev pub wires_text : List Wire → List ℕ
wires_text wires = codes "[" ++ listed (map wire_text wires) ++ codes "]"

abbrev pub pin_text : Pin → List ℕ
pin_text pin = quoted pin.port ++ codes ":" ++ wires_text (pin.wire ∷ [])

unfoldable pub cell_text : List ℕ → List ℕ → List Pin → List ℕ
cell_text name word pins =
    codes "\"c_" ++ name ++ codes "\":{\"type\":" ++ quoted (type_of word)
    ++ codes ",\"connections\":{" ++ listed (map pin_text pins) ++ codes "}}"

unfoldable pub net_text : Row → List ℕ
net_text row = quoted row.name ++ codes ":{\"bits\":" ++ wires_text row.wires ++ codes "}"

unfoldable pub port_text : Row → List ℕ
port_text row = quoted row.name ++ codes ":{\"direction\":\"input\",\"bits\":" ++ wires_text row.wires ++ codes "}"

-- the text of the port of a row, if any
abbrev pub port_texts : Row → Form → List (List ℕ)
port_texts row Input = port_text row ∷ []
port_texts row Net = []
port_texts row (Cell word pins) = []

abbrev pub cell_texts : Row → Form → List (List ℕ)
cell_texts row Input = []
cell_texts row Net = []
cell_texts row (Cell word pins) = cell_text row.name word pins ∷ []

unfoldable pub json_of : List Row → List ℕ
json_of rows =
    codes "{\"modules\":{\"t\":{\"ports\":{" ++ listed (flat_map (λ (r : Row). port_texts r r.form) rows)
    ++ codes "},\"cells\":{" ++ listed (flat_map (λ (r : Row). cell_texts r r.form) rows)
    ++ codes "},\"netnames\":{" ++ listed (map net_text rows) ++ codes "}}}}"

-- the JSON text of rows
abbrev pub json_from : List ℕ → Result (List ℕ) ℕ
json_from text = when_ok (circuit_of text) (λ c. Ok (json_of c.rows))
