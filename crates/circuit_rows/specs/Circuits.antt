-- What the lines of a text say: the names of all bits, and a row for each net, input and cell.
use Rattle.std.specs.Prelude.{ℕ, ◌^◌, List, [], ◌∷◌, ◌++◌, position, insert, count_by, Option, Some, None, Bool, true, false, ◌||◌, Result, Ok, Err, nat_lt, codes, if◌then◌else◌}
use Rattle.std.specs.Cmp.Lexicographic.{slice_cmp}
use Rattle.std.specs.List.{list_any}
use Rattle.std.specs.Ordering.{is_lt, nat_cmp}
use Rattle.std.specs.Str.{bytes_eq}
use Rattle.coco_base.specs.declared.netlist.Wire.{Wire}
use Rattle.coco_base.specs.declared.netlist.Wire.TheVariants.{Const, Bit}
use Rattle.circuit_rows.specs.Gates.{pairs_of}
use Rattle.circuit_rows.specs.Words.{◌>>=◌, each_of, lines_of, names_bits, next_line, own_bits, plain, words_of}
use Rattle.circuit_rows.specs.declared.circuit.Circuit.{Circuit}
use Rattle.circuit_rows.specs.declared.circuit.Form.{Form}
use Rattle.circuit_rows.specs.declared.circuit.Form.TheVariants.{Input, Net, Cell}
use Rattle.circuit_rows.specs.declared.circuit.Pin.{Pin}
use Rattle.circuit_rows.specs.declared.circuit.Row.{Row}

-- what follows a line that says something, and else the number of the line
abbrev pub from_line : {A B : Type 0} → ℕ → Option A → (A → Result B ℕ) → Result B ℕ
from_line line None next = Err line
from_line line (Some x) next = next x

-- ---- bits

abbrev pub bits_after : List (List ℕ) → ℕ → List (List ℕ) → Result (List (List ℕ)) ℕ
bits_after bits before [] = Ok bits
bits_after bits before (line ∷ lines) =
    from_line (next_line before) (own_bits (words_of line)) (λ own. bits_after (bits ++ own) (next_line before) lines)

-- the names of all bits, or the first line that is no row
abbrev pub bits_of : List (List ℕ) → Result (List (List ℕ)) ℕ
bits_of lines = bits_after (codes "clk" ∷ []) 0 lines

abbrev pub bit_wire : ℕ → Option Wire
bit_wire place = if nat_lt place (2 ^ 32) then Some (Bit place) else None

-- a constant, or the bit of a name
abbrev pub wire_of : List (List ℕ) → List ℕ → Option Wire
wire_of bits word =
    if bytes_eq word (codes "0") then Some (Const false)
    else (if bytes_eq word (codes "1") then Some (Const true)
    else position (λ bit. bytes_eq bit word) bits >>= bit_wire)

-- ---- rows

abbrev pub pin_of : List (List ℕ) → List ℕ × List ℕ → Option Pin
pin_of bits pair = do
  port ← plain pair.0
  wire ← wire_of bits pair.1
  Some (record { port = port; wire = wire })

-- a cell with an output of this name
abbrev pub cell_of : List (List ℕ) → List ℕ → List ℕ → List (List ℕ) → Option Form
cell_of bits name word args = do
  pairs ← pairs_of name word args
  pins ← each_of (pin_of bits) pairs
  text ← plain word
  Some (Cell text pins)

-- the word begins a line without a cell
abbrev pub names_net : List ℕ → Bool
names_net word = names_bits word || bytes_eq word (codes "net")

abbrev pub form_of : List (List ℕ) → List ℕ → List ℕ → List (List ℕ) → Option Form
form_of bits first second more =
    if bytes_eq first (codes "in") then Some Input
    else (if names_net first then Some Net else cell_of bits first second more)

-- the wires of the net of a line: those that it names, or its own bits
abbrev pub net_wires : List (List ℕ) → List (List ℕ) → Option (List Wire)
net_wires bits [] = Some []
net_wires bits (first ∷ []) = None
net_wires bits (first ∷ second ∷ more) =
    if bytes_eq first (codes "net") then each_of (wire_of bits) more
    else own_bits (first ∷ second ∷ more) >>= each_of (wire_of bits)

abbrev pub row_of : List (List ℕ) → ℕ → List (List ℕ) → Option Row
row_of bits line [] = None
row_of bits line (first ∷ []) = None
row_of bits line (first ∷ second ∷ more) = do
  name ← plain (if names_net first then second else first)
  wires ← net_wires bits (first ∷ second ∷ more)
  form ← form_of bits first second more
  Some (record { line = line; name = name; wires = wires; form = form })

abbrev pub has_name : List ℕ → Row → Bool
has_name name row = bytes_eq row.name name

abbrev pub is_before : List ℕ → Row → Bool
is_before name row = is_lt (slice_cmp nat_cmp row.name name)

-- the rows with one more, in the order of their names, which differ
abbrev pub with_row : List Row → Row → Option (List Row)
with_row rows row =
    if list_any (has_name row.name) rows then None
    else Some (insert rows (count_by (is_before row.name) rows) row)

abbrev pub with_line : List (List ℕ) → List Row → ℕ → List (List ℕ) → Option (List Row)
with_line bits rows line [] = Some rows
with_line bits rows line (first ∷ more) = row_of bits line (first ∷ more) >>= with_row rows

abbrev pub rows_after : List (List ℕ) → List Row → ℕ → List (List ℕ) → Result (List Row) ℕ
rows_after bits rows before [] = Ok rows
rows_after bits rows before (line ∷ lines) =
    from_line (next_line before) (with_line bits rows (next_line before) (words_of line))
    (λ next. rows_after bits next (next_line before) lines)

-- the clock is an input of every circuit
abbrev pub clock_row : Row
clock_row = record { line = 0; name = codes "clk"; wires = Bit 0 ∷ []; form = Input }

abbrev pub when_ok : {A B : Type 0} → Result A ℕ → (A → Result B ℕ) → Result B ℕ
when_ok (Err line) next = Err line
when_ok (Ok x) next = next x

-- the rows of a text in the order of their names, and its number of bits; or the number of a line that is outside: the
-- first that is no row, and else the first that repeats a name or has a word that is no wire
abbrev pub circuit_of : List ℕ → Result Circuit ℕ
circuit_of text =
    when_ok (bits_of (lines_of text)) (λ bits.
    when_ok (rows_after bits (clock_row ∷ []) 0 (lines_of text)) (λ rows.
    Ok (record { bits = bits; rows = rows })))
