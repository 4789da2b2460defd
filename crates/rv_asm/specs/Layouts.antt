-- Where each line's statement stands, which names it defines, and what is wrong with it by what it and the lines before it
-- hold.
use Rattle.std.specs.Prelude.{ℕ, ◌+◌, ◌-◌, ◌*◌, ◌/◌, ◌%◌, ◌^◌, ◌==◌, nat_le, ℤ, pos, negsuc, Bool, true, false, not, if◌then◌else◌, List, [], ◌∷◌, ◌++◌, length, Option, Some, None, is_some, Result, Ok, Err}
use Rattle.rv_isa.specs.Words.{word_of}
use Rattle.rv_isa.specs.declared.instruction.Instr.{Instr}
use Rattle.rv_asm.specs.declared.layout.cause.Cause.{Cause}
use Rattle.rv_asm.specs.declared.layout.cause.Cause.TheVariants.{BadLine, UnknownName, Range, Twice}
use Rattle.rv_asm.specs.declared.line.expression.Expr.{Expr}
use Rattle.rv_asm.specs.declared.line.expression.Term.{Term}
use Rattle.rv_asm.specs.declared.line.expression.Term.TheVariants.{Number, Name, Here}
use Rattle.rv_asm.specs.declared.layout.names.Meaning.{Meaning}
use Rattle.rv_asm.specs.declared.line.statement.Part.{Part}
use Rattle.rv_asm.specs.declared.line.statement.Part.TheVariants.{Text, Data}
use Rattle.rv_asm.specs.declared.line.statement.Size.TheVariants.{Byte, Half, Word}
use Rattle.rv_asm.specs.declared.line.statement.Demand.{Demand}
use Rattle.rv_asm.specs.declared.line.statement.Demand.TheVariants as for
use Rattle.rv_asm.specs.declared.line.statement.Statement.{Statement}
use Rattle.rv_asm.specs.declared.line.statement.Statement.TheVariants.{Nothing, Whole, Asks, LoadNumber, Enter, Zeros, Align, Equal}
use Rattle.rv_asm.specs.declared.line.statement.Line.{Line}
use Rattle.rv_asm.specs.declared.layout.place.Place.{Place}
use Rattle.rv_asm.specs.declared.layout.content.Content.{Content}
use Rattle.rv_asm.specs.declared.layout.content.Content.TheVariants.{Known, Fill, Asked}
use Rattle.rv_asm.specs.Causes.{◌>>=◌}
use Rattle.rv_asm.specs.Regions.{most_cells}
use Rattle.rv_asm.specs.Names.{meaning_of, Table}
use Rattle.rv_asm.specs.Values.{is_known, low_word, value_of, written}
use Rattle.rv_asm.specs.Demands.{any_outside, byte_count, fit_word, is_stored, number_words, word_count}
use Rattle.rv_asm.specs.Statements.{nop}
use Rattle.rv_asm.specs.SourceLines.{line_of}

-- ---- places: the part, the words that stand in the text so far, and the bytes that stand in the data so far

abbrev pub address_in : Part → Place → ℕ
address_in Text place = 4 * place.words
address_in Data place = 2 ^ 16 + place.bytes

abbrev pub address_of : Place → ℕ
address_of place = address_in place.part place

abbrev pub used_in : Part → Place → ℕ
used_in Text place = place.words
used_in Data place = place.bytes

abbrev pub moved_in : Part → Place → ℕ → Place
moved_in Text place count = record { part = Text; words = place.words + count; bytes = place.bytes }
moved_in Data place count = record { part = Data; words = place.words; bytes = place.bytes + count }

-- the place n words or bytes on, where there is room for them
abbrev pub after_cells : Place → ℕ → Result Place Cause
after_cells place count =
    if nat_le (used_in place.part place + count) most_cells then Ok (moved_in place.part place count) else Err Range

abbrev pub in_part : Part → Place → Place
in_part part place = record { part = part; words = place.words; bytes = place.bytes }

-- ---- what statements put at their place

-- a name that `.equ` or `.set` defined
abbrev pub number_of : Option Meaning → Result ℤ Cause
number_of None = Err UnknownName
number_of (Some meaning) = if meaning.is_number then Ok meaning.value else Err UnknownName

-- the number that `li` loads
abbrev pub source_value : Table → Term → Result ℤ Cause
source_value names (Number n) = written n
source_value names (Name name) = number_of (meaning_of names name)
source_value names Here = Err UnknownName

unfoldable pub load_content : Table → ℕ → Term → Result Content Cause
load_content names rd source = do
  z ← source_value names source
  words ← number_words rd (low_word z)
  Ok (Known words)

unfoldable pub whole_content : Instr → Result Content Cause
whole_content i = do
  word ← fit_word i
  Ok (Known (word ∷ []))

-- the cells that n bytes are: in the text four bytes to a word
abbrev pub zero_count : Part → ℤ → Result ℕ Cause
zero_count Text (pos n) = if n % 4 == 0 then Ok (n / 4) else Err Range
zero_count Data (pos n) = Ok n
zero_count part (negsuc n) = Err Range

unfoldable pub zero_content : Part → Option ℤ → Result Content Cause
zero_content part number = do
  z ← written number
  count ← zero_count part z
  Ok (Fill count 0)

-- the bytes from an address to the next multiple of a unit
abbrev pub gap : ℕ → ℕ → ℕ
gap unit address = (unit - address % unit) % unit

-- text is filled with words of `nop`, and data with zeros
abbrev pub filler : Part → ℕ → Content
filler Text bytes = Fill (bytes / 4) (word_of nop)
filler Data bytes = Fill bytes 0

-- exponents are from 0 to 12
abbrev pub align_content : Place → Option ℕ → Result Content Cause
align_content place None = Err Range
align_content place (Some exponent) =
    if nat_le exponent 12 then Ok (filler place.part (gap (2 ^ exponent) (address_of place))) else Err Range

abbrev pub content_of : Place → Table → Statement → Result Content Cause
content_of place names (Whole i) = whole_content i
content_of place names (Asks demand values) = Ok (Asked demand values)
content_of place names (LoadNumber rd source) = load_content names rd source
content_of place names (Zeros number) = zero_content place.part number
content_of place names (Align exponent) = align_content place exponent
content_of place names s = Ok (Known [])

-- how many words a content stands for
abbrev pub words_in : Content → ℕ
words_in (Known words) = length words
words_in (Fill count word) = count
words_in (Asked demand values) = word_count demand * length values

-- how many bytes of each word stand in the data, the lowest first; a filling is given byte by byte, and the data has no
-- instructions
abbrev pub bytes_each : Content → ℕ
bytes_each (Known words) = 4
bytes_each (Fill count word) = 1
bytes_each (Asked demand values) = byte_count demand

-- how many cells a content fills: words of the text, or bytes of the data
abbrev pub cells_filled : Part → Content → ℕ
cells_filled Text content = words_in content
cells_filled Data content = bytes_each content * words_in content

-- whether a value is known and outside what is asked for
abbrev pub has_outside : Table → Place → Content → Bool
has_outside names place (Asked demand values) = any_outside names (pos (address_of place)) demand values
has_outside names place content = false

-- ---- names

abbrev pub number_meaning : ℤ → Result Meaning Cause
number_meaning z = if is_stored Word z then Ok (record { value = z; is_number = true }) else Err Range

-- `.equ`: a new name, for names that are defined, and a number that a word stores
abbrev pub equal_meaning : Table → ℤ → List ℕ → Expr → Result Meaning Cause
equal_meaning names here name e =
    if is_some (meaning_of names name) then Err Twice
    else if not (is_known names e) then Err UnknownName
    else value_of names here e >>= number_meaning

-- the names with that one
unfoldable pub equal_named : Table → ℤ → List ℕ → Expr → Result Table Cause
equal_named names here name e = do
  meaning ← equal_meaning names here name e
  Ok (names ++ (name, meaning) ∷ [])

-- labels stand for the address
abbrev pub with_labels : Table → ℤ → List (List ℕ) → Result Table Cause
with_labels names here [] = Ok names
with_labels names here (label ∷ more) =
    if is_some (meaning_of names label) then Err Twice
    else with_labels (names ++ (label, record { value = here; is_number = false }) ∷ []) here more

-- ---- lines

-- text takes no half words and bytes, and data no instructions
abbrev pub is_misplaced_value : Part → Demand → Bool
is_misplaced_value Text (for.Value Byte) = true
is_misplaced_value Text (for.Value Half) = true
is_misplaced_value Text demand = false
is_misplaced_value Data (for.Value size) = false
is_misplaced_value Data demand = true

abbrev pub is_data : Part → Bool
is_data Text = false
is_data Data = true

abbrev pub is_misplaced : Part → Statement → Bool
is_misplaced part (Whole i) = is_data part
is_misplaced part (LoadNumber rd source) = is_data part
is_misplaced part (Asks demand values) = is_misplaced_value part demand
is_misplaced part s = false

-- what a line does: the place behind it, the names, and what it puts at the place before it
pub record Effect : Type 0 where
  pub place : Place
  pub names : Table
  pub content : Option Content

abbrev pub effect_of : Place → Table → Option Content → Effect
effect_of place names content = record { place = place; names = names; content = content }

unfoldable pub equal_effect : Place → Table → List ℕ → Expr → Result Effect Cause
equal_effect place names name e = do
  named ← equal_named names (pos (address_of place)) name e
  Ok (effect_of place named None)

-- the place behind a content, where no value is outside what is asked for
unfoldable pub put_place : Place → Table → Content → Result Place Cause
put_place place names content =
    if has_outside names place content then Err Range else after_cells place (cells_filled place.part content)

-- what a statement puts, and the place behind it
unfoldable pub content_put : Place → Table → Statement → Result (Content × Place) Cause
content_put place names s = do
  content ← content_of place names s
  after ← put_place place names content
  Ok (content, after)

unfoldable pub content_effect : Place → Table → Statement → Result Effect Cause
content_effect place names s = do
  put ← content_put place names s
  Ok (effect_of put.1 names (Some put.0))

abbrev pub statement_effect : Place → Table → Statement → Result Effect Cause
statement_effect place names Nothing = Ok (effect_of place names None)
statement_effect place names (Enter part) = Ok (effect_of (in_part part place) names None)
statement_effect place names (Equal name e) = equal_effect place names name e
statement_effect place names s = content_effect place names s

-- a fault of form, then a name that is defined before, then what the statement makes
unfoldable pub parts_effect : Place → Table → Line → Result Effect Cause
parts_effect place names line =
    if is_misplaced place.part line.statement then Err BadLine
    else with_labels names (pos (address_of place)) line.labels >>= λ ns. statement_effect place ns line.statement

abbrev pub read_effect : Place → Table → Option Line → Result Effect Cause
read_effect place names None = Err BadLine
read_effect place names (Some line) = parts_effect place names line

-- what the bytes of a line do
unfoldable pub line_effect : Place → Table → List ℕ → Result Effect Cause
line_effect place names bytes = read_effect place names (line_of bytes)
