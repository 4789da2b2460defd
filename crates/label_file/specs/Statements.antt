-- The line that a form makes of its operands, after the lines so far: what may be at fault in it, in order.
use Rattle.std.specs.Prelude.{ℕ, Bool, true, false, not, if◌then◌else◌, List, [], drop, slice_index_or, is_none, Result, Ok, codes}
use Rattle.std.specs.List.{list_any}
use Rattle.std.specs.Str.{bytes_eq}
use Rattle.label_file.specs.declared.cause.Cause.{Cause}
use Rattle.label_file.specs.declared.cause.Cause.TheVariants.{BadLine, Twice}
use Rattle.label_file.specs.declared.form.Form.{Form}
use Rattle.label_file.specs.declared.form.Form.TheVariants as form
use Rattle.label_file.specs.declared.line.LabelLine.{LabelLine}
use Rattle.label_file.specs.declared.line.LabelLine.TheVariants as line
use Rattle.label_file.specs.declared.reading.Reading.{Reading}
use Rattle.label_file.specs.Causes.{◌>>=◌, holds_or, or_cause}
use Rattle.label_file.specs.Names.{Table, meaning_of}
use Rattle.label_file.specs.Numbers.{address_of, count_of}
use Rattle.label_file.specs.Readings.{has_address}
use Rattle.label_file.specs.Values.{value_of, values_of}

-- the word in a place behind the first one
abbrev pub operand : List (List ℕ) → ℕ → List ℕ
operand words place = slice_index_or words place []

-- a name is not declared before
abbrev pub new_name : Table → List ℕ → Result (Unit {0}) Cause
new_name names name = holds_or Twice (is_none (meaning_of names name))

-- the address of a memory word, which no line names before
unfoldable pub new_address : List ℕ → List ℕ → Result ℕ Cause
new_address addresses word = do
  address ← or_cause BadLine (address_of word)
  _ ← holds_or Twice (not (has_address addresses address))
  Ok address

-- ---- forms that may stand once

abbrev pub is_clock : LabelLine → Bool
is_clock (line.Clock net) = true
is_clock l = false

abbrev pub is_imem : LabelLine → Bool
is_imem (line.Imem request address answer) = true
is_imem l = false

abbrev pub is_dmem : LabelLine → Bool
is_dmem (line.Dmem request write enables address value answer) = true
is_dmem l = false

abbrev pub is_pc : LabelLine → Bool
is_pc (line.Pc net) = true
is_pc l = false

-- a line has a form that may stand once
abbrev pub is_form : Form → LabelLine → Bool
is_form form.Clock l = is_clock l
is_form form.Imem l = is_imem l
is_form form.Dmem l = is_dmem l
is_form form.Pc l = is_pc l
is_form f l = false

-- no line before has this form
abbrev pub once : List LabelLine → Form → Result (Unit {0}) Cause
once lines f = holds_or Twice (not (list_any (is_form f) lines))

-- ---- lines

abbrev pub version_line : List (List ℕ) → LabelLine
version_line words = line.Version (if bytes_eq (operand words 0) (codes "2") then 2 else 1)

unfoldable pub secret_line : Reading → List (List ℕ) → Result LabelLine Cause
secret_line r words = do
  _ ← new_name r.names (operand words 0)
  width ← count_of 32 (operand words 1)
  shares ← count_of 16 (operand words 2)
  Ok (line.Secret (operand words 0) width shares)

unfoldable pub mask_line : Reading → List (List ℕ) → Result LabelLine Cause
mask_line r words = do
  _ ← new_name r.names (operand words 0)
  width ← count_of 32 (operand words 1)
  Ok (line.Mask (operand words 0) width)

unfoldable pub fresh_line : Reading → List (List ℕ) → Result LabelLine Cause
fresh_line r words = do
  _ ← new_name r.names (operand words 1)
  Ok (line.Fresh (operand words 0) (operand words 1))

unfoldable pub reg_line : Reading → List (List ℕ) → Result LabelLine Cause
reg_line r words = do
  value ← value_of r.names (operand words 1)
  Ok (line.Reg (operand words 0) value)

unfoldable pub input_line : Reading → List (List ℕ) → Result LabelLine Cause
input_line r words = do
  values ← values_of r.names (drop 1 words)
  Ok (line.Input (operand words 0) values)

unfoldable pub mem_line : Reading → List (List ℕ) → Result LabelLine Cause
mem_line r words = do
  address ← new_address r.words (operand words 0)
  value ← value_of r.names (operand words 1)
  Ok (line.Mem address value)

unfoldable pub leaf_line : Reading → List (List ℕ) → Result LabelLine Cause
leaf_line r words = do
  address ← new_address r.leaves (operand words 0)
  Ok (line.Leaf address)

unfoldable pub echo_line : List (List ℕ) → LabelLine
echo_line words = line.Echo (operand words 0) (operand words 1)

unfoldable pub clock_line : Reading → List (List ℕ) → Result LabelLine Cause
clock_line r words = do
  _ ← once r.lines form.Clock
  Ok (line.Clock (operand words 0))

unfoldable pub imem_line : Reading → List (List ℕ) → Result LabelLine Cause
imem_line r words = do
  _ ← once r.lines form.Imem
  Ok (line.Imem (operand words 0) (operand words 1) (operand words 2))

unfoldable pub dmem_line : Reading → List (List ℕ) → Result LabelLine Cause
dmem_line r words = do
  _ ← once r.lines form.Dmem
  Ok (line.Dmem (operand words 0) (operand words 1) (operand words 2)
      (operand words 3) (operand words 4) (operand words 5))

unfoldable pub control_line : List (List ℕ) → LabelLine
control_line words = line.Control (operand words 0)

unfoldable pub pc_line : Reading → List (List ℕ) → Result LabelLine Cause
pc_line r words = do
  _ ← once r.lines form.Pc
  Ok (line.Pc (operand words 0))

-- the line that a form makes of its operands
abbrev pub line_of : Reading → Form → List (List ℕ) → Result LabelLine Cause
line_of r form.Version words = Ok (version_line words)
line_of r form.Secret words = secret_line r words
line_of r form.Mask words = mask_line r words
line_of r form.Fresh words = fresh_line r words
line_of r form.Reg words = reg_line r words
line_of r form.Input words = input_line r words
line_of r form.Mem words = mem_line r words
line_of r form.Leaf words = leaf_line r words
line_of r form.Echo words = Ok (echo_line words)
line_of r form.Clock words = clock_line r words
line_of r form.Imem words = imem_line r words
line_of r form.Dmem words = dmem_line r words
line_of r form.Control words = Ok (control_line words)
line_of r form.Pc words = pc_line r words
