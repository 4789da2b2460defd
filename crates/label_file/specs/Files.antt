-- Label files: what their lines say one after the other.
use Rattle.std.specs.Prelude.{◌≡◌, ℕ, ◌+◌, ◌==◌, Bool, true, false, ◌&&◌, if◌then◌else◌, List, [], ◌∷◌, take, Result, Ok, Err}
use Rattle.std.specs.List.{position_or_len}
use Rattle.std.specs.Str.{is_utf8}
use Rattle.coco_base.specs.Texts.{words}
use Rattle.label_file.specs.declared.cause.Cause.{Cause}
use Rattle.label_file.specs.declared.cause.Cause.TheVariants.{BadLine}
use Rattle.label_file.specs.declared.fault.LabelFault.{LabelFault}
use Rattle.label_file.specs.declared.fault.LabelFault.TheVariants as fault
use Rattle.label_file.specs.declared.form.Form.{Form}
use Rattle.label_file.specs.declared.form.Form.TheVariants as form
use Rattle.label_file.specs.declared.line.LabelLine.{LabelLine}
use Rattle.label_file.specs.declared.line.LabelLine.TheVariants as line
use Rattle.label_file.specs.declared.line.Labels.{Labels}
use Rattle.label_file.specs.declared.reading.Reading.{Reading}
use Rattle.label_file.specs.Causes.{◌>>=◌, fault_at, holds_or, or_cause}
use Rattle.label_file.specs.Forms.{form_of, operands_of}
use Rattle.label_file.specs.Operands.{fits}
use Rattle.label_file.specs.Readings.{added, empty}
use Rattle.label_file.specs.Statements.{line_of}

-- ---- a line

-- a word that begins with `#` begins a comment
abbrev pub begins_comment : List ℕ → Bool
begins_comment [] = false
begins_comment (byte ∷ bytes) = byte == 35

-- the number of words before the comment
abbrev pub words_of : List (List ℕ) → ℕ
words_of ws = position_or_len begins_comment ws

abbrev pub before_comment : List (List ℕ) → List (List ℕ)
before_comment ws = take (words_of ws) ws

-- the words of a line, which is text in UTF-8
abbrev pub line_words : List ℕ → Result (List (List ℕ)) Cause
line_words bytes = if is_utf8 bytes then Ok (before_comment (words bytes)) else Err BadLine

abbrev pub is_second_version : LabelLine → Bool
is_second_version (line.Version number) = number == 2
is_second_version l = false

-- the first line says that the file has version 2
abbrev pub is_second : List LabelLine → Bool
is_second [] = false
is_second (l ∷ ls) = is_second_version l

abbrev pub is_none_yet : List LabelLine → Bool
is_none_yet [] = true
is_none_yet (l ∷ ls) = false

-- a form may stand behind these lines: a version before all others, and `leaf` in a file of version 2
abbrev pub stands : List LabelLine → Form → Bool
stands lines form.Version = is_none_yet lines
stands lines form.Leaf = is_second lines
stands lines f = true

-- what the lines say after one line more of a form with these operands
unfoldable pub after_form : ℕ → Reading → Form → List (List ℕ) → Result Reading Cause
after_form limit r f operands = do
  _ ← holds_or BadLine (fits (operands_of f) operands && stands r.lines f)
  l ← line_of r f operands
  added limit r l

-- what the lines say after the words of one line more
unfoldable pub after_words : ℕ → Reading → List (List ℕ) → Result Reading Cause
after_words limit r [] = Ok r
after_words limit r (word ∷ operands) = or_cause BadLine (form_of word) >>= λ f. after_form limit r f operands

unfoldable pub after_line : ℕ → Reading → List ℕ → Result Reading Cause
after_line limit r bytes = line_words bytes >>= after_words limit r

-- ---- all lines

-- a line at fault stops the reading
abbrev pub onwards : ℕ → (Reading → Result Reading LabelFault) → Result Reading Cause → Result Reading LabelFault
onwards number next (Ok r) = next r
onwards number next (Err cause) = Err (fault_at number cause)

-- what the lines say after these, of which the first has the number behind this one
abbrev pub after_lines : ℕ → Reading → ℕ → List (List ℕ) → Result Reading LabelFault
after_lines limit r before [] = Ok r
after_lines limit r before (bytes ∷ more) =
    onwards (before + 1) (λ next. after_lines limit next (before + 1) more) (after_line limit r bytes)

abbrev pub read_whole : Result Reading LabelFault → Result Labels LabelFault
read_whole (Ok r) = Ok (record { lines = r.lines; table = r.table })
read_whole (Err f) = Err f

-- the labels of a file with these lines, or the fault of the least line at fault
unfoldable pub labels_of : ℕ → List (List ℕ) → Result Labels LabelFault
labels_of limit ls = read_whole (after_lines limit empty 0 ls)

-- the fault of a file, where memory does not run out
abbrev pub IsFaultOf : Result Labels LabelFault → LabelFault → Type 0
IsFaultOf outcome fault.Memory = Unit {0}
IsFaultOf outcome f = outcome ≡ Err f
