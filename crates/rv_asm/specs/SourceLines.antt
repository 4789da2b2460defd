-- Lines of a program: labels, and then a statement or none.
use Rattle.std.specs.Prelude.{ℕ, ◌+◌, ◌==◌, Bool, ◌||◌, ◌&&◌, if◌then◌else◌, List, [], ◌∷◌, take, Option, Some, None, codes}
use Rattle.std.specs.List.{starts_with}
use Rattle.std.specs.Str.{is_utf8}
use Rattle.rv_asm.specs.declared.line.statement.Line.{Line}
use Rattle.rv_asm.specs.declared.line.statement.Statement.{Statement}
use Rattle.rv_asm.specs.declared.line.statement.Statement.TheVariants.{Nothing}
use Rattle.coco_base.specs.Texts.{is_blank}
use Rattle.rv_asm.specs.Readings.{◌>>=◌, items_at}
use Rattle.rv_asm.specs.Tokens.{ends, mark_at, name_at, word_at}
use Rattle.rv_asm.specs.Mnemonics.{form_of}
use Rattle.rv_asm.specs.Statements.{statement_at}

-- ---- comments

-- `#`, or `//`
abbrev pub begins_comment : ℕ → List ℕ → Bool
begins_comment byte more = byte == 35 || (byte == 47 && starts_with ◌==◌ more (codes "/"))

-- the number of bytes before the first comment
abbrev pub code_length : List ℕ → ℕ
code_length [] = 0
code_length (byte ∷ more) = if begins_comment byte more then 0 else 1 + code_length more

abbrev pub code_of : List ℕ → List ℕ
code_of bytes = take (code_length bytes) bytes

-- ---- lines

-- a name and a colon
unfoldable pub label_at : List ℕ → Option (List ℕ × List ℕ)
label_at bytes = do
  name ← name_at bytes
  after ← mark_at 58 name.1
  Some (name.0, after)

-- the operands behind a word: a blank stands before them, or there are none
abbrev pub operands_at : List ℕ → Option (List ℕ)
operands_at [] = Some []
operands_at (byte ∷ more) = if is_blank byte then Some (byte ∷ more) else None

-- a mnemonic or directive, and its operands
unfoldable pub order_at : List ℕ → Option Statement
order_at bytes = do
  word ← word_at bytes
  form ← form_of word.0
  operands ← operands_at word.1
  statement_at form operands

abbrev pub nothing_or : Option (Unit {0}) → Option Statement → Option Statement
nothing_or (Some end) order = Some Nothing
nothing_or None order = order

-- a statement or none
unfoldable pub rest_at : List ℕ → Option Statement
rest_at bytes = nothing_or (ends bytes) (order_at bytes)

-- all labels at the front, and the statement behind them
unfoldable pub labelled_at : List ℕ → Option Line
labelled_at bytes =
    let labels = items_at label_at bytes in
    rest_at labels.1 >>= λ s. Some (record { labels = labels.0; statement = s })

-- what a line says; the whole line is text in UTF-8
unfoldable pub line_of : List ℕ → Option Line
line_of bytes = if is_utf8 bytes then labelled_at (code_of bytes) else None
