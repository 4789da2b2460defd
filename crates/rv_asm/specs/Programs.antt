-- Programs: what their lines do one after the other, the image that they mean, and which fault they have.
use Rattle.std.specs.Prelude.{◌≡◌, ◌≤◌, ◌⊎◌, ℕ, pos, ◌+◌, Bool, false, true, if◌then◌else◌, List, [], ◌∷◌, ◌++◌, length, map, take, flat_map, Option, Some, None, Result, Ok, Err, IsOk, replicate}
use Rattle.std.specs.List.{All, list_all}
use Rattle.std.specs.Int.{from_le_bytes, to_le_bytes, w32}
use Rattle.rv_asm.specs.declared.layout.cause.Cause.{Cause}
use Rattle.rv_asm.specs.declared.layout.cause.Cause.TheVariants.{UnknownName}
use Rattle.rv_asm.specs.declared.fault.AsmFault.{AsmFault}
use Rattle.rv_asm.specs.declared.fault.AsmFault.TheVariants as fault
use Rattle.rv_asm.specs.declared.image.Image.{Image}
use Rattle.rv_asm.specs.declared.line.expression.Expr.{Expr}
use Rattle.rv_asm.specs.declared.line.statement.Part.{Part}
use Rattle.rv_asm.specs.declared.line.statement.Part.TheVariants.{Text, Data}
use Rattle.rv_asm.specs.declared.layout.place.Place.{Place}
use Rattle.rv_asm.specs.declared.layout.content.Content.{Content}
use Rattle.rv_asm.specs.declared.layout.content.Content.TheVariants.{Known, Fill, Asked}
use Rattle.rv_asm.specs.declared.layout.Placed.{Placed}
use Rattle.rv_asm.specs.declared.layout.Layout.{Layout}
use Rattle.rv_asm.specs.declared.image.assembler.Memory.{Memory}
use Rattle.rv_asm.specs.Causes.{◌>>=◌, fault_of}
use Rattle.rv_asm.specs.Lines.{number_after}
use Rattle.rv_asm.specs.Names.{Table}
use Rattle.rv_asm.specs.Values.{is_known}
use Rattle.rv_asm.specs.Demands.{all_words}
use Rattle.rv_asm.specs.Layouts.{address_of, bytes_each, has_outside, line_effect, Effect}

-- ---- lines one after the other

-- before the first line
abbrev pub start : Layout
start = record { place = record { part = Text; words = 0; bytes = 0 }; names = []; placed = [] }

abbrev pub put_at : Place → ℕ → Option Content → List Placed
put_at place number None = []
put_at place number (Some content) = record { place = place; content = content; line = number } ∷ []

-- a line's statement stands at the place that the lines before it leave
abbrev pub with_effect : Layout → ℕ → Effect → Layout
with_effect layout number effect = record {
  place = effect.place;
  names = effect.names;
  placed = layout.placed ++ put_at layout.place number effect.content;
}

-- the layout after one line more, which has this number
unfoldable pub after_line : Layout → ℕ → List ℕ → Result Layout Cause
after_line layout number line = do
  effect ← line_effect layout.place layout.names line
  Ok (with_effect layout number effect)

-- the layout after lines, where n lines stand before the first of them
abbrev pub after_lines : Layout → ℕ → List (List ℕ) → Result Layout Cause
after_lines layout before [] = Ok layout
after_lines layout before (line ∷ more) = do
  next ← after_line layout (number_after before) line
  after_lines next (before + 1) more

abbrev pub layout_of : List (List ℕ) → Result Layout Cause
layout_of ls = after_lines start 0 ls

-- ---- the words of what lines put, with the names of the program

abbrev pub all_known : Table → List Expr → Bool
all_known names values = list_all (is_known names) values

-- a name that nothing defines comes before a value that is outside what is asked for
abbrev pub words_placed : Table → Place → Content → Result (List ℕ) Cause
words_placed names place (Known words) = Ok words
words_placed names place (Fill count word) = Ok (replicate count word)
words_placed names place (Asked demand values) =
    if all_known names values then all_words names (pos (address_of place)) demand values else Err UnknownName

abbrev pub words_of : Table → Placed → Result (List ℕ) Cause
words_of names p = words_placed names p.place p.content

-- the lowest byte first
abbrev pub stored_bytes : ℕ → List ℕ → List ℕ
stored_bytes count words = flat_map (λ word. take count (to_le_bytes w32 word)) words

abbrev pub found : Result (List ℕ) Cause → List ℕ
found (Ok words) = words
found (Err cause) = []

abbrev pub in_text : Part → List ℕ → List ℕ
in_text Text words = words
in_text Data words = []

abbrev pub in_data : Part → ℕ → List ℕ → List ℕ
in_data Text count words = []
in_data Data count words = stored_bytes count words

abbrev pub text_words : Table → Placed → List ℕ
text_words names p = in_text p.place.part (found (words_of names p))

abbrev pub text_lines : Table → Placed → List ℕ
text_lines names p = map (λ _. p.line) (text_words names p)

abbrev pub data_bytes : Table → Placed → List ℕ
data_bytes names p = in_data p.place.part (bytes_each p.content) (found (words_of names p))

-- the words of bytes, of which the last is filled with zeros
abbrev pub words_of_bytes : List ℕ → List ℕ
words_of_bytes [] = []
words_of_bytes (a ∷ []) = from_le_bytes w32 (a ∷ 0 ∷ 0 ∷ 0 ∷ []) ∷ []
words_of_bytes (a ∷ b ∷ []) = from_le_bytes w32 (a ∷ b ∷ 0 ∷ 0 ∷ []) ∷ []
words_of_bytes (a ∷ b ∷ c ∷ []) = from_le_bytes w32 (a ∷ b ∷ c ∷ 0 ∷ []) ∷ []
words_of_bytes (a ∷ b ∷ c ∷ d ∷ more) = from_le_bytes w32 (a ∷ b ∷ c ∷ d ∷ []) ∷ words_of_bytes more

-- ---- images

-- all names are defined, and all values are within what is asked for
abbrev pub AreRight : Table → List Placed → Type 0
AreRight names ps = All (λ p. IsOk (words_of names p)) ps

-- the image has the words of what is placed, in order
pub record HasPlaced (names : Table) (ps : List Placed) (image : Image) : Type 0 where
  pub right : AreRight names ps
  pub text : image.text ≡ flat_map (text_words names) ps
  pub lines : image.lines ≡ flat_map (text_lines names) ps
  pub values : image.values ≡ words_of_bytes (flat_map (data_bytes names) ps)

-- the same, where the bytes of the data are no words yet
pub record HasPut (names : Table) (ps : List Placed) (memory : Memory) : Type 0 where
  pub right : AreRight names ps
  pub text : memory.image.text ≡ flat_map (text_words names) ps
  pub lines : memory.image.lines ≡ flat_map (text_lines names) ps
  pub values : memory.image.values ≡ []
  pub bytes : memory.bytes.items ≡ flat_map (data_bytes names) ps

-- one line's words more
pub record PutsWords (old new : Memory) (p : Placed) (words : List ℕ) : Type 0 where
  pub text : new.image.text ≡ old.image.text ++ in_text p.place.part words
  pub lines : new.image.lines ≡ old.image.lines ++ map (λ _. p.line) (in_text p.place.part words)
  pub values : new.image.values ≡ old.image.values
  pub bytes : new.bytes.items ≡ old.bytes.items ++ in_data p.place.part (bytes_each p.content) words

-- the image of a program
pub record IsImageOf (ls : List (List ℕ)) (image : Image) : Type 0 where
  pub layout : Layout
  pub laid : layout_of ls ≡ Ok layout
  pub has : HasPlaced layout.names layout.placed image

-- ---- faults

-- the least line at fault by what it and the lines before it hold: its number, its cause, and the layout before it
pub record StopsAt (ls : List (List ℕ)) (layout : Layout) (number : ℕ) (cause : Cause) : Type 0 where
  pub before : List (List ℕ)
  pub line : List ℕ
  pub after : List (List ℕ)
  pub whole : ls ≡ before ++ line ∷ after
  pub number_is : number ≡ number_after (length before)
  pub laid : layout_of before ≡ Ok layout
  pub fails : after_line layout number line ≡ Err cause

-- no value is known and outside what is asked for
abbrev pub AreWithin : Table → List Placed → Type 0
AreWithin names ps = All (λ p. has_outside names p.place p.content ≡ false) ps

-- this is the least line with a value that is known and outside what is asked for
pub record IsOutsideAt (names : Table) (ps : List Placed) (number : ℕ) : Type 0 where
  pub before : List Placed
  pub placed : Placed
  pub after : List Placed
  pub whole : ps ≡ before ++ placed ∷ after
  pub number_is : number ≡ placed.line
  pub within : AreWithin names before
  pub outside : has_outside names placed.place placed.content ≡ true

-- this is the least line with a name that nothing defines, or a value outside what is asked for
pub record FailsAt (names : Table) (ps : List Placed) (fault : AsmFault) : Type 0 where
  pub before : List Placed
  pub placed : Placed
  pub after : List Placed
  pub whole : ps ≡ before ++ placed ∷ after
  pub right : AreRight names before
  pub cause : Cause
  pub fails : words_of names placed ≡ Err cause
  pub fault_is : fault ≡ fault_of placed.line cause

abbrev pub FailsUnlessMemory : Table → List Placed → AsmFault → Type 0
FailsUnlessMemory names ps fault.Memory = Unit {0}
FailsUnlessMemory names ps f = FailsAt names ps f

-- in a line before the least that is at fault by what it and the lines before it hold, a value may be outside what is asked
-- for with the names of lines before that one; and else that line is at fault
abbrev pub EarlyFault : Table → List Placed → ℕ → Cause → AsmFault → Type 0
EarlyFault names ps number cause f =
    ((n : ℕ) × IsOutsideAt names ps n × (f ≡ fault.Range n)) ⊎ (AreWithin names ps × (f ≡ fault_of number cause))

pub record StopsWith (ls : List (List ℕ)) (f : AsmFault) : Type 0 where
  pub layout : Layout
  pub number : ℕ
  pub cause : Cause
  pub stops : StopsAt ls layout number cause
  pub early : EarlyFault layout.names layout.placed number cause f

-- what lines before a fault do, or all lines
abbrev pub IsCutBy : List (List ℕ) → Layout → Option AsmFault → Type 0
IsCutBy ls layout None = layout_of ls ≡ Ok layout
IsCutBy ls layout (Some f) =
    (number : ℕ) × (cause : Cause) × StopsAt ls layout number cause × (f ≡ fault_of number cause)

-- where no line is at fault by what it and the lines before it hold
pub record FailsWith (ls : List (List ℕ)) (f : AsmFault) : Type 0 where
  pub layout : Layout
  pub laid : layout_of ls ≡ Ok layout
  pub fails : FailsAt layout.names layout.placed f

-- the fault of a program, where memory does not run out
abbrev pub IsFaultOf : List (List ℕ) → AsmFault → Type 0
IsFaultOf ls fault.Memory = Unit {0}
IsFaultOf ls f = StopsWith ls f ⊎ FailsWith ls f
