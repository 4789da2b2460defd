-- What a file of words holds: on each line a word, or nothing.
use Rattle.std.specs.Prelude.{◌≡◌, ℕ, ◌+◌, ◌≤◌, ◌==◌, Bool, ◌||◌, if◌then◌else◌, List, [], ◌∷◌, ◌++◌, length, map, Result, Ok, Err, codes}
use Rattle.std.specs.List.{All, list_all, starts_with}
use Rattle.std.specs.Int.{w32, from_be_bytes}
use Rattle.hex.specs.Hex.{decode_sized}
use Rattle.hex.specs.declared.error.FromHexError.{FromHexError}
use Rattle.rv_asm.specs.declared.image.word_file.WordLine.{WordLine}
use Rattle.rv_asm.specs.declared.image.word_file.WordLine.TheVariants.{Nothing, Word, Other}
use Rattle.rv_asm.specs.declared.image.Image.{Image}
use Rattle.rv_asm.specs.declared.fault.AsmFault.{AsmFault}
use Rattle.rv_asm.specs.declared.fault.AsmFault.TheVariants.{BadLine, Range, UnknownName, Twice, Memory}
use Rattle.rv_asm.specs.Lines.{number_after}
use Rattle.coco_base.specs.Texts.{is_blank}
use Rattle.rv_asm.specs.Regions.{most_cells}

-- spaces and tabs alone, or `#` and anything after it
abbrev pub has_nothing : List ℕ → Bool
has_nothing line = list_all is_blank line || starts_with ◌==◌ line (codes "#")

-- eight digits are four bytes of two digits each, the highest byte first
abbrev pub word_of_bytes : Result (List ℕ) FromHexError → WordLine
word_of_bytes (Ok bytes) = Word (from_be_bytes w32 bytes)
word_of_bytes (Err error) = Other

-- what a line holds
abbrev pub word_line : List ℕ → WordLine
word_line line = if has_nothing line then Nothing else word_of_bytes (decode_sized line 4)

-- the words that a line holds: one or none
abbrev pub words_held : WordLine → List ℕ
words_held (Word word) = word ∷ []
words_held Nothing = []
words_held Other = []

abbrev pub words_on : List ℕ → List ℕ
words_on line = words_held (word_line line)

-- the words of lines, in order, and for each word the number of its line, where n lines stand before the first
abbrev pub words_of : List (List ℕ) → List ℕ
words_of [] = []
words_of (line ∷ more) = words_on line ++ words_of more

abbrev pub places_from : ℕ → List (List ℕ) → List ℕ
places_from before [] = []
places_from before (line ∷ more) = map (λ _. number_after before) (words_on line) ++ places_from (before + 1) more

-- the line holds a word, or nothing
abbrev pub IsRight : WordLine → Type 0
IsRight Other = ⊥
IsRight _ = Unit {0}

-- each line is right, and there is room for the words
pub record AreRight (ls : List (List ℕ)) : Type 0 where
  pub forms : All (λ line. IsRight (word_line line)) ls
  pub room : length (words_of ls) ≤ most_cells

-- an image of the words of lines that are right
pub record HasWords (ls : List (List ℕ)) (image : Image) : Type 0 where
  pub right : AreRight ls
  pub text : image.text ≡ words_of ls
  pub lines : image.lines ≡ places_from 0 ls
  pub values : image.values ≡ []

-- the line of this number is the first that is not right, or whose word finds no room: what stands before it is right
pub record FailsAt (ls : List (List ℕ)) (n : ℕ) (Fails : List (List ℕ) → List ℕ → Type 0) : Type 0 where
  pub before : List (List ℕ)
  pub line : List ℕ
  pub after : List (List ℕ)
  pub whole : ls ≡ before ++ line ∷ after
  pub number : n ≡ number_after (length before)
  pub right : AreRight before
  pub fails : Fails before line

-- a line that holds neither a word nor nothing
abbrev pub IsOther : List (List ℕ) → List ℕ → Type 0
IsOther before line = word_line line ≡ Other

-- the line of one word too many
abbrev pub IsTooMany : List (List ℕ) → List ℕ → Type 0
IsTooMany before line = (length (words_of before) ≡ most_cells) × (length (words_on line) ≡ 1)

-- which fault a file of words has
abbrev pub IsWordFault : List (List ℕ) → AsmFault → Type 0
IsWordFault ls (BadLine number) = FailsAt ls number IsOther
IsWordFault ls (Range number) = FailsAt ls number IsTooMany
IsWordFault ls (UnknownName number) = ⊥
IsWordFault ls (Twice number) = ⊥
IsWordFault ls Memory = Unit {0}

-- ---- one line more

-- the new image has the old one's words, and then those of the line of this number
pub record TakesLine (old new : Image) (line : List ℕ) (number : ℕ) : Type 0 where
  pub right : IsRight (word_line line)
  pub text : new.text ≡ old.text ++ words_on line
  pub lines : new.lines ≡ old.lines ++ map (λ _. number) (words_on line)
  pub values : new.values ≡ old.values
  pub room : length old.text ≤ most_cells → length new.text ≤ most_cells

-- the fault of one line after an image
abbrev pub IsLineFault : Image → List ℕ → ℕ → AsmFault → Type 0
IsLineFault image line number (BadLine n) = (n ≡ number) × (word_line line ≡ Other)
IsLineFault image line number (Range n) = (n ≡ number) × (most_cells ≤ length image.text) × (length (words_on line) ≡ 1)
IsLineFault image line number (UnknownName n) = ⊥
IsLineFault image line number (Twice n) = ⊥
IsLineFault image line number Memory = Unit {0}
