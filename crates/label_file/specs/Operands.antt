-- What may stand behind the first word of a line.
use Rattle.std.specs.Prelude.{ℕ, Bool, true, false, ◌&&◌, ◌||◌, List, [], ◌∷◌, is_some, codes}
use Rattle.std.specs.List.{list_all}
use Rattle.std.specs.Str.{bytes_eq}
use Rattle.coco_base.specs.Numbers.{are_digits}
use Rattle.label_file.specs.declared.operand.Operand.{Operand}
use Rattle.label_file.specs.declared.operand.Operand.TheVariants.{Edition, Net, Name, Count, Address, Value, Values}
use Rattle.label_file.specs.LabelWords.{is_name, label_word}
use Rattle.label_file.specs.Numbers.{address_of, number_on}

abbrev pub is_edition : List ℕ → Bool
is_edition word = bytes_eq word (codes "1") || bytes_eq word (codes "2")

abbrev pub is_value : List ℕ → Bool
is_value word = is_some (number_on word) || is_some (label_word word)

abbrev pub is_operand : Operand → List ℕ → Bool
is_operand Edition word = is_edition word
is_operand Net word = true
is_operand Name word = is_name word
is_operand Count word = are_digits 10 word
is_operand Address word = is_some (address_of word)
is_operand Value word = is_value word
is_operand Values word = is_value word

-- an operand, where it is known whether the words behind it fit; values take all words up to the end
abbrev pub operand_first : Operand → Bool → List ℕ → List (List ℕ) → Bool
operand_first Values rest word words = list_all is_value (word ∷ words)
operand_first operand rest word words = is_operand operand word && rest

-- the words are operands, one for each
abbrev pub fits : List Operand → List (List ℕ) → Bool
fits [] [] = true
fits [] (word ∷ words) = false
fits (operand ∷ operands) [] = false
fits (operand ∷ operands) (word ∷ words) = operand_first operand (fits operands words) word words
