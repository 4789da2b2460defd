-- What clap finds in words, none of them short, is what the grammar finds.
use Rattle.std.proofs.Common.{◌≡◌, ◌∙◌, ◌||◌, Global, List, [], ◌∷◌, Option, Some, None, String, ap, false, inl, option_map, refl, string_bytes}
use Rattle.std.specs.List.{list_any}
use Rattle.command_words.specs.Clap.{app_for, clap_values, is_short}
use Rattle.command_words.specs.Tables.{Argument, Table, Text}
use Rattle.command_words.specs.Words.{IsNamed, given_by, split, texts, values_by}
use Rattle.command_words.proofs.Runs.{clap_is, values_of_rows}
use Rattle.command_words.proofs.Uses.{values_are}
use Rattle.command_words.proofs.Walks.{Stands, agrees}

-- whether a word is short, over the words as the code has them
pub short_texts : (words : List (String Global)) → list_any is_short (texts words) ≡ list_any (λ word. is_short (string_bytes word)) words
short_texts [] = refl
short_texts (w ∷ words) = ap (λ b. is_short (string_bytes w) || b) (short_texts words)

-- before the first word
first : (place : Option Argument) → Stands place 1 []
first None = tt
first (Some a) = inl refl

pub lines_are : (t : Table) (words : List Text) → IsNamed t → list_any is_short words ≡ false
    → clap_values (app_for t) words ≡ values_by t words
unfolding given_by
lines_are t words named plain =
    clap_is t words
    ∙ ap (option_map values_of_rows) ((agrees t words named.apart plain).0 1 [] None tt (first t.place))
    ∙ values_are (split t words None)
