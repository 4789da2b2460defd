-- What the answer of `try_get_matches_from` says of the values that clap finds.
use Rattle.std.proofs.Common.{◌≡◌, ◌&&◌, ◌∙◌, Bool, true, false, List, [], ◌∷◌, Option, Some, None, ap, cond, refl, sym}
use Rattle.clap.proofs.WalkLemmas.{first_value-rows}
use Rattle.clap.specs.Faults.{fault_of, is_free_app, is_simple_and_free}
use Rattle.clap.specs.Kinds.{IsAmong, Kinds}
use Rattle.clap.specs.Matches.{found_of}
use Rattle.clap.specs.Simple.{App, HasMatchesOf, built, is_simple, matches_of}
use Rattle.clap.specs.Walk.{Row, first_of, rows_of}
use Rattle.clap.specs.declared.error.kind.ErrorKind.{ErrorKind}
use Rattle.clap.specs.declared.parser.matches.ArgMatches.{ArgMatches}
use Rattle.command_words.specs.Clap.{clap_values, is_empty, values_in}
use Rattle.command_words.specs.Tables.{Text}
use Rattle.command_words.specs.Words.{Values}

left_of : (a b : Bool) → a && b ≡ true → a ≡ true
left_of true b h = refl
left_of false b h = h

-- the values of the matches are those of the rows that clap finds
values_at : (m : ArgMatches) (rows : List Row) → rows_of (found_of m) ≡ rows → values_in m ≡ (λ name. first_of name rows)
values_at m rows e = λ i name. (first_value-rows (found_of m) name ∙ ap (first_of name) e) i

pub taken : (app : App) (words : List Text) (m : ArgMatches) → is_simple_and_free app ≡ true
    → fault_of app words ≡ [] → HasMatchesOf app words m → Some (values_in m) ≡ clap_values app words
unfolding clap_values
taken app words m simple no_fault has =
    ap Some (values_at m (matches_of app words) (has (left_of (is_simple app) (is_free_app (built app)) simple)).0)
    ∙ sym (ap (λ (kinds : Kinds). cond (is_empty kinds) (Some (λ name. first_of name (matches_of app words))) None) no_fault)

refused_at : (k : ErrorKind) (kinds : Kinds) (v : Option Values) → IsAmong k kinds → cond (is_empty kinds) v None ≡ None
refused_at k [] v h = elim h [ ]
refused_at k (x ∷ xs) v h = refl

pub refused : (app : App) (words : List Text) (k : ErrorKind) → IsAmong k (fault_of app words) → None ≡ clap_values app words
unfolding clap_values
refused app words k h = sym (refused_at k (fault_of app words) _ h)
