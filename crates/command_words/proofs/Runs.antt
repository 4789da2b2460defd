-- clap's search for faults and its walk, as one recursion over the words.
use Rattle.std.proofs.Common.{◌≡◌, ◌||◌, ◌∙◌, Bool, true, false, List, [], ◌∷◌, Option, Some, None, ap, ap₂, cond, fold, is_some, option_map, refl, sym}
use Rattle.clap.specs.Faults.{built_fault, check_fault, default_fault, defaults_fault, entered_fault, fault_of, level_fault, settle_fault, turn_fault, walk_fault}
use Rattle.clap.specs.Kinds.{Kinds, or_else}
use Rattle.clap.specs.Simple.{App, entered, matches_of, names_of}
use Rattle.clap.specs.Walk.{Held, Row, Rule, Walk, finished, first_of, has_row, nothing_held, rows_after, settled, walk, walk_from, walked, with_default}
use Rattle.command_words.specs.Clap.{app_for, clap_values, is_empty}
use Rattle.command_words.specs.Tables.{Argument, Table, Text}
use Rattle.command_words.specs.Words.{Values}
use Rattle.command_words.proofs.Rules.{app_built, built_is, option_built, place_built, places_built, rules_for, rules_with, shape_with}

-- the rows at the end of the words, where no word and no end is at fault
abbrev pub run : List Rule → Walk → List Text → Option (List Row)
run rules w [] = cond (is_empty (settle_fault rules false w.held)) (Some (settled rules w.held).rows) None
run rules w (word ∷ rest) =
    cond (is_empty (turn_fault (shape_with rules) [] w word)) (run rules (walked rules [] w word) rest) None

-- what is at fault from here on: a word, or the end
abbrev run_fault : List Rule → Walk → List Text → Kinds
run_fault rules w words =
    or_else (walk_fault (shape_with rules) [] w words) (settle_fault rules false (fold (walked rules []) w words).held)

run_is : (rules : List Rule) (w : Walk) (words : List Text)
    → run rules w words ≡ cond (is_empty (run_fault rules w words)) (Some (settled rules (fold (walked rules []) w words).held).rows) None
unfolding walk_fault
run_is rules w [] = refl
run_is rules w (word ∷ rest) = go (turn_fault (shape_with rules) [] w word) (run_is rules (walked rules [] w word) rest)
  where
    go : (k : Kinds) → run rules (walked rules [] w word) rest
        ≡ cond (is_empty (run_fault rules (walked rules [] w word) rest))
        (Some (settled rules (fold (walked rules []) (walked rules [] w word) rest).held).rows) None
        → cond (is_empty k) (run rules (walked rules [] w word) rest) None
        ≡ cond (is_empty (or_else (or_else k (walk_fault (shape_with rules) [] (walked rules [] w word) rest))
        (settle_fault rules false (fold (walked rules []) (walked rules [] w word) rest).held)))
        (Some (settled rules (fold (walked rules []) (walked rules [] w word) rest).held).rows) None
    go [] h = h
    go (k ∷ ks) h = refl

-- ---- defaults and last checks, of which there are none

same_by : {A : Type 0} (b : Bool) (x : A) → cond b x x ≡ x
same_by true x = refl
same_by false x = refl

no_default : (b : Bool) (k : Kinds) → cond (b || true) [] k ≡ []
no_default true k = refl
no_default false k = refl

with_defaults : (place : Option Argument) (options : List Argument) (rows : List Row)
    → fold with_default rows (rules_with (places_built place) options) ≡ rows
with_defaults None [] rows = refl
with_defaults (Some a) [] rows = same_by (has_row a.name rows) rows
with_defaults place (a ∷ rest) rows =
    ap (λ r. fold with_default r (rules_with (places_built place) rest)) (same_by (has_row a.name rows) rows)
    ∙ with_defaults place rest rows

no_defaults : (place : Option Argument) (options : List Argument) (rows : List Row)
    → defaults_fault rows (rules_with (places_built place) options) ≡ []
unfolding defaults_fault
no_defaults None [] rows = refl
no_defaults (Some a) [] rows =
    let e : default_fault rows (place_built a) ≡ [] = no_default (has_row a.name rows) _ in
    ap (λ (k : Kinds). or_else k []) e
no_defaults place (a ∷ rest) rows =
    let e : default_fault rows (option_built a) ≡ [] = no_default (has_row a.name rows) _ in
    let f : defaults_fault (with_default rows (option_built a)) (rules_with (places_built place) rest) ≡ [] =
    ap (λ r. defaults_fault r (rules_with (places_built place) rest)) (same_by (has_row a.name rows) rows)
    ∙ no_defaults place rest rows in
    ap₂ (λ (k l : Kinds). or_else k l) e f

none_required : (rows : List Row) (place : Option Argument) (options : List Argument)
    → check_fault (shape_with (rules_with (places_built place) options)) rows false ≡ []
none_required rows None [] = refl
none_required rows (Some a) [] = refl
none_required rows place (a ∷ rest) = none_required rows place rest

or_else-nil : (k : Kinds) → or_else k [] ≡ k
or_else-nil [] = refl
or_else-nil (k ∷ ks) = refl

-- ---- the values that clap finds

abbrev pub values_of_rows : List Row → Values
values_of_rows rows = λ name. first_of name rows

-- where the walk over the words ends
abbrev end_of : List Rule → List Text → Held
end_of rules words = (walk rules [] nothing_held words).held

-- no subcommand is met
level : (rules : List Rule) (words : List Text) (stop : Option (Text × List Text))
    → level_fault (shape_with rules) [] nothing_held words (is_some (entered (app_built rules) stop)) (entered_fault (app_built rules) stop)
    ≡ or_else (walk_fault (shape_with rules) [] (walk_from nothing_held) words)
    (or_else (settle_fault rules false (end_of rules words))
    (or_else (defaults_fault (settled rules (end_of rules words)).rows rules)
    (check_fault (shape_with rules) (finished rules (end_of rules words)) false)))
level rules words None = refl
level rules words (Some p) = refl

fault_is : (t : Table) (words : List Text)
    → fault_of (app_for t) words ≡ run_fault (rules_for t) (walk_from nothing_held) words
fault_is t words =
    let rules = rules_for t in
    let last = ap₂ (λ (k l : Kinds). or_else k l)
    (no_defaults t.place t.options (settled rules (end_of rules words)).rows)
    (none_required (finished rules (end_of rules words)) t.place t.options) in
    ap (λ (a : App). built_fault a nothing_held words) (built_is t)
    ∙ level rules words (walk rules [] nothing_held words).stopped
    ∙ ap (λ (k : Kinds). or_else (walk_fault (shape_with rules) [] (walk_from nothing_held) words) k)
    (ap (λ (k : Kinds). or_else (settle_fault rules false (end_of rules words)) k) last
    ∙ or_else-nil (settle_fault rules false (end_of rules words)))

matches_are : (t : Table) (words : List Text)
    → matches_of (app_for t) words ≡ (settled (rules_for t) (end_of (rules_for t) words)).rows
matches_are t words =
    ap (λ (a : App). rows_after a.top.rules (names_of a) words) (built_is t)
    ∙ with_defaults t.place t.options (settled (rules_for t) (end_of (rules_for t) words)).rows

mapped : (b : Bool) (rows : List Row)
    → cond b (Some (values_of_rows rows)) None ≡ option_map values_of_rows (cond b (Some rows) None)
mapped true rows = refl
mapped false rows = refl

-- clap's values are those of the rows at the end
pub clap_is : (t : Table) (words : List Text)
    → clap_values (app_for t) words ≡ option_map values_of_rows (run (rules_for t) (walk_from nothing_held) words)
unfolding clap_values
clap_is t words =
    let rules = rules_for t in
    ap₂ (λ (k : Kinds) (rows : List Row). cond (is_empty k) (Some (values_of_rows rows)) None) (fault_is t words) (matches_are t words)
    ∙ mapped (is_empty (run_fault rules (walk_from nothing_held) words)) (settled rules (end_of rules words)).rows
    ∙ sym (ap (option_map values_of_rows) (run_is rules (walk_from nothing_held) words))
