-- The rules that clap makes of a table, and how it finds them.
use Rattle.std.proofs.Common.{◌≡◌, ◌&&◌, ◌||◌, ◌∙◌, ◌++◌, ℕ, Bool, true, false, not, List, [], ◌∷◌, Option, Some, None, ap, bytes_eq, codes, cond, map, option_map, refl, sym}
use Rattle.std.proofs.lemmas.Slice.Eq.{bytes_eq-Decides}
use Rattle.std.specs.List.{list_all, list_any}
use Rattle.clap.specs.Faults.{is_free_app, is_simple_and_free}
use Rattle.clap.specs.Simple.{App, Shape, built, filled_from, is_buildable, is_ready, is_ready_leaf, new_rule, new_shape}
use Rattle.clap.specs.Walk.{Rule, arg_by_id, arg_by_index, arg_by_long, is_early_multiple}
use Rattle.clap.specs.declared.builder.action.ArgAction.TheVariants.{Set}
use Rattle.clap.specs.declared.builder.value_parser.ValueParser.TheVariants as vp
use Rattle.command_words.specs.Clap.{app_for, flag_rule, option_rule, place_rules, value_rule}
use Rattle.command_words.specs.Tables.{Argument, Table, Text, has_value}
use Rattle.command_words.specs.Words.{option_named}

-- ---- the built rules

-- a rule after building, by whether it has a value, its long name and its position
abbrev pub built_by : Text → Bool → Option Text → Option ℕ → Rule
built_by name b long index = record (new_rule name) {
  long = long;
  index = index;
  action = Some Set;
  range = Some (record { start_inclusive = cond b 1 0; end_inclusive = cond b 1 0 });
  missing = cond b [] ([] ∷ []);
  parser = Some vp.String;
}

abbrev pub option_built : Argument → Rule
option_built a = built_by a.name (has_value a.meaning) (Some a.name) None

abbrev pub place_built : Argument → Rule
place_built a = built_by a.name true None (Some 1)

abbrev pub places_built : Option Argument → List Rule
places_built None = []
places_built (Some a) = place_built a ∷ []

abbrev pub rules_with : List Rule → List Argument → List Rule
rules_with tail [] = tail
rules_with tail (a ∷ rest) = option_built a ∷ rules_with tail rest

abbrev pub rules_for : Table → List Rule
rules_for t = rules_with (places_built t.place) t.options

abbrev pub shape_with : List Rule → Shape
shape_with rules = record (new_shape (codes "words")) {
  rules = rules;
  no_binary_name = true;
  disable_help_flag = true;
  disable_help_subcommand = true;
  disable_version_flag = true;
  is_built = true;
}

abbrev pub app_built : List Rule → App
app_built rules = record { top = shape_with rules; subs = [] }

one_filled : (a : Argument) (b : Bool) (more tail : List Rule) → filled_from 1 more ≡ tail
    → filled_from 1 (cond b (value_rule a.name) (flag_rule a.name) ∷ more) ≡ built_by a.name b (Some a.name) None ∷ tail
one_filled a true more tail h = ap (λ rest. built_by a.name true (Some a.name) None ∷ rest) h
one_filled a false more tail h = ap (λ rest. built_by a.name false (Some a.name) None ∷ rest) h

filled_is : (place : Option Argument) (options : List Argument)
    → filled_from 1 (map option_rule options ++ place_rules place) ≡ rules_with (places_built place) options
filled_is None [] = refl
filled_is (Some a) [] = refl
filled_is place (a ∷ rest) = one_filled a (has_value a.meaning) _ _ (filled_is place rest)

-- what building makes of the command
pub built_is : (t : Table) → built (app_for t) ≡ app_built (rules_for t)
built_is t = ap app_built (filled_is t.place t.options)

-- ---- the command is a simple one

both : (a b : Bool) → a ≡ true → b ≡ true → a && b ≡ true
both true b h k = k
both false b h k = h

given_simple : (place : Option Argument) (options : List Argument)
    → list_all (λ (r : Rule). r.is_simple) (map option_rule options ++ place_rules place) ≡ true
given_simple None [] = refl
given_simple (Some a) [] = refl
given_simple place (a ∷ rest) = go (has_value a.meaning) (given_simple place rest)
  where
    go : (b : Bool) → list_all (λ (r : Rule). r.is_simple) (map option_rule rest ++ place_rules place) ≡ true
        → (cond b (value_rule a.name) (flag_rule a.name)).is_simple
        && list_all (λ (r : Rule). r.is_simple) (map option_rule rest ++ place_rules place) ≡ true
    go true h = h
    go false h = h

built_simple : (place : Option Argument) (options : List Argument)
    → list_all (λ (r : Rule). r.is_simple) (rules_with (places_built place) options) ≡ true
built_simple None [] = refl
built_simple (Some a) [] = refl
built_simple place (a ∷ rest) = built_simple place rest

built_free : (place : Option Argument) (options : List Argument)
    → list_all (λ (r : Rule). r.is_free) (rules_with (places_built place) options) ≡ true
built_free None [] = refl
built_free (Some a) [] = refl
built_free place (a ∷ rest) = built_free place rest

built_in_order : (n : ℕ) (place : Option Argument) (options : List Argument)
    → not (list_any (is_early_multiple n) (rules_with (places_built place) options)) ≡ true
built_in_order n None [] = refl
built_in_order n (Some a) [] = refl
built_in_order n place (a ∷ rest) = built_in_order n place rest

pub simple_is : (t : Table) → is_simple_and_free (app_for t) ≡ true
simple_is t =
    let P : App → Bool = λ x. (is_buildable (app_for t) && (is_ready x.top && list_all is_ready_leaf x.subs)) && is_free_app x in
    let rules = rules_for t in
    let buildable : is_buildable (app_for t) ≡ true = both _ true (given_simple t.place t.options) refl in
    let ready : is_ready (shape_with rules) && true ≡ true =
    both _ true (both _ _ (built_simple t.place t.options) (built_in_order _ t.place t.options)) refl in
    let free : is_free_app (app_built rules) ≡ true = both _ true (built_free t.place t.options) refl in
    ap P (built_is t) ∙ both _ _ (both _ _ buildable ready) free

-- ---- finding rules

pub bytes_eq-same : (w : Text) → bytes_eq w w ≡ true
bytes_eq-same w = (bytes_eq-Decides w w).1 refl

pub bytes_eq-equal : (v w : Text) → bytes_eq v w ≡ true → v ≡ w
bytes_eq-equal v w h = (bytes_eq-Decides v w).0 h

pub by_long : (place : Option Argument) (options : List Argument) (w : Text)
    → arg_by_long (rules_with (places_built place) options) w ≡ option_map option_built (option_named options w)
by_long None [] w = refl
by_long (Some a) [] w = refl
by_long place (a ∷ rest) w = go (bytes_eq a.name w) _ _ (by_long place rest w)
  where
    go : (b : Bool) (x : Option Rule) (y : Option Argument) → x ≡ option_map option_built y
        → cond (b || false) (Some (option_built a)) x ≡ option_map option_built (cond b (Some a) y)
    go true x y h = refl
    go false x y h = h

named_is : (options : List Argument) (w : Text) (a : Argument) → option_named options w ≡ Some a → a.name ≡ w
named_is [] w a h = cc
named_is (x ∷ rest) w a h = go (bytes_eq x.name w) refl h (named_is rest w a)
  where
    go : (b : Bool) → bytes_eq x.name w ≡ b → cond b (Some x) (option_named rest w) ≡ Some a
        → (option_named rest w ≡ Some a → a.name ≡ w) → a.name ≡ w
    go true e f next = let is : x ≡ a = cc in sym (ap (λ (y : Argument). y.name) is) ∙ bytes_eq-equal x.name w e
    go false e f next = next f

-- an option that is found by a name is found by its own
pub found_known : (options : List Argument) (w : Text) (a : Argument) → option_named options w ≡ Some a
    → option_named options a.name ≡ Some a
found_known options w a h = ap (option_named options) (named_is options w a h) ∙ h

pub option_id : (tail : List Rule) (options : List Argument) (w : Text) (a : Argument) → option_named options w ≡ Some a
    → arg_by_id (rules_with tail options) w ≡ Some (option_built a)
option_id tail [] w a h = cc
option_id tail (x ∷ rest) w a h = go (bytes_eq x.name w) h (option_id tail rest w a)
  where
    go : (b : Bool) → cond b (Some x) (option_named rest w) ≡ Some a
        → (option_named rest w ≡ Some a → arg_by_id (rules_with tail rest) w ≡ Some (option_built a))
        → cond b (Some (option_built x)) (arg_by_id (rules_with tail rest) w) ≡ Some (option_built a)
    go true f next = let is : x ≡ a = cc in ap (λ (y : Argument). Some (option_built y)) is
    go false f next = next f

pub place_id : (p : Argument) (options : List Argument) → option_named options p.name ≡ None
    → arg_by_id (rules_with (place_built p ∷ []) options) p.name ≡ Some (place_built p)
place_id p [] h = ap (λ b. cond b (Some (place_built p)) None) (bytes_eq-same p.name)
place_id p (x ∷ rest) h = go (bytes_eq x.name p.name) h (place_id p rest)
  where
    go : (b : Bool) → cond b (Some x) (option_named rest p.name) ≡ None
        → (option_named rest p.name ≡ None → arg_by_id (rules_with (place_built p ∷ []) rest) p.name ≡ Some (place_built p))
        → cond b (Some (option_built x)) (arg_by_id (rules_with (place_built p ∷ []) rest) p.name) ≡ Some (place_built p)
    go true f next = cc
    go false f next = next f

pub by_index : (tail : List Rule) (options : List Argument) (i : ℕ)
    → arg_by_index (rules_with tail options) i ≡ arg_by_index tail i
by_index tail [] i = refl
by_index tail (a ∷ rest) i = by_index tail rest i
