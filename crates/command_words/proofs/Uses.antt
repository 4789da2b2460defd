-- The rows after uses in turn: one for each argument, where none comes twice.
use Rattle.std.proofs.Common.{◌≡◌, ◌&&◌, ◌||◌, ◌∙◌, ◌++◌, Bool, true, false, not, List, [], ◌∷◌, Option, Some, None, ap, ap₂, append_assoc, append-nil, bytes_eq, cond, find, map, option_and_then, option_map, refl, sym}
use Rattle.std.specs.List.{list_all, list_any}
use Rattle.std.specs.Prelude.{slice_get}
use Rattle.clap.specs.Walk.{Row, first_of, has_row, without}
use Rattle.command_words.specs.Tables.{Argument, Text}
use Rattle.command_words.specs.Words.{Given, given, if_once, is_once, value_among}
use Rattle.command_words.proofs.Runs.{values_of_rows}
use Rattle.command_words.proofs.Stays.{after_use, row_for, used_by}
use Rattle.command_words.proofs.Steps.{Pending, after, settles}

-- the rows after these uses, where none comes twice
abbrev pub outcome : List Row → Given → Option (List Row)
outcome rows [] = Some rows
outcome rows (u ∷ us) = cond (has_row u.0.name rows) None (outcome (after_use u.0 u.1 rows) us)

abbrev pub with_pending : Pending → Given → Given
with_pending None us = us
with_pending (Some q) us = q ∷ us

abbrev pub outcome_of : List Row → Pending → Option Given → Option (List Row)
outcome_of rows p more = option_and_then (λ us. outcome rows (with_pending p us)) more

pub outcome_after : (rows : List Row) (p : Pending) (more : Option Given)
    → outcome_of rows p more ≡ cond (settles p rows) (outcome_of (after p rows) None more) None
outcome_after rows None more = refl
outcome_after rows (Some q) more = go (has_row q.0.name rows) more
  where
    go : (b : Bool) (more : Option Given)
        → option_and_then (λ us. cond b None (outcome (after_use q.0 q.1 rows) us)) more
        ≡ cond (not b) (option_and_then (λ us. outcome (after_use q.0 q.1 rows) us) more) None
    go true None = refl
    go true (Some us) = refl
    go false None = refl
    go false (Some us) = refl

pub nothing : (b : Bool) → let none : Option (List Row) = None in cond b none none ≡ none
nothing true = refl
nothing false = refl

exchanged : (b : Bool) (x : Option (List Row)) → cond b None x ≡ cond (not b) x None
exchanged true x = refl
exchanged false x = refl

pub outcome_given : (rows : List Row) (a : Argument) (v : Text) (more : Option Given)
    → outcome_of rows None (given a v more) ≡ cond (not (has_row a.name rows)) (outcome_of (after_use a v rows) None more) None
outcome_given rows a v None = sym (nothing (not (has_row a.name rows)))
outcome_given rows a v (Some us) = exchanged (has_row a.name rows) (outcome (after_use a v rows) us)

pub outcome_pending : (rows : List Row) (a : Argument) (v : Text) (more : Option Given)
    → outcome_of rows (Some (a, v)) more ≡ outcome_of rows None (given a v more)
outcome_pending rows a v None = refl
outcome_pending rows a v (Some us) = refl

-- ---- a use of what is not there yet goes to the end

or_nil : (b : Bool) → b || false ≡ b
or_nil true = refl
or_nil false = refl

pub absent_head : (b c : Bool) → b || c ≡ false → b ≡ false
absent_head true c h = h
absent_head false c h = refl

pub absent_rest : (b c : Bool) → b || c ≡ false → c ≡ false
absent_rest true c h = cc
absent_rest false c h = h

new_without : (n : Text) (rows : List Row) → has_row n rows ≡ false → without n rows ≡ rows
new_without n [] h = refl
new_without n (r ∷ rs) h =
    let e = absent_head (bytes_eq r.id n) (has_row n rs) h in
    rw e (ap (λ (l : List Row). r ∷ l) (new_without n rs (absent_rest (bytes_eq r.id n) (has_row n rs) h)))

new_used : (n v : Text) (rows : List Row) → has_row n rows ≡ false → used_by n v rows ≡ rows ++ row_for n v ∷ []
new_used n v [] h = refl
new_used n v (r ∷ rs) h =
    let e = absent_head (bytes_eq r.id n) (has_row n rs) h in
    rw e (ap (λ (l : List Row). r ∷ l) (new_used n v rs (absent_rest (bytes_eq r.id n) (has_row n rs) h)))

new_use : (a : Argument) (v : Text) (rows : List Row) → has_row a.name rows ≡ false
    → after_use a v rows ≡ rows ++ row_for a.name v ∷ []
new_use a v rows h = ap (used_by a.name v) (new_without a.name rows h) ∙ new_used a.name v rows h

-- ---- none comes twice

abbrev row_of_use : Argument × Text → Row
row_of_use u = row_for u.0.name u.1

-- none of the uses has a row
abbrev are_new : List Row → Given → Bool
are_new rows us = list_all (λ u. not (has_row u.0.name rows)) us

has_more : (n : Text) (rows : List Row) (r : Row) → has_row n (rows ++ r ∷ []) ≡ (has_row n rows || bytes_eq r.id n)
has_more n [] r = or_nil (bytes_eq r.id n)
has_more n (x ∷ xs) r = go (bytes_eq x.id n) (has_more n xs r)
  where
    go : (b : Bool) → has_row n (xs ++ r ∷ []) ≡ (has_row n xs || bytes_eq r.id n)
        → (b || has_row n (xs ++ r ∷ [])) ≡ ((b || has_row n xs) || bytes_eq r.id n)
    go true h = refl
    go false h = h

four : (a b c d : Bool) → (not (a || b) && (c && not d)) ≡ ((not a && c) && not (b || d))
four true b c d = refl
four false true true d = refl
four false true false d = refl
four false false true d = refl
four false false false d = refl

new_more : (rows : List Row) (u : Argument × Text) (us : Given)
    → are_new (rows ++ row_of_use u ∷ []) us ≡ (are_new rows us && not (list_any (λ h. bytes_eq u.0.name h.0.name) us))
new_more rows u [] = refl
new_more rows u (h ∷ us) =
    ap₂ (λ b c. not b && c) (has_more h.0.name rows (row_of_use u)) (new_more rows u us)
    ∙ four (has_row h.0.name rows) (bytes_eq u.0.name h.0.name) (are_new rows us) (list_any (λ h. bytes_eq u.0.name h.0.name) us)

and_assoc : (a b c : Bool) → ((a && b) && c) ≡ (a && (b && c))
and_assoc true b c = refl
and_assoc false b c = refl

outcome_is : (rows : List Row) (us : Given)
    → outcome rows us ≡ cond (are_new rows us && is_once us) (Some (rows ++ map row_of_use us)) None
outcome_is rows [] = ap Some (sym (append-nil rows))
outcome_is rows (u ∷ us) = go (has_row u.0.name rows) refl (outcome_is (rows ++ row_of_use u ∷ []) us)
  where
    go : (b : Bool) → has_row u.0.name rows ≡ b
        → outcome (rows ++ row_of_use u ∷ []) us
        ≡ cond (are_new (rows ++ row_of_use u ∷ []) us && is_once us) (Some ((rows ++ row_of_use u ∷ []) ++ map row_of_use us)) None
        → cond b None (outcome (after_use u.0 u.1 rows) us)
        ≡ cond ((not b && are_new rows us) && (not (list_any (λ h. bytes_eq u.0.name h.0.name) us) && is_once us))
        (Some (rows ++ (row_of_use u ∷ map row_of_use us))) None
    go true e h = refl
    go false e h =
        ap (λ l. outcome l us) (new_use u.0 u.1 rows e) ∙ h
        ∙ ap₂ (λ b (l : List Row). cond b (Some l) None)
        (ap (λ b. b && is_once us) (new_more rows u us)
        ∙ and_assoc (are_new rows us) (not (list_any (λ h. bytes_eq u.0.name h.0.name) us)) (is_once us))
        (append_assoc rows (row_of_use u ∷ []) (map row_of_use us))

-- ---- the values of the rows

first_is : (us : Given) (name : Text) → first_of name (map row_of_use us) ≡ value_among us name
first_is [] name = refl
first_is (u ∷ us) name = go (bytes_eq u.0.name name) (first_is us name)
  where
    go : (b : Bool) → first_of name (map row_of_use us) ≡ value_among us name
        → option_and_then (λ (r : Row). slice_get r.values 0) (cond b (Some (row_of_use u)) (find (λ r. bytes_eq r.id name) (map row_of_use us)))
        ≡ option_map (λ (g : Argument × Text). g.1) (cond b (Some u) (find (λ g. bytes_eq g.0.name name) us))
    go true h = refl
    go false h = h

pub values_are : (more : Option Given)
    → option_map values_of_rows (outcome_of [] None more) ≡ option_map value_among (option_and_then if_once more)
values_are None = refl
values_are (Some us) = ap (option_map values_of_rows) (outcome_is [] us ∙ ap (λ b. cond (b && is_once us) (Some (map row_of_use us)) None) (all_new us)) ∙ go (is_once us)
  where
    all_new : (us : Given) → are_new [] us ≡ true
    all_new [] = refl
    all_new (u ∷ us) = all_new us

    same : values_of_rows (map row_of_use us) ≡ value_among us
    same = λ i name. first_is us name i

    go : (b : Bool) → option_map values_of_rows (cond b (Some (map row_of_use us)) None) ≡ option_map value_among (cond b (Some us) None)
    go true = ap Some same
    go false = refl
