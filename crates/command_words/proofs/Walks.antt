-- clap's walk over words, none of them short, gives the rows of the grammar's split.
use Rattle.std.proofs.Common.{◌≡◌, ◌⊎◌, ◌∙◌, ℕ, Bool, true, false, not, List, [], ◌∷◌, IfSome, Option, Some, None, ap, cond, inl, inr, option_map, refl, sym}
use Rattle.std.specs.List.{list_any}
use Rattle.clap.specs.Walk.{Row, arg_by_long, has_row}
use Rattle.command_words.specs.Clap.{is_short}
use Rattle.command_words.specs.Tables.{Argument, Table, Text, has_value}
use Rattle.command_words.specs.Words.{given, known_met, option_met, option_named, place_met, split, word_met}
use Rattle.command_words.proofs.Looks.{IsLong, IsPlain, look}
use Rattle.command_words.proofs.Rules.{built_by, by_index, by_long, found_known, option_built, option_id, place_built, place_id, places_built, rules_for}
use Rattle.command_words.proofs.Runs.{run}
use Rattle.command_words.proofs.Stays.{after_use, stays, there}
use Rattle.command_words.proofs.Steps.{IsKnown, IsKnownPending, Pending, after, at_idle, at_wait, flag_value, idle_end, long_alone, long_flag, long_unknown, long_value, place_word, settles, stray, wait_end, wait_long, wait_value}
use Rattle.command_words.proofs.Uses.{absent_head, absent_rest, nothing, outcome_after, outcome_given, outcome_of, outcome_pending}

-- the position of the next word that belongs to no option: the second one, once the first has a row
abbrev pub Stands : Option Argument → ℕ → List Row → Type 0
Stands None position rows = Unit {0}
Stands (Some a) position rows = (position ≡ 1) ⊎ ((position ≡ 2) × (has_row a.name rows ≡ true))

stands_after : (place : Option Argument) (position : ℕ) (rows : List Row) (a : Argument) (v : Text)
    → Stands place position rows → Stands place position (after_use a v rows)
stands_after None position rows a v h = tt
stands_after (Some p) position rows a v (inl h) = inl h
stands_after (Some p) position rows a v (inr h) = inr (h.0, stays p.name a v rows h.1)

-- no option has the name of what other words stand for
abbrev IsApart : Table → Type 0
IsApart t = IfSome t.place (λ a. option_named t.options a.name ≡ None)

abbrev AgreesIdle : Table → List Text → Type 0
AgreesIdle t words = (position : ℕ) (rows : List Row) (p : Pending) → IsKnownPending (rules_for t) p
    → Stands t.place position (after p rows)
    → run (rules_for t) (at_idle position rows p) words ≡ outcome_of rows p (split t words None)

abbrev AgreesWaiting : Table → List Text → Type 0
AgreesWaiting t words = (position : ℕ) (rows : List Row) (a : Argument) → option_named t.options a.name ≡ Some a
    → has_value a.meaning ≡ true → Stands t.place position rows
    → run (rules_for t) (at_wait position rows a) words ≡ outcome_of rows None (split t words (Some a))

known : (t : Table) (a : Argument) → option_named t.options a.name ≡ Some a → has_value a.meaning ≡ true → IsKnown (rules_for t) a
known t a h v = record {
  long = Some a.name;
  index = None;
  by_id = option_id (places_built t.place) t.options a.name a h ∙ ap (λ b. Some (built_by a.name b (Some a.name) None)) v;
}

-- ---- a plain word in the idle state

abbrev table_of : Text → List Argument → Option Argument → Table
table_of program options place = record { program = program; options = options; place = place }

plain_idle : (program : Text) (options : List Argument) (place : Option Argument) (w : Text) (words : List Text) → IsPlain w
    → AgreesIdle (table_of program options place) words → IsApart (table_of program options place)
    → (position : ℕ) (rows : List Row) (p : Pending) → IsKnownPending (rules_for (table_of program options place)) p
    → Stands place position (after p rows)
    → run (rules_for (table_of program options place)) (at_idle position rows p) (w ∷ words)
    ≡ outcome_of rows p (place_met place w (split (table_of program options place) words))
plain_idle program options None w words l next apart position rows p k s =
    stray _ position rows p w words l (by_index [] options position)
plain_idle program options (Some a) w words l next apart position rows p k (inl one) =
    let t = table_of program options (Some a) in
    let rules = rules_for t in
    let more = split t words None in
    let is_known : IsKnown rules a = record { long = None; index = Some 1; by_id = place_id a options apart } in
    ap (λ n. run rules (at_idle n rows p) (w ∷ words)) one
    ∙ place_word rules rows p w words a l k (by_index (place_built a ∷ []) options 1)
    ∙ ap (λ x. cond (settles p rows) x None)
    (next 2 (after p rows) (Some (a, w)) is_known (inr (refl, there a w (after p rows))) ∙ outcome_pending (after p rows) a w more)
    ∙ sym (outcome_after rows p (given a w more))
    ∙ ap (λ b. outcome_of rows p (cond b None (given a w more))) (sym l.minus)
plain_idle program options (Some a) w words l next apart position rows p k (inr second) =
    let t = table_of program options (Some a) in
    let rules = rules_for t in
    let more = split t words None in
    ap (λ n. run rules (at_idle n rows p) (w ∷ words)) second.0
    ∙ stray rules 2 rows p w words l (by_index (place_built a ∷ []) options 2)
    ∙ sym (outcome_after rows p (given a w more)
    ∙ ap (λ x. cond (settles p rows) x None)
    (outcome_given (after p rows) a w more
    ∙ ap (λ b. cond (not b) (outcome_of (after_use a w (after p rows)) None more) None) second.1)
    ∙ nothing (settles p rows))
    ∙ ap (λ b. outcome_of rows p (cond b None (given a w more))) (sym l.minus)

-- ---- a long option in the idle state

long_idle : (t : Table) (w : Text) (words : List Text) (l : IsLong w) → AgreesIdle t words → AgreesWaiting t words
    → (position : ℕ) (rows : List Row) (p : Pending) → IsKnownPending (rules_for t) p → Stands t.place position (after p rows)
    → run (rules_for t) (at_idle position rows p) (w ∷ words)
    ≡ outcome_of rows p (known_met (option_named t.options l.name) l.value (split t words))
long_idle t w words l idle waiting position rows p k s = go (option_named t.options l.name) l.value refl refl
  where
    rule : (a : Argument) (b : Bool) → option_named t.options l.name ≡ Some a → has_value a.meaning ≡ b
        → arg_by_long (rules_for t) l.name ≡ Some (built_by a.name b (Some a.name) None)
    rule a b e h = by_long t.place t.options l.name ∙ ap (option_map option_built) e ∙ ap (λ b. Some (built_by a.name b (Some a.name) None)) h

    used : (a : Argument) (x : Text)
        → run (rules_for t) (at_idle position rows p) (w ∷ words)
        ≡ cond (settles p rows) (cond (not (has_row a.name (after p rows))) (run (rules_for t) (at_idle position (after_use a x (after p rows)) None) words) None) None
        → run (rules_for t) (at_idle position rows p) (w ∷ words) ≡ outcome_of rows p (given a x (split t words None))
    used a x e =
        let more = split t words None in
        e ∙ ap (λ y. cond (settles p rows) (cond (not (has_row a.name (after p rows))) y None) None)
        (idle position (after_use a x (after p rows)) None tt (stands_after t.place position (after p rows) a x s))
        ∙ sym (outcome_after rows p (given a x more) ∙ ap (λ y. cond (settles p rows) y None) (outcome_given (after p rows) a x more))

    met : (a : Argument) (b : Bool) (v : Option Text) → option_named t.options l.name ≡ Some a → has_value a.meaning ≡ b → l.value ≡ v
        → run (rules_for t) (at_idle position rows p) (w ∷ words) ≡ outcome_of rows p (option_met b a v (split t words))
    met a true None e h f =
        long_alone (rules_for t) position rows p w words l a (Some a.name) None k (rule a true e h) f
        ∙ ap (λ x. cond (settles p rows) x None) (waiting position (after p rows) a (found_known t.options l.name a e) h s)
        ∙ sym (outcome_after rows p (split t words (Some a)))
    met a true (Some x) e h f = used a x (long_value (rules_for t) position rows p w words l a (Some a.name) None x k (rule a true e h) f)
    met a false None e h f = used a [] (long_flag (rules_for t) position rows p w words l a (Some a.name) None k (rule a false e h) f)
    met a false (Some x) e h f = flag_value (rules_for t) position rows p w words l a (Some a.name) None x (rule a false e h) f

    go : (o : Option Argument) (v : Option Text) → option_named t.options l.name ≡ o → l.value ≡ v
        → run (rules_for t) (at_idle position rows p) (w ∷ words) ≡ outcome_of rows p (known_met o v (split t words))
    go None v e f = long_unknown (rules_for t) position rows p w words l (by_long t.place t.options l.name ∙ ap (option_map option_built) e)
    go (Some a) v e f = met a (has_value a.meaning) v e refl f

-- ---- all words

one_word : (t : Table) (w : Text) (words : List Text) → IsApart t → IsPlain w ⊎ IsLong w → AgreesIdle t words × AgreesWaiting t words
    → AgreesIdle t (w ∷ words) × AgreesWaiting t (w ∷ words)
one_word t w words apart (inl l) (idle, waiting) = (
  λ position rows p k s. plain_idle t.program t.options t.place w words l idle apart position rows p k s
      ∙ ap (λ o. outcome_of rows p (word_met t o w (split t words))) (sym l.word),
  λ position rows a h v s. wait_value (rules_for t) position rows a w words l (known t a h v)
      ∙ idle position rows (Some (a, w)) (known t a h v) (stands_after t.place position rows a w s)
      ∙ outcome_pending rows a w (split t words None)
      ∙ ap (λ b. outcome_of rows None (cond b None (given a w (split t words None)))) (sym l.minus),
)
one_word t w words apart (inr l) (idle, waiting) = (
  λ position rows p k s. long_idle t w words l idle waiting position rows p k s
      ∙ ap (λ o. outcome_of rows p (word_met t o w (split t words))) (sym l.word),
  λ position rows a h v s. wait_long (rules_for t) position rows a w words l (known t a h v)
      ∙ ap (λ b. outcome_of rows None (cond b None (given a w (split t words None)))) (sym l.minus),
)

pub agrees : (t : Table) (words : List Text) → IsApart t → list_any is_short words ≡ false → AgreesIdle t words × AgreesWaiting t words
agrees t [] apart plain = (
  λ position rows p k s. idle_end (rules_for t) position rows p k ∙ sym (outcome_after rows p (Some [])),
  λ position rows a h v s. wait_end (rules_for t) position rows a (known t a h v),
)
agrees t (w ∷ words) apart plain =
    one_word t w words apart (look w (absent_head (is_short w) (list_any is_short words) plain))
    (agrees t words apart (absent_rest (is_short w) (list_any is_short words) plain))
