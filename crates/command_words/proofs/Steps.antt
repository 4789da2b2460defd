-- One word more in clap's walk, a lemma for each kind of word.
use Rattle.std.proofs.Common.{◌≡◌, ◌&&◌, ◌∙◌, ℕ, Bool, true, false, not, List, [], ◌∷◌, Option, Some, None, ap, ap₂, bytes_eq, cond, is_some, refl}
use Rattle.clap.specs.Faults.{long_fault, option_fault, react_fault, settle_fault, turn_fault, use_fault}
use Rattle.clap.specs.Kinds.{Kinds, or_else}
use Rattle.clap.specs.Walk.{Held, Row, Rule, Waiting, Walk, arg_by_id, arg_by_index, arg_by_long, has_row, idle, option, pushed, settled, settled_rows, takes_values, used, used_by_id, walked}
use Rattle.clap.specs.declared.error.kind.ErrorKind.TheVariants as kind
use Rattle.command_words.specs.Clap.{is_empty}
use Rattle.command_words.specs.Tables.{Argument, Text}
use Rattle.command_words.proofs.Looks.{IsLong, IsPlain}
use Rattle.command_words.proofs.Rules.{built_by, bytes_eq-same, shape_with}
use Rattle.command_words.proofs.Runs.{run}
use Rattle.command_words.proofs.Stays.{after_use}

-- ---- where the walk stands

-- an argument whose value was a word by itself; clap uses it only at the next option or the end
abbrev pub Pending : Type 0
Pending = Option (Argument × Text)

abbrev pub pending_of : Pending → Option (Text × List Text)
pending_of None = None
pending_of (Some q) = Some (q.0.name, q.1 ∷ [])

abbrev pub held_by : List Row → Option (Text × List Text) → Held
held_by rows pending = record { rows = rows; pending = pending; skip = 0 }

abbrev pub standing : Held → Waiting → ℕ → Walk
standing h waiting position = record { held = h; waiting = waiting; position = position; is_trailing = false; stopped = None }

abbrev pub at_idle : ℕ → List Row → Pending → Walk
at_idle position rows p = standing (held_by rows (pending_of p)) idle position

-- an option waits for its value
abbrev pub at_wait : ℕ → List Row → Argument → Walk
at_wait position rows a = standing (held_by rows (Some (a.name, []))) (option a.name) position

-- the pending argument is not there yet
abbrev pub settles : Pending → List Row → Bool
settles None rows = true
settles (Some q) rows = not (has_row q.0.name rows)

-- the rows with the pending argument
abbrev pub after : Pending → List Row → List Row
after None rows = rows
after (Some q) rows = after_use q.0 q.1 rows

-- clap finds an argument with a value by its name
pub record IsKnown (rules : List Rule) (a : Argument) : Type 0 where
  pub long : Option Text
  pub index : Option ℕ
  pub by_id : arg_by_id rules a.name ≡ Some (built_by a.name true long index)

abbrev pub IsKnownPending : List Rule → Pending → Type 0
IsKnownPending rules None = Unit {0}
IsKnownPending rules (Some q) = IsKnown rules q.0

-- ---- one use

value_use : (n : Text) (l : Option Text) (i : Option ℕ) (v : Text) (rows : List Row)
    → is_empty (use_fault false (built_by n true l i) (v ∷ []) rows) ≡ not (has_row n rows)
value_use n l i v rows = go (has_row n rows)
  where
    go : (b : Bool) → is_empty (or_else (cond (b && true) (kind.ArgumentConflict ∷ []) []) []) ≡ not b
    go true = refl
    go false = refl

flag_use : (n : Text) (l : Option Text) (i : Option ℕ) (rows : List Row)
    → is_empty (use_fault false (built_by n false l i) [] rows) ≡ not (has_row n rows)
flag_use n l i rows = go (has_row n rows)
  where
    go : (b : Bool) → is_empty (or_else (cond (b && true) (kind.ArgumentConflict ∷ []) []) []) ≡ not b
    go true = refl
    go false = refl

pub settled_is : (rules : List Rule) (p : Pending) (rows : List Row) → IsKnownPending rules p
    → settled_rows rules (pending_of p) rows ≡ after p rows
settled_is rules None rows k = refl
settled_is rules (Some q) rows k = ap (λ r. used_by_id r (q.1 ∷ []) rows) k.by_id

pub settle_is : (rules : List Rule) (p : Pending) (rows : List Row) → IsKnownPending rules p
    → is_empty (settle_fault rules false (held_by rows (pending_of p))) ≡ settles p rows
settle_is rules None rows k = refl
settle_is rules (Some q) rows k = rw k.by_id (value_use q.0.name k.long k.index q.1 rows)

-- an option that waits has no value yet
wait_fault : (rules : List Rule) (a : Argument) (rows : List Row) → IsKnown rules a
    → settle_fault rules false (held_by rows (Some (a.name, []))) ≡ kind.InvalidValue ∷ []
wait_fault rules a rows k = rw k.by_id refl

-- ---- one turn

turn : (rules : List Rule) (w next : Walk) (word : Text) (rest : List Text) (k : Kinds)
    → turn_fault (shape_with rules) [] w word ≡ k → walked rules [] w word ≡ next
    → run rules w (word ∷ rest) ≡ cond (is_empty k) (run rules next rest) None
turn rules w next word rest k e f = ap₂ (λ (l : Kinds) (n : Walk). cond (is_empty l) (run rules n rest) None) e f

stop : (rules : List Rule) (w : Walk) (word : Text) (rest : List Text)
    → is_empty (turn_fault (shape_with rules) [] w word) ≡ false → run rules w (word ∷ rest) ≡ None
stop rules w word rest e = ap (λ b. cond b (run rules (walked rules [] w word) rest) None) e

one_pass : (a : Kinds) (b : Bool) (x : Option (List Row)) → is_empty a ≡ b → cond (is_empty (or_else a [])) x None ≡ cond b x None
one_pass [] b x e = ap (λ c. cond c x None) e
one_pass (k ∷ ks) b x e = ap (λ c. cond c x None) e

two_pass : (a b : Kinds) (c d : Bool) (x : Option (List Row)) → is_empty a ≡ c → is_empty b ≡ d
    → cond (is_empty (or_else (or_else a b) [])) x None ≡ cond c (cond d x None) None
two_pass [] b c d x e f = one_pass b d x f ∙ ap (λ (y : Bool). cond y (cond d x None) None) e
two_pass (k ∷ ks) b c d x e f = ap (λ (y : Bool). cond y (cond d x None) None) e

-- ---- in the idle state

pub long_unknown : (rules : List Rule) (position : ℕ) (rows : List Row) (p : Pending) (w : Text) (rest : List Text) (l : IsLong w)
    → arg_by_long rules l.name ≡ None → run rules (at_idle position rows p) (w ∷ rest) ≡ None
long_unknown rules position rows p w rest l e = stop rules (at_idle position rows p) w rest (rw (l.dashes, l.long, e) refl)

pub flag_value : (rules : List Rule) (position : ℕ) (rows : List Row) (p : Pending) (w : Text) (rest : List Text) (l : IsLong w)
    (a : Argument) (i : Option Text) (j : Option ℕ) (v : Text)
    → arg_by_long rules l.name ≡ Some (built_by a.name false i j) → l.value ≡ Some v
    → run rules (at_idle position rows p) (w ∷ rest) ≡ None
flag_value rules position rows p w rest l a i j v e f = stop rules (at_idle position rows p) w rest (rw (l.dashes, l.long, e, f) refl)

pub long_value : (rules : List Rule) (position : ℕ) (rows : List Row) (p : Pending) (w : Text) (rest : List Text) (l : IsLong w)
    (a : Argument) (i : Option Text) (j : Option ℕ) (v : Text) → IsKnownPending rules p
    → arg_by_long rules l.name ≡ Some (built_by a.name true i j) → l.value ≡ Some v
    → run rules (at_idle position rows p) (w ∷ rest)
    ≡ cond (settles p rows) (cond (not (has_row a.name (after p rows))) (run rules (at_idle position (after_use a v (after p rows)) None) rest) None) None
unfolding walked
long_value rules position rows p w rest l a i j v k e f =
    let r = built_by a.name true i j in
    let rows2 = settled_rows rules (pending_of p) rows in
    let fault : turn_fault (shape_with rules) [] (at_idle position rows p) w
    ≡ or_else (or_else (settle_fault rules false (held_by rows (pending_of p))) (use_fault false r (v ∷ []) rows2)) [] =
    rw (l.dashes, l.long, e, f) refl in
    let next : walked rules [] (at_idle position rows p) w ≡ at_idle position (used r (v ∷ []) rows2) None =
    rw (l.dashes, l.long, e, f) refl in
    turn rules (at_idle position rows p) _ w rest _ fault next
    ∙ two_pass _ _ _ _ _ (settle_is rules p rows k) (value_use a.name i j v rows2)
    ∙ ap (λ (x : List Row). cond (settles p rows) (cond (not (has_row a.name x)) (run rules (at_idle position (after_use a v x) None) rest) None) None) (settled_is rules p rows k)

pub long_flag : (rules : List Rule) (position : ℕ) (rows : List Row) (p : Pending) (w : Text) (rest : List Text) (l : IsLong w)
    (a : Argument) (i : Option Text) (j : Option ℕ) → IsKnownPending rules p
    → arg_by_long rules l.name ≡ Some (built_by a.name false i j) → l.value ≡ None
    → run rules (at_idle position rows p) (w ∷ rest)
    ≡ cond (settles p rows) (cond (not (has_row a.name (after p rows))) (run rules (at_idle position (after_use a [] (after p rows)) None) rest) None) None
unfolding walked
long_flag rules position rows p w rest l a i j k e f =
    let r = built_by a.name false i j in
    let rows2 = settled_rows rules (pending_of p) rows in
    let fault : turn_fault (shape_with rules) [] (at_idle position rows p) w
    ≡ or_else (or_else (settle_fault rules false (held_by rows (pending_of p))) (use_fault false r [] rows2)) [] =
    rw (l.dashes, l.long, e, f) refl in
    let next : walked rules [] (at_idle position rows p) w ≡ at_idle position (used r [] rows2) None =
    rw (l.dashes, l.long, e, f) refl in
    turn rules (at_idle position rows p) _ w rest _ fault next
    ∙ two_pass _ _ _ _ _ (settle_is rules p rows k) (flag_use a.name i j rows2)
    ∙ ap (λ (x : List Row). cond (settles p rows) (cond (not (has_row a.name x)) (run rules (at_idle position (after_use a [] x) None) rest) None) None) (settled_is rules p rows k)

pub long_alone : (rules : List Rule) (position : ℕ) (rows : List Row) (p : Pending) (w : Text) (rest : List Text) (l : IsLong w)
    (a : Argument) (i : Option Text) (j : Option ℕ) → IsKnownPending rules p
    → arg_by_long rules l.name ≡ Some (built_by a.name true i j) → l.value ≡ None
    → run rules (at_idle position rows p) (w ∷ rest) ≡ cond (settles p rows) (run rules (at_wait position (after p rows) a) rest) None
unfolding walked
long_alone rules position rows p w rest l a i j k e f =
    let rows2 = settled_rows rules (pending_of p) rows in
    let fault : turn_fault (shape_with rules) [] (at_idle position rows p) w
    ≡ or_else (settle_fault rules false (held_by rows (pending_of p))) [] =
    rw (l.dashes, l.long, e, f) refl in
    let next : walked rules [] (at_idle position rows p) w ≡ at_wait position rows2 a = rw (l.dashes, l.long, e, f) refl in
    turn rules (at_idle position rows p) _ w rest _ fault next
    ∙ one_pass _ _ _ (settle_is rules p rows k)
    ∙ ap (λ (x : List Row). cond (settles p rows) (run rules (at_wait position x a) rest) None) (settled_is rules p rows k)

pub stray : (rules : List Rule) (position : ℕ) (rows : List Row) (p : Pending) (w : Text) (rest : List Text) → IsPlain w
    → arg_by_index rules position ≡ None → run rules (at_idle position rows p) (w ∷ rest) ≡ None
stray rules position rows p w rest l e = stop rules (at_idle position rows p) w rest (rw (l.dashes, l.long, l.short, e) refl)

and_false : {A : Type 0} (b : Bool) (x y : A) → cond (b && false) x y ≡ y
and_false true x y = refl
and_false false x y = refl

pub place_word : (rules : List Rule) (rows : List Row) (p : Pending) (w : Text) (rest : List Text) (a : Argument) → IsPlain w
    → IsKnownPending rules p → arg_by_index rules 1 ≡ Some (built_by a.name true None (Some 1))
    → run rules (at_idle 1 rows p) (w ∷ rest) ≡ cond (settles p rows) (run rules (at_idle 2 (after p rows) (Some (a, w))) rest) None
unfolding walked
place_word rules rows None w rest a l k e =
    turn rules (at_idle 1 rows None) (at_idle 2 rows (Some (a, w))) w rest [] (rw (l.dashes, l.long, l.short, e) refl) (rw (l.dashes, l.long, l.short, e) refl)
place_word rules rows (Some q) w rest a l k e =
    let h = held_by rows (Some (q.0.name, q.1 ∷ [])) in
    let again = bytes_eq q.0.name a.name in
    let to : Held → Walk = λ x. standing (pushed a.name w x) idle 2 in
    let fault : turn_fault (shape_with rules) [] (at_idle 1 rows (Some q)) w ≡ cond (again && false) [] (settle_fault rules false h) =
    rw (l.dashes, l.long, l.short, e) refl in
    let next : walked rules [] (at_idle 1 rows (Some q)) w ≡ to (cond (again && false) h (settled rules h)) =
    rw (l.dashes, l.long, l.short, e) refl in
    turn rules (at_idle 1 rows (Some q)) _ w rest _ (fault ∙ and_false again [] (settle_fault rules false h)) (next ∙ ap to (and_false again h (settled rules h)))
    ∙ ap₂ (λ b (x : List Row). cond b (run rules (at_idle 2 x (Some (a, w))) rest) None)
    (settle_is rules (Some q) rows k) (settled_is rules (Some q) rows k)

pub idle_end : (rules : List Rule) (position : ℕ) (rows : List Row) (p : Pending) → IsKnownPending rules p
    → run rules (at_idle position rows p) [] ≡ cond (settles p rows) (Some (after p rows)) None
idle_end rules position rows p k = ap₂ (λ b (x : List Row). cond b (Some x) None) (settle_is rules p rows k) (settled_is rules p rows k)

-- ---- where an option waits for its value

pub wait_end : (rules : List Rule) (position : ℕ) (rows : List Row) (a : Argument) → IsKnown rules a
    → run rules (at_wait position rows a) [] ≡ None
wait_end rules position rows a k =
    ap (λ (l : Kinds). cond (is_empty l) (Some (settled_rows rules (Some (a.name, [])) rows)) None) (wait_fault rules a rows k)

waits_on : (rules : List Rule) (o : Option Rule) (v : Option Text) (h : Held) → settle_fault rules false h ≡ kind.InvalidValue ∷ []
    → is_empty (long_fault rules false o v h) ≡ false
waits_on rules None v h e = refl
waits_on rules (Some r) v h e = go (takes_values r) v
  where
    go : (b : Bool) (v : Option Text)
        → is_empty (cond b (option_fault rules false r v h) (cond (is_some v) (kind.TooManyValues ∷ []) (react_fault rules false r [] h))) ≡ false
    go true None = rw e refl
    go true (Some x) = rw e refl
    go false None = rw e refl
    go false (Some x) = refl

or_else-false : (a b : Kinds) → is_empty a ≡ false → is_empty (or_else a b) ≡ false
or_else-false [] b h = cc
or_else-false (k ∷ ks) b h = refl

pub wait_long : (rules : List Rule) (position : ℕ) (rows : List Row) (a : Argument) (w : Text) (rest : List Text) → IsLong w
    → IsKnown rules a → run rules (at_wait position rows a) (w ∷ rest) ≡ None
wait_long rules position rows a w rest l k =
    let h = held_by rows (Some (a.name, [])) in
    let e = waits_on rules (arg_by_long rules l.name) l.value h (wait_fault rules a rows k) in
    stop rules (at_wait position rows a) w rest (rw (l.dashes, l.long) (or_else-false _ _ e))

pub wait_value : (rules : List Rule) (position : ℕ) (rows : List Row) (a : Argument) (w : Text) (rest : List Text) → IsPlain w
    → IsKnown rules a → run rules (at_wait position rows a) (w ∷ rest) ≡ run rules (at_idle position rows (Some (a, w))) rest
unfolding walked
wait_value rules position rows a w rest l k =
    let same = bytes_eq-same a.name in
    turn rules (at_wait position rows a) (at_idle position rows (Some (a, w))) w rest [] (rw (l.dashes, l.long, l.short) refl) (rw (l.dashes, l.long, l.short, k.by_id, same) refl)
