-- Windows over rows of false signals take no variable and no clause.
use Rattle.std.proofs.Common.{◌≡◌, ℕ, zero, suc, ◌+◌, ◌-◌, ◌*◌, ◌/◌, ◌%◌, ◌||◌, Bool, true, false, cond, nat_eq, nat_lt, nat_le, List, [], ◌∷◌, length, refl, subst, sym, arith}
use Rattle.std.specs.Prelude.{replicate, reverse, slice_set}
use Rattle.std.specs.List.{range_with_len}
use Rattle.circuit_clauses.specs.declared.signal.Signal.{Signal}
use Rattle.circuit_clauses.specs.declared.signal.Signal.TheVariants.{Constant}
use Rattle.clause_builds.specs.Builds.{Build, done, through}
use Rattle.clause_builds.specs.Rows.{signal_at}
use Rattle.clause_builds.proofs.Sizing.{Takes, Makes, takes-done, makes-done, takes-bind, takes-bind_of, makes-bind}
use Rattle.probe_clauses.specs.Windows.{either, to_block_end, next_tail, tails, from_block_start, over_window, Lasting, lasting, keep_lasting, next_lasting, heads, windowed}
use Rattle.probe_clauses.proofs.Sizes.{takes-cond}

abbrev pub IsFalse : Signal → Type 0
IsFalse s = s ≡ Constant false

abbrev pub AreFalse : List Signal → Type 0
AreFalse [] = Unit {0}
AreFalse (s ∷ row) = IsFalse s × AreFalse row

at_false : (row : List Signal) (i : ℕ) → AreFalse row → IsFalse (signal_at row i)
at_false [] i h = refl
at_false (s ∷ row) zero h = h.0
at_false (s ∷ row) (suc i) h = at_false row i h.1

set_false : (row : List Signal) (i : ℕ) (s : Signal) → IsFalse s → AreFalse row → AreFalse (slice_set row i s)
set_false [] i s e h = tt
set_false (r ∷ row) zero s e h = (e, h.1)
set_false (r ∷ row) (suc i) s e h = (h.0, set_false row i s e h.1)

replicate_false : (n : ℕ) → AreFalse (replicate n (Constant false))
replicate_false zero = tt
replicate_false (suc n) = (refl, replicate_false n)

-- ---- builds that keep a property and take nothing

pub through_nothing : {X S : Type 0} (P : S → Type 0) (build : X → S → Build S) (xs : List X) (state : S) → P state
    → ((x : X) (s : S) → P s → Takes (build x s) 0 0) → ((x : X) (s : S) → P s → Makes P (build x s)) → Takes (through build xs state) 0 0
unfolding through
through_nothing P build [] state p takes makes = takes-done state
through_nothing P build (x ∷ xs) state p takes makes =
    takes-bind_of P (build x state) (through build xs) 0 0 0 0 (takes x state p) (makes x state p) (λ s q. through_nothing P build xs s q takes makes)

through_keeps : {X S : Type 0} (P : S → Type 0) (build : X → S → Build S) (xs : List X) (state : S) → P state
    → ((x : X) (s : S) → P s → Makes P (build x s)) → Makes P (through build xs state)
unfolding through
through_keeps P build [] state p makes = makes-done P state p
through_keeps P build (x ∷ xs) state p makes =
    makes-bind P P (build x state) (through build xs) (makes x state p) (λ s q. through_keeps P build xs s q makes)

makes_cond : {X : Type 0} (P : X → Type 0) (b : Bool) (one other : Build X) → Makes P one → Makes P other → Makes P (cond b one other)
makes_cond P true one other h k = h
makes_cond P false one other h k = k

-- ---- windows

either_takes : (one other : Signal) → IsFalse one → IsFalse other → Takes (either one other) 0 0
either_takes one other e f =
    subst (λ s. Takes (either s other) 0 0) (sym e) (subst (λ s. Takes (either (Constant false) s) 0 0) (sym f)
    (record { vars = λ var. omega arith; clauses = λ var. omega arith }))

either_makes : (one other : Signal) → IsFalse one → IsFalse other → Makes IsFalse (either one other)
either_makes one other e f =
    subst (λ s. Makes IsFalse (either s other)) (sym e) (subst (λ s. Makes IsFalse (either (Constant false) s)) (sym f) (λ var. refl))

module _ (window : ℕ) (row : List Signal) (all : AreFalse row) where
  block_takes : (u : ℕ) (ends : List Signal) → AreFalse ends → Takes (to_block_end window row u ends) 0 0
  block_takes u ends h =
      takes-cond (nat_le (length row) (u / window * window + window)) (done (Constant false)) _ 0 0 (takes-done (Constant false))
      (takes-cond (nat_eq (u % window) (window - 1)) (done (signal_at row u)) _ 0 0 (takes-done (signal_at row u))
      (takes-cond (nat_eq (u % window) 0) (done (Constant false)) (either (signal_at ends (u + 1)) (signal_at row u)) 0 0 (takes-done (Constant false))
      (either_takes (signal_at ends (u + 1)) (signal_at row u) (at_false ends (u + 1) h) (at_false row u all))))

  block_makes : (u : ℕ) (ends : List Signal) → AreFalse ends → Makes IsFalse (to_block_end window row u ends)
  block_makes u ends h =
      makes_cond IsFalse (nat_le (length row) (u / window * window + window)) (done (Constant false)) _ (makes-done IsFalse (Constant false) refl)
      (makes_cond IsFalse (nat_eq (u % window) (window - 1)) (done (signal_at row u)) _ (makes-done IsFalse (signal_at row u) (at_false row u all))
      (makes_cond IsFalse (nat_eq (u % window) 0) (done (Constant false)) (either (signal_at ends (u + 1)) (signal_at row u))
      (makes-done IsFalse (Constant false) refl) (either_makes (signal_at ends (u + 1)) (signal_at row u) (at_false ends (u + 1) h) (at_false row u all))))

  tail_takes : (u : ℕ) (ends : List Signal) → AreFalse ends → Takes (next_tail window row u ends) 0 0
  tail_takes u ends h = takes-bind (to_block_end window row u ends) _ 0 0 0 0 (block_takes u ends h) (λ s. takes-done _)

  tail_makes : (u : ℕ) (ends : List Signal) → AreFalse ends → Makes AreFalse (next_tail window row u ends)
  tail_makes u ends h =
      makes-bind IsFalse AreFalse (to_block_end window row u ends) _ (block_makes u ends h)
      (λ s e. makes-done AreFalse (slice_set ends u s) (set_false ends u s e h))

  tails_take : Takes (tails window row) 0 0
  tails_take = through_nothing AreFalse (next_tail window row) (reverse (range_with_len 0 (length row))) _ (replicate_false (length row)) tail_takes tail_makes

  tails_make : Makes AreFalse (tails window row)
  tails_make = through_keeps AreFalse (next_tail window row) (reverse (range_with_len 0 (length row))) _ (replicate_false (length row)) tail_makes

  abbrev HasFalseHead : Lasting → Type 0
  HasFalseHead l = IsFalse l.head

  start_takes : (u : ℕ) (head : Signal) → IsFalse head → Takes (from_block_start window row u head) 0 0
  start_takes u head e =
      takes-cond (nat_eq (u % window) 0) (done (signal_at row u)) (either head (signal_at row u)) 0 0 (takes-done (signal_at row u))
      (either_takes head (signal_at row u) e (at_false row u all))

  start_makes : (u : ℕ) (head : Signal) → IsFalse head → Makes IsFalse (from_block_start window row u head)
  start_makes u head e =
      makes_cond IsFalse (nat_eq (u % window) 0) (done (signal_at row u)) (either head (signal_at row u))
      (makes-done IsFalse (signal_at row u) (at_false row u all)) (either_makes head (signal_at row u) e (at_false row u all))

  keep_takes : (ends : List Signal) → AreFalse ends → (u : ℕ) (so_far : List Signal) (head : Signal) → IsFalse head
      → Takes (keep_lasting window ends u so_far head) 0 0
  keep_takes ends h u so_far head e =
      takes-bind (over_window window ends u head) _ 0 0 0 0
      (takes-cond (nat_eq (u % window) (window - 1) || nat_lt u window) (done head) (either (signal_at ends (u + 1 - window)) head) 0 0 (takes-done head)
      (either_takes (signal_at ends (u + 1 - window)) head (at_false ends (u + 1 - window) h) e))
      (λ s. takes-done _)

  keep_makes : (ends : List Signal) (u : ℕ) (so_far : List Signal) (head : Signal) → IsFalse head
      → Makes HasFalseHead (keep_lasting window ends u so_far head)
  keep_makes ends u so_far head e =
      makes-bind (λ (s : Signal). Unit {0}) HasFalseHead (over_window window ends u head) _ (λ var. tt) (λ s h. makes-done HasFalseHead _ e)

  heads_take : (ends : List Signal) → AreFalse ends → Takes (heads window row ends) 0 0
  heads_take ends h =
      through_nothing HasFalseHead (next_lasting window row ends) (range_with_len 0 (length row)) (lasting (Constant false) []) refl
      (λ u l e. takes-bind_of IsFalse (from_block_start window row u l.head) (keep_lasting window ends u l.row) 0 0 0 0
      (start_takes u l.head e) (start_makes u l.head e) (keep_takes ends h u l.row))
      (λ u l e. makes-bind IsFalse HasFalseHead (from_block_start window row u l.head) (keep_lasting window ends u l.row)
      (start_makes u l.head e) (keep_makes ends u l.row))

  pub windowed_nothing : Takes (windowed window row) 0 0
  windowed_nothing =
      takes-bind_of AreFalse (tails window row) _ 0 0 0 0 tails_take tails_make
      (λ ends h. takes-bind (heads window row ends) (λ (l : Lasting). done l.row) 0 0 0 0 (heads_take ends h) (λ l. takes-done l.row))
