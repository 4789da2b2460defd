-- A row that is there stays there at each use.
use Rattle.std.proofs.Common.{◌≡◌, ◌||◌, ◌∙◌, ◌++◌, Bool, true, false, List, [], ◌∷◌, Some, None, ap, bytes_eq, cond, refl, sym}
use Rattle.clap.specs.Walk.{Row, has_row, more_values, with_values, without}
use Rattle.clap.specs.declared.builder.value_parser.Reading.TheVariants.{AsWritten}
use Rattle.clap.specs.declared.parser.matches.ValueSource.TheVariants.{CommandLine}
use Rattle.command_words.specs.Tables.{Argument, Text}
use Rattle.command_words.proofs.Rules.{bytes_eq-equal, bytes_eq-same}

-- the rows after a use of this name with this value
abbrev pub used_by : Text → Text → List Row → List Row
used_by n v rows = with_values n AsWritten CommandLine (v ∷ []) rows

abbrev pub after_use : Argument → Text → List Row → List Row
after_use a v rows = used_by a.name v (without a.name rows)

abbrev pub row_for : Text → Text → Row
row_for n v = record { id = n; values = v ∷ []; count = None; source = Some CommandLine; reading = AsWritten }

or_true : (b : Bool) → b || true ≡ true
or_true true = refl
or_true false = refl

or_keeps : (b x y : Bool) → b || x ≡ true → (x ≡ true → y ≡ true) → b || y ≡ true
or_keeps true x y h next = refl
or_keeps false x y h next = next h

-- the row after one more use
abbrev changed : Text → Row → List Row → List Row
changed v r rs = more_values CommandLine (v ∷ []) r ++ rs

used_there : (n v : Text) (rows : List Row) → has_row n (used_by n v rows) ≡ true
used_there n v [] = ap (λ b. b || false) (bytes_eq-same n)
used_there n v (r ∷ rs) = go (bytes_eq r.id n) refl (used_there n v rs)
  where
    go : (b : Bool) → bytes_eq r.id n ≡ b → has_row n (used_by n v rs) ≡ true
        → has_row n (cond b (changed v r rs) (r ∷ used_by n v rs)) ≡ true
    go true e h = ap (λ b. b || has_row n rs) e
    go false e h = ap (λ x. bytes_eq r.id n || x) h ∙ or_true (bytes_eq r.id n)

used_keeps : (m n v : Text) (rows : List Row) → has_row m rows ≡ true → has_row m (used_by n v rows) ≡ true
used_keeps m n v [] h = cc
used_keeps m n v (r ∷ rs) h = go (bytes_eq r.id n) (used_keeps m n v rs)
  where
    go : (b : Bool) → (has_row m rs ≡ true → has_row m (used_by n v rs) ≡ true)
        → has_row m (cond b (changed v r rs) (r ∷ used_by n v rs)) ≡ true
    go true next = h
    go false next = or_keeps (bytes_eq r.id m) _ _ h next

-- ---- another name

without_keeps : (m n : Text) (rows : List Row) → bytes_eq n m ≡ false → has_row m (without n rows) ≡ has_row m rows
without_keeps m n [] h = refl
without_keeps m n (r ∷ rs) h = go (bytes_eq r.id n) refl (without_keeps m n rs h)
  where
    go : (b : Bool) → bytes_eq r.id n ≡ b → has_row m (without n rs) ≡ has_row m rs
        → has_row m (cond b rs (r ∷ without n rs)) ≡ (bytes_eq r.id m || has_row m rs)
    go true e next = sym (ap (λ b. b || has_row m rs) (ap (λ x. bytes_eq x m) (bytes_eq-equal r.id n e) ∙ h))
    go false e next = ap (λ x. bytes_eq r.id m || x) next

pub stays : (m : Text) (a : Argument) (v : Text) (rows : List Row) → has_row m rows ≡ true → has_row m (after_use a v rows) ≡ true
stays m a v rows h = go (bytes_eq a.name m) refl
  where
    go : (b : Bool) → bytes_eq a.name m ≡ b → has_row m (after_use a v rows) ≡ true
    go true e = ap (λ x. has_row x (after_use a v rows)) (sym (bytes_eq-equal a.name m e)) ∙ used_there a.name v (without a.name rows)
    go false e = used_keeps m a.name v (without a.name rows) (without_keeps m a.name rows e ∙ h)

pub there : (a : Argument) (v : Text) (rows : List Row) → has_row a.name (after_use a v rows) ≡ true
there a v rows = used_there a.name v (without a.name rows)
