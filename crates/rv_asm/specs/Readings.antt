-- Readings of the front of a line: a value and the bytes after it, or none.
use Rattle.std.specs.Prelude.{◌≡◌, ℕ, zero, suc, List, [], ◌∷◌, length, Option, Some, None, Result, Ok, Err}
use Rattle.rv_asm.specs.declared.line.reading.Unread.{Unread}
use Rattle.rv_asm.specs.declared.line.reading.Unread.TheVariants.{Memory, Other}

infixl 10 ◌>>=◌
abbrev pub ◌>>=◌ : {A B : Type 0} → Option A → (A → Option B) → Option B
None >>= f = None
(Some x) >>= f = f x

-- ---- what a function of the code gives

abbrev pub Fails : {Y : Type 0} → Unread → Option Y → Type 0
Fails Memory read = Unit {0}
Fails Other read = read ≡ None

-- what a function returned, seen by view, is what reading gives, unless memory ran out
abbrev pub Gives : {X Y : Type 0} → (X → Y) → Result X Unread → Option Y → Type 0
Gives view (Ok x) read = read ≡ Some (view x)
Gives view (Err e) read = Fails e read

-- ---- one after the other

-- what joins a first item to those after it
abbrev pub with_first : {A : Type 0} → A → List A × List ℕ → List A × List ℕ
with_first x more = (x ∷ more.0, more.1)

abbrev pub from_first : {A : Type 0} → List ℕ → (List ℕ → List A × List ℕ) → Option (A × List ℕ) → List A × List ℕ
from_first bytes onwards None = ([], bytes)
from_first bytes onwards (Some first) = with_first first.0 (onwards first.1)

-- up to n items at the front, one after the other, and what follows them
abbrev pub items_up_to : {A : Type 0} → (List ℕ → Option (A × List ℕ)) → ℕ → List ℕ → List A × List ℕ
items_up_to item zero bytes = ([], bytes)
items_up_to item (suc n) bytes = from_first bytes (items_up_to item n) (item bytes)

-- all items at the front: each takes a byte or more, so there are no more than bytes
abbrev pub items_at : {A : Type 0} → (List ℕ → Option (A × List ℕ)) → List ℕ → List A × List ℕ
items_at item bytes = items_up_to item (length bytes) bytes
