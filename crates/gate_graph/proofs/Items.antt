-- Items of lists by their places.
use Rattle.std.proofs.Common.{◌≡◌, ◌≢◌, ℕ, zero, suc, ◌+◌, ◌<◌, ◌≤◌, ◌⊎◌, inl, inr, List, [], ◌∷◌, ◌++◌, map, length, get_or, set, take, drop, refl, sym, ◌∙◌, ap, subst, arith}
use Rattle.std.specs.Prelude.{Contains, slice_get, Option, Some, None}
use Rattle.std.proofs.lemmas.Bool.{cases_order}
use Rattle.std.proofs.lemmas.List.{drop_more, take_more}
use Rattle.model_laws.proofs.Lists.{place_of_member}

-- what is read at a place is the head of the rest
pub item_at : {X : Type 0} (xs : List X) (i : ℕ) (x : X) → i < length xs → x ≡ get_or xs i x → drop i xs ≡ x ∷ drop (i + 1) xs
item_at xs i x h e = drop_more xs i x h ∙ ap (λ y. y ∷ drop (i + 1) xs) (sym e)

pub taken_at : {X : Type 0} (xs : List X) (i : ℕ) (x : X) → i < length xs → x ≡ get_or xs i x → take (i + 1) xs ≡ take i xs ++ x ∷ []
taken_at xs i x h e = take_more xs i x h ∙ ap (λ y. take i xs ++ y ∷ []) (sym e)

pub place_below : {X : Type 0} (xs : List X) (i : ℕ) (x : X) → slice_get xs i ≡ Some x → i < length xs
place_below [] i x at = absurd cc
place_below (y ∷ xs) zero x at = omega arith
place_below (y ∷ xs) (suc i) x at = let b = place_below xs i x at in omega arith

-- what stands at a place of a list
pub some_at : {X : Type 0} (xs : List X) (i : ℕ) (d : X) → i < length xs → slice_get xs i ≡ Some (get_or xs i d)
some_at [] i d h = absurd (omega arith)
some_at (x ∷ xs) zero d h = refl
some_at (x ∷ xs) (suc i) d h = some_at xs i d (omega arith)

pub read_at : {X : Type 0} (xs : List X) (i : ℕ) (x : X) → i < length xs → x ≡ get_or xs i x → slice_get xs i ≡ Some x
read_at xs i x h e = some_at xs i x h ∙ ap Some (sym e)

pub get_at : {X : Type 0} (xs : List X) (i : ℕ) (x d : X) → slice_get xs i ≡ Some x → get_or xs i d ≡ x
get_at [] i x d at = absurd cc
get_at (y ∷ xs) zero x d at = cc
get_at (y ∷ xs) (suc i) x d at = get_at xs i x d at

-- one place holds one item
pub same_at : {X : Type 0} (xs : List X) (i : ℕ) (x y : X) → slice_get xs i ≡ Some x → slice_get xs i ≡ Some y → x ≡ y
same_at xs i x y at_x at_y = let e : Some x ≡ Some y = sym at_x ∙ at_y in cc

-- what holds of the items below a place, and of the item at it, holds of those below the next
pub each_more : {X : Type 0} (P : X → Type 0) (xs : List X) (i : ℕ) (x : X) → slice_get xs i ≡ Some x → P x
    → ((k : ℕ) (y : X) → k < i → slice_get xs k ≡ Some y → P y) → (k : ℕ) (y : X) → k < i + 1 → slice_get xs k ≡ Some y → P y
each_more {X} P xs i x at holds each k y h at_k = go (cases_order k i)
  where
    go : (k ≡ i) ⊎ ((k < i) ⊎ (i < k)) → P y
    go (inl e) = subst P (same_at xs i x y at (sym (ap (slice_get xs) e) ∙ at_k)) holds
    go (inr (inl below)) = each k y below at_k
    go (inr (inr above)) = absurd (omega arith)

-- what holds of the items at all places holds of all members
pub by_place : {X : Type 0} (P : X → Type 0) (xs : List X) (n : ℕ) → length xs ≤ n → ((k : ℕ) (x : X) → k < n → slice_get xs k ≡ Some x → P x)
    → (x : X) → Contains xs x → P x
by_place P xs n high each x listed =
    let p = place_of_member xs x listed in
    each p.place x (let b = place_below xs p.place x p.at in omega arith) p.at

-- a place of a list has an item
pub record HasItem {X : Type 0} (xs : List X) (i : ℕ) : Type 0 where
  pub item : X
  pub at : slice_get xs i ≡ Some item

pub item_of : {X : Type 0} (xs : List X) (i : ℕ) → i < length xs → HasItem xs i
item_of [] i h = absurd (omega arith)
item_of (x ∷ xs) zero h = record { item = x; at = refl }
item_of (x ∷ xs) (suc i) h = let r = item_of xs i (omega arith) in record { item = r.item; at = r.at }
