-- Members of lists that are mapped, searched or joined.
use Rattle.std.proofs.Common.{◌≡◌, ℕ, zero, suc, ◌⊎◌, inl, inr, List, [], ◌∷◌, ◌++◌, map, refl, sym, ap, subst}
use Rattle.std.specs.Prelude.{Contains, flat_map, slice_get, Some}
use Rattle.std.proofs.lemmas.Bool.{cases_eq}
use Rattle.std.proofs.lemmas.List.Elements.{Contains-append_cases, Contains-append_left, Contains-append_right}
use Rattle.coco_model.proofs.Basics.{Contains-here, Contains-later, Contains-cases, Contains-none, HasMember}

-- a member of a mapped list is the image of a member
pub record IsImage {X Y : Type 0} (f : X → Y) (xs : List X) (y : Y) : Type 0 where
  pub source : X
  pub listed : Contains xs source
  pub image : f source ≡ y

pub Contains-map : {X Y : Type 0} (f : X → Y) (xs : List X) (x : X) → Contains xs x → Contains (map f xs) (f x)
Contains-map f [] x h = absurd (Contains-none x h)
Contains-map f (y ∷ xs) x h = go (Contains-cases y x xs h) (λ i. Contains-map f xs x i)
  where
    go : (y ≡ x) ⊎ Contains xs x → (Contains xs x → Contains (map f xs) (f x)) → Contains (f y ∷ map f xs) (f x)
    go (inl e) rest = subst (λ z. Contains (f y ∷ map f xs) (f z)) e (Contains-here (f y) (map f xs))
    go (inr i) rest = Contains-later (f y) (f x) (map f xs) (rest i)

pub image_of_map : {X Y : Type 0} (f : X → Y) (xs : List X) (y : Y) → Contains (map f xs) y → IsImage f xs y
image_of_map f [] y h = absurd (Contains-none y h)
image_of_map f (x ∷ xs) y h = go (Contains-cases (f x) y (map f xs) h) (λ i. image_of_map f xs y i)
  where
    go : (f x ≡ y) ⊎ Contains (map f xs) y → (Contains (map f xs) y → IsImage f xs y) → IsImage f (x ∷ xs) y
    go (inl e) rest = record { source = x; listed = Contains-here x xs; image = e }
    go (inr i) rest = let r = rest i in record { source = r.source; listed = Contains-later x r.source xs r.listed; image = r.image }

-- a member of lists that are joined is one of one of them
pub record IsJoined {X Y : Type 0} (f : X → List Y) (xs : List X) (y : Y) : Type 0 where
  pub source : X
  pub listed : Contains xs source
  pub member : Contains (f source) y

pub joined_of_flat_map : {X Y : Type 0} (f : X → List Y) (xs : List X) (y : Y) → Contains (flat_map f xs) y → IsJoined f xs y
joined_of_flat_map f [] y h = absurd (Contains-none y h)
joined_of_flat_map f (x ∷ xs) y h = go (Contains-append_cases (f x) (flat_map f xs) y h) (λ i. joined_of_flat_map f xs y i)
  where
    go : Contains (f x) y ⊎ Contains (flat_map f xs) y → (Contains (flat_map f xs) y → IsJoined f xs y) → IsJoined f (x ∷ xs) y
    go (inl i) rest = record { source = x; listed = Contains-here x xs; member = i }
    go (inr i) rest = let r = rest i in record { source = r.source; listed = Contains-later x r.source xs r.listed; member = r.member }

pub Contains-flat_map : {X Y : Type 0} (f : X → List Y) (xs : List X) (x : X) (y : Y) → Contains xs x → Contains (f x) y
    → Contains (flat_map f xs) y
Contains-flat_map f [] x y h i = absurd (Contains-none x h)
Contains-flat_map f (z ∷ xs) x y h i = go (Contains-cases z x xs h) (λ j. Contains-flat_map f xs x y j i)
  where
    go : (z ≡ x) ⊎ Contains xs x → (Contains xs x → Contains (flat_map f xs) y) → Contains (f z ++ flat_map f xs) y
    go (inl e) rest = Contains-append_left (f z) (flat_map f xs) y (subst (λ u. Contains (f u) y) (sym e) i)
    go (inr j) rest = Contains-append_right (f z) (flat_map f xs) y (rest j)

-- a list has a member of which P holds, or none, where P is decided of members
pub some_member_or_none : {X : Type 0} (P : X → Type 0) (xs : List X) → ((x : X) → Contains xs x → P x ⊎ (P x → ⊥))
    → HasMember P xs ⊎ ((x : X) → Contains xs x → P x → ⊥)
some_member_or_none P [] decide = inr (λ x h p. Contains-none x h)
some_member_or_none P (x ∷ xs) decide =
    go (decide x (Contains-here x xs)) (some_member_or_none P xs (λ y h. decide y (Contains-later x y xs h)))
  where
    go : P x ⊎ (P x → ⊥) → HasMember P xs ⊎ ((y : _) → Contains xs y → P y → ⊥) → HasMember P (x ∷ xs) ⊎ ((y : _) → Contains (x ∷ xs) y → P y → ⊥)
    go (inl p) rest = inl (record { member = x; listed = Contains-here x xs; holds = p })
    go (inr n) (inl s) = inl (record { member = s.member; listed = Contains-later x s.member xs s.listed; holds = s.holds })
    go (inr n) (inr none) = inr (λ y h p. later y p (Contains-cases x y xs h))
      where
        later : (y : _) → P y → (x ≡ y) ⊎ Contains xs y → ⊥
        later y p (inl e) = n (subst P (sym e) p)
        later y p (inr i) = none y i p

pub some_or_none : {X : Type 0} (P : X → Type 0) → ((x : X) → P x ⊎ (P x → ⊥)) → (xs : List X)
    → HasMember P xs ⊎ ((x : X) → Contains xs x → P x → ⊥)
some_or_none P decide xs = some_member_or_none P xs (λ x h. decide x)

-- P holds of every member of a list, or not of some
pub all_or_not : {X : Type 0} (P : X → Type 0) → ((x : X) → P x ⊎ (P x → ⊥)) → (xs : List X)
    → ((x : X) → Contains xs x → P x) ⊎ (((x : X) → Contains xs x → P x) → ⊥)
all_or_not P decide [] = inl (λ x h. absurd (Contains-none x h))
all_or_not P decide (x ∷ xs) = go (decide x) (all_or_not P decide xs)
  where
    go : P x ⊎ (P x → ⊥) → ((y : _) → Contains xs y → P y) ⊎ (((y : _) → Contains xs y → P y) → ⊥)
        → ((y : _) → Contains (x ∷ xs) y → P y) ⊎ (((y : _) → Contains (x ∷ xs) y → P y) → ⊥)
    go (inl p) (inl all) = inl (λ y h. each y (Contains-cases x y xs h))
      where
        each : (y : _) → (x ≡ y) ⊎ Contains xs y → P y
        each y (inl e) = subst P e p
        each y (inr i) = all y i
    go (inl p) (inr not_all) = inr (λ all. not_all (λ y h. all y (Contains-later x y xs h)))
    go (inr n) rest = inr (λ all. n (all x (Contains-here x xs)))

pub contains_or_not : (xs : List ℕ) (x : ℕ) → Contains xs x ⊎ (Contains xs x → ⊥)
contains_or_not xs x = go (some_or_none (λ y. y ≡ x) (λ y. cases_eq y x) xs)
  where
    go : HasMember (λ y. y ≡ x) xs ⊎ ((y : ℕ) → Contains xs y → y ≡ x → ⊥) → Contains xs x ⊎ (Contains xs x → ⊥)
    go (inl s) = inl (subst (Contains xs) s.holds s.listed)
    go (inr none) = inr (λ h. none x h refl)

-- the place of a member
pub record IsPlace {X : Type 0} (xs : List X) (x : X) : Type 0 where
  pub place : ℕ
  pub at : slice_get xs place ≡ Some x

pub place_of_member : {X : Type 0} (xs : List X) (x : X) → Contains xs x → IsPlace xs x
place_of_member [] x h = absurd (Contains-none x h)
place_of_member (y ∷ xs) x h = go (Contains-cases y x xs h) (λ i. place_of_member xs x i)
  where
    go : (y ≡ x) ⊎ Contains xs x → (Contains xs x → IsPlace xs x) → IsPlace (y ∷ xs) x
    go (inl e) rest = record { place = 0; at = ap Some e }
    go (inr i) rest = let r = rest i in record { place = suc r.place; at = r.at }

pub member_of_place : {X : Type 0} (xs : List X) (i : ℕ) (x : X) → slice_get xs i ≡ Some x → Contains xs x
member_of_place [] i x e = absurd cc
member_of_place (y ∷ xs) zero x e = subst (Contains (y ∷ xs)) (let p : y ≡ x = cc in p) (Contains-here y xs)
member_of_place (y ∷ xs) (suc i) x e = Contains-later y x xs (member_of_place xs i x e)
