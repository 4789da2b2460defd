-- Members of lists, by the list's head and tail.
use Rattle.std.proofs.Common.{◌≡◌, zero, suc, ◌⊎◌, inl, inr, List, [], ◌∷◌, refl, subst, arith}
use Rattle.std.specs.Prelude.{Contains, Any}

pub Contains-here : {X : Type 0} (x : X) (xs : List X) → Contains (x ∷ xs) x
Contains-here x xs = (0, omega arith, refl)

pub Contains-later : {X : Type 0} (x y : X) (xs : List X) → Contains xs y → Contains (x ∷ xs) y
Contains-later x y xs (k, below, is) = (suc k, omega arith, is)

pub Contains-cases : {X : Type 0} (x y : X) (xs : List X) → Contains (x ∷ xs) y → (x ≡ y) ⊎ Contains xs y
Contains-cases x y xs (zero, below, is) = inl is
Contains-cases x y xs (suc k, below, is) = inr (k, omega arith, is)

pub Contains-none : {X : Type 0} (y : X) → Contains [] y → ⊥
Contains-none y (k, below, is) = omega arith

-- what holds of the one member of a list holds of each
pub only_member : {X : Type 0} (P : X → Type 0) (x : X) → P x → (y : X) → Contains (x ∷ []) y → P y
only_member P x p y h = go (Contains-cases x y [] h)
  where
    go : (x ≡ y) ⊎ Contains [] y → P y
    go (inl e) = subst P e p
    go (inr none) = absurd (Contains-none y none)

-- a member of which P holds
pub record HasMember {X : Type 0} (P : X → Type 0) (xs : List X) : Type 0 where
  pub member : X
  pub listed : Contains xs member
  pub holds : P member

pub some_from_any : {X : Type 0} (P : X → Type 0) (xs : List X) → Any P xs → HasMember P xs
some_from_any P xs (k, x, below, is, p) = record { member = x; listed = (k, below, is); holds = p }

pub any_from_member : {X : Type 0} (P : X → Type 0) (xs : List X) (x : X) → Contains xs x → P x → Any P xs
any_from_member P xs x (k, below, is) p = (k, x, below, is, p)
