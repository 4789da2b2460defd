-- Members of lists, by tests of them.
use Rattle.std.proofs.Common.{◌≡◌, ℕ, ◌⊎◌, inl, inr, Bool, true, false, cond, filter, List, [], ◌∷◌, refl, sym, ◌∙◌, ap, subst}
use Rattle.std.specs.Prelude.{Contains}
use Rattle.std.specs.List.{list_any}
use Rattle.std.proofs.lemmas.Bool.{true≢false, and_parts, and_from}
use Rattle.std.proofs.lemmas.List.Elements.{All-contains, All-contains_itself, All-filter, filter_passes}
use Rattle.std.proofs.lemmas.List.Folds.{Any-from_list_any, list_any-from_Any}
use Rattle.coco_model.specs.Goals.{all_among, is_among}
use Rattle.coco_model.proofs.Basics.{Contains-here, Contains-later, Contains-cases, Contains-none, HasMember, some_from_any, any_from_member}
use Rattle.calm_reach.proofs.WalkLemmas.{member_of_any}
use Rattle.stable_sets.proofs.ShareLemmas.{has_of_member}

-- a test that some member passes
pub passing : {X : Type 0} (p : X → Bool) (xs : List X) → list_any p xs ≡ true → HasMember (λ x. p x ≡ true) xs
passing p xs e = some_from_any (λ x. p x ≡ true) xs (Any-from_list_any p xs e)

pub some_passes : {X : Type 0} (p : X → Bool) (xs : List X) (x : X) → Contains xs x → p x ≡ true → list_any p xs ≡ true
some_passes p xs x h e = list_any-from_Any p xs (any_from_member (λ y. p y ≡ true) xs x h e)

-- a filter keeps the members that pass
pub record IsKept {X : Type 0} (p : X → Bool) (xs : List X) (x : X) : Type 0 where
  pub listed : Contains xs x
  pub passes : p x ≡ true

pub is_kept : {X : Type 0} (p : X → Bool) (xs : List X) (x : X) → Contains (filter p xs) x → IsKept p xs x
is_kept p xs x h = record {
  listed = All-contains (Contains xs) (filter p xs) x (All-filter p (Contains xs) xs (All-contains_itself xs)) h;
  passes = All-contains (λ y. p y ≡ true) (filter p xs) x (filter_passes p xs) h;
}

pub kept : {X : Type 0} (p : X → Bool) (xs : List X) (x : X) → Contains xs x → p x ≡ true → Contains (filter p xs) x
kept p [] x h e = absurd (Contains-none x h)
kept p (y ∷ ys) x h e = go (p y) refl (Contains-cases y x ys h) (λ i. kept p ys x i e)
  where
    go : (b : Bool) → p y ≡ b → (y ≡ x) ⊎ Contains ys x → (Contains ys x → Contains (filter p ys) x)
        → Contains (cond b (y ∷ filter p ys) (filter p ys)) x
    go true passes (inl is) rest = subst (Contains (y ∷ filter p ys)) is (Contains-here y (filter p ys))
    go true passes (inr i) rest = Contains-later y x (filter p ys) (rest i)
    go false fails (inl is) rest = absurd (true≢false (sym e ∙ (ap p (sym is) ∙ fails)))
    go false fails (inr i) rest = rest i

-- numbers are all among others where these contain each
pub all_are_among : (labels ls : List ℕ) → ((l : ℕ) → Contains ls l → Contains labels l) → all_among labels ls ≡ true
all_are_among labels [] each = refl
all_are_among labels (k ∷ ks) each =
    and_from (is_among labels k) (all_among labels ks) (has_of_member k labels (each k (Contains-here k ks)))
    (all_are_among labels ks (λ l h. each l (Contains-later k l ks h)))

pub all_listed : (labels ls : List ℕ) → all_among labels ls ≡ true → (l : ℕ) → Contains ls l → Contains labels l
all_listed labels [] e l h = absurd (Contains-none l h)
all_listed labels (k ∷ ks) e l h =
    let parts = and_parts (is_among labels k) (all_among labels ks) e in
    elim (Contains-cases k l ks h) [
      | inl same ↦ subst (Contains labels) same (member_of_any k labels parts.0)
      | inr later ↦ all_listed labels ks parts.1 l later
    ]
