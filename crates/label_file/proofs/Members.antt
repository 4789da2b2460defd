-- Members of lists that functions make of lists, and lists without repeats.
use Rattle.std.proofs.Common.{◌≡◌, ◌⊎◌, inl, inr, List, [], ◌∷◌, ◌++◌, map, sym, subst}
use Rattle.std.specs.Prelude.{Contains, flat_map}
use Rattle.std.proofs.lemmas.List.Elements.{Contains-append_cases, Contains-append_left, Contains-append_right}
use Rattle.coco_model.specs.Netlist.{HasNoRepeat}
use Rattle.coco_model.proofs.Basics.{Contains-here, Contains-later, Contains-cases, Contains-none}

-- what a member of a list of results comes from
pub record IsMapped {X Y : Type 0} (f : X → Y) (xs : List X) (y : Y) : Type 0 where
  pub from : X
  pub listed : Contains xs from
  pub is : y ≡ f from

pub mapped : {X Y : Type 0} (f : X → Y) (xs : List X) (y : Y) → Contains (map f xs) y → IsMapped f xs y
mapped f [] y h = absurd (Contains-none y h)
mapped f (x ∷ xs) y h = go (Contains-cases (f x) y (map f xs) h) (mapped f xs y)
  where
    go : (f x ≡ y) ⊎ Contains (map f xs) y → (Contains (map f xs) y → IsMapped f xs y) → IsMapped f (x ∷ xs) y
    go (inl e) rest = record { from = x; listed = Contains-here x xs; is = sym e }
    go (inr i) rest =
        let r = rest i in
        record { from = r.from; listed = Contains-later x r.from xs r.listed; is = r.is }

pub map-member : {X Y : Type 0} (f : X → Y) (xs : List X) (x : X) → Contains xs x → Contains (map f xs) (f x)
map-member f [] x h = absurd (Contains-none x h)
map-member f (z ∷ zs) x h = go (Contains-cases z x zs h) (map-member f zs x)
  where
    go : (z ≡ x) ⊎ Contains zs x → (Contains zs x → Contains (map f zs) (f x)) → Contains (f z ∷ map f zs) (f x)
    go (inl e) rest = subst (λ w. Contains (f z ∷ map f zs) (f w)) e (Contains-here (f z) (map f zs))
    go (inr i) rest = Contains-later (f z) (f x) (map f zs) (rest i)

-- what a member of joined lists comes from
pub record IsJoined {X Y : Type 0} (f : X → List Y) (xs : List X) (y : Y) : Type 0 where
  pub from : X
  pub listed : Contains xs from
  pub inside : Contains (f from) y

pub joined : {X Y : Type 0} (f : X → List Y) (xs : List X) (y : Y) → Contains (flat_map f xs) y → IsJoined f xs y
joined f [] y h = absurd (Contains-none y h)
joined f (x ∷ xs) y h = go (Contains-append_cases (f x) (flat_map f xs) y h) (joined f xs y)
  where
    go : Contains (f x) y ⊎ Contains (flat_map f xs) y → (Contains (flat_map f xs) y → IsJoined f xs y) → IsJoined f (x ∷ xs) y
    go (inl i) rest = record { from = x; listed = Contains-here x xs; inside = i }
    go (inr i) rest =
        let r = rest i in
        record { from = r.from; listed = Contains-later x r.from xs r.listed; inside = r.inside }

pub join-member : {X Y : Type 0} (f : X → List Y) (xs : List X) (x : X) (y : Y) → Contains xs x → Contains (f x) y
    → Contains (flat_map f xs) y
join-member f [] x y h i = absurd (Contains-none x h)
join-member f (z ∷ zs) x y h i = go (Contains-cases z x zs h) (λ j. join-member f zs x y j i)
  where
    go : (z ≡ x) ⊎ Contains zs x → (Contains zs x → Contains (flat_map f zs) y) → Contains (f z ++ flat_map f zs) y
    go (inl e) rest = Contains-append_left (f z) (flat_map f zs) y (subst (λ w. Contains (f w) y) (sym e) i)
    go (inr j) rest = Contains-append_right (f z) (flat_map f zs) y (rest j)

-- ---- no repeats

pub once_before : {X : Type 0} (ns ys : List X) → HasNoRepeat ns → HasNoRepeat ys
    → ((l : X) → Contains ns l → Contains ys l → ⊥) → HasNoRepeat (ns ++ ys)
once_before [] ys one other apart = other
once_before (n ∷ ns) ys one other apart = (
  (λ h. go (Contains-append_cases ns ys n h)),
  once_before ns ys one.1 other (λ l i j. apart l (Contains-later n l ns i) j),
)
  where
    go : Contains ns n ⊎ Contains ys n → ⊥
    go (inl i) = one.0 i
    go (inr j) = apart n (Contains-here n ns) j

-- new members between two lists
pub once_between : {X : Type 0} (xs ns ys : List X) → HasNoRepeat (xs ++ ys) → HasNoRepeat ns
    → ((l : X) → Contains ns l → Contains (xs ++ ys) l → ⊥) → HasNoRepeat (xs ++ ns ++ ys)
once_between [] ns ys once new apart = once_before ns ys new once apart
once_between (x ∷ xs) ns ys once new apart = (
  (λ h. go (Contains-append_cases (xs ++ ns) ys x h)),
  once_between xs ns ys once.1 new (λ l i j. apart l i (Contains-later x l (xs ++ ys) j)),
)
  where
    front : Contains xs x ⊎ Contains ns x → ⊥
    front (inl i) = once.0 (Contains-append_left xs ys x i)
    front (inr i) = apart x i (Contains-here x (xs ++ ys))

    go : Contains (xs ++ ns) x ⊎ Contains ys x → ⊥
    go (inl i) = front (Contains-append_cases xs ns x i)
    go (inr i) = once.0 (Contains-append_right xs ys x i)

-- one member more
pub once_more : {X : Type 0} (xs : List X) (y : X) → HasNoRepeat xs → (Contains xs y → ⊥) → HasNoRepeat (xs ++ y ∷ [])
once_more xs y once new = once_before xs (y ∷ []) once ((λ h. Contains-none y h), tt) (λ l i j. go l i (Contains-cases y l [] j))
  where
    go : (l : _) → Contains xs l → (y ≡ l) ⊎ Contains [] l → ⊥
    go l i (inl e) = new (subst (Contains xs) (sym e) i)
    go l i (inr j) = Contains-none l j

-- results differ where the function tells members apart
pub once_mapped : {X Y : Type 0} (f : X → Y) (xs : List X) → HasNoRepeat xs → ((x y : X) → f x ≡ f y → x ≡ y) → HasNoRepeat (map f xs)
once_mapped f [] once differ = tt
once_mapped f (x ∷ xs) once differ = (
  (λ h. let r = mapped f xs (f x) h in once.0 (subst (Contains xs) (sym (differ x r.from r.is)) r.listed)),
  once_mapped f xs once.1 differ,
)

pub once_joined : {X Y : Type 0} (f : X → List Y) (xs : List X) → HasNoRepeat xs → ((x : X) → Contains xs x → HasNoRepeat (f x))
    → ((x y : X) (l : Y) → Contains xs x → Contains xs y → Contains (f x) l → Contains (f y) l → x ≡ y)
    → HasNoRepeat (flat_map f xs)
once_joined f [] once each differ = tt
once_joined f (x ∷ xs) once each differ =
    once_before (f x) (flat_map f xs) (each x (Contains-here x xs))
    (once_joined f xs once.1 (λ a i. each a (Contains-later x a xs i)) (λ a b l i j. differ a b l (Contains-later x a xs i) (Contains-later x b xs j)))
    (λ l i j. let r = joined f xs l j in once.0 (subst (Contains xs) (sym (differ x r.from l (Contains-here x xs) (Contains-later x r.from xs r.listed) i r.inside)) r.listed))
