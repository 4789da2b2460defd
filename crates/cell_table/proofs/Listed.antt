-- Tests over listed input values, which compute, and the rules that they show.
use Rattle.std.proofs.Common.{◌≡◌, ◌≢◌, ℕ, Bool, true, false, not, ◌&&◌, ◌||◌, List, [], ◌∷◌, ◌++◌, map, get_or, set, refl, sym, ◌∙◌, inl, inr, ◌⊎◌, arith}
use Rattle.std.proofs.lemmas.Bool.{and_parts, or_cases, true≢false, false≢true, not-true, cases_Bool, or_parts, and_from, not_from_false, both_ways}
use Rattle.coco_base.specs.declared.cell.Kind.{Kind}
use Rattle.coco_base.specs.declared.cell.Part.{Part}
use Rattle.coco_base.specs.declared.cell.Part.TheVariants.{Zero, One, Vary}
use Rattle.coco_model.specs.Cells.{xor, output_of, AllowsAll, IsForced, IsLiveInput, allowed_inputs}
use Rattle.cell_table.specs.Live.{varies}

-- a test holds of each member
abbrev pub every : {X : Type 0} → (X → Bool) → List X → Bool
every f [] = true
every f (x ∷ xs) = f x && every f xs

-- a test holds of some member
abbrev pub some : {X : Type 0} → (X → Bool) → List X → Bool
some f [] = false
some f (x ∷ xs) = f x || some f xs

pub every-append : {X : Type 0} (f : X → Bool) (xs ys : List X) → every f (xs ++ ys) ≡ true → (every f xs ≡ true) × (every f ys ≡ true)
every-append f [] ys h = (refl, h)
every-append f (x ∷ xs) ys h = let p = and_parts (f x) (every f (xs ++ ys)) h in let r = every-append f xs ys p.1 in (grind (arith, p.0, r.0), r.1)

pub every-map : {X Y : Type 0} (f : Y → Bool) (g : X → Y) (xs : List X) → every f (map g xs) ≡ every (λ x. f (g x)) xs
every-map f g [] = refl
every-map f g (x ∷ xs) = rw (every-map f g xs) refl

some-append : {X : Type 0} (f : X → Bool) (xs ys : List X) → some f (xs ++ ys) ≡ true → (some f xs ≡ true) ⊎ (some f ys ≡ true)
some-append f [] ys h = inr h
some-append f (x ∷ xs) ys h = first (or_cases (f x) (some f (xs ++ ys)) h) (λ e. some-append f xs ys e)
  where
    rest : (some f xs ≡ true) ⊎ (some f ys ≡ true) → ((f x || some f xs) ≡ true) ⊎ (some f ys ≡ true)
    rest (inl e) = inl (grind (arith, e))
    rest (inr e) = inr e

    first : (f x ≡ true) ⊎ (some f (xs ++ ys) ≡ true) → (some f (xs ++ ys) ≡ true → (some f xs ≡ true) ⊎ (some f ys ≡ true)) → ((f x || some f xs) ≡ true) ⊎ (some f ys ≡ true)
    first (inl e) k = inl (rw e refl)
    first (inr e) k = rest (k e)

some-map : {X Y : Type 0} (f : Y → Bool) (g : X → Y) (xs : List X) → some f (map g xs) ≡ some (λ x. f (g x)) xs
some-map f g [] = refl
some-map f g (x ∷ xs) = rw (some-map f g xs) refl

-- from one side of an equation of tests to the other
via : {a b : Bool} → a ≡ b → a ≡ true → b ≡ true
via e h = sym e ∙ h

-- what holds of every list of input values that is listed holds of each that the parts allow
pub every_allowed : (f : List Bool → Bool) (ps : List Part) → every f (allowed_inputs ps) ≡ true → (bs : List Bool) → AllowsAll ps bs → f bs ≡ true
every_allowed f [] h [] a = (and_parts (f []) true h).0
every_allowed f [] h (b ∷ bs) a = absurd a
every_allowed f (p ∷ ps) h [] a = absurd a
every_allowed f (Zero ∷ ps) h (b ∷ bs) a = rw (a.0) (every_allowed (λ xs. f (false ∷ xs)) ps (via (every-map f (λ (xs : List Bool). false ∷ xs) (allowed_inputs ps)) h) bs a.1)
every_allowed f (One ∷ ps) h (b ∷ bs) a = rw (a.0) (every_allowed (λ xs. f (true ∷ xs)) ps (via (every-map f (λ (xs : List Bool). true ∷ xs) (allowed_inputs ps)) h) bs a.1)
every_allowed f (Vary ∷ ps) h (false ∷ bs) a =
    let r = every-append f (map (λ (xs : List Bool). false ∷ xs) (allowed_inputs ps)) (map (λ (xs : List Bool). true ∷ xs) (allowed_inputs ps)) h in
    every_allowed (λ xs. f (false ∷ xs)) ps (via (every-map f (λ (xs : List Bool). false ∷ xs) (allowed_inputs ps)) r.0) bs a.1
every_allowed f (Vary ∷ ps) h (true ∷ bs) a =
    let r = every-append f (map (λ (xs : List Bool). false ∷ xs) (allowed_inputs ps)) (map (λ (xs : List Bool). true ∷ xs) (allowed_inputs ps)) h in
    every_allowed (λ xs. f (true ∷ xs)) ps (via (every-map f (λ (xs : List Bool). true ∷ xs) (allowed_inputs ps)) r.1) bs a.1

-- a test that holds of some listed input values has such values, which the parts allow
pub record SomeAllowed (f : List Bool → Bool) (ps : List Part) : Type 0 where
  pub inputs : List Bool
  pub allowed : AllowsAll ps inputs
  pub holds : f inputs ≡ true

pub some_allowed : (f : List Bool → Bool) (ps : List Part) → some f (allowed_inputs ps) ≡ true → SomeAllowed f ps
some_allowed f [] h = record { inputs = []; allowed = tt; holds = only (or_cases (f []) false h) }
  where
    only : (f [] ≡ true) ⊎ (false ≡ true) → f [] ≡ true
    only (inl e) = e
    only (inr e) = absurd (false≢true e)
some_allowed f (Zero ∷ ps) h =
    let r = some_allowed (λ xs. f (false ∷ xs)) ps (via (some-map f (λ (xs : List Bool). false ∷ xs) (allowed_inputs ps)) h) in
    record { inputs = false ∷ r.inputs; allowed = (refl, r.allowed); holds = r.holds }
some_allowed f (One ∷ ps) h =
    let r = some_allowed (λ xs. f (true ∷ xs)) ps (via (some-map f (λ (xs : List Bool). true ∷ xs) (allowed_inputs ps)) h) in
    record { inputs = true ∷ r.inputs; allowed = (refl, r.allowed); holds = r.holds }
some_allowed f (Vary ∷ ps) h =
    go (some-append f (map (λ (xs : List Bool). false ∷ xs) (allowed_inputs ps)) (map (λ (xs : List Bool). true ∷ xs) (allowed_inputs ps)) h)
    (λ e. some_allowed (λ xs. f (false ∷ xs)) ps e) (λ e. some_allowed (λ xs. f (true ∷ xs)) ps e)
  where
    go : (some f (map (λ (xs : List Bool). false ∷ xs) (allowed_inputs ps)) ≡ true) ⊎ (some f (map (λ (xs : List Bool). true ∷ xs) (allowed_inputs ps)) ≡ true)
        → (some (λ xs. f (false ∷ xs)) (allowed_inputs ps) ≡ true → SomeAllowed (λ xs. f (false ∷ xs)) ps)
        → (some (λ xs. f (true ∷ xs)) (allowed_inputs ps) ≡ true → SomeAllowed (λ xs. f (true ∷ xs)) ps) → SomeAllowed f (Vary ∷ ps)
    go (inl e) zero_side one_side =
        let r = zero_side (via (some-map f (λ (xs : List Bool). false ∷ xs) (allowed_inputs ps)) e) in
        record { inputs = false ∷ r.inputs; allowed = (tt, r.allowed); holds = r.holds }
    go (inr e) zero_side one_side =
        let r = one_side (via (some-map f (λ (xs : List Bool). true ∷ xs) (allowed_inputs ps)) e) in
        record { inputs = true ∷ r.inputs; allowed = (tt, r.allowed); holds = r.holds }

-- what holds of allowed input values holds of some that are listed
pub allowed_some : (f : List Bool → Bool) (ps : List Part) (bs : List Bool) → AllowsAll ps bs → f bs ≡ true → some f (allowed_inputs ps) ≡ true
allowed_some f ps bs a h = go (cases_Bool (some f (allowed_inputs ps)))
  where
    none : (xs : List (List Bool)) → some f xs ≡ false → every (λ x. not (f x)) xs ≡ true
    none [] e = refl
    none (x ∷ xs) e = let p = or_parts (f x) (some f xs) e in and_from (not (f x)) (every (λ x. not (f x)) xs) (not_from_false (f x) p.0) (none xs p.1)

    go : (some f (allowed_inputs ps) ≡ true) ⊎ (some f (allowed_inputs ps) ≡ false) → some f (allowed_inputs ps) ≡ true
    go (inl e) = e
    go (inr e) = let n = every_allowed (λ x. not (f x)) ps (none (allowed_inputs ps) e) bs a in absurd (both_ways (f bs) (not-true (f bs) n) h)

-- the parts force what a test over the listed input values says
abbrev pub forces_test : Kind → List Part → Part → Bool
forces_test kind ps Zero = every (λ xs. not (output_of kind xs)) (allowed_inputs ps)
forces_test kind ps One = every (λ xs. output_of kind xs) (allowed_inputs ps)
forces_test kind ps Vary = some (λ xs. output_of kind xs) (allowed_inputs ps) && some (λ xs. not (output_of kind xs)) (allowed_inputs ps)

pub forced_from_test : (kind : Kind) (ps : List Part) (r : Part) → forces_test kind ps r ≡ true → IsForced kind ps r
forced_from_test kind ps Zero h = λ inputs a. not-true _ (every_allowed (λ xs. not (output_of kind xs)) ps h inputs a)
forced_from_test kind ps One h = λ inputs a. every_allowed (λ xs. output_of kind xs) ps h inputs a
forced_from_test kind ps Vary h =
    let p = and_parts (some (λ xs. output_of kind xs) (allowed_inputs ps)) (some (λ xs. not (output_of kind xs)) (allowed_inputs ps)) h in
    let one = some_allowed (λ xs. output_of kind xs) ps p.0 in
    let zero = some_allowed (λ xs. not (output_of kind xs)) ps p.1 in
    (λ all. both_ways _ (all one.inputs one.allowed) one.holds, λ all. both_ways _ (not-true _ zero.holds) (all zero.inputs zero.allowed))

-- a place is live where a test over the listed input values says so
abbrev pub changes : Kind → ℕ → List Bool → Bool
changes kind place xs = xor (output_of kind (set xs place false)) (output_of kind (set xs place true))

abbrev pub live_test : Kind → List Part → ℕ → Bool
live_test kind ps place = varies (get_or ps place Zero) && some (changes kind place) (allowed_inputs ps)

vary_from : (p : Part) → varies p ≡ true → p ≡ Vary
vary_from Zero h = absurd (false≢true h)
vary_from One h = absurd (false≢true h)
vary_from Vary h = refl

pub xor_differ : (x y : Bool) → xor x y ≡ true → x ≢ y
xor_differ true true h e = absurd (false≢true h)
xor_differ true false h e = absurd (true≢false e)
xor_differ false true h e = absurd (false≢true e)
xor_differ false false h e = absurd (false≢true h)

differ_xor : (x y : Bool) → x ≢ y → xor x y ≡ true
differ_xor true true h = absurd (h refl)
differ_xor true false h = refl
differ_xor false true h = refl
differ_xor false false h = absurd (h refl)

pub live_from_test : (kind : Kind) (ps : List Part) (place : ℕ) → live_test kind ps place ≡ true → IsLiveInput kind ps place
live_from_test kind ps place h =
    let p = and_parts (varies (get_or ps place Zero)) (some (changes kind place) (allowed_inputs ps)) h in
    let s = some_allowed (changes kind place) ps p.1 in
    record { varies = vary_from _ p.0; inputs = s.inputs; allowed = s.allowed; changes = xor_differ _ _ s.holds }

pub test_from_live : (kind : Kind) (ps : List Part) (place : ℕ) → IsLiveInput kind ps place → live_test kind ps place ≡ true
test_from_live kind ps place l =
    rw (l.varies) (allowed_some (changes kind place) ps l.inputs l.allowed (differ_xor _ _ l.changes))
