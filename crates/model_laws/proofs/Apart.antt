-- Lists without repeats, and look-ups in them.
use Rattle.std.proofs.Common.{◌≡◌, ℕ, ◌⊎◌, inl, inr, cond, nat_eq, List, [], ◌∷◌, ◌++◌, map, refl, sym, ◌∙◌, ap, subst}
use Rattle.std.specs.Prelude.{Contains, flat_map}
use Rattle.std.proofs.lemmas.Bool.{ne_eqb, eq-eqb}
use Rattle.std.proofs.lemmas.List.Elements.{Contains-append_cases, Contains-append_left, Contains-append_right}
use Rattle.coco_model.specs.Netlist.{HasNoRepeat}
use Rattle.coco_model.proofs.Basics.{Contains-here, Contains-later, Contains-cases, Contains-none}

-- two lists, each without repeats and with no common member
pub record AreApart {X : Type 0} (xs ys : List X) : Type 0 where
  pub left : HasNoRepeat xs
  pub right : HasNoRepeat ys
  pub apart : (x : X) → Contains xs x → Contains ys x → ⊥

pub apart_parts : {X : Type 0} (xs ys : List X) → HasNoRepeat (xs ++ ys) → AreApart xs ys
apart_parts [] ys h = record { left = tt; right = h; apart = λ x i j. Contains-none x i }
apart_parts (x ∷ xs) ys h =
    let r = apart_parts xs ys h.1 in
    record {
      left = ((λ i. h.0 (Contains-append_left xs ys x i)), r.left);
      right = r.right;
      apart = λ y i j. go r y j (Contains-cases x y xs i);
    }
  where
    go : AreApart xs ys → (y : _) → Contains ys y → (x ≡ y) ⊎ Contains xs y → ⊥
    go r y j (inl e) = h.0 (Contains-append_right xs ys x (subst (Contains ys) (sym e) j))
    go r y j (inr i) = r.apart y i j

pub no_repeat-append : {X : Type 0} (xs ys : List X) → AreApart xs ys → HasNoRepeat (xs ++ ys)
no_repeat-append [] ys a = a.right
no_repeat-append (x ∷ xs) ys a = (
  (λ h. go (Contains-append_cases xs ys x h)),
  no_repeat-append xs ys (record { left = a.left.1; right = a.right; apart = λ y i j. a.apart y (Contains-later x y xs i) j }),
)
  where
    go : Contains xs x ⊎ Contains ys x → ⊥
    go (inl i) = a.left.0 i
    go (inr j) = a.apart x (Contains-here x xs) j

-- a bit with a state
pub record Entry (X : Type 0) : Type 0 where
  pub bit : ℕ
  pub state : X

-- the state of a bit in a list, or another where it is not there
abbrev pub look : {X : Type 0} → X → List (Entry X) → ℕ → X
look other [] b = other
look other (e ∷ es) b = cond (nat_eq e.bit b) e.state (look other es b)

abbrev pub bits_of : {X : Type 0} → List (Entry X) → List ℕ
bits_of [] = []
bits_of (e ∷ es) = e.bit ∷ bits_of es

pub bits_of-append : {X : Type 0} (es fs : List (Entry X)) → bits_of (es ++ fs) ≡ bits_of es ++ bits_of fs
bits_of-append [] fs = refl
bits_of-append (e ∷ es) fs = ap (λ rest. e.bit ∷ rest) (bits_of-append es fs)

pub bits_of-map : {A X : Type 0} (f : A → Entry X) (g : A → ℕ) → ((x : A) → (f x).bit ≡ g x) → (xs : List A) → bits_of (map f xs) ≡ map g xs
bits_of-map f g same [] = refl
bits_of-map f g same (x ∷ xs) =
    let head : (f x).bit ≡ g x = same x in let tail : bits_of (map f xs) ≡ map g xs = bits_of-map f g same xs in cc

pub bits_of-flat_map : {A X : Type 0} (f : A → List (Entry X)) (g : A → List ℕ) → ((x : A) → bits_of (f x) ≡ g x) → (xs : List A)
    → bits_of (flat_map f xs) ≡ flat_map g xs
bits_of-flat_map f g same [] = refl
bits_of-flat_map f g same (x ∷ xs) =
    bits_of-append (f x) (flat_map f xs) ∙ ap (λ bs. bs ++ bits_of (flat_map f xs)) (same x)
    ∙ ap (λ bs. g x ++ bs) (bits_of-flat_map f g same xs)

pub Contains-bits_of : {X : Type 0} (es : List (Entry X)) (e : Entry X) → Contains es e → Contains (bits_of es) e.bit
Contains-bits_of [] e h = absurd (Contains-none e h)
Contains-bits_of (d ∷ es) e h = go (Contains-cases d e es h) (λ i. Contains-bits_of es e i)
  where
    go : (d ≡ e) ⊎ Contains es e → (Contains es e → Contains (bits_of es) e.bit) → Contains (d.bit ∷ bits_of es) e.bit
    go (inl is) rest = subst (λ x. Contains (d.bit ∷ bits_of es) x.bit) is (Contains-here d.bit (bits_of es))
    go (inr i) rest = Contains-later d.bit e.bit (bits_of es) (rest i)

-- a bit that is listed once has its state
pub look-listed : {X : Type 0} (other : X) (es : List (Entry X)) → HasNoRepeat (bits_of es) → (e : Entry X) → Contains es e
    → look other es e.bit ≡ e.state
look-listed other [] once e h = absurd (Contains-none e h)
look-listed other (d ∷ es) once e h = go (Contains-cases d e es h) (λ i. look-listed other es once.1 e i)
  where
    go : (d ≡ e) ⊎ Contains es e → (Contains es e → look other es e.bit ≡ e.state) → look other (d ∷ es) e.bit ≡ e.state
    go (inl is) rest = ap (λ t. cond t d.state (look other es e.bit)) (eq-eqb d.bit e.bit (ap (λ x. x.bit) is)) ∙ ap (λ x. x.state) is
    go (inr i) rest =
        ap (λ t. cond t d.state (look other es e.bit))
        (ne_eqb d.bit e.bit (λ same. once.0 (subst (Contains (bits_of es)) (sym same) (Contains-bits_of es e i)))) ∙ rest i

-- a bit that is not listed has the other state
pub look-none : {X : Type 0} (other : X) (es : List (Entry X)) (b : ℕ) → (Contains (bits_of es) b → ⊥) → look other es b ≡ other
look-none other [] b none = refl
look-none other (e ∷ es) b none =
    ap (λ t. cond t e.state (look other es b))
    (ne_eqb e.bit b (λ same. none (subst (Contains (e.bit ∷ bits_of es)) same (Contains-here e.bit (bits_of es)))))
    ∙ look-none other es b (λ i. none (Contains-later e.bit b (bits_of es) i))
