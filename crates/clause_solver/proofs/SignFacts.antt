-- What a list of literals says of a variable, at fronts of the list and at its places.
use Rattle.std.proofs.Common.{◌≡◌, ◌≢◌, ℕ, suc, zero, ◌+◌, ◌<◌, ◌≤◌, Bool, true, false, eqb, cond, List, [], ◌∷◌, ◌++◌, Option, Some, None, is_some, length, take, drop, refl, sym, ap, ◌∙◌, ◌⊎◌, inl, inr, arith}
use Rattle.std.specs.Prelude.{slice_get}
use Rattle.std.specs.Option.{option_or}
use Rattle.std.proofs.lemmas.Grind.{common_steps}
use Rattle.std.proofs.lemmas.Bool.{cases_eq}
use Rattle.std.proofs.lemmas.List.{take-append-drop, take-take, take_more}
use Rattle.std.proofs.lemmas.Option.{same_Some, slice_get_within, get_or_from_slice_get}
use Rattle.clause_store.specs.declared.lit.Lit.{Lit}
use Rattle.clause_store.specs.Signs.{sign_of}

pub cases_option : {X : Type 0} (o : Option X) → (o ≡ None) ⊎ ((x : X) × (o ≡ Some x))
cases_option None = inl refl
cases_option (Some x) = inr (x, refl)

pub present : {X : Type 0} (o : Option X) → is_some o ≡ true → (x : X) × (o ≡ Some x)
present None e = absurd (cc)
present (Some x) e = (x, refl)

pub is_present : {X : Type 0} (o : Option X) (x : X) → o ≡ Some x → is_some o ≡ true
is_present o x e = rw e refl

cond_or : (t x : Bool) (p q r : Option Bool) → p ≡ option_or q r → cond t (Some x) p ≡ option_or (cond t (Some x) q) r
cond_or true x p q r e = refl
cond_or false x p q r e = e

cond_none : (t x : Bool) (p : Option Bool) → cond t (Some x) p ≡ None → (t ≡ false) × (p ≡ None)
cond_none true x p e = absurd (cc)
cond_none false x p e = (refl, e)

pub sign_of-append : (a b : List Lit) (v : ℕ) → sign_of (a ++ b) v ≡ option_or (sign_of a v) (sign_of b v)
sign_of-append [] b v = refl
sign_of-append (l ∷ a) b v = cond_or (eqb l.var v) l.positive _ _ _ (sign_of-append a b v)

pub sign_same : (l : Lit) (a : List Lit) (v : ℕ) → l.var ≡ v → sign_of (l ∷ a) v ≡ Some l.positive
sign_same l a v e =
    let t : eqb l.var v ≡ true = grind (arith, common_steps) in
    rw t refl

pub sign_other : (l : Lit) (a : List Lit) (v : ℕ) → l.var ≢ v → sign_of (l ∷ a) v ≡ sign_of a v
sign_other l a v ne =
    let t : eqb l.var v ≡ false = grind (arith, common_steps) in
    rw t refl

-- a front of a list says no more than the list
pub sign_of-front : (n : ℕ) (a : List Lit) (v : ℕ) (s : Bool) → sign_of (take n a) v ≡ Some s → sign_of a v ≡ Some s
sign_of-front n a v s e =
    ap (λ x. sign_of x v) (sym (take-append-drop n a)) ∙ sign_of-append (take n a) (drop n a) v ∙ ap (λ o. option_or o (sign_of (drop n a) v)) e

pub sign_of-front_le : (m n : ℕ) (a : List Lit) (v : ℕ) (s : Bool) → m ≤ n → sign_of (take m a) v ≡ Some s → sign_of (take n a) v ≡ Some s
sign_of-front_le m n a v s le e =
    let f : sign_of (take m (take n a)) v ≡ Some s = ap (λ x. sign_of x v) (take-take m n a le) ∙ e in
    sign_of-front m (take n a) v s f

pub sign_of-front_none : (n : ℕ) (a : List Lit) (v : ℕ) → sign_of a v ≡ None → sign_of (take n a) v ≡ None
sign_of-front_none n a v e =
    elim (cases_option (sign_of (take n a) v)) [
      | inl none ↦ none
      | inr some ↦ let f : sign_of a v ≡ Some some.0 = sign_of-front n a v some.0 some.1 in absurd (cc)
    ]

pub sign_of-front_le_none : (m n : ℕ) (a : List Lit) (v : ℕ) → m ≤ n → sign_of (take n a) v ≡ None → sign_of (take m a) v ≡ None
sign_of-front_le_none m n a v le e =
    ap (λ x. sign_of x v) (sym (take-take m n a le)) ∙ sign_of-front_none m (take n a) v e

-- the literal at a place, where its variable does not stand before
pub sign_at : (a : List Lit) (p : ℕ) (l : Lit) → slice_get a p ≡ Some l → sign_of (take p a) l.var ≡ None → sign_of a l.var ≡ Some l.positive
sign_at [] p l e n = absurd (cc)
sign_at (x ∷ a) zero l e n =
    let s : x ≡ l = same_Some x l e in
    rw s (sign_same l a l.var refl)
sign_at (x ∷ a) (suc p) l e n =
    let parts : (eqb x.var l.var ≡ false) × (sign_of (take p a) l.var ≡ None) = cond_none (eqb x.var l.var) x.positive _ n in
    rw parts.0 (sign_at a p l e parts.1)

-- a literal of a list, at some place, before which its variable does not stand
pub record IsFirstAt (a : List Lit) (v : ℕ) (s : Bool) : Type 0 where
  pub place : ℕ
  pub lit : Lit
  pub at_place : slice_get a place ≡ Some lit
  pub var : lit.var ≡ v
  pub sign : lit.positive ≡ s
  pub fresh : sign_of (take place a) v ≡ None

pub sign_found : (a : List Lit) (v : ℕ) (s : Bool) → sign_of a v ≡ Some s → IsFirstAt a v s
sign_found [] v s e = absurd (cc)
sign_found (l ∷ a) v s e =
    elim (cases_eq l.var v) [
      | inl eq ↦
          let first : sign_of (l ∷ a) v ≡ Some l.positive = sign_same l a v eq in
          let sign : l.positive ≡ s = same_Some _ _ (sym first ∙ e) in
          record { place = 0; lit = l; at_place = refl; var = eq; sign = sign; fresh = refl }
      | inr ne ↦
          let rest : IsFirstAt a v s = sign_found a v s (sym (sign_other l a v ne) ∙ e) in
          record { place = suc rest.place; lit = rest.lit; at_place = rest.at_place; var = rest.var; sign = rest.sign; fresh = sign_other l (take rest.place a) v ne ∙ rest.fresh }
    ]

-- the variable of a literal that is there has some sign
pub sign_present : (a : List Lit) (p : ℕ) (l : Lit) → slice_get a p ≡ Some l → is_some (sign_of a l.var) ≡ true
sign_present [] p l e = absurd (cc)
sign_present (x ∷ a) zero l e =
    let s : x ≡ l = same_Some x l e in
    rw s (is_present _ l.positive (sign_same l a l.var refl))
sign_present (x ∷ a) (suc p) l e = both (eqb x.var l.var) x.positive _ (sign_present a p l e)
  where
    both : (t s : Bool) (o : Option Bool) → is_some o ≡ true → is_some (cond t (Some s) o) ≡ true
    both true s o h = refl
    both false s o h = h

pub sign_push_same : (a : List Lit) (l : Lit) → sign_of a l.var ≡ None → sign_of (a ++ l ∷ []) l.var ≡ Some l.positive
sign_push_same a l none =
    sign_of-append a (l ∷ []) l.var ∙ ap (λ o. option_or o (sign_of (l ∷ []) l.var)) none ∙ sign_same l [] l.var refl

or_none : (o : Option Bool) → option_or o None ≡ o
or_none None = refl
or_none (Some x) = refl

pub sign_push_other : (a : List Lit) (l : Lit) (v : ℕ) → l.var ≢ v → sign_of (a ++ l ∷ []) v ≡ sign_of a v
sign_push_other a l v ne =
    sign_of-append a (l ∷ []) v ∙ ap (λ o. option_or (sign_of a v) o) (sign_other l [] v ne) ∙ or_none (sign_of a v)

-- one more literal of the front
pub front_more : (a : List Lit) (i : ℕ) (l : Lit) → slice_get a i ≡ Some l → take (i + 1) a ≡ take i a ++ l ∷ []
front_more a i l e =
    take_more a i l (slice_get_within a i l e) ∙ ap (λ x. take i a ++ x ∷ []) (get_or_from_slice_get a i l l e)

pub slice_get-take : {X : Type 0} (n : ℕ) (a : List X) (q : ℕ) (x : X) → slice_get (take n a) q ≡ Some x → (q < n) × (slice_get a q ≡ Some x)
slice_get-take zero a q x e = absurd (cc)
slice_get-take (suc n) [] q x e = absurd (cc)
slice_get-take (suc n) (y ∷ a) zero x e = (omega arith, e)
slice_get-take (suc n) (y ∷ a) (suc q) x e =
    let rest : (q < n) × (slice_get a q ≡ Some x) = slice_get-take n a q x e in
    (omega arith, rest.1)

pub slice_get-front : {X : Type 0} (n : ℕ) (a : List X) (q : ℕ) (x : X) → q < n → slice_get a q ≡ Some x → slice_get (take n a) q ≡ Some x
slice_get-front zero a q x lt e = absurd (omega arith)
slice_get-front (suc n) [] q x lt e = e
slice_get-front (suc n) (y ∷ a) zero x lt e = e
slice_get-front (suc n) (y ∷ a) (suc q) x lt e = slice_get-front n a q x (omega arith) e

pub slice_get-left : {X : Type 0} (a b : List X) (q : ℕ) (x : X) → slice_get a q ≡ Some x → slice_get (a ++ b) q ≡ Some x
slice_get-left [] b q x e = absurd (cc)
slice_get-left (y ∷ a) b zero x e = e
slice_get-left (y ∷ a) b (suc q) x e = slice_get-left a b q x e

-- a place of a list with one more item is a place of the list or that of the item
pub slice_get-push : {X : Type 0} (a : List X) (y : X) (q : ℕ) (x : X) → slice_get (a ++ y ∷ []) q ≡ Some x → (slice_get a q ≡ Some x) ⊎ ((q ≡ length a) × (y ≡ x))
slice_get-push [] y zero x e = inr (refl, same_Some y x e)
slice_get-push [] y (suc q) x e = absurd (cc)
slice_get-push (z ∷ a) y zero x e = inl e
slice_get-push (z ∷ a) y (suc q) x e =
    elim (slice_get-push a y q x e) [
      | inl h ↦ inl h
      | inr h ↦ inr (omega arith, h.1)
    ]

pub slice_get-last : {X : Type 0} (a : List X) (y : X) → slice_get (a ++ y ∷ []) (length a) ≡ Some y
slice_get-last [] y = refl
slice_get-last (z ∷ a) y = slice_get-last a y
