-- The signs of parts of clauses.
use Rattle.std.proofs.Common.{◌≡◌, ◌≢◌, ℕ, suc, ◌+◌, ◌<◌, Bool, true, false, cond, eqb, List, [], ◌∷◌, ◌++◌, length, get_or, take, drop, Option, Some, None, refl, ◌∙◌, ap, inl, inr, arith}
use Rattle.std.proofs.lemmas.List.{take_more}
use Rattle.std.proofs.lemmas.Grind.{common_steps}
use Rattle.std.proofs.lemmas.Bool.{cases_lt, cases_Bool, eq-eqb}
use Rattle.std.specs.Option.{option_or}
use Rattle.clause_store.specs.declared.lit.Lit.{Lit}
use Rattle.clause_store.specs.Signs.{Ascends, sign_of}
use Rattle.derivation_check.specs.Marked.{IsWithin}

pub eqb_no : (a b : ℕ) → a ≢ b → eqb a b ≡ false
eqb_no a b ne = grind (arith, common_steps)

pub or-none : (m : Option Bool) → option_or m None ≡ m
or-none None = refl
or-none (Some s) = refl

-- the sign of one literal
abbrev pub lit_sign : Lit → ℕ → Option Bool
lit_sign l v = cond (eqb l.var v) (Some l.positive) None

pub sign_of-append : (xs ys : List Lit) (v : ℕ) → sign_of (xs ++ ys) v ≡ option_or (sign_of xs v) (sign_of ys v)
sign_of-append [] ys v = refl
sign_of-append (l ∷ xs) ys v =
    elim (cases_Bool (eqb l.var v)) [
      | inl is_it ↦ rw is_it refl
      | inr is_not ↦ rw is_not (sign_of-append xs ys v)
    ]

pub sign_of-push : (front : List Lit) (l : Lit) (v : ℕ) → sign_of (front ++ l ∷ []) v ≡ option_or (sign_of front v) (lit_sign l v)
sign_of-push front l v = sign_of-append front (l ∷ []) v

pub sign_absent : (clause : List Lit) (v : ℕ) → ((j : ℕ) (d : Lit) → j < length clause → (get_or clause j d).var ≢ v) → sign_of clause v ≡ None
sign_absent [] v none = refl
sign_absent (l ∷ clause) v none =
    let is_not : eqb l.var v ≡ false = eqb_no l.var v (none 0 l (omega arith)) in
    rw is_not (sign_absent clause v (λ j d lt. none (suc j) d (omega arith)))

pub sign_before : (clause : List Lit) (i : ℕ) (d : Lit) → Ascends clause → i < length clause → sign_of (take i clause) (get_or clause i d).var ≡ None
sign_before clause i d ascends lt =
    sign_absent (take i clause) (get_or clause i d).var
    (λ j e j_lt.
    let n : length (take i clause) ≡ i = grind (arith, common_steps) in
    let at : get_or (take i clause) j e ≡ get_or clause j e = grind (arith, common_steps) in
    let same : get_or clause j e ≡ get_or clause j d = grind (arith, common_steps) in
    let less : (get_or clause j d).var < (get_or clause i d).var = ascends j i d (omega arith) lt in
    rw (at, same) (λ equal. absurd (omega arith)))

pub sign_at : (clause : List Lit) (i : ℕ) (d : Lit) → Ascends clause → i < length clause → sign_of clause (get_or clause i d).var ≡ Some (get_or clause i d).positive
sign_at clause i d ascends lt =
    let l : Lit = get_or clause i d in
    let split : clause ≡ take (i + 1) clause ++ drop (i + 1) clause = grind (arith, common_steps) in
    let front : take (i + 1) clause ≡ take i clause ++ l ∷ [] = take_more clause i d lt in
    let none : sign_of (take i clause) l.var ≡ None = sign_before clause i d ascends lt in
    let is_it : eqb l.var l.var ≡ true = eq-eqb l.var l.var refl in
    let pushed : sign_of (take i clause ++ l ∷ []) l.var ≡ option_or (sign_of (take i clause) l.var) (lit_sign l l.var) = sign_of-push (take i clause) l l.var in
    let some : sign_of (take (i + 1) clause) l.var ≡ Some l.positive = rw (front, pushed, none, is_it) refl in
    let whole : sign_of (take (i + 1) clause ++ drop (i + 1) clause) l.var ≡ option_or (sign_of (take (i + 1) clause) l.var) (sign_of (drop (i + 1) clause) l.var) =
    sign_of-append (take (i + 1) clause) (drop (i + 1) clause) l.var in
    ap (λ c. sign_of c l.var) split ∙ whole ∙ rw some refl

pub lit_within : (clause : List Lit) (i : ℕ) (d : Lit) (size : ℕ) → Ascends clause → i < length clause → IsWithin size clause → (get_or clause i d).var < size
lit_within clause i d size ascends lt within =
    elim (cases_lt (get_or clause i d).var size) [
      | inl less ↦ less
      | inr ge ↦
          let none : sign_of clause (get_or clause i d).var ≡ None = within (get_or clause i d).var ge in
          let some : sign_of clause (get_or clause i d).var ≡ Some (get_or clause i d).positive = sign_at clause i d ascends lt in
          absurd (cc)
    ]
