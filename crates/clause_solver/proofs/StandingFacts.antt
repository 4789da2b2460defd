-- How a clause stands under a trail, from the literals that were looked at.
use Rattle.std.proofs.Common.{◌≡◌, ◌≢◌, ℕ, ◌+◌, ◌<◌, Bool, true, false, not, List, [], ◌∷◌, ◌++◌, Option, Some, None, get_or, take, refl, sym, ap, ◌∙◌, ◌⊎◌, inl, inr, arith}
use Rattle.std.specs.Prelude.{slice_get, MatchOption}
use Rattle.std.specs.Bool.{beq}
use Rattle.std.specs.Option.{option_or}
use Rattle.std.proofs.lemmas.Bool.{cases_eq}
use Rattle.std.proofs.lemmas.Option.{same_Some, slice_get_within, get_or_from_slice_get}
use Rattle.clause_store.specs.declared.lit.Lit.{Lit}
use Rattle.clause_store.specs.Signs.{Ascends, sign_of}
use Rattle.clause_store.specs.Assignments.{HasTrue, HasTwoOpen, IsFalsified}
use Rattle.clause_solver.specs.Propagation.{IsUnitOpen}
use Rattle.clause_solver.proofs.SignFacts.{cases_option, sign_of-append, sign_of-front, sign_at, IsFirstAt, sign_found, sign_push_same, sign_push_other, front_more, slice_get-take}

-- in a clause no variable stands before its place
pub ascends_fresh : (c : List Lit) → Ascends c → (i : ℕ) (l : Lit) → slice_get c i ≡ Some l → sign_of (take i c) l.var ≡ None
ascends_fresh c h i l e =
    elim (cases_option (sign_of (take i c) l.var)) [
      | inl none ↦ none
      | inr some ↦
          let first : IsFirstAt (take i c) l.var some.0 = sign_found (take i c) l.var some.0 some.1 in
          let before : (first.place < i) × (slice_get c first.place ≡ Some first.lit) = slice_get-take i c first.place first.lit first.at_place in
          let less : (get_or c first.place l).var < (get_or c i l).var = h first.place i l before.0 (slice_get_within c i l e) in
          let a : get_or c first.place l ≡ first.lit = get_or_from_slice_get c first.place first.lit l before.1 in
          let b : get_or c i l ≡ l = get_or_from_slice_get c i l l e in
          let va : (get_or c first.place l).var ≡ l.var = ap (λ (x : Lit). x.var) a ∙ first.var in
          let vb : (get_or c i l).var ≡ l.var = ap (λ (x : Lit). x.var) b in
          absurd (omega arith)
    ]

-- the literal at a place of a clause is what the clause says of its variable
pub ascends_sign : (c : List Lit) → Ascends c → (i : ℕ) (l : Lit) → slice_get c i ≡ Some l → sign_of c l.var ≡ Some l.positive
ascends_sign c h i l e = sign_at c i l e (ascends_fresh c h i l e)

-- what has been looked at: all false, or all but one literal that is open
abbrev pub IsJudged : List Lit → List Lit → Option Lit → Type 0
IsJudged lits front found = MatchOption found (IsFalsified lits front) (IsUnitOpen lits front)

pub front_sign : (c : List Lit) (i : ℕ) (l : Lit) (v : ℕ) (s : Bool) → slice_get c i ≡ Some l → sign_of (take (i + 1) c) v ≡ Some s → (sign_of (take i c) v ≡ Some s) ⊎ ((l.var ≡ v) × (l.positive ≡ s))
front_sign c i l v s e h =
    let more : sign_of (take i c ++ l ∷ []) v ≡ Some s = ap (λ x. sign_of x v) (sym (front_more c i l e)) ∙ h in
    elim (cases_eq l.var v) [
      | inl eq ↦
          elim (cases_option (sign_of (take i c) v)) [
            | inl none ↦
                let n : sign_of (take i c) l.var ≡ None = ap (sign_of (take i c)) eq ∙ none in
                let new : sign_of (take i c ++ l ∷ []) l.var ≡ Some l.positive = sign_push_same (take i c) l n in
                let same : sign_of (take i c ++ l ∷ []) l.var ≡ sign_of (take i c ++ l ∷ []) v = ap (sign_of (take i c ++ l ∷ [])) eq in
                inr (eq, same_Some l.positive s (cc))
            | inr some ↦
                let old : sign_of (take i c ++ l ∷ []) v ≡ Some some.0 = sign_of-append (take i c) (l ∷ []) v ∙ ap (λ o. option_or o (sign_of (l ∷ []) v)) some.1 in
                let same : some.0 ≡ s = same_Some some.0 s (cc) in
                inl (some.1 ∙ ap (λ x. Some x) same)
          ]
      | inr ne ↦ inl (sym (sign_push_other (take i c) l v ne) ∙ more)
    ]

pub front_keeps : (c : List Lit) (i : ℕ) (l : Lit) (v : ℕ) (s : Bool) → slice_get c i ≡ Some l → sign_of (take i c) v ≡ Some s → sign_of (take (i + 1) c) v ≡ Some s
front_keeps c i l v s e h =
    ap (λ x. sign_of x v) (front_more c i l e) ∙ sign_of-append (take i c) (l ∷ []) v ∙ ap (λ o. option_or o (sign_of (l ∷ []) v)) h

pub front_new : (c : List Lit) → Ascends c → (i : ℕ) (l : Lit) → slice_get c i ≡ Some l → sign_of (take (i + 1) c) l.var ≡ Some l.positive
front_new c h i l e =
    ap (λ x. sign_of x l.var) (front_more c i l e) ∙ sign_push_same (take i c) l (ascends_fresh c h i l e)

differs_not : (s t : Bool) → s ≢ t → s ≡ not t
differs_not true true ne = absurd (ne refl)
differs_not true false ne = refl
differs_not false true ne = refl
differs_not false false ne = absurd (ne refl)

-- one more literal, which is false
pub judged_false : (lits c : List Lit) (i : ℕ) (l : Lit) (found : Option Lit) (s : Bool) → slice_get c i ≡ Some l → sign_of lits l.var ≡ Some s → s ≢ l.positive → IsJudged lits (take i c) found → IsJudged lits (take (i + 1) c) found
judged_false lits c i l None s e h ne old = λ v t holds.
    elim (front_sign c i l v t e holds) [
      | inl before ↦ old v t before
      | inr now ↦
          let a : sign_of lits v ≡ Some s = ap (sign_of lits) (sym now.0) ∙ h in
          let b : s ≡ not t = differs_not s l.positive ne ∙ ap not now.1 in
          a ∙ ap (λ x. Some x) b
    ]
judged_false lits c i l (Some m) s e h ne old = record {
  unit = record {
    holds = front_keeps c i l m.var m.positive e old.unit.holds;
    others_false = λ w t apart holds.
        elim (front_sign c i l w t e holds) [
          | inl before ↦ old.unit.others_false w t apart before
          | inr now ↦
              let a : sign_of lits w ≡ Some s = ap (sign_of lits) (sym now.0) ∙ h in
              let b : s ≡ not t = differs_not s l.positive ne ∙ ap not now.1 in
              a ∙ ap (λ x. Some x) b
        ];
  };
  is_open = old.is_open;
}

-- the first literal that is open
pub judged_open : (lits c : List Lit) → Ascends c → (i : ℕ) (l : Lit) → slice_get c i ≡ Some l → sign_of lits l.var ≡ None → IsJudged lits (take i c) None → IsJudged lits (take (i + 1) c) (Some l)
judged_open lits c h i l e none old = record {
  unit = record {
    holds = front_new c h i l e;
    others_false = λ w t apart holds.
        elim (front_sign c i l w t e holds) [
          | inl before ↦ old w t before
          | inr now ↦ absurd (apart (sym now.0))
        ];
  };
  is_open = none;
}

-- a second one
pub judged_two : (lits c : List Lit) → Ascends c → (i : ℕ) (l m : Lit) → slice_get c i ≡ Some l → sign_of lits l.var ≡ None → IsJudged lits (take i c) (Some m) → HasTwoOpen lits c
judged_two lits c h i l m e none old =
    let fresh : sign_of (take i c) l.var ≡ None = ascends_fresh c h i l e in
    let there : sign_of (take i c) m.var ≡ Some m.positive = old.unit.holds in
    record {
      one = m.var;
      other = l.var;
      differ = λ same. let x : sign_of (take i c) m.var ≡ sign_of (take i c) l.var = ap (sign_of (take i c)) same in absurd (cc);
      one_sign = m.positive;
      holds_one = sign_of-front i c m.var m.positive there;
      other_sign = l.positive;
      holds_other = ascends_sign c h i l e;
      one_open = old.is_open;
      other_open = none;
    }

pub judged_true : (lits c : List Lit) → Ascends c → (i : ℕ) (l : Lit) (s : Bool) → slice_get c i ≡ Some l → sign_of lits l.var ≡ Some s → s ≡ l.positive → HasTrue lits c
judged_true lits c h i l s e set same = record {
  var = l.var;
  sign = l.positive;
  holds = ascends_sign c h i l e;
  is_true = set ∙ ap (λ x. Some x) same;
}

pub beq_true : (a b : Bool) → beq a b ≡ true → a ≡ b
beq_true true true e = refl
beq_true true false e = absurd (cc)
beq_true false true e = absurd (cc)
beq_true false false e = refl

pub beq_false : (a b : Bool) → beq a b ≡ false → a ≢ b
beq_false true true e = absurd (cc)
beq_false true false e = λ same. cc
beq_false false true e = λ same. cc
beq_false false false e = absurd (cc)
