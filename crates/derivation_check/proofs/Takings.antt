-- Taking the literals of a clause off the marks.
use Rattle.std.proofs.Common.{◌≡◌, ◌≢◌, ◌↔◌, ℕ, ◌<◌, Bool, true, false, ◌⊎◌, eqb, List, [], ◌∷◌, ◌++◌, length, get_or, Option, Some, None, MatchBool, IsTrue, refl, sym, ◌∙◌, inl, inr, arith}
use Rattle.std.proofs.Math.ListN.{set}
use Rattle.std.proofs.lemmas.List.{get_or_past}
use Rattle.std.proofs.lemmas.Grind.{common_steps}
use Rattle.std.proofs.lemmas.Bool.{cases_eq, cases_lt, eq-eqb}
use Rattle.std.specs.Option.{option_or}
use Rattle.clause_store.specs.declared.lit.Lit.{Lit}
use Rattle.clause_store.specs.Signs.{Signs, sign_of}
use Rattle.derivation_check.specs.Marked.{signs_in, IsClear, IsTaken}
use Rattle.derivation_check.proofs.Clauses.{eqb_no, or-none, lit_sign, sign_of-push}
use Rattle.derivation_check.proofs.Merges.{signs-set_same, signs-set_other}

pub push_at : (front : List Lit) (l : Lit) → sign_of front l.var ≡ None → sign_of (front ++ l ∷ []) l.var ≡ Some l.positive
push_at front l none =
    let is_it : eqb l.var l.var ≡ true = eq-eqb l.var l.var refl in
    let pushed : sign_of (front ++ l ∷ []) l.var ≡ option_or (sign_of front l.var) (lit_sign l l.var) = sign_of-push front l l.var in
    pushed ∙ rw (none, is_it) refl

pub push_other : (front : List Lit) (l : Lit) (v : ℕ) → v ≢ l.var → sign_of (front ++ l ∷ []) v ≡ sign_of front v
push_other front l v ne =
    let is_not : eqb l.var v ≡ false = eqb_no l.var v (λ e. ne (sym e)) in
    let pushed : sign_of (front ++ l ∷ []) v ≡ option_or (sign_of front v) (lit_sign l v) = sign_of-push front l v in
    pushed ∙ rw is_not (or-none (sign_of front v))

pub taken_more : (old : Signs) (marks : List (Option Bool)) (front : List Lit) (l : Lit) → l.var < length marks → sign_of front l.var ≡ None → signs_in marks l.var ≡ Some l.positive → IsTaken front old (signs_in marks) → IsTaken (front ++ l ∷ []) old (signs_in (set marks l.var None))
taken_more old marks front l lt none marked taken = record {
  was = λ v s e. elim (cases_eq v l.var) [
    | inl it ↦
        let at : sign_of (front ++ l ∷ []) l.var ≡ Some l.positive = push_at front l none in
        let e' : sign_of (front ++ l ∷ []) l.var ≡ Some s = rw it at e in
        let left : signs_in marks l.var ≡ old l.var = taken.left l.var none in
        rw it (cc)
    | inr other ↦ taken.was v s (sym (push_other front l v other) ∙ e)
  ];
  gone = λ v s e. elim (cases_eq v l.var) [
    | inl it ↦ rw it (signs-set_same marks l.var None lt)
    | inr other ↦ signs-set_other marks l.var None v other ∙ taken.gone v s (sym (push_other front l v other) ∙ e)
  ];
  left = λ v e. elim (cases_eq v l.var) [
    | inl it ↦
        let at : sign_of (front ++ l ∷ []) l.var ≡ Some l.positive = push_at front l none in
        let e' : sign_of (front ++ l ∷ []) l.var ≡ None = rw it at e in
        absurd (cc)
    | inr other ↦ signs-set_other marks l.var None v other ∙ taken.left v (sym (push_other front l v other) ∙ e)
  ];
}

pub clear_signs : (marks : List (Option Bool)) (v : ℕ) → IsClear marks → signs_in marks v ≡ None
clear_signs marks v clear =
    elim (cases_lt v (length marks)) [
      | inl lt ↦ clear v None lt
      | inr ge ↦ get_or_past marks v None ge
    ]

pub signs_clear : (marks : List (Option Bool)) → ((v : ℕ) → signs_in marks v ≡ None) → IsClear marks
signs_clear marks none = λ k d lt.
    let same : get_or marks k d ≡ get_or marks k None = grind (arith, common_steps) in
    same ∙ none k

-- what a part says of a variable: some sign or none
pub sign_cases : (m : Option Bool) → (m ≡ None) ⊎ ((s : Bool) × (m ≡ Some s))
sign_cases None = inl refl
sign_cases (Some s) = inr (s, refl)

taken_clear : (old : Signs) (marks : List (Option Bool)) (clause : List Lit) → IsTaken clause old (signs_in marks) → IsClear marks → (v : ℕ) → old v ≡ sign_of clause v
taken_clear old marks clause taken clear v =
    elim (sign_cases (sign_of clause v)) [
      | inl none ↦ sym (taken.left v none) ∙ clear_signs marks v clear ∙ sym none
      | inr some ↦ taken.was v some.0 some.1 ∙ sym some.1
    ]

taken_same : (old : Signs) (marks : List (Option Bool)) (clause : List Lit) → IsTaken clause old (signs_in marks) → ((v : ℕ) → old v ≡ sign_of clause v) → (v : ℕ) → signs_in marks v ≡ None
taken_same old marks clause taken same v =
    elim (sign_cases (sign_of clause v)) [
      | inl none ↦ taken.left v none ∙ same v ∙ none
      | inr some ↦ taken.gone v some.0 some.1
    ]

pub taken_all : (old : Signs) (marks : List (Option Bool)) (clause : List Lit) (b : Bool) → IsTaken clause old (signs_in marks) → IsTrue b ↔ IsClear marks → MatchBool b (((v : ℕ) → old v ≡ sign_of clause v) × IsClear marks) (((v : ℕ) → old v ≡ sign_of clause v) → ⊥)
taken_all old marks clause true taken answer =
    let clear : IsClear marks = answer.0 refl in
    (taken_clear old marks clause taken clear, clear)
taken_all old marks clause false taken answer = λ same.
    let clear : IsClear marks = signs_clear marks (taken_same old marks clause taken same) in
    let e : false ≡ true = answer.1 clear in
    absurd (cc)
