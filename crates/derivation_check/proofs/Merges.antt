-- What marking literals does to the signs.
use Rattle.std.proofs.Common.{◌≡◌, ◌≢◌, ℕ, ◌<◌, Bool, true, false, not, eqb, List, [], ◌∷◌, ◌++◌, length, Option, Some, None, refl, sym, ◌∙◌, ap, inl, inr}
use Rattle.std.proofs.Math.ListN.{set}
use Rattle.std.proofs.lemmas.List.{get_or-set_same, get_or-set_other}
use Rattle.std.proofs.lemmas.Bool.{cases_eq, eq-eqb}
use Rattle.std.specs.Option.{option_or}
use Rattle.clause_store.specs.declared.lit.Lit.{Lit}
use Rattle.clause_store.specs.Signs.{Signs, sign_of}
use Rattle.clause_store.specs.Resolvents.{opposite, IsResolvent}
use Rattle.derivation_check.specs.Marked.{signs_in, IsMerged, HasClash}
use Rattle.derivation_check.proofs.Clauses.{eqb_no, or-none, lit_sign, sign_of-push}

pub signs-set_same : (marks : List (Option Bool)) (v : ℕ) (m : Option Bool) → v < length marks → signs_in (set marks v m) v ≡ m
signs-set_same marks v m lt = get_or-set_same marks v m None lt

pub signs-set_other : (marks : List (Option Bool)) (v : ℕ) (m : Option Bool) (w : ℕ) → w ≢ v → signs_in (set marks v m) w ≡ signs_in marks w
signs-set_other marks v m w ne = get_or-set_other marks v w m None ne

-- marking one more literal of a clause
pub loaded_more : (marks : List (Option Bool)) (front : List Lit) (l : Lit) → l.var < length marks → sign_of front l.var ≡ None → ((v : ℕ) → signs_in marks v ≡ sign_of front v) → (v : ℕ) → signs_in (set marks l.var (Some l.positive)) v ≡ sign_of (front ++ l ∷ []) v
loaded_more marks front l lt none signs v =
    let pushed : sign_of (front ++ l ∷ []) v ≡ option_or (sign_of front v) (lit_sign l v) = sign_of-push front l v in
    rw pushed (elim (cases_eq v l.var) [
      | inl it ↦
          let is_it : eqb l.var l.var ≡ true = eq-eqb l.var l.var refl in
          rw (it, none, is_it) (signs-set_same marks l.var (Some l.positive) lt)
      | inr other ↦
          let is_not : eqb l.var v ≡ false = eqb_no l.var v (λ e. other (sym e)) in
          rw is_not (signs-set_other marks l.var (Some l.positive) v other ∙ signs v ∙ sym (or-none (sign_of front v)))
    ])

pub merged_more : (v : ℕ) (c : Signs) (marks : List (Option Bool)) (front : List Lit) (l : Lit) → l.var < length marks → l.var ≢ v → sign_of front l.var ≡ None → opposite (signs_in marks l.var) (Some l.positive) ≡ false → IsMerged v c (sign_of front) (signs_in marks) → IsMerged v c (sign_of (front ++ l ∷ [])) (signs_in (set marks l.var (option_or (signs_in marks l.var) (Some l.positive))))
merged_more v c marks front l lt ne none fits merged =
    let at : signs_in marks l.var ≡ c l.var = merged.rest l.var ne ∙ rw none (or-none (c l.var)) in
    let is_it : eqb l.var l.var ≡ true = eq-eqb l.var l.var refl in
    record {
      only = λ w w_ne.
          let pushed : sign_of (front ++ l ∷ []) w ≡ option_or (sign_of front w) (lit_sign l w) = sign_of-push front l w in
          rw pushed (elim (cases_eq w l.var) [
            | inl it ↦ rw (it, none, is_it) (rw at at fits)
            | inr other ↦
                let is_not : eqb l.var w ≡ false = eqb_no l.var w (λ e. other (sym e)) in
                rw (is_not, or-none (sign_of front w)) (merged.only w w_ne)
          ]);
      rest = λ w w_ne.
          let pushed : sign_of (front ++ l ∷ []) w ≡ option_or (sign_of front w) (lit_sign l w) = sign_of-push front l w in
          rw pushed (elim (cases_eq w l.var) [
            | inl it ↦
                rw (it, none, is_it) (signs-set_same marks l.var (option_or (signs_in marks l.var) (Some l.positive)) lt ∙ ap (λ m. option_or m (Some l.positive)) at)
            | inr other ↦
                let is_not : eqb l.var w ≡ false = eqb_no l.var w (λ e. other (sym e)) in
                rw (is_not, or-none (sign_of front w)) (signs-set_other marks l.var (option_or (signs_in marks l.var) (Some l.positive)) w other ∙ merged.rest w w_ne)
          ]);
      kept = signs-set_other marks l.var (option_or (signs_in marks l.var) (Some l.positive)) v (λ e. ne (sym e)) ∙ merged.kept;
    }

-- a literal of the variable itself is left out
pub merged_same : (v : ℕ) (c : Signs) (marks : List (Option Bool)) (front : List Lit) (l : Lit) → l.var ≡ v → IsMerged v c (sign_of front) (signs_in marks) → IsMerged v c (sign_of (front ++ l ∷ [])) (signs_in marks)
merged_same v c marks front l it merged =
    let same : (w : ℕ) → w ≢ v → sign_of (front ++ l ∷ []) w ≡ sign_of front w = λ w w_ne.
    let is_not : eqb l.var w ≡ false = eqb_no l.var w (λ e. w_ne (sym e ∙ it)) in
    let pushed : sign_of (front ++ l ∷ []) w ≡ option_or (sign_of front w) (lit_sign l w) = sign_of-push front l w in
    pushed ∙ rw is_not (or-none (sign_of front w)) in
    record {
      only = λ w w_ne. rw (same w w_ne) (merged.only w w_ne);
      rest = λ w w_ne. rw (same w w_ne) (merged.rest w w_ne);
      kept = merged.kept;
    }

pub clash_at : (v : ℕ) (c : Signs) (marks : List (Option Bool)) (front clause : List Lit) (l : Lit) → l.var ≢ v → sign_of front l.var ≡ None → sign_of clause l.var ≡ Some l.positive → opposite (signs_in marks l.var) (Some l.positive) ≡ true → IsMerged v c (sign_of front) (signs_in marks) → HasClash v c (sign_of clause)
clash_at v c marks front clause l ne none some clash merged =
    let at : signs_in marks l.var ≡ c l.var = merged.rest l.var ne ∙ rw none (or-none (c l.var)) in
    record { var = l.var; other = ne; clash = rw some (rw at at clash) }

pub not_false : (b : Bool) → not b ≡ false → b ≡ true
not_false true e = refl
not_false false e = absurd (cc)

pub not_true : (b : Bool) → not b ≡ true → b ≡ false
not_true true e = absurd (cc)
not_true false e = refl

-- without the variable the merged literals are the resolvent
pub resolved : (v : ℕ) (c d : Signs) (marks : List (Option Bool)) → v < length marks → opposite (c v) (d v) ≡ true → IsMerged v c d (signs_in marks) → IsResolvent v c d (signs_in (set marks v None))
resolved v c d marks lt clash merged = record {
  clash = clash;
  only = merged.only;
  gone = signs-set_same marks v None lt;
  rest = λ w ne. signs-set_other marks v None w ne ∙ merged.rest w ne;
}

pub opposite_some : (a b : Option Bool) → opposite a b ≡ true → a ≡ None → ⊥
opposite_some None None e is = absurd (cc)
opposite_some None (Some b) e is = absurd (cc)
opposite_some (Some a) b e is = absurd (cc)
