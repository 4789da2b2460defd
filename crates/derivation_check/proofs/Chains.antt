-- Chains of resolvents, cut by cut.
use Rattle.std.proofs.Common.{◌≡◌, ◌↔◌, ℕ, Bool, true, false, List, ◌∷◌, Some, MatchBool, slice_get, sym, ◌∙◌, subst, inl, inr}
use Rattle.std.proofs.Math.Path.{fun_ext}
use Rattle.std.proofs.lemmas.Bool.{cases_eq}
use Rattle.clause_store.specs.declared.lit.Lit.{Lit}
use Rattle.clause_store.specs.declared.line.Cut.{Cut}
use Rattle.clause_store.specs.Signs.{Signs, sign_of}
use Rattle.clause_store.specs.Resolvents.{IsResolvent, LeadsTo}
use Rattle.derivation_check.specs.Marked.{IsCut}

-- there is at most one resolvent
pub same_resolvent : (v : ℕ) (c d r s : Signs) → IsResolvent v c d r → IsResolvent v c d s → r ≡ s
same_resolvent v c d r s a b =
    fun_ext (λ w. elim (cases_eq w v) [
      | inl it ↦ rw it (a.gone ∙ sym b.gone)
      | inr other ↦ a.rest w other ∙ sym (b.rest w other)
    ])

pub same_cut : (clauses : List (List Lit)) (cut : Cut) (c r s : Signs) → IsCut clauses cut c r → IsCut clauses cut c s → r ≡ s
same_cut clauses cut c r s a b =
    let n : slice_get clauses cut.id ≡ Some a.clause = a.named in
    let m : slice_get clauses cut.id ≡ Some b.clause = b.named in
    let e : b.clause ≡ a.clause = cc in
    let q : IsResolvent cut.var c (sign_of a.clause) s = rw e at b.resolvent in
    same_resolvent cut.var c (sign_of a.clause) r s a.resolvent q

-- one cut of a chain
pub followed_more : (clauses : List (List Lit)) (cut : Cut) (cuts : List Cut) (c next r : Signs) → IsCut clauses cut c next → LeadsTo clauses c (cut ∷ cuts) r ↔ LeadsTo clauses next cuts r
followed_more clauses cut cuts c next r made = (
  λ h.
      let other : IsCut clauses cut c h.1 = record { clause = h.0; named = h.2; resolvent = h.3 } in
      let e : h.1 ≡ next = same_cut clauses cut c h.1 next other made in
      let P : Signs → Type 0 = λ s. LeadsTo clauses s cuts r in
      subst P e h.4,
  λ h. (made.clause, next, made.named, made.resolvent, h),
)

-- a cut that cannot be made ends the chain
pub followed_stop : (clauses : List (List Lit)) (cut : Cut) (cuts : List Cut) (c r : Signs) → ((s : Signs) → IsCut clauses cut c s → ⊥) → LeadsTo clauses c (cut ∷ cuts) r → ⊥
followed_stop clauses cut cuts c r none h =
    none h.1 (record { clause = h.0; named = h.2; resolvent = h.3 })

pub cut_answer : (clauses : List (List Lit)) (cut : Cut) (clause : List Lit) (c r : Signs) (b : Bool) → slice_get clauses cut.id ≡ Some clause → MatchBool b (IsResolvent cut.var c (sign_of clause) r) ((s : Signs) → IsResolvent cut.var c (sign_of clause) s → ⊥) → MatchBool b (IsCut clauses cut c r) ((s : Signs) → IsCut clauses cut c s → ⊥)
cut_answer clauses cut clause c r true named answer = record { clause = clause; named = named; resolvent = answer }
cut_answer clauses cut clause c r false named answer = λ s made.
    let n : slice_get clauses cut.id ≡ Some made.clause = made.named in
    let e : made.clause ≡ clause = cc in
    answer s (rw e at made.resolvent)
