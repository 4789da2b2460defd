-- What stays true of a trail and its clauses as literals are forced and decided.
use Rattle.std.proofs.Common.{◌≡◌, ℕ, suc, ◌<◌, ◌≤◌, Bool, false, eqb, List, [], ◌∷◌, ◌++◌, Option, Some, None, length, get_or, take, refl, sym, ap, subst, ◌∙◌, ◌⊎◌, inl, inr, arith}
use Rattle.std.specs.Prelude.{slice_get, slice_index, All}
use Rattle.std.proofs.lemmas.Grind.{common_steps}
use Rattle.std.proofs.lemmas.Bool.{cases_eq, cases_lt}
use Rattle.std.proofs.lemmas.List.{length_push, take-append-le, take-take, take_all, take_at, get_or_append_left, get_or_push}
use Rattle.std.proofs.lemmas.Option.{same_Some, slice_get_within, get_or_from_slice_get, slice_get-get_or}
use Rattle.clause_store.specs.declared.lit.Lit.{Lit}
use Rattle.clause_store.specs.Signs.{sign_of}
use Rattle.clause_store.specs.Assignments.{IsClosed}
use Rattle.clause_solver.specs.Trails.{History, IsCoherent, pushed, opened}
use Rattle.clause_solver.specs.Propagation.{IsInRange, IsUnitOpen, IsReason, IsExplained, Extends}
use Rattle.clause_solver.proofs.SignFacts.{slice_get-left, slice_get-push, slice_get-last}

-- a fact of each item, by the places of the items
pub all_at : {X : Type 0} (P : X → Type 0) (xs : List X) → ((k : ℕ) (x : X) → slice_get xs k ≡ Some x → P x) → All P xs
all_at P xs h = λ k d lt. h k (get_or xs k d) (slice_get-get_or xs k d lt)

pub at_all : {X : Type 0} (P : X → Type 0) (xs : List X) → All P xs → (k : ℕ) (x : X) → slice_get xs k ≡ Some x → P x
at_all P xs h k x e = subst P (get_or_from_slice_get xs k x x e) (h k x (slice_get_within xs k x e))

-- a reason stays one where literals come after
pub reason_kept : (clauses : List (List Lit)) (lits more : List Lit) (p id : ℕ) → p < length lits → IsReason clauses lits p id → IsReason clauses (lits ++ more) p id
reason_kept clauses lits more p id lt r = record {
  lit = r.lit;
  at_place = slice_get-left lits more p r.lit r.at_place;
  clause = r.clause;
  named = r.named;
  unit = rw (take-append-le p lits more (omega arith)) r.unit;
}

pub reason_new : (clauses : List (List Lit)) (lits clause : List Lit) (l : Lit) (id : ℕ) → slice_get clauses id ≡ Some clause → IsUnitOpen lits clause l → IsReason clauses (lits ++ l ∷ []) (length lits) id
reason_new clauses lits clause l id named u = record {
  lit = l;
  at_place = slice_get-last lits l;
  clause = clause;
  named = named;
  unit = rw (take_at lits (l ∷ []) (length lits) refl) u.unit;
}

closed_kept : (clauses : List (List Lit)) (lits more : List Lit) (n : ℕ) → n ≤ length lits → IsClosed (take n lits) clauses → IsClosed (take n (lits ++ more)) clauses
closed_kept clauses lits more n le h = rw (take-append-le n lits more le) h

-- a literal that a clause forced
pub explained_push : (clauses : List (List Lit)) (h : History) (clause : List Lit) (l : Lit) (id : ℕ) → IsExplained clauses h → slice_get clauses id ≡ Some clause → IsUnitOpen h.lits clause l → IsCoherent (pushed h l (Some id)) → IsExplained clauses (pushed h l (Some id))
explained_push clauses h clause l id x named u coherent =
    let len : length h.reasons ≡ length h.lits = x.coherent.reasons_len in
    record {
      coherent = coherent;
      reasoned = λ p other e.
          elim (slice_get-push h.reasons (Some id) p (Some other) e) [
            | inl old ↦
                let lt : p < length h.reasons = slice_get_within h.reasons p (Some other) old in
                reason_kept clauses h.lits (l ∷ []) p other (omega arith) (x.reasoned p other old)
            | inr new ↦
                let same : id ≡ other = same_Some id other new.1 in
                let at : length h.lits ≡ p = sym len ∙ sym new.0 in
                subst (λ q. IsReason clauses (h.lits ++ l ∷ []) q other) at (subst (λ k. IsReason clauses (h.lits ++ l ∷ []) (length h.lits) k) same (reason_new clauses h.lits clause l id named u))
          ];
      decided = λ p e.
          elim (slice_get-push h.reasons (Some id) p None e) [
            | inl old ↦ x.decided p old
            | inr new ↦ absurd (cc)
          ];
      ordered = x.ordered;
      bounded = λ k lt. let b : slice_index h.starts k < length h.lits = x.bounded k lt in omega (arith, length_push h.lits l);
      closed = λ k lt. let b : slice_index h.starts k < length h.lits = x.bounded k lt in closed_kept clauses h.lits (l ∷ []) (slice_index h.starts k) (omega arith) (x.closed k lt);
      in_range = x.in_range;
    }

pub start_old : (starts : List ℕ) (n k : ℕ) → k < length starts → slice_index (starts ++ n ∷ []) k ≡ slice_index starts k
start_old starts n k lt = get_or_append_left starts (n ∷ []) 0 k lt

pub start_new : (starts : List ℕ) (n : ℕ) → slice_index (starts ++ n ∷ []) (length starts) ≡ n
start_new starts n = get_or_push starts n 0 (length starts) refl

pub level_cases : (starts : List ℕ) (n k : ℕ) → k < length (starts ++ n ∷ []) → (k < length starts) ⊎ (k ≡ length starts)
level_cases starts n k lt =
    elim (cases_lt k (length starts)) [
      | inl less ↦ inl less
      | inr ge ↦ inr (omega (arith, length_push starts n))
    ]

-- a literal that was decided, where propagation had nothing left to do
pub explained_decide : (clauses : List (List Lit)) (h : History) (l : Lit) → IsExplained clauses h → IsClosed h.lits clauses → IsCoherent (pushed (opened h) l None) → IsExplained clauses (pushed (opened h) l None)
explained_decide clauses h l x done coherent =
    let len : length h.reasons ≡ length h.lits = x.coherent.reasons_len in
    let n : ℕ = length h.lits in
    record {
      coherent = coherent;
      reasoned = λ p other e.
          elim (slice_get-push h.reasons None p (Some other) e) [
            | inl old ↦
                let lt : p < length h.reasons = slice_get_within h.reasons p (Some other) old in
                reason_kept clauses h.lits (l ∷ []) p other (omega arith) (x.reasoned p other old)
            | inr new ↦ absurd (cc)
          ];
      decided = λ p e.
          elim (slice_get-push h.reasons None p None e) [
            | inl old ↦
                let d : (k : ℕ) × (k < length h.starts) × (slice_index h.starts k ≡ p) = x.decided p old in
                (d.0, omega (arith, length_push h.starts (length h.lits)), start_old h.starts (length h.lits) d.0 d.1 ∙ d.2)
            | inr new ↦ (length h.starts, omega (arith, length_push h.starts (length h.lits)), start_new h.starts (length h.lits) ∙ sym len ∙ sym new.0)
          ];
      ordered = λ j k j<k k<n.
          elim (level_cases h.starts (length h.lits) k k<n) [
            | inl old ↦
                let a : slice_index (h.starts ++ length h.lits ∷ []) j ≡ slice_index h.starts j = start_old h.starts (length h.lits) j (omega arith) in
                let b : slice_index (h.starts ++ length h.lits ∷ []) k ≡ slice_index h.starts k = start_old h.starts (length h.lits) k old in
                let o : slice_index h.starts j < slice_index h.starts k = x.ordered j k j<k old in
                rw (a, b) o
            | inr new ↦
                let a : slice_index (h.starts ++ length h.lits ∷ []) j ≡ slice_index h.starts j = start_old h.starts (length h.lits) j (omega arith) in
                let b : slice_index (h.starts ++ length h.lits ∷ []) k ≡ length h.lits = ap (slice_index (h.starts ++ length h.lits ∷ [])) new ∙ start_new h.starts (length h.lits) in
                let o : slice_index h.starts j < length h.lits = x.bounded j (omega arith) in
                rw (a, b) o
          ];
      bounded = λ k lt.
          elim (level_cases h.starts (length h.lits) k lt) [
            | inl old ↦
                let a : slice_index (h.starts ++ length h.lits ∷ []) k ≡ slice_index h.starts k = start_old h.starts (length h.lits) k old in
                let o : slice_index h.starts k < length h.lits = x.bounded k old in
                omega (arith, length_push h.lits l)
            | inr new ↦
                let b : slice_index (h.starts ++ length h.lits ∷ []) k ≡ length h.lits = ap (slice_index (h.starts ++ length h.lits ∷ [])) new ∙ start_new h.starts (length h.lits) in
                omega (arith, length_push h.lits l)
          ];
      closed = λ k lt.
          elim (level_cases h.starts (length h.lits) k lt) [
            | inl old ↦
                let a : slice_index (h.starts ++ length h.lits ∷ []) k ≡ slice_index h.starts k = start_old h.starts (length h.lits) k old in
                let o : slice_index h.starts k < length h.lits = x.bounded k old in
                rw a (closed_kept clauses h.lits (l ∷ []) (slice_index h.starts k) (omega arith) (x.closed k old))
            | inr new ↦
                let b : slice_index (h.starts ++ length h.lits ∷ []) k ≡ length h.lits = ap (slice_index (h.starts ++ length h.lits ∷ [])) new ∙ start_new h.starts (length h.lits) in
                rw (b, take_at h.lits (l ∷ []) (length h.lits) refl) done
          ];
      in_range = x.in_range;
    }

pub extends_itself : (h : History) → Extends h h
extends_itself h = record { vars = refl; longer = omega arith; front = take_all (length h.lits) h.lits (omega arith) }

pub extends_trans : (a b c : History) → Extends a b → Extends b c → Extends a c
extends_trans a b c p q =
    let x : length a.lits ≤ length b.lits = p.longer in
    let y : length b.lits ≤ length c.lits = q.longer in
    record {
      vars = q.vars ∙ p.vars;
      longer = omega arith;
      front = sym (take-take (length a.lits) (length b.lits) c.lits x) ∙ ap (take (length a.lits)) q.front ∙ p.front;
    }

pub extends_push : (h : History) (l : Lit) (r : Option ℕ) → Extends h (pushed h l r)
extends_push h l r = record { vars = refl; longer = omega (arith, length_push h.lits l); front = take_at h.lits (l ∷ []) (length h.lits) refl }

-- a range of clauses: each that a number names
pub range_at : (clauses : List (List Lit)) (vars : ℕ) → All (IsInRange vars) clauses → (id : ℕ) (c : List Lit) → slice_get clauses id ≡ Some c → IsInRange vars c
range_at clauses vars h id c e = at_all (IsInRange vars) clauses h id c e

-- a variable of a clause is in range
pub held_range : (vars : ℕ) (c : List Lit) (v : ℕ) (s : Bool) → IsInRange vars c → sign_of c v ≡ Some s → v < vars
held_range vars c v s r e = held vars c v s r.below e
  where
    held : (vars : ℕ) (c : List Lit) (v : ℕ) (s : Bool) → All (λ l. l.var < vars) c → sign_of c v ≡ Some s → v < vars
    held vars [] v s below e = absurd (cc)
    held vars (l ∷ c) v s below e =
        elim (cases_eq l.var v) [
          | inl eq ↦ let h : l.var < vars = below 0 l (omega arith) in omega arith
          | inr ne ↦
              let t : eqb l.var v ≡ false = grind (arith, common_steps) in
              held vars c v s (λ k d lt. below (suc k) d (omega arith)) (rw t at e)
        ]
