-- What stays true when a jump goes back and a learnt clause is added.
use Rattle.std.proofs.Common.{◌≡◌, ◌≢◌, ℕ, ◌+◌, ◌-◌, ◌<◌, ◌≤◌, Bool, true, List, [], ◌∷◌, ◌++◌, Some, None, is_some, length, take, refl, sym, ap, subst, ◌∙◌, ◌⊎◌, inl, inr, arith}
use Rattle.std.specs.Prelude.{slice_get, slice_index}
use Rattle.std.proofs.lemmas.Bool.{cases_eq, cases_lt}
use Rattle.std.proofs.lemmas.List.{take-take, length-take-le, get_or-take}
use Rattle.std.proofs.lemmas.List.Elements.{All-push}
use Rattle.clause_store.specs.declared.lit.Lit.{Lit}
use Rattle.clause_store.specs.Signs.{sign_of}
use Rattle.clause_store.specs.Assignments.{IsClosed, IsClosedFor, IsUnit}
use Rattle.clause_solver.specs.Trails.{History, IsCoherent, undone, level_start_of}
use Rattle.clause_solver.specs.Propagation.{IsInRange, IsReason, IsExplained}
use Rattle.clause_solver.specs.Analysis.{IsLearnt}
use Rattle.clause_solver.specs.Jumps.{EndsAt, IsKept, IsKeptLevel}
use Rattle.clause_solver.proofs.SignFacts.{present, is_present, sign_present, sign_of-front, sign_of-front_le, sign_of-front_le_none, sign_push_other, front_more, slice_get-take, slice_get-front, slice_get-left}
use Rattle.clause_solver.proofs.StandingFacts.{ascends_sign}
use Rattle.clause_solver.proofs.CountFacts.{IsFresh}

pub kept_first : (lits c : List Lit) (start : ℕ) → IsKept lits c [] start 0
kept_first lits c start = record { within = omega arith; ends = inl refl; enough = λ v seen set. absurd (cc) }

some_more : (lits : List Lit) (m n v : ℕ) → m ≤ n → is_some (sign_of (take m lits) v) ≡ true → is_some (sign_of (take n lits) v) ≡ true
some_more lits m n v le e =
    let s : (x : Bool) × (sign_of (take m lits) v ≡ Some x) = present _ e in
    is_present _ s.0 (sign_of-front_le m n lits v s.0 le s.1)

-- one literal more of the clause is seen
seen_other : (c : List Lit) (i v : ℕ) (l : Lit) → slice_get c i ≡ Some l → l.var ≢ v → is_some (sign_of (take (i + 1) c) v) ≡ true → is_some (sign_of (take i c) v) ≡ true
seen_other c i v l e ne seen = ap is_some (sym (sign_push_other (take i c) l v ne) ∙ ap (λ a. sign_of a v) (sym (front_more c i l e))) ∙ seen

-- a place that is kept at least
pub kept_more : (lits c : List Lit) (start kept place vars : ℕ) (l m : Lit) → IsInRange vars c → slice_get lits place ≡ Some m → m.var ≡ l.var → (i : ℕ) → slice_get c i ≡ Some l → place < start → kept ≤ place → IsKept lits c (take i c) start kept → IsKept lits c (take (i + 1) c) start (place + 1)
kept_more lits c start kept place vars l m range at same i e lt le old = record {
  within = omega arith;
  ends = inr (record { place = place; is_last = refl; lit = m; at_place = at; sign = l.positive; holds = ap (sign_of c) same ∙ ascends_sign c range.ascends i l e });
  enough = λ v seen set.
      elim (cases_eq l.var v) [
        | inl here ↦ ap (λ x. is_some (sign_of (take (place + 1) lits) x)) (sym here ∙ sym same) ∙ sign_present (take (place + 1) lits) place m (slice_get-front (place + 1) lits place m (omega arith) at)
        | inr ne ↦ some_more lits kept (place + 1) v (omega arith) (old.enough v (seen_other c i v l e ne seen) set)
      ];
}

-- a place that is set since the last decision, or that is kept already
pub kept_same : (lits c : List Lit) (start kept place : ℕ) (l m : Lit) → IsFresh lits → slice_get lits place ≡ Some m → m.var ≡ l.var → (i : ℕ) → slice_get c i ≡ Some l → (start ≤ place) ⊎ (place < kept) → IsKept lits c (take i c) start kept → IsKept lits c (take (i + 1) c) start kept
kept_same lits c start kept place l m fresh at same i e where_is old = record {
  within = old.within;
  ends = old.ends;
  enough = λ v seen set.
      elim (cases_eq l.var v) [
        | inl here ↦ by v (same ∙ here) set where_is
        | inr ne ↦ old.enough v (seen_other c i v l e ne seen) set
      ];
}
  where
    by : (v : ℕ) → m.var ≡ v → is_some (sign_of (take start lits) v) ≡ true → (start ≤ place) ⊎ (place < kept) → is_some (sign_of (take kept lits) v) ≡ true
    by v at_v set (inl le) =
        let none : sign_of (take start lits) m.var ≡ None = sign_of-front_le_none start place lits m.var le (fresh place m at) in
        let there : is_some (sign_of (take start lits) m.var) ≡ true = ap (λ x. is_some (sign_of (take start lits) x)) at_v ∙ set in
        absurd (cc)
    by v at_v set (inr lt) = ap (λ x. is_some (sign_of (take kept lits) x)) (sym at_v) ∙ sign_present (take kept lits) place m (slice_get-front kept lits place m lt at)

cut_coherent : (h : History) (level : ℕ) → slice_index h.starts level ≤ length h.lits → IsCoherent h → IsCoherent (undone h level)
cut_coherent h level le x =
    let n : ℕ = slice_index h.starts level in
    let len : length (take (slice_index h.starts level) h.lits) ≡ slice_index h.starts level = length-take-le (slice_index h.starts level) h.lits le in
    let len_r : length (take (slice_index h.starts level) h.reasons) ≡ slice_index h.starts level = length-take-le (slice_index h.starts level) h.reasons (omega (arith, x.reasons_len)) in
    let bound : length h.lits ≤ h.vars = x.bound in
    record {
      fresh = λ p l e.
          let old : (p < slice_index h.starts level) × (slice_get h.lits p ≡ Some l) = slice_get-take (slice_index h.starts level) h.lits p l e in
          ap (λ a. sign_of a l.var) (take-take p (slice_index h.starts level) h.lits (omega (arith, old.0))) ∙ x.fresh p l old.1;
      in_range = λ v s e. x.in_range v s (sign_of-front (slice_index h.starts level) h.lits v s e);
      bound = omega arith;
      small = x.small;
      reasons_len = len_r ∙ sym len;
    }

-- the front of a level below, of the trail that is cut
pub front_undone : (clauses : List (List Lit)) (h : History) (level j : ℕ) → IsExplained clauses h → level < length h.starts → j < level → take (slice_index (take level h.starts) j) (take (slice_index h.starts level) h.lits) ≡ take (slice_index h.starts j) h.lits
front_undone clauses h level j x levels lt =
    let a : slice_index (take level h.starts) j ≡ slice_index h.starts j = get_or-take level h.starts j 0 lt in
    let o : slice_index h.starts j < slice_index h.starts level = x.ordered j level lt levels in
    ap (λ m. take m (take (slice_index h.starts level) h.lits)) a ∙ take-take (slice_index h.starts j) (slice_index h.starts level) h.lits (omega arith)

-- a learnt clause has two open literals before each decision that is kept
pub two_open : (lits c : List Lit) (start kept front : ℕ) → IsFresh lits → IsLearnt lits start c → EndsAt lits c kept → front < kept → kept ≤ start → IsClosedFor (take front lits) c
two_open lits c start kept front fresh u at lt le =
    let last : kept ≡ at.place + 1 = at.is_last in
    let none : sign_of (take front lits) at.lit.var ≡ None = sign_of-front_le_none front at.place lits at.lit.var (omega arith) (fresh at.place at.lit at.at_place) in
    let there : is_some (sign_of (take start lits) at.lit.var) ≡ true = sign_present (take start lits) at.place at.lit (slice_get-front start lits at.place at.lit (omega arith) at.at_place) in
    inr (record {
      one = u.var;
      other = at.lit.var;
      differ = λ same. let n : sign_of (take start lits) at.lit.var ≡ None = ap (sign_of (take start lits)) (sym same) ∙ u.is_open in cc;
      one_sign = u.sign;
      holds_one = u.unit.holds;
      other_sign = at.sign;
      holds_other = at.holds;
      one_open = sign_of-front_le_none front start lits u.var (omega arith) u.is_open;
      other_open = none;
    })

-- a trail that is taken back to before a decision
pub explained_undo : (clauses : List (List Lit)) (h : History) (level : ℕ) → IsExplained clauses h → level < length h.starts → IsExplained clauses (undone h level)
explained_undo clauses h level x levels =
    let n : slice_index h.starts level < length h.lits = x.bounded level levels in
    let len : length (take (slice_index h.starts level) h.lits) ≡ slice_index h.starts level = length-take-le (slice_index h.starts level) h.lits (omega arith) in
    let len_s : length (take level h.starts) ≡ level = length-take-le level h.starts (omega arith) in
    let start_is : (j : ℕ) → j < level → slice_index (take level h.starts) j ≡ slice_index h.starts j = λ j lt. get_or-take level h.starts j 0 lt in
    record {
      coherent = cut_coherent h level (omega arith) x.coherent;
      reasoned = λ p id e.
          let old : (p < slice_index h.starts level) × (slice_get h.reasons p ≡ Some (Some id)) = slice_get-take (slice_index h.starts level) h.reasons p (Some id) e in
          let r : IsReason clauses h.lits p id = x.reasoned p id old.1 in
          record {
            lit = r.lit;
            at_place = slice_get-front (slice_index h.starts level) h.lits p r.lit old.0 r.at_place;
            clause = r.clause;
            named = r.named;
            unit = subst (λ a. IsUnit a r.clause r.lit.var r.lit.positive) (sym (take-take p (slice_index h.starts level) h.lits (omega (arith, old.0)))) r.unit;
          };
      decided = λ p e.
          let old : (p < slice_index h.starts level) × (slice_get h.reasons p ≡ Some None) = slice_get-take (slice_index h.starts level) h.reasons p None e in
          let d : (j : ℕ) × (j < length h.starts) × (slice_index h.starts j ≡ p) = x.decided p old.1 in
          let lt : d.0 < level = level_below d.0 p d.1 d.2 old.0 in
          (d.0, omega arith, start_is d.0 lt ∙ d.2);
      ordered = λ i j i<j j<n.
          let a : slice_index (take level h.starts) i ≡ slice_index h.starts i = start_is i (omega arith) in
          let b : slice_index (take level h.starts) j ≡ slice_index h.starts j = start_is j (omega arith) in
          let o : slice_index h.starts i < slice_index h.starts j = x.ordered i j i<j (omega arith) in
          omega arith;
      bounded = λ j lt.
          let a : slice_index (take level h.starts) j ≡ slice_index h.starts j = start_is j (omega arith) in
          let o : slice_index h.starts j < slice_index h.starts level = x.ordered j level (omega arith) levels in
          omega arith;
      closed = λ j lt. subst (λ a. IsClosed a clauses) (sym (front_undone clauses h level j x levels (omega arith))) (x.closed j (omega arith));
      in_range = x.in_range;
    }
  where
    level_below : (j p : ℕ) → j < length h.starts → slice_index h.starts j ≡ p → p < slice_index h.starts level → j < level
    level_below j p jn at lt =
        elim (cases_lt j level) [
          | inl less ↦ less
          | inr ge ↦
              elim (cases_eq level j) [
                | inl eq ↦ let same : slice_index h.starts level ≡ slice_index h.starts j = ap (slice_index h.starts) eq in absurd (omega arith)
                | inr ne ↦ let o : slice_index h.starts level < slice_index h.starts j = x.ordered level j (omega arith) jn in absurd (omega arith)
              ]
        ]

-- one clause more, which is closed before each decision
pub explained_learn : (clauses : List (List Lit)) (h : History) (c : List Lit) → IsExplained clauses h → IsInRange h.vars c → ((k : ℕ) → k < length h.starts → IsClosedFor (take (slice_index h.starts k) h.lits) c) → IsExplained (clauses ++ c ∷ []) h
explained_learn clauses h c x range closed = record {
  coherent = x.coherent;
  reasoned = λ p id e.
      let r : IsReason clauses h.lits p id = x.reasoned p id e in
      record { lit = r.lit; at_place = r.at_place; clause = r.clause; named = slice_get-left clauses (c ∷ []) id r.clause r.named; unit = r.unit };
  decided = x.decided;
  ordered = x.ordered;
  bounded = x.bounded;
  closed = λ k lt. All-push (IsClosedFor (take (slice_index h.starts k) h.lits)) clauses c (x.closed k lt) (closed k lt);
  in_range = All-push (IsInRange h.vars) clauses c x.in_range range;
}

-- a learnt clause is closed before each decision that is kept
pub jump_closed : (clauses : List (List Lit)) (h : History) (c : List Lit) (kept level : ℕ) → IsExplained clauses h → IsLearnt h.lits (level_start_of h) c → IsKept h.lits c c (level_start_of h) kept → IsKeptLevel h.starts kept level → (j : ℕ) → j < level → IsClosedFor (take (slice_index h.starts j) h.lits) c
jump_closed clauses h c kept level x learnt k kl j lt = by_level kl.keeps
  where
    before_kept : slice_index h.starts (level - 1) < kept → slice_index h.starts j < kept
    before_kept last =
        elim (cases_eq j (level - 1)) [
          | inl eq ↦ let same : slice_index h.starts j ≡ slice_index h.starts (level - 1) = ap (slice_index h.starts) eq in omega arith
          | inr ne ↦ let below : level < length h.starts = kl.below_last in let o : slice_index h.starts j < slice_index h.starts (level - 1) = x.ordered j (level - 1) (omega arith) (omega arith) in omega arith
        ]

    by_end : slice_index h.starts j < kept → (kept ≡ 0) ⊎ EndsAt h.lits c kept → IsClosedFor (take (slice_index h.starts j) h.lits) c
    by_end less (inl none) = absurd (omega arith)
    by_end less (inr ends) = two_open h.lits c (level_start_of h) kept (slice_index h.starts j) x.coherent.fresh learnt ends less k.within

    by_level : (level ≡ 0) ⊎ (slice_index h.starts (level - 1) < kept) → IsClosedFor (take (slice_index h.starts j) h.lits) c
    by_level (inl none) = absurd (omega arith)
    by_level (inr last) = by_end (before_kept last) k.ends

-- after the jump, with the learnt clause
pub explained_jump : (clauses : List (List Lit)) (h : History) (c : List Lit) (kept level : ℕ) → IsExplained clauses h → IsInRange h.vars c → IsLearnt h.lits (level_start_of h) c → IsKept h.lits c c (level_start_of h) kept → IsKeptLevel h.starts kept level → IsExplained (clauses ++ c ∷ []) (undone h level)
explained_jump clauses h c kept level x range learnt k kl =
    let levels : level < length h.starts = kl.below_last in
    let len_s : length (take level h.starts) ≡ level = length-take-le level h.starts (omega arith) in
    explained_learn clauses (undone h level) c (explained_undo clauses h level x levels) range (λ j lt.
    subst (λ a. IsClosedFor a c) (sym (front_undone clauses h level j x levels (omega arith))) (jump_closed clauses h c kept level x learnt k kl j (omega arith)))
