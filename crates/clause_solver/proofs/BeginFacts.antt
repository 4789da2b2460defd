-- How the clauses of a store come to be watched.
use Rattle.std.proofs.Common.{◌≡◌, ℕ, ◌+◌, ◌*◌, ◌<◌, ◌≤◌, List, [], ◌∷◌, ◌++◌, Option, Some, None, length, get_or, take, refl, sym, ap, subst, ◌∙◌, inl, inr, arith}
use Rattle.std.specs.Prelude.{slice_get}
use Rattle.std.proofs.Math.ListN.{replicate}
use Rattle.std.proofs.lemmas.Bool.{cases_eq}
use Rattle.std.proofs.lemmas.List.{take_more, take_all, length-take-le, length-replicate, get_or_past}
use Rattle.std.proofs.lemmas.Option.{slice_get_within, get_or_from_slice_get}
use Rattle.clause_store.specs.declared.lit.Lit.{Lit}
use Rattle.clause_store.specs.Signs.{Ascends, sign_of}
use Rattle.clause_store.specs.Assignments.{HasTrue, HasTwoOpen}
use Rattle.clause_solver.specs.declared.watches.Pair.{Pair}
use Rattle.clause_solver.specs.Trails.{History}
use Rattle.clause_solver.specs.Propagation.{IsInRange, IsExplained}
use Rattle.clause_solver.specs.Watches.{code_of, pair_lits, Watching, paired, unpaired, IsPairOf, IsWatching, IsAwake, IsSettled, IsWatched}
use Rattle.clause_solver.proofs.SignFacts.{sign_other}
use Rattle.clause_solver.proofs.StandingFacts.{ascends_sign}
use Rattle.clause_solver.proofs.PropagationFacts.{held_range}
use Rattle.clause_solver.proofs.WatchFacts.{code_less, watching_paired, watching_unpaired}
use Rattle.clause_solver.proofs.SettleFacts.{settled_more}
use Rattle.clause_solver.proofs.WatchJumps.{settled_new}

-- the clauses up to a number are watched, or have a true literal
pub record IsBeginning (store : List (List Lit)) (h : History) (w : Watching) (id : ℕ) : Type 0 where
  pub explained : IsExplained store h
  pub level : h.starts ≡ []
  pub watching : IsWatching (take id store) h.vars w
  pub settled : IsSettled (take id store) w [] h.lits

one_more : (store : List (List Lit)) (id : ℕ) (c : List Lit) → slice_get store id ≡ Some c → take (id + 1) store ≡ take id store ++ c ∷ []
one_more store id c e = take_more store id c (slice_get_within store id c e) ∙ ap (λ x. take id store ++ x ∷ []) (get_or_from_slice_get store id c c e)

-- a clause that is not watched has a true literal
pub begin_none : (store : List (List Lit)) (h after : History) (w : Watching) (id : ℕ) (c : List Lit) (more : List Lit) → IsBeginning store h w id → slice_get store id ≡ Some c → IsExplained store after → after.starts ≡ [] → after.vars ≡ h.vars → after.lits ≡ h.lits ++ more → HasTrue after.lits c → IsBeginning store after (unpaired w) (id + 1)
begin_none store h after w id c more b named x level vars lits met =
    let next : take (id + 1) store ≡ take id store ++ c ∷ [] = one_more store id c named in
    let old : IsSettled (take id store) w [] after.lits = subst (IsSettled (take id store) w []) (sym lits) (settled_more (take id store) w [] h.lits more b.settled) in
    record {
      explained = x;
      level = level;
      watching = subst (λ n. IsWatching (take (id + 1) store) n (unpaired w)) (sym vars) (subst (λ cs. IsWatching cs h.vars (unpaired w)) (sym next) (watching_unpaired (take id store) h.vars w c b.watching));
      settled = subst (λ cs. IsSettled cs (unpaired w) [] after.lits) (sym next) (settled_new (take id store) c w (unpaired w) None [] after.lits refl b.watching.pairs_len old (inl met));
    }

nothing_awake : (p : Pair) → IsAwake [] (Some p)
nothing_awake p = record { lits = p; is = refl; awake = λ l within f. absurd (cc) }

-- the first two literals of a clause
pub first_two : (c : List Lit) → Ascends c → 2 ≤ length c → (l m : Lit) → slice_get c 0 ≡ Some l → slice_get c 1 ≡ Some m → IsPairOf c (pair_lits l m)
first_two c h long l m one two =
    let less : (get_or c 0 l).var < (get_or c 1 l).var = h 0 1 l (omega arith) (omega arith) in
    let a : get_or c 0 l ≡ l = get_or_from_slice_get c 0 l l one in
    let b : get_or c 1 l ≡ m = get_or_from_slice_get c 1 m l two in
    let va : (get_or c 0 l).var ≡ l.var = ap (λ (x : Lit). x.var) a in
    let vb : (get_or c 1 l).var ≡ m.var = ap (λ (x : Lit). x.var) b in
    record { one = ascends_sign c h 0 l one; other = ascends_sign c h 1 m two; differ = λ same. absurd (omega arith) }

pub begin_pair : (store : List (List Lit)) (h : History) (w : Watching) (id : ℕ) (c : List Lit) (l m : Lit) → IsBeginning store h w id → slice_get store id ≡ Some c → IsInRange h.vars c → IsPairOf c (pair_lits l m) → IsBeginning store h (paired w (pair_lits l m) id) (id + 1)
begin_pair store h w id c l m b named range p =
    let next : take (id + 1) store ≡ take id store ++ c ∷ [] = one_more store id c named in
    let lt : id < length store = slice_get_within store id c named in
    let len : length (take id store) ≡ id = length-take-le id store (omega arith) in
    let lists_len : length w.lists ≡ 2 * h.vars = b.watching.lists_len in
    let one : code_of l < 2 * h.vars = code_less l h.vars (held_range h.vars c l.var l.positive range p.one) in
    let two : code_of m < 2 * h.vars = code_less m h.vars (held_range h.vars c m.var m.positive range p.other) in
    record {
      explained = b.explained;
      level = b.level;
      watching = subst (λ cs. IsWatching cs h.vars (paired w (pair_lits l m) id)) (sym next) (watching_paired (take id store) h.vars w c (pair_lits l m) id b.watching len p (omega arith) (omega arith));
      settled = subst (λ cs. IsSettled cs (paired w (pair_lits l m) id) [] h.lits) (sym next) (settled_new (take id store) c w (paired w (pair_lits l m) id) (Some (pair_lits l m)) [] h.lits refl b.watching.pairs_len b.settled (inr (nothing_awake (pair_lits l m))));
    }

pub begin_first : (store : List (List Lit)) (h : History) (w : Watching) → IsExplained store h → h.starts ≡ [] → IsWatching [] h.vars w → IsBeginning store h w 0
begin_first store h w x level watching = record { explained = x; level = level; watching = watching; settled = λ id c e. absurd (cc) }

pub begin_last : (store : List (List Lit)) (h : History) (w : Watching) (id : ℕ) → length store ≤ id → IsBeginning store h w id → IsWatched store h w 0
begin_last store h w id le b =
    let all : take id store ≡ store = take_all id store le in
    record {
      guarded = record {
        explained = b.explained;
        watching = subst (λ cs. IsWatching cs h.vars w) all b.watching;
        fronts = λ k lt. let none : length h.starts ≡ 0 = ap length b.level in absurd (omega arith);
      };
      within = omega arith;
      settled = subst (λ cs. IsSettled cs w [] h.lits) all b.settled;
    }

-- a clause of fewer than two literals has no two that are open
pub short_not_loose : (lits c : List Lit) → length c < 2 → HasTwoOpen lits c → ⊥
short_not_loose lits [] short t = let e : sign_of [] t.one ≡ Some t.one_sign = t.holds_one in absurd (cc)
short_not_loose lits (l ∷ []) short t =
    elim (cases_eq l.var t.one) [
      | inl one ↦
          elim (cases_eq l.var t.other) [
            | inl other ↦ t.differ (sym one ∙ other)
            | inr ne ↦ let none : sign_of (l ∷ []) t.other ≡ None = sign_other l [] t.other ne in let some : sign_of (l ∷ []) t.other ≡ Some t.other_sign = t.holds_other in absurd (cc)
          ]
      | inr ne ↦ let none : sign_of (l ∷ []) t.one ≡ None = sign_other l [] t.one ne in let some : sign_of (l ∷ []) t.one ≡ Some t.one_sign = t.holds_one in absurd (cc)
    ]
short_not_loose lits (l ∷ m ∷ c) short t = absurd (omega arith)

pub watching_none : (vars : ℕ) → IsWatching [] vars (record { lists = replicate (2 * vars) []; pairs = [] })
watching_none vars = record {
  lists_len = length-replicate (2 * vars) [];
  pairs_len = refl;
  held = λ id c p e is. absurd (cc);
  listed = λ id p l is within. let none : get_or {A = Option Pair} [] id None ≡ None = get_or_past [] id None (omega arith) in absurd (cc);
}
