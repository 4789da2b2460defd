-- Which clauses are settled, as literals are set and taken back and clauses are watched by others.
use Rattle.std.proofs.Common.{◌≡◌, ◌≢◌, ℕ, ◌+◌, ◌<◌, ◌≤◌, Bool, true, false, not, List, [], ◌∷◌, ◌++◌, Option, Some, None, length, take, refl, sym, ap, subst, ◌∙◌, ◌⊎◌, inl, inr, arith}
use Rattle.std.specs.Prelude.{slice_get}
use Rattle.std.proofs.lemmas.Bool.{cases_eq}
use Rattle.std.proofs.lemmas.List.{take-append-le, take_at, get_or-set_same, get_or-set_other}
use Rattle.std.proofs.lemmas.Option.{same_Some, slice_get_within}
use Rattle.clause_store.specs.declared.lit.Lit.{Lit}
use Rattle.clause_store.specs.Signs.{sign_of}
use Rattle.clause_store.specs.Assignments.{HasTrue}
use Rattle.clause_solver.specs.declared.watches.Pair.{Pair}
use Rattle.clause_solver.specs.Trails.{History, pushed}
use Rattle.clause_solver.specs.Watches.{opposite_of, pair_lits, Watching, listed_under, pair_of, rewatched, removed, IsIn, StandsFrom, IsFalse, IsAwake, IsSettledFor, IsSettled, IsWatched, IsPending}
use Rattle.clause_solver.proofs.SignFacts.{sign_of-front, sign_push_same, sign_push_other, front_more}
use Rattle.clause_solver.proofs.CountFacts.{IsFresh}
use Rattle.clause_solver.proofs.WatchFacts.{lit_same, cases_in, listed_other, removed_same, pair_there, stands_next, stands_removed}

opposite_sign : (a b : Bool) → not a ≡ not b → a ≡ b
opposite_sign true true e = refl
opposite_sign true false e = absurd (cc)
opposite_sign false true e = absurd (cc)
opposite_sign false false e = refl

-- of all literals only the one of a place, opposed, is false after the place and not before
pub front_step : (lits : List Lit) (place : ℕ) (l m : Lit) → IsFresh lits → slice_get lits place ≡ Some (opposite_of l) → m ≢ l → IsFalse (take (place + 1) lits) m → IsFalse (take place lits) m
front_step lits place l m fresh at ne false_m =
    let more : take (place + 1) lits ≡ take place lits ++ opposite_of l ∷ [] = front_more lits place (opposite_of l) at in
    let after : sign_of (take place lits ++ opposite_of l ∷ []) m.var ≡ Some (not m.positive) = ap (λ a. sign_of a m.var) (sym more) ∙ false_m in
    elim (cases_eq l.var m.var) [
      | inl same ↦
          let here : sign_of (take place lits ++ opposite_of l ∷ []) l.var ≡ Some (not l.positive) = sign_push_same (take place lits) (opposite_of l) (fresh place (opposite_of l) at) in
          let signs : not m.positive ≡ not l.positive = same_Some (not m.positive) (not l.positive) (sym after ∙ ap (sign_of (take place lits ++ opposite_of l ∷ [])) (sym same) ∙ here) in
          absurd (ne (lit_same m l (sym same) (opposite_sign m.positive l.positive signs)))
      | inr apart ↦ sym (sign_push_other (take place lits) (opposite_of l) m.var apart) ∙ after
    ]

-- what is false in a front is false after it
pub false_front : (lits : List Lit) (n : ℕ) (m : Lit) → IsFalse (take n lits) m → IsFalse lits m
false_front lits n m f = sign_of-front n lits m.var (not m.positive) f

pub true_more : (lits more c : List Lit) → HasTrue lits c → HasTrue (lits ++ more) c
true_more lits more c h = record {
  var = h.var;
  sign = h.sign;
  holds = h.holds;
  is_true = sign_of-front (length lits) (lits ++ more) h.var h.sign (ap (λ a. sign_of a h.var) (take_at lits more (length lits) refl) ∙ h.is_true);
}

awake_step : (lits : List Lit) (place : ℕ) (l : Lit) (pair : Option Pair) → IsFresh lits → slice_get lits place ≡ Some (opposite_of l) → (a : IsAwake (take place lits) pair) → (IsIn l a.lits → ⊥) → IsAwake (take (place + 1) lits) pair
awake_step lits place l pair fresh at a lacks = record {
  lits = a.lits;
  is = a.is;
  awake = λ m within f. a.awake m within (front_step lits place l m fresh at (λ e. lacks (subst (λ (x : Lit). IsIn x a.lits) e within)) f);
}

-- before the list of a literal is looked at
pub pending_first : (clauses : List (List Lit)) (h : History) (w : Watching) (l : Lit) (place : ℕ) → IsWatched clauses h w place → slice_get h.lits place ≡ Some (opposite_of l) → IsPending clauses h w l place 0
pending_first clauses h w l place x at id c e = by (x.settled id c e)
  where
    by : IsSettledFor (take place h.lits) h.lits c (pair_of w id) → IsSettledFor (take (place + 1) h.lits) h.lits c (pair_of w id) ⊎ (IsSettledFor (take place h.lits) h.lits c (pair_of w id) × StandsFrom (listed_under w l) 0 id)
    by (inl t) = inl (inl t)
    by (inr a) =
        elim (cases_in l a.lits) [
          | inl within ↦ inr (inr a, x.guarded.watching.listed id a.lits l a.is within)
          | inr lacks ↦ inl (inr (awake_step h.lits place l (pair_of w id) x.guarded.explained.coherent.fresh at a lacks))
        ]

-- after the last entry
pub pending_last : (clauses : List (List Lit)) (h : History) (w : Watching) (l : Lit) (place entry : ℕ) → length (listed_under w l) ≤ entry → IsPending clauses h w l place entry → IsSettled clauses w (take (place + 1) h.lits) h.lits
pending_last clauses h w l place entry past p id c e =
    elim (p id c e) [
      | inl s ↦ s
      | inr s ↦ let lt : s.1.place < length (listed_under w l) = slice_get_within (listed_under w l) s.1.place id s.1.at_place in let ge : entry ≤ s.1.place = s.1.past in absurd (omega arith)
    ]

-- an entry that stays, whose clause has a true literal
pub pending_next : (clauses : List (List Lit)) (h : History) (w : Watching) (l : Lit) (place entry x : ℕ) → slice_get (listed_under w l) entry ≡ Some x → ((c : List Lit) → slice_get clauses x ≡ Some c → HasTrue h.lits c) → IsPending clauses h w l place entry → IsPending clauses h w l place (entry + 1)
pending_next clauses h w l place entry x at done p id c e =
    elim (p id c e) [
      | inl s ↦ inl s
      | inr s ↦
          elim (cases_eq id x) [
            | inl same ↦ inl (inl (done c (ap (slice_get clauses) (sym same) ∙ e)))
            | inr ne ↦ inr (s.0, stands_next (listed_under w l) entry x id at ne s.1)
          ]
    ]

-- an entry that goes, whose clause is not watched by the literal
pub pending_removed : (clauses : List (List Lit)) (h : History) (w : Watching) (l : Lit) (place entry x : ℕ) → IsFresh h.lits → slice_get h.lits place ≡ Some (opposite_of l) → slice_get (listed_under w l) entry ≡ Some x → ((q : Pair) → pair_of w x ≡ Some q → IsIn l q → ⊥) → IsPending clauses h w l place entry → IsPending clauses h (removed w l entry) l place entry
pending_removed clauses h w l place entry x fresh set_at at lacks p id c e = by (p id c e)
  where
    gone : IsSettledFor (take place h.lits) h.lits c (pair_of w id) → id ≡ x → IsSettledFor (take (place + 1) h.lits) h.lits c (pair_of w id)
    gone (inl t) same = inl t
    gone (inr a) same = inr (awake_step h.lits place l (pair_of w id) fresh set_at a (λ within. lacks a.lits (ap (pair_of w) (sym same) ∙ a.is) within))

    by : IsSettledFor (take (place + 1) h.lits) h.lits c (pair_of w id) ⊎ (IsSettledFor (take place h.lits) h.lits c (pair_of w id) × StandsFrom (listed_under w l) entry id) → IsSettledFor (take (place + 1) h.lits) h.lits c (pair_of w id) ⊎ (IsSettledFor (take place h.lits) h.lits c (pair_of w id) × StandsFrom (listed_under (removed w l entry) l) entry id)
    by (inl s) = inl s
    by (inr s) =
        elim (cases_eq id x) [
          | inl same ↦ inl (gone s.0 same)
          | inr ne ↦
              let lt : entry < length (listed_under w l) = slice_get_within (listed_under w l) entry x at in
              inr (s.0, subst (λ xs. StandsFrom xs entry id) (sym (removed_same w l entry lt)) (stands_removed (listed_under w l) entry entry x id (omega arith) at ne s.1))
        ]

-- a pair whose first literal is new is awake where the new one is not false and the other one was awake
awake_new : (front : List Lit) (old : Option Pair) (was : Pair) (new other : Lit) → (a : IsAwake front old) → old ≡ Some was → IsIn other was → (IsFalse front new → ⊥) → IsAwake front (Some (pair_lits new other))
awake_new front old was new other a is within alive = record {
  lits = pair_lits new other;
  is = refl;
  awake = λ m. by m;
}
  where
    by : (m : Lit) → IsIn m (pair_lits new other) → IsFalse front m → ⊥
    by m (inl e) f = alive (subst (λ (x : Lit). IsFalse front x) e f)
    by m (inr e) f =
        let same : a.lits ≡ was = same_Some a.lits was (sym a.is ∙ is) in
        a.awake other (subst (IsIn other) (sym same) within) (subst (λ (x : Lit). IsFalse front x) e f)

pub pair_rewatched : (w : Watching) (p was : Pair) (id : ℕ) → pair_of w id ≡ Some was → pair_of (rewatched w p id) id ≡ Some p
pair_rewatched w p was id is = get_or-set_same w.pairs id (Some p) None (pair_there w id was is)

pair_unmoved : (w : Watching) (p : Pair) (id k : ℕ) → k ≢ id → pair_of (rewatched w p id) k ≡ pair_of w k
pair_unmoved w p id k ne = get_or-set_other w.pairs id k (Some p) None ne

-- what was settled before a place stays so as a clause is watched by a literal that is not false
pub settled_rewatched : (clauses : List (List Lit)) (w : Watching) (lits full : List Lit) (n : ℕ) (was : Pair) (new other : Lit) (x : ℕ) → pair_of w x ≡ Some was → IsIn other was → (IsFalse lits new → ⊥) → IsSettled clauses w (take n lits) full → IsSettled clauses (rewatched w (pair_lits new other) x) (take n lits) full
settled_rewatched clauses w lits full n was new other x is within alive s id c e = by (s id c e)
  where
    by : IsSettledFor (take n lits) full c (pair_of w id) → IsSettledFor (take n lits) full c (pair_of (rewatched w (pair_lits new other) x) id)
    by (inl t) = inl t
    by (inr a) =
        elim (cases_eq id x) [
          | inl same ↦
              let now : pair_of (rewatched w (pair_lits new other) x) id ≡ Some (pair_lits new other) = ap (pair_of (rewatched w (pair_lits new other) x)) same ∙ pair_rewatched w (pair_lits new other) was x is in
              inr (subst (IsAwake (take n lits)) (sym now) (awake_new (take n lits) (pair_of w id) was new other a (ap (pair_of w) same ∙ is) within (λ f. alive (false_front lits n new f))))
          | inr ne ↦ inr (subst (IsAwake (take n lits)) (sym (pair_unmoved w (pair_lits new other) x id ne)) a)
        ]

pub pending_rewatched : (clauses : List (List Lit)) (h : History) (w : Watching) (l : Lit) (place entry : ℕ) (was : Pair) (new other : Lit) (x : ℕ) → IsFresh h.lits → slice_get h.lits place ≡ Some (opposite_of l) → pair_of w x ≡ Some was → IsIn other was → other ≢ l → new ≢ l → (IsFalse h.lits new → ⊥) → IsPending clauses h w l place entry → IsPending clauses h (rewatched w (pair_lits new other) x) l place entry
pending_rewatched clauses h w l place entry was new other x fresh at is within other_l new_l alive p id c e =
    elim (cases_eq id x) [
      | inl same ↦
          let now : pair_of (rewatched w (pair_lits new other) x) id ≡ Some (pair_lits new other) = ap (pair_of (rewatched w (pair_lits new other) x)) same ∙ pair_rewatched w (pair_lits new other) was x is in
          inl (subst (IsSettledFor (take (place + 1) h.lits) h.lits c) (sym now) (moved (ap (pair_of w) same ∙ is) (p id c e)))
      | inr ne ↦
          let pair : pair_of (rewatched w (pair_lits new other) x) id ≡ pair_of w id = pair_unmoved w (pair_lits new other) x id ne in
          let list : listed_under (rewatched w (pair_lits new other) x) l ≡ listed_under w l = listed_other w new l x (λ same. new_l (sym same)) in
          subst (λ q. IsSettledFor (take (place + 1) h.lits) h.lits c q ⊎ (IsSettledFor (take place h.lits) h.lits c q × StandsFrom (listed_under (rewatched w (pair_lits new other) x) l) entry id)) (sym pair) (subst (λ xs. IsSettledFor (take (place + 1) h.lits) h.lits c (pair_of w id) ⊎ (IsSettledFor (take place h.lits) h.lits c (pair_of w id) × StandsFrom xs entry id)) (sym list) (p id c e))
    ]
  where
    dead : IsFalse (take (place + 1) h.lits) new → ⊥
    dead f = alive (false_front h.lits (place + 1) new f)

    both : IsSettledFor (take place h.lits) h.lits c (pair_of w id) → pair_of w id ≡ Some was → IsSettledFor (take (place + 1) h.lits) h.lits c (Some (pair_lits new other))
    both (inl t) pair = inl t
    both (inr a) pair = inr (record {
      lits = pair_lits new other;
      is = refl;
      awake = λ m. by m;
    })
      where
        by : (m : Lit) → IsIn m (pair_lits new other) → IsFalse (take (place + 1) h.lits) m → ⊥
        by m (inl e) f = dead (subst (λ (y : Lit). IsFalse (take (place + 1) h.lits) y) e f)
        by m (inr e) f =
            let same : a.lits ≡ was = same_Some a.lits was (sym a.is ∙ pair) in
            let f_other : IsFalse (take (place + 1) h.lits) other = subst (λ (y : Lit). IsFalse (take (place + 1) h.lits) y) e f in
            a.awake other (subst (IsIn other) (sym same) within) (front_step h.lits place l other fresh at other_l f_other)

    moved : pair_of w id ≡ Some was → IsSettledFor (take (place + 1) h.lits) h.lits c (pair_of w id) ⊎ (IsSettledFor (take place h.lits) h.lits c (pair_of w id) × StandsFrom (listed_under w l) entry id) → IsSettledFor (take (place + 1) h.lits) h.lits c (Some (pair_lits new other))
    moved pair (inl (inl t)) = inl t
    moved pair (inl (inr a)) = inr (awake_new (take (place + 1) h.lits) (pair_of w id) was new other a pair within dead)
    moved pair (inr s) = both s.0 pair

-- one literal more that is set
pub settled_more : (clauses : List (List Lit)) (w : Watching) (front lits more : List Lit) → IsSettled clauses w front lits → IsSettled clauses w front (lits ++ more)
settled_more clauses w front lits more s id c e =
    elim (s id c e) [
      | inl t ↦ inl (true_more lits more c t)
      | inr a ↦ inr a
    ]

pub pending_push : (clauses : List (List Lit)) (h : History) (w : Watching) (l m : Lit) (r : Option ℕ) (place entry : ℕ) → place < length h.lits → IsPending clauses h w l place entry → IsPending clauses (pushed h m r) w l place entry
pending_push clauses h w l m r place entry lt p id c e =
    let far : take (place + 1) (h.lits ++ m ∷ []) ≡ take (place + 1) h.lits = take-append-le (place + 1) h.lits (m ∷ []) (omega arith) in
    let near : take place (h.lits ++ m ∷ []) ≡ take place h.lits = take-append-le place h.lits (m ∷ []) (omega arith) in
    elim (p id c e) [
      | inl s ↦ inl (subst (λ a. IsSettledFor a (h.lits ++ m ∷ []) c (pair_of w id)) (sym far) (more s))
      | inr s ↦ inr (subst (λ a. IsSettledFor a (h.lits ++ m ∷ []) c (pair_of w id)) (sym near) (more s.0), s.1)
    ]
  where
    more : {front : List Lit} → IsSettledFor front h.lits c (pair_of w id) → IsSettledFor front (h.lits ++ m ∷ []) c (pair_of w id)
    more (inl t) = inl (true_more h.lits (m ∷ []) c t)
    more (inr a) = inr a
