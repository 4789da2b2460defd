-- The lists of watched clauses, as clauses are listed under literals and no longer are.
use Rattle.std.proofs.Common.{◌≡◌, ◌≢◌, ℕ, suc, zero, ◌+◌, ◌-◌, ◌*◌, ◌<◌, ◌≤◌, Bool, true, false, cond, List, [], ◌∷◌, ◌++◌, Option, Some, None, length, get_or, refl, sym, ap, subst, ◌∙◌, ◌⊎◌, inl, inr, arith}
use Rattle.std.specs.Prelude.{slice_get}
use Rattle.std.specs.List.{swap_remove}
use Rattle.std.proofs.Math.ListN.{set}
use Rattle.std.proofs.lemmas.Bool.{cases_eq, cases_lt}
use Rattle.std.proofs.lemmas.List.{length-set, length-take-le, length_push, get_or-set_same, get_or-set_other, get_or_past, get_or_append_left, get_or_push}
use Rattle.std.proofs.lemmas.Option.{same_Some, slice_get_within, get_or_from_slice_get}
use Rattle.clause_store.specs.declared.lit.Lit.{Lit}
use Rattle.clause_solver.specs.declared.watches.Pair.{Pair}
use Rattle.clause_solver.specs.Watches.{code_of, pair_lits, Watching, listed_under, pair_of, listed, paired, unpaired, rewatched, removed, IsIn, StandsFrom, Holds, IsPairOf, IsWatching}
use Rattle.clause_solver.proofs.SignFacts.{slice_get-front, slice_get-left, slice_get-last, slice_get-push}

pub lit_same : (l m : Lit) → l.var ≡ m.var → l.positive ≡ m.positive → l ≡ m
lit_same l m v p =
    let a : l ≡ record { var = m.var; positive = l.positive } = ap (λ (x : ℕ). record { var = x; positive = l.positive }) v in
    a ∙ ap (λ (x : Bool). record { var = m.var; positive = x }) p

sign_cases : (a b : Bool) → (a ≡ b) ⊎ (a ≢ b)
sign_cases true true = inl refl
sign_cases true false = inr (λ e. cc)
sign_cases false true = inr (λ e. cc)
sign_cases false false = inl refl

pub cases_lit : (l m : Lit) → (l ≡ m) ⊎ (l ≢ m)
cases_lit l m =
    elim (cases_eq l.var m.var) [
      | inl v ↦
          elim (sign_cases l.positive m.positive) [
            | inl p ↦ inl (lit_same l m v p)
            | inr ne ↦ inr (λ e. ne (ap (λ (x : Lit). x.positive) e))
          ]
      | inr ne ↦ inr (λ e. ne (ap (λ (x : Lit). x.var) e))
    ]

pub cases_in : (l : Lit) (p : Pair) → IsIn l p ⊎ (IsIn l p → ⊥)
cases_in l p =
    elim (cases_lit l p.one) [
      | inl e ↦ inl (inl e)
      | inr one ↦
          elim (cases_lit l p.other) [
            | inl e ↦ inl (inr e)
            | inr other ↦ inr (λ h. elim h [ inl e ↦ one e | inr e ↦ other e ])
          ]
    ]

code_parts : (a b : ℕ) (x y : Bool) → 2 * a + cond x 1 0 ≡ 2 * b + cond y 1 0 → (a ≡ b) × (x ≡ y)
code_parts a b true true e = (omega arith, refl)
code_parts a b true false e = absurd (omega arith)
code_parts a b false true e = absurd (omega arith)
code_parts a b false false e = (omega arith, refl)

pub same_code : (l m : Lit) → code_of l ≡ code_of m → l ≡ m
same_code l m e = let h : (l.var ≡ m.var) × (l.positive ≡ m.positive) = code_parts l.var m.var l.positive m.positive e in lit_same l m h.0 h.1

pub code_less : (l : Lit) (vars : ℕ) → l.var < vars → code_of l < 2 * vars
code_less l vars lt = by l.positive
  where
    by : (b : Bool) → 2 * l.var + cond b 1 0 < 2 * vars
    by true = omega arith
    by false = omega arith

pub set_same : {X : Type 0} → (xs : List X) (i : ℕ) (x : X) → i < length xs → slice_get (set xs i x) i ≡ Some x
set_same [] i x lt = absurd (omega arith)
set_same (y ∷ xs) zero x lt = refl
set_same (y ∷ xs) (suc i) x lt = set_same xs i x (omega arith)

pub set_other : {X : Type 0} → (xs : List X) (i j : ℕ) (x : X) → j ≢ i → slice_get (set xs i x) j ≡ slice_get xs j
set_other [] i j x ne = refl
set_other (y ∷ xs) zero zero x ne = absurd (ne refl)
set_other (y ∷ xs) zero (suc j) x ne = refl
set_other (y ∷ xs) (suc i) zero x ne = refl
set_other (y ∷ xs) (suc i) (suc j) x ne = set_other xs i j x (λ e. ne (omega arith))

-- a list with an item is one that is there
pub listed_there : (w : Watching) (l : Lit) (entry : ℕ) → entry < length (listed_under w l) → code_of l < length w.lists
listed_there w l entry lt =
    elim (cases_lt (code_of l) (length w.lists)) [
      | inl less ↦ less
      | inr ge ↦ let none : listed_under w l ≡ [] = get_or_past w.lists (code_of l) [] ge in absurd (omega (arith, ap length none))
    ]

pub listed_same : (w : Watching) (l : Lit) (id : ℕ) → code_of l < length w.lists → listed_under (listed w l id) l ≡ listed_under w l ++ id ∷ []
listed_same w l id lt = get_or-set_same w.lists (code_of l) (listed_under w l ++ id ∷ []) [] lt

pub listed_other : (w : Watching) (l m : Lit) (id : ℕ) → m ≢ l → listed_under (listed w l id) m ≡ listed_under w m
listed_other w l m id ne = get_or-set_other w.lists (code_of l) (code_of m) (listed_under w l ++ id ∷ []) [] (λ e. ne (same_code m l e))

pub removed_same : (w : Watching) (l : Lit) (entry : ℕ) → entry < length (listed_under w l) → listed_under (removed w l entry) l ≡ swap_remove (listed_under w l) entry 0
removed_same w l entry lt = get_or-set_same w.lists (code_of l) (swap_remove (listed_under w l) entry 0) [] (listed_there w l entry lt)

pub removed_other : (w : Watching) (l m : Lit) (entry : ℕ) → m ≢ l → listed_under (removed w l entry) m ≡ listed_under w m
removed_other w l m entry ne = get_or-set_other w.lists (code_of l) (code_of m) (swap_remove (listed_under w l) entry 0) [] (λ e. ne (same_code m l e))

pub length-removed : (list : List ℕ) (entry : ℕ) → entry < length list → length (swap_remove list entry 0) ≡ length list - 1
length-removed list entry lt =
    let n : length (set list entry (get_or list (length list - 1) 0)) ≡ length list = length-set list entry (get_or list (length list - 1) 0) in
    length-take-le (length list - 1) (set list entry (get_or list (length list - 1) 0)) (omega arith)

pub stands_new : (list : List ℕ) (start id : ℕ) → start ≤ length list → StandsFrom (list ++ id ∷ []) start id
stands_new list start id le = record { place = length list; past = le; at_place = slice_get-last list id }

pub stands_kept : (list : List ℕ) (x start id : ℕ) → StandsFrom list start id → StandsFrom (list ++ x ∷ []) start id
stands_kept list x start id s = record { place = s.place; past = s.past; at_place = slice_get-left list (x ∷ []) s.place id s.at_place }

-- an entry that is not that of the number
other_entry : (list : List ℕ) (entry x id : ℕ) (p : ℕ) → slice_get list entry ≡ Some x → id ≢ x → slice_get list p ≡ Some id → p ≢ entry
other_entry list entry x id p at ne e = λ same. ne (same_Some id x (sym e ∙ ap (slice_get list) same ∙ at))

pub stands_next : (list : List ℕ) (entry x id : ℕ) → slice_get list entry ≡ Some x → id ≢ x → StandsFrom list entry id → StandsFrom list (entry + 1) id
stands_next list entry x id at ne s =
    let apart : s.place ≢ entry = other_entry list entry x id s.place at ne s.at_place in
    let past : entry ≤ s.place = s.past in
    record { place = s.place; past = later s.place entry past apart; at_place = s.at_place }
  where
    later : (p e : ℕ) → e ≤ p → p ≢ e → e + 1 ≤ p
    later p e le ne = elim (cases_eq p e) [ inl same ↦ absurd (ne same) | inr other ↦ omega arith ]

-- an entry is taken out, and the last one comes into its place
pub stands_removed : (list : List ℕ) (start entry x id : ℕ) → start ≤ entry → slice_get list entry ≡ Some x → id ≢ x → StandsFrom list start id → StandsFrom (swap_remove list entry 0) start id
stands_removed list start entry x id le at ne s =
    let lt : s.place < length list = slice_get_within list s.place id s.at_place in
    let here : entry < length list = slice_get_within list entry x at in
    let apart : s.place ≢ entry = other_entry list entry x id s.place at ne s.at_place in
    elim (cases_eq s.place (length list - 1)) [
      | inl last ↦
          let value : get_or list (length list - 1) 0 ≡ id = ap (λ p. get_or list p 0) (sym last) ∙ get_or_from_slice_get list s.place id 0 s.at_place in
          let before : entry < length list - 1 = less entry s.place (length list) here apart last in
          record {
            place = entry;
            past = le;
            at_place = slice_get-front (length list - 1) (set list entry (get_or list (length list - 1) 0)) entry id before (set_same list entry (get_or list (length list - 1) 0) here ∙ ap (λ v. Some v) value);
          }
      | inr inner ↦
          record {
            place = s.place;
            past = s.past;
            at_place = slice_get-front (length list - 1) (set list entry (get_or list (length list - 1) 0)) s.place id (inside s.place (length list) lt inner) (set_other list entry s.place (get_or list (length list - 1) 0) apart ∙ s.at_place);
          }
    ]
  where
    less : (e p n : ℕ) → e < n → p ≢ e → p ≡ n - 1 → e < n - 1
    less e p n lt ne last = elim (cases_eq p e) [ inl same ↦ absurd (ne same) | inr other ↦ omega arith ]

    inside : (p n : ℕ) → p < n → p ≢ n - 1 → p < n - 1
    inside p n lt ne = elim (cases_eq p (n - 1)) [ inl same ↦ absurd (ne same) | inr other ↦ omega arith ]

-- one entry more under a literal
pub listed_kept : (w : Watching) (l m : Lit) (id k : ℕ) → code_of l < length w.lists → StandsFrom (listed_under w m) 0 k → StandsFrom (listed_under (listed w l id) m) 0 k
listed_kept w l m id k lt s =
    elim (cases_lit m l) [
      | inl same ↦
          let at_l : StandsFrom (listed_under w l) 0 k = subst (λ (x : Lit). StandsFrom (listed_under w x) 0 k) same s in
          let new : StandsFrom (listed_under (listed w l id) l) 0 k = subst (λ xs. StandsFrom xs 0 k) (sym (listed_same w l id lt)) (stands_kept (listed_under w l) id 0 k at_l) in
          subst (λ (x : Lit). StandsFrom (listed_under (listed w l id) x) 0 k) (sym same) new
      | inr apart ↦ subst (λ xs. StandsFrom xs 0 k) (sym (listed_other w l m id apart)) s
    ]

pub listed_added : (w : Watching) (l : Lit) (id : ℕ) → code_of l < length w.lists → StandsFrom (listed_under (listed w l id) l) 0 id
listed_added w l id lt = subst (λ xs. StandsFrom xs 0 id) (sym (listed_same w l id lt)) (stands_new (listed_under w l) 0 id (omega arith))

pub pair_there : (w : Watching) (id : ℕ) (p : Pair) → pair_of w id ≡ Some p → id < length w.pairs
pair_there w id p e =
    elim (cases_lt id (length w.pairs)) [
      | inl lt ↦ lt
      | inr ge ↦ let none : pair_of w id ≡ None = get_or_past w.pairs id None ge in absurd (cc)
    ]

pub pair_push : (pairs : List (Option Pair)) (x : Option Pair) (k : ℕ) (q : Pair) → get_or (pairs ++ x ∷ []) k None ≡ Some q → (get_or pairs k None ≡ Some q) ⊎ ((k ≡ length pairs) × (x ≡ Some q))
pair_push pairs x k q e =
    elim (cases_lt k (length pairs)) [
      | inl lt ↦ inl (sym (get_or_append_left pairs (x ∷ []) None k lt) ∙ e)
      | inr ge ↦
          elim (cases_eq k (length pairs)) [
            | inl same ↦ inr (same, sym (get_or_push pairs x None k (sym same)) ∙ e)
            | inr past ↦ let none : get_or (pairs ++ x ∷ []) k None ≡ None = get_or_past (pairs ++ x ∷ []) k None (omega (arith, length_push pairs x)) in absurd (cc)
          ]
    ]

-- an entry whose clause is not watched by the literal is taken out
pub watching_removed : (clauses : List (List Lit)) (vars : ℕ) (w : Watching) (l : Lit) (entry x : ℕ) → IsWatching clauses vars w → slice_get (listed_under w l) entry ≡ Some x → ((p : Pair) → pair_of w x ≡ Some p → IsIn l p → ⊥) → IsWatching clauses vars (removed w l entry)
watching_removed clauses vars w l entry x g at lacks = record {
  lists_len = length-set w.lists (code_of l) (swap_remove (listed_under w l) entry 0) ∙ g.lists_len;
  pairs_len = g.pairs_len;
  held = g.held;
  listed = λ id p m is within.
      let old : StandsFrom (listed_under w m) 0 id = g.listed id p m is within in
      elim (cases_lit m l) [
        | inl same ↦
            let at_l : StandsFrom (listed_under w l) 0 id = subst (λ (y : Lit). StandsFrom (listed_under w y) 0 id) same old in
            let apart : id ≢ x = λ e. lacks p (ap (pair_of w) (sym e) ∙ is) (subst (λ (y : Lit). IsIn y p) same within) in
            let lt : entry < length (listed_under w l) = slice_get_within (listed_under w l) entry x at in
            let new : StandsFrom (listed_under (removed w l entry) l) 0 id = subst (λ xs. StandsFrom xs 0 id) (sym (removed_same w l entry lt)) (stands_removed (listed_under w l) 0 entry x id (omega arith) at apart at_l) in
            subst (λ (y : Lit). StandsFrom (listed_under (removed w l entry) y) 0 id) (sym same) new
        | inr other ↦ subst (λ xs. StandsFrom xs 0 id) (sym (removed_other w l m entry other)) old
      ];
}

-- a clause is watched by another literal in place of one
pub watching_rewatched : (clauses : List (List Lit)) (vars : ℕ) (w : Watching) (c : List Lit) (old : Pair) (new other : Lit) (id : ℕ) → IsWatching clauses vars w → slice_get clauses id ≡ Some c → pair_of w id ≡ Some old → IsIn other old → Holds c new → new.var ≢ other.var → code_of new < length w.lists → IsWatching clauses vars (rewatched w (pair_lits new other) id)
watching_rewatched clauses vars w c old new other id g named was within holds apart lt = record {
  lists_len = length-set w.lists (code_of new) (listed_under w new ++ id ∷ []) ∙ g.lists_len;
  pairs_len = length-set w.pairs id (Some (pair_lits new other)) ∙ g.pairs_len;
  held = λ k d q e is.
      elim (cases_eq k id) [
        | inl same ↦
            let q_is : pair_lits new other ≡ q = same_Some (pair_lits new other) q (sym (set_here k same) ∙ is) in
            let c_is : c ≡ d = same_Some c d (sym named ∙ ap (slice_get clauses) (sym same) ∙ e) in
            subst (λ x. IsPairOf x q) c_is (subst (IsPairOf c) q_is (record { one = holds; other = held_in (g.held id c old named was) within; differ = apart }))
        | inr ne ↦ g.held k d q e (sym (get_or-set_other w.pairs id k (Some (pair_lits new other)) None ne) ∙ is)
      ];
  listed = λ k q m is at.
      elim (cases_eq k id) [
        | inl same ↦
            let q_is : pair_lits new other ≡ q = same_Some (pair_lits new other) q (sym (set_here k same) ∙ is) in
            subst (λ x. StandsFrom (listed_under (listed w new id) m) 0 x) (sym same) (here m (subst (IsIn m) (sym q_is) at))
        | inr ne ↦ listed_kept w new m id k lt (g.listed k q m (sym (get_or-set_other w.pairs id k (Some (pair_lits new other)) None ne) ∙ is) at)
      ];
}
  where
    set_here : (k : ℕ) → k ≡ id → get_or (set w.pairs id (Some (pair_lits new other))) k None ≡ Some (pair_lits new other)
    set_here k same = ap (λ n. get_or (set w.pairs id (Some (pair_lits new other))) n None) same ∙ get_or-set_same w.pairs id (Some (pair_lits new other)) None (pair_there w id old was)

    held_in : IsPairOf c old → IsIn other old → Holds c other
    held_in h (inl e) = subst (Holds c) (sym e) h.one
    held_in h (inr e) = subst (Holds c) (sym e) h.other

    here : (m : Lit) → IsIn m (pair_lits new other) → StandsFrom (listed_under (listed w new id) m) 0 id
    here m (inl e) = subst (λ (x : Lit). StandsFrom (listed_under (listed w new id) x) 0 id) (sym e) (listed_added w new id lt)
    here m (inr e) = subst (λ (x : Lit). StandsFrom (listed_under (listed w new id) x) 0 id) (sym e) (listed_kept w new other id id lt (g.listed id old other was within))

clause_push : (clauses : List (List Lit)) (c : List Lit) (k : ℕ) (d : List Lit) → slice_get (clauses ++ c ∷ []) k ≡ Some d → (slice_get clauses k ≡ Some d) ⊎ ((k ≡ length clauses) × (c ≡ d))
clause_push clauses c k d e = slice_get-push clauses c k d e

-- one clause more
pub watching_paired : (clauses : List (List Lit)) (vars : ℕ) (w : Watching) (c : List Lit) (p : Pair) (id : ℕ) → IsWatching clauses vars w → length clauses ≡ id → IsPairOf c p → code_of p.one < length w.lists → code_of p.other < length w.lists → IsWatching (clauses ++ c ∷ []) vars (paired w p id)
watching_paired clauses vars w c p id g len h one other = record {
  lists_len = length-set (listed w p.one id).lists (code_of p.other) (listed_under (listed w p.one id) p.other ++ id ∷ []) ∙ first_len ∙ g.lists_len;
  pairs_len = length_push w.pairs (Some p) ∙ ap (λ n. n + 1) g.pairs_len ∙ sym (length_push clauses c);
  held = λ k d q e is.
      let pairs_len : length w.pairs ≡ length clauses = g.pairs_len in
      elim (pair_push w.pairs (Some p) k q is) [
        | inl old ↦
            elim (clause_push clauses c k d e) [
              | inl before ↦ g.held k d q before old
              | inr now ↦ let lt : k < length w.pairs = pair_there w k q old in let at : k ≡ length clauses = now.0 in absurd (omega arith)
            ]
        | inr new ↦
            elim (clause_push clauses c k d e) [
              | inl before ↦ let lt : k < length clauses = slice_get_within clauses k d before in let at : k ≡ length w.pairs = new.0 in absurd (omega arith)
              | inr now ↦ subst (λ x. IsPairOf x q) now.1 (subst (IsPairOf c) (same_Some p q new.1) h)
            ]
      ];
  listed = λ k q m is at.
      let pairs_len : length w.pairs ≡ length clauses = g.pairs_len in
      elim (pair_push w.pairs (Some p) k q is) [
        | inl old ↦ both m k (g.listed k q m old at)
        | inr new ↦
            let same : id ≡ k = sym len ∙ sym pairs_len ∙ sym new.0 in
            subst (StandsFrom (listed_under (listed (listed w p.one id) p.other id) m) 0) same (here m (subst (IsIn m) (sym (same_Some p q new.1)) at))
      ];
}
  where
    first_len : length (listed w p.one id).lists ≡ length w.lists
    first_len = length-set w.lists (code_of p.one) (listed_under w p.one ++ id ∷ [])

    second : code_of p.other < length (listed w p.one id).lists
    second = let n : length (listed w p.one id).lists ≡ length w.lists = first_len in omega arith

    both : (m : Lit) (k : ℕ) → StandsFrom (listed_under w m) 0 k → StandsFrom (listed_under (listed (listed w p.one id) p.other id) m) 0 k
    both m k s = listed_kept (listed w p.one id) p.other m id k second (listed_kept w p.one m id k one s)

    here : (m : Lit) → IsIn m p → StandsFrom (listed_under (listed (listed w p.one id) p.other id) m) 0 id
    here m (inl e) = subst (λ (x : Lit). StandsFrom (listed_under (listed (listed w p.one id) p.other id) x) 0 id) (sym e) (listed_kept (listed w p.one id) p.other p.one id id second (listed_added w p.one id one))
    here m (inr e) = subst (λ (x : Lit). StandsFrom (listed_under (listed (listed w p.one id) p.other id) x) 0 id) (sym e) (listed_added (listed w p.one id) p.other id second)

pub watching_unpaired : (clauses : List (List Lit)) (vars : ℕ) (w : Watching) (c : List Lit) → IsWatching clauses vars w → IsWatching (clauses ++ c ∷ []) vars (unpaired w)
watching_unpaired clauses vars w c g = record {
  lists_len = g.lists_len;
  pairs_len = length_push w.pairs None ∙ ap (λ n. n + 1) g.pairs_len ∙ sym (length_push clauses c);
  held = λ k d q e is.
      let pairs_len : length w.pairs ≡ length clauses = g.pairs_len in
      elim (pair_push w.pairs None k q is) [
        | inl old ↦
            elim (clause_push clauses c k d e) [
              | inl before ↦ g.held k d q before old
              | inr now ↦ let lt : k < length w.pairs = pair_there w k q old in let at : k ≡ length clauses = now.0 in absurd (omega arith)
            ]
        | inr new ↦ absurd (cc)
      ];
  listed = λ k q m is at.
      elim (pair_push w.pairs None k q is) [
        | inl old ↦ g.listed k q m old at
        | inr new ↦ absurd (cc)
      ];
}
