-- What a clause says of each variable, and that this tells the clause.
use Rattle.std.proofs.Common.{◌≡◌, ◌≢◌, ℕ, suc, zero, ◌<◌, ◌≤◌, Bool, true, false, eqb, List, [], ◌∷◌, Some, None, length, get_or, refl, sym, ◌∙◌, inl, inr, arith}
use Rattle.clause_store.specs.declared.lit.Lit.{Lit}
use Rattle.clause_store.specs.Signs.{Ascends, sign_of}
use Rattle.std.proofs.lemmas.Grind.{common_steps}
use Rattle.std.proofs.lemmas.Bool.{cases_eq, cases_lt, cases_order}

abbrev pub lit_of : ℕ → Bool → Lit
lit_of v b = record { var = v; positive = b }

pub lits_equal : (l m : Lit) → l.var ≡ m.var → l.positive ≡ m.positive → l ≡ m
lits_equal l m v b =
    let e : lit_of l.var l.positive ≡ lit_of m.var m.positive = cc in e

pub ascends_tail : (l : Lit) (lits : List Lit) → Ascends (l ∷ lits) → Ascends lits
ascends_tail l lits h = λ i j d i<j j<n. h (suc i) (suc j) d (omega arith) (omega arith)

-- it is enough that each variable is less than the next
abbrev pub NeighboursAscend : List Lit → ℕ → Type 0
NeighboursAscend lits n = (k : ℕ) (d : Lit) → suc k < n → (get_or lits k d).var < (get_or lits (suc k) d).var

neighbours_apart : (lits : List Lit) (n : ℕ) → NeighboursAscend lits n → (i j : ℕ) (d : Lit) → i < j → j < n → (get_or lits i d).var < (get_or lits j d).var
neighbours_apart lits n h i zero d i<j j<n = absurd (omega arith)
neighbours_apart lits n h i (suc j) d i<j j<n =
    let step : (get_or lits j d).var < (get_or lits (suc j) d).var = h j d j<n in
    elim (cases_lt i j) [
      | inl lt ↦
          let before : (get_or lits i d).var < (get_or lits j d).var = neighbours_apart lits n h i j d lt (omega arith) in
          omega arith
      | inr ge ↦
          let same : i ≡ j = omega arith in
          rw same step
    ]

pub ascends_from_neighbours : (lits : List Lit) (n : ℕ) → length lits ≤ n → NeighboursAscend lits n → Ascends lits
ascends_from_neighbours lits n le h = λ i j d i<j j<n. neighbours_apart lits n h i j d i<j (omega arith)

-- every later variable is greater than the first
pub ascends_head : (l : Lit) (lits : List Lit) → Ascends (l ∷ lits) → (j : ℕ) (d : Lit) → j < length lits → l.var < (get_or lits j d).var
ascends_head l lits h j d lt = h 0 (suc j) d (omega arith) (omega arith)

-- a variable that is less than all in the clause is not in it
pub sign_below : (lits : List Lit) (v : ℕ) → ((j : ℕ) (d : Lit) → j < length lits → v < (get_or lits j d).var) → sign_of lits v ≡ None
sign_below [] v h = refl
sign_below (l ∷ lits) v h =
    let lt : v < l.var = h 0 l (omega arith) in
    let rest : sign_of lits v ≡ None = sign_below lits v (λ j d lt. h (suc j) d (omega arith)) in
    let ne : eqb l.var v ≡ false = grind (arith, common_steps) in
    rw ne rest

-- the signs of the rest of a clause are those of the clause, but for the first variable
pub sign_rest : (l : Lit) (lits : List Lit) (v : ℕ) → v ≢ l.var → sign_of lits v ≡ sign_of (l ∷ lits) v
sign_rest l lits v ne =
    let e : eqb l.var v ≡ false = grind (arith, common_steps) in
    rw e refl

pub sign_first : (l : Lit) (lits : List Lit) → sign_of (l ∷ lits) l.var ≡ Some l.positive
sign_first l lits =
    let e : eqb l.var l.var ≡ true = grind (arith, common_steps) in
    rw e refl

-- a clause whose variables are all greater than the first of another one differs from it there
pub less_differs : (l m : Lit) (c d : List Lit) → Ascends (m ∷ d) → l.var < m.var → sign_of (l ∷ c) l.var ≡ sign_of (m ∷ d) l.var → ⊥
less_differs l m c d h lt e =
    let above : (j : ℕ) (x : Lit) → j < length d → l.var < (get_or d j x).var =
    λ j x k. let n : m.var < (get_or d j x).var = ascends_head m d h j x k in omega arith in
    let rest : sign_of d l.var ≡ None = sign_below d l.var above in
    let first : sign_of (l ∷ c) l.var ≡ Some l.positive = sign_first l c in
    let ne : l.var ≢ m.var = omega arith in
    let other : sign_of d l.var ≡ sign_of (m ∷ d) l.var = sign_rest m d l.var ne in
    cc

-- below the first variable of a clause, and at it, the rest of the clause says nothing
pub rest_is_none : (l : Lit) (lits : List Lit) (v : ℕ) → Ascends (l ∷ lits) → v ≤ l.var → sign_of lits v ≡ None
rest_is_none l lits v h le =
    let above : (j : ℕ) (x : Lit) → j < length lits → v < (get_or lits j x).var =
    λ j x k. let n : l.var < (get_or lits j x).var = ascends_head l lits h j x k in omega arith in
    sign_below lits v above

same_rest : (l m : Lit) (c d : List Lit) → Ascends (l ∷ c) → Ascends (m ∷ d) → l.var ≡ m.var → ((v : ℕ) → sign_of (l ∷ c) v ≡ sign_of (m ∷ d) v) → (v : ℕ) → sign_of c v ≡ sign_of d v
same_rest l m c d hc hd same e v =
    elim (cases_eq v l.var) [
      | inl eq ↦
          let a : sign_of c v ≡ None = rest_is_none l c v hc (omega arith) in
          let b : sign_of d v ≡ None = rest_is_none m d v hd (omega arith) in
          cc
      | inr ne ↦
          let a : sign_of c v ≡ sign_of (l ∷ c) v = sign_rest l c v ne in
          let ne' : v ≢ m.var = λ x. ne (x ∙ sym same) in
          let b : sign_of d v ≡ sign_of (m ∷ d) v = sign_rest m d v ne' in
          a ∙ e v ∙ sym b
    ]

same_first : (l m : Lit) (c d : List Lit) → l.var ≡ m.var → ((v : ℕ) → sign_of (l ∷ c) v ≡ sign_of (m ∷ d) v) → l ≡ m
same_first l m c d same e =
    let a : sign_of (l ∷ c) l.var ≡ Some l.positive = sign_first l c in
    let b : sign_of (m ∷ d) m.var ≡ Some m.positive = sign_first m d in
    let at : sign_of (l ∷ c) l.var ≡ sign_of (m ∷ d) l.var = e l.var in
    lits_equal l m same (cc)

first_vars : (l m : Lit) (c d : List Lit) → Ascends (l ∷ c) → Ascends (m ∷ d) → ((v : ℕ) → sign_of (l ∷ c) v ≡ sign_of (m ∷ d) v) → l.var ≡ m.var
first_vars l m c d hc hd e =
    elim (cases_order l.var m.var) [
      | inl eq ↦ eq
      | inr (inl lt) ↦ absurd (less_differs l m c d hd lt (e l.var))
      | inr (inr gt) ↦ absurd (less_differs m l d c hc gt (sym (e m.var)))
    ]

pub clauses_by_sign : (c d : List Lit) → Ascends c → Ascends d → ((v : ℕ) → sign_of c v ≡ sign_of d v) → c ≡ d
clauses_by_sign [] [] hc hd e = refl
clauses_by_sign [] (m ∷ d) hc hd e =
    let a : sign_of (m ∷ d) m.var ≡ Some m.positive = sign_first m d in
    let b : None ≡ sign_of (m ∷ d) m.var = e m.var in
    absurd (cc)
clauses_by_sign (l ∷ c) [] hc hd e =
    let a : sign_of (l ∷ c) l.var ≡ Some l.positive = sign_first l c in
    let b : sign_of (l ∷ c) l.var ≡ None = e l.var in
    absurd (cc)
clauses_by_sign (l ∷ c) (m ∷ d) hc hd e =
    let vars : l.var ≡ m.var = first_vars l m c d hc hd e in
    let lits : l ≡ m = same_first l m c d vars e in
    let rest : c ≡ d = clauses_by_sign c d (ascends_tail l c hc) (ascends_tail m d hd) (same_rest l m c d hc hd vars e) in
    cc
