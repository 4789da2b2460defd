-- When values meet the clauses of disjunctions.
use Rattle.std.proofs.Common.{◌≡◌, ◌≢◌, ℕ, Bool, true, false, cond, not, ◌||◌, eqb, ltb, List, [], ◌∷◌, ◌++◌, Option, Some, None, option_map, option_and_then, option_to_list, MatchOption, IfSome, ◌↔◌, refl, sym, ap, ◌∙◌, subst, inl, inr, arith, All}
use Rattle.std.specs.Bool.{beq}
use Rattle.std.specs.List.{list_any, list_all, flat_map}
use Rattle.std.proofs.lemmas.Bool.{cases_order, cases_eq, lt-ltb, le-ltb, eq-eqb, ne_eqb, or_cases, or_left, or_right, and_parts, and_from}
use Rattle.std.proofs.lemmas.List.Elements.{All-cons, All-nil, All-head, All-append, All-tail}
use Rattle.clause_store.specs.declared.lit.Lit.{Lit}
use Rattle.clause_store.specs.Signs.{Ascends, sign_of}
use Rattle.clause_store.specs.Assignments.{IsMet}
use Rattle.clause_store.proofs.Signs.{ascends_tail, rest_is_none, sign_first, sign_rest}
use Rattle.circuit_clauses.specs.declared.signal.Signal.{Signal}
use Rattle.circuit_clauses.specs.declared.signal.Signal.TheVariants.{Constant, Literal}
use Rattle.circuit_clauses.specs.Signals.{is_true, placed, joined, disjunction}
use Rattle.circuit_clauses.specs.Meanings.{has_true}
use Rattle.circuit_clauses.proofs.Placing.{joined_ascends}

or_swaps : (x y z : Bool) → (y || (x || z)) ≡ (x || (y || z))
or_swaps true true z = refl
or_swaps true false z = refl
or_swaps false y z = refl

or_twice : (x y z : Bool) → x ≡ y → (y || z) ≡ (x || (y || z))
or_twice true true z e = refl
or_twice false false z e = refl
or_twice true false z e = absurd (cc)
or_twice false true z e = absurd (cc)

or_groups : (x y z : Bool) → ((x || y) || z) ≡ (y || (x || z))
or_groups true true z = refl
or_groups true false z = refl
or_groups false true z = refl
or_groups false false z = refl

or_ends : (x : Bool) → (x || true) ≡ true
or_ends true = refl
or_ends false = refl

or_nothing : (x : Bool) → (x || false) ≡ x
or_nothing true = refl
or_nothing false = refl

-- of a literal and of one with its variable and the opposite sign one is true
opposites : (bit p q z : Bool) → beq p q ≡ false → (cond p bit (not bit) || (cond q bit (not bit) || z)) ≡ true
opposites true true false z e = refl
opposites false true false z e = refl
opposites true false true z e = refl
opposites false false true z e = refl
opposites bit true true z e = absurd (cc)
opposites bit false false z e = absurd (cc)

same_bits : (p q : Bool) → beq p q ≡ true → p ≡ q
same_bits true true e = refl
same_bits false false e = refl
same_bits true false e = absurd (cc)
same_bits false true e = absurd (cc)

-- what is said of a literal that is put in its place: the disjunction always holds, or is that of all
abbrev pub SaysBoth : (values : ℕ → Bool) → Option (List Lit) → Bool → Type 0
SaysBoth values o says = MatchOption o (says ≡ true) (λ more. list_any (is_true values) more ≡ says)

says_same : (values : ℕ → Bool) (b : Bool) (lit l : Lit) (ls : List Lit) → b ≡ beq lit.positive l.positive → lit.var ≡ l.var → SaysBoth values (cond b (Some (l ∷ ls)) None) (is_true values lit || list_any (is_true values) (l ∷ ls))
says_same values true lit l ls e same =
    let signs : lit.positive ≡ l.positive = same_bits lit.positive l.positive (sym e) in
    let one : is_true values lit ≡ is_true values l = cc in
    or_twice (is_true values lit) (is_true values l) (list_any (is_true values) ls) one
says_same values false lit l ls e same =
    rw same (opposites (values l.var) lit.positive l.positive (list_any (is_true values) ls) (sym e))

says_more : (values : ℕ → Bool) (o : Option (List Lit)) (lit l : Lit) (ls : List Lit) → SaysBoth values o (is_true values lit || list_any (is_true values) ls) → SaysBoth values (option_map (λ more. l ∷ more) o) (is_true values lit || list_any (is_true values) (l ∷ ls))
says_more values None lit l ls h = sym (or_swaps (is_true values lit) (is_true values l) (list_any (is_true values) ls)) ∙ (ap (λ b. is_true values l || b) h ∙ or_ends (is_true values l))
says_more values (Some more) lit l ls h = ap (λ b. is_true values l || b) h ∙ or_swaps (is_true values lit) (is_true values l) (list_any (is_true values) ls)

pub placed_says : (values : ℕ → Bool) (lit : Lit) (ls : List Lit) → SaysBoth values (placed lit ls) (is_true values lit || list_any (is_true values) ls)
placed_says values lit [] = refl
placed_says values lit (l ∷ ls) =
    elim (cases_order lit.var l.var) [
      | inl same ↦
          let e : ltb lit.var l.var ≡ false = le-ltb lit.var l.var (omega arith) in
          let n : eqb lit.var l.var ≡ true = eq-eqb lit.var l.var same in
          rw (e, n) (says_same values (beq lit.positive l.positive) lit l ls refl same)
      | inr (inl lt) ↦
          let e : ltb lit.var l.var ≡ true = lt-ltb lit.var l.var lt in
          rw e refl
      | inr (inr gt) ↦
          let e : ltb lit.var l.var ≡ false = le-ltb lit.var l.var (omega arith) in
          let n : eqb lit.var l.var ≡ false = ne_eqb lit.var l.var (λ q. omega arith) in
          rw (e, n) (says_more values (placed lit ls) lit l ls (placed_says values lit ls))
    ]

says_then : (values : ℕ → Bool) (o : Option (List Lit)) (next : List Lit → Option (List Lit)) (x y z : Bool) → SaysBoth values o (x || y) → ((more : List Lit) → SaysBoth values (next more) (list_any (is_true values) more || z)) → SaysBoth values (option_and_then next o) (y || (x || z))
says_then values None next x y z h f = sym (or_groups x y z) ∙ ap (λ b. b || z) h
says_then values (Some more) next x y z h f =
    let e : (list_any (is_true values) more || z) ≡ (y || (x || z)) = ap (λ b. b || z) h ∙ or_groups x y z in
    subst (SaysBoth values (next more)) e (f more)

-- the clause of a list of signals, beside literals, says that one of the literals or signals is true
pub joined_says : (values : ℕ → Bool) (lits : List Lit) (signals : List Signal) → SaysBoth values (joined lits signals) (list_any (is_true values) lits || has_true values signals)
joined_says values lits [] = sym (or_nothing (list_any (is_true values) lits))
joined_says values lits (Constant true ∷ signals) = or_ends (list_any (is_true values) lits)
joined_says values lits (Constant false ∷ signals) = joined_says values lits signals
joined_says values lits (Literal lit ∷ signals) =
    says_then values (placed lit lits) (λ more. joined more signals) (is_true values lit) (list_any (is_true values) lits) (has_true values signals) (placed_says values lit lits) (λ more. joined_says values more signals)

-- a literal is true where its sign is its variable's value
true_sign : (bit sign : Bool) → cond sign bit (not bit) ≡ true → sign ≡ bit
true_sign true true e = refl
true_sign false false e = refl
true_sign true false e = absurd (cc)
true_sign false true e = absurd (cc)

sign_true : (bit sign : Bool) → sign ≡ bit → cond sign bit (not bit) ≡ true
sign_true true true e = refl
sign_true false false e = refl
sign_true true false e = absurd (cc)
sign_true false true e = absurd (cc)

-- a clause with a true literal is met
pub met_from_any : (values : ℕ → Bool) (c : List Lit) → Ascends c → list_any (is_true values) c ≡ true → IsMet values c
met_from_any values [] h e = absurd (cc)
met_from_any values (l ∷ c) h e =
    elim (or_cases (is_true values l) (list_any (is_true values) c) e) [
      | inl here ↦
          record { var = l.var; holds = sign_first l c ∙ ap Some (true_sign (values l.var) l.positive here) }
      | inr there ↦
          let m : IsMet values c = met_from_any values c (ascends_tail l c h) there in
          let ne : m.var ≢ l.var = λ same. (
          let none : sign_of c m.var ≡ None = rest_is_none l c m.var h (omega arith) in
          let some : sign_of c m.var ≡ Some (values m.var) = m.holds in
          absurd (cc)
          ) in
          record { var = m.var; holds = sym (sign_rest l c m.var ne) ∙ m.holds }
    ]

-- in a clause that is met some literal is true
pub any_from_met : (values : ℕ → Bool) (c : List Lit) → IsMet values c → list_any (is_true values) c ≡ true
any_from_met values [] m =
    let some : None ≡ Some (values m.var) = m.holds in
    absurd (cc)
any_from_met values (l ∷ c) m =
    elim (cases_eq l.var m.var) [
      | inl same ↦
          let e : eqb l.var m.var ≡ true = eq-eqb l.var m.var same in
          let s : cond (eqb l.var m.var) (Some l.positive) (sign_of c m.var) ≡ Some (values m.var) = m.holds in
          let t : Some l.positive ≡ Some (values m.var) = rw e at s in
          let bit : l.positive ≡ values m.var = cc in
          let one : l.positive ≡ values l.var = rw same bit in
          or_left (is_true values l) (list_any (is_true values) c) (sign_true (values l.var) l.positive one)
      | inr ne ↦
          let e : eqb l.var m.var ≡ false = ne_eqb l.var m.var ne in
          let s : cond (eqb l.var m.var) (Some l.positive) (sign_of c m.var) ≡ Some (values m.var) = m.holds in
          let t : sign_of c m.var ≡ Some (values m.var) = rw e at s in
          or_right (is_true values l) (list_any (is_true values) c) (any_from_met values c (record { var = m.var; holds = t }))
    ]

option_met : (values : ℕ → Bool) (o : Option (List Lit)) (says : Bool) → IfSome o Ascends → SaysBoth values o says → All (IsMet values) (option_to_list o) ↔ (says ≡ true)
option_met values None says a h = (λ _. h, λ _. All-nil (IsMet values))
option_met values (Some c) says a h =
    (λ met. sym h ∙ any_from_met values c (All-head (IsMet values) c [] met), λ e. All-cons (IsMet values) c [] (met_from_any values c a (h ∙ e)) (All-nil (IsMet values)))

no_lits_ascend : Ascends []
no_lits_ascend = λ i j d i<j j<n. absurd (omega arith)

-- values meet the clause of a list of signals exactly where some signal is true
pub disjunction_met : (values : ℕ → Bool) (signals : List Signal) → All (IsMet values) (disjunction signals) ↔ (has_true values signals ≡ true)
disjunction_met values signals =
    option_met values (joined [] signals) (has_true values signals) (joined_ascends [] signals no_lits_ascend) (joined_says values [] signals)

pub All_left : {X : Type 0} (P : X → Type 0) (xs ys : List X) → All P (xs ++ ys) → All P xs
All_left P [] ys h = All-nil P
All_left P (x ∷ xs) ys h = All-cons P x xs (All-head P x (xs ++ ys) h) (All_left P xs ys (All-tail P x (xs ++ ys) h))

pub All_right : {X : Type 0} (P : X → Type 0) (xs ys : List X) → All P (xs ++ ys) → All P ys
All_right P [] ys h = h
All_right P (x ∷ xs) ys h = All_right P xs ys (All-tail P x (xs ++ ys) h)

-- the same of several lists
pub disjunctions_met : (values : ℕ → Bool) (lists : List (List Signal)) → All (IsMet values) (flat_map disjunction lists) ↔ (list_all (has_true values) lists ≡ true)
disjunctions_met values [] = (λ _. refl, λ _. All-nil (IsMet values))
disjunctions_met values (signals ∷ lists) =
    let one = disjunction_met values signals in
    let rest = disjunctions_met values lists in (
      λ met. and_from (has_true values signals) (list_all (has_true values) lists) (one.0 (All_left (IsMet values) (disjunction signals) (flat_map disjunction lists) met)) (rest.0 (All_right (IsMet values) (disjunction signals) (flat_map disjunction lists) met)),
      λ e. (let parts = and_parts (has_true values signals) (list_all (has_true values) lists) e in All-append (IsMet values) (disjunction signals) (flat_map disjunction lists) (one.1 parts.0) (rest.1 parts.1)),
    )
