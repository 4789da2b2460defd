-- Where a literal is put among ascending ones.
use Rattle.std.proofs.Common.{◌≡◌, ◌≢◌, ℕ, zero, suc, ◌-◌, ◌<◌, ◌≤◌, Bool, true, false, cond, eqb, ltb, List, [], ◌∷◌, length, get_or, Option, Some, None, option_map, option_and_then, IfSome, refl, sym, inl, inr, arith, All}
use Rattle.std.specs.Prelude.{insert}
use Rattle.std.specs.Bool.{beq}
use Rattle.std.proofs.lemmas.List.{get_or_default}
use Rattle.std.proofs.lemmas.Bool.{cases_order, cases_eq, lt-ltb, le-ltb, eq-eqb, ne_eqb}
use Rattle.std.proofs.lemmas.List.Elements.{All-cons, All-nil, All-head, All-tail}
use Rattle.std.proofs.lemmas.List.Kept.{AllPairs-cons}
use Rattle.clause_store.specs.declared.lit.Lit.{Lit}
use Rattle.clause_store.specs.Signs.{Ascends}
use Rattle.clause_store.proofs.Signs.{ascends_tail, ascends_head}
use Rattle.circuit_clauses.specs.declared.signal.Signal.{Signal}
use Rattle.circuit_clauses.specs.declared.signal.Signal.TheVariants.{Constant, Literal}
use Rattle.circuit_clauses.specs.Signals.{placed, joined}

-- before the first literal with a greater variable, a literal is put in its place
pub placed_new : (lit : Lit) (ls : List Lit) (i : ℕ) → i ≤ length ls → ((k : ℕ) (d : Lit) → k < i → (get_or ls k d).var < lit.var) → ((k : ℕ) (d : Lit) → i ≤ k → k < length ls → lit.var < (get_or ls k d).var) → placed lit ls ≡ Some (insert ls i lit)
placed_new lit [] zero le before after = refl
placed_new lit [] (suc i) le before after = absurd (omega arith)
placed_new lit (l ∷ ls) zero le before after =
    let lt : lit.var < l.var = after 0 l (omega arith) (omega arith) in
    let e : ltb lit.var l.var ≡ true = lt-ltb lit.var l.var lt in
    rw e refl
placed_new lit (l ∷ ls) (suc i) le before after =
    let lt : l.var < lit.var = before 0 l (omega arith) in
    let e : ltb lit.var l.var ≡ false = le-ltb lit.var l.var (omega arith) in
    let n : eqb lit.var l.var ≡ false = ne_eqb lit.var l.var (λ q. omega arith) in
    let rest : placed lit ls ≡ Some (insert ls i lit) = placed_new lit ls i (omega arith) (λ k d lt. before (suc k) d (omega arith)) (λ k d le lt. after (suc k) d (omega arith) (omega arith)) in
    rw (e, n, rest) refl

-- a literal whose variable is there is not put twice, and its opposite is told
pub placed_old : (lit : Lit) (ls : List Lit) (i : ℕ) (d : Lit) → i < length ls → ((k : ℕ) (d : Lit) → k < i → (get_or ls k d).var < lit.var) → (get_or ls i d).var ≡ lit.var → placed lit ls ≡ cond (beq lit.positive (get_or ls i d).positive) (Some ls) None
placed_old lit [] i d lt before same = absurd (omega arith)
placed_old lit (l ∷ ls) zero d lt before same =
    let e : ltb lit.var l.var ≡ false = le-ltb lit.var l.var (omega arith) in
    let n : eqb lit.var l.var ≡ true = eq-eqb lit.var l.var (sym same) in
    rw (e, n) refl
placed_old lit (l ∷ ls) (suc i) d lt before same =
    let less : l.var < lit.var = before 0 l (omega arith) in
    let e : ltb lit.var l.var ≡ false = le-ltb lit.var l.var (omega arith) in
    let n : eqb lit.var l.var ≡ false = ne_eqb lit.var l.var (λ q. omega arith) in
    let rest : placed lit ls ≡ cond (beq lit.positive (get_or ls i d).positive) (Some ls) None = placed_old lit ls i d (omega arith) (λ k d lt. before (suc k) d (omega arith)) same in
    rw (e, n, rest) (map_cond (beq lit.positive (get_or ls i d).positive) l ls)
  where
    map_cond : (b : Bool) (l : Lit) (ls : List Lit) → option_map (λ more. l ∷ more) (cond b (Some ls) None) ≡ cond b (Some (l ∷ ls)) None
    map_cond true l ls = refl
    map_cond false l ls = refl

-- every variable of the literals is above v
abbrev pub AllAbove : ℕ → List Lit → Type 0
AllAbove v ls = All (λ l. v < l.var) ls

-- the literals ascend, and stay above what they and the new one were above
pub record IsGrown (lit : Lit) (ls more : List Lit) : Type 0 where
  pub ascends : Ascends more
  pub above : (v : ℕ) → v < lit.var → AllAbove v ls → AllAbove v more

ascends_cons : (l : Lit) (ls : List Lit) → AllAbove l.var ls → Ascends ls → Ascends (l ∷ ls)
ascends_cons l ls above h = AllPairs-cons (λ x y. x.var < y.var) l ls above h

grown_more : (lit l : Lit) (ls : List Lit) (o : Option (List Lit)) → l.var < lit.var → Ascends (l ∷ ls) → IfSome o (IsGrown lit ls) → IfSome (option_map (λ more. l ∷ more) o) (IsGrown lit (l ∷ ls))
grown_more lit l ls None lt h g = tt
grown_more lit l ls (Some more) lt h g =
    record {
      ascends = ascends_cons l more (g.above l.var lt (ascends_head l ls h)) g.ascends;
      above = λ v less all. All-cons (λ (x : Lit). v < x.var) l more (All-head (λ (x : Lit). v < x.var) l ls all) (g.above v less (All-tail (λ (x : Lit). v < x.var) l ls all));
    }

grown_same : (b : Bool) (lit : Lit) (ls : List Lit) → Ascends ls → IfSome (cond b (Some ls) None) (IsGrown lit ls)
grown_same true lit ls h = record { ascends = h; above = λ v lt all. all }
grown_same false lit ls h = tt

-- literals still ascend when one more is put in its place
pub placed_ascends : (lit : Lit) (ls : List Lit) → Ascends ls → IfSome (placed lit ls) (IsGrown lit ls)
placed_ascends lit [] h =
    record {
      ascends = ascends_cons lit [] (All-nil (λ (x : Lit). lit.var < x.var)) h;
      above = λ v lt all. All-cons (λ (x : Lit). v < x.var) lit [] lt all;
    }
placed_ascends lit (l ∷ ls) h =
    elim (cases_order lit.var l.var) [
      | inl same ↦
          let e : ltb lit.var l.var ≡ false = le-ltb lit.var l.var (omega arith) in
          let n : eqb lit.var l.var ≡ true = eq-eqb lit.var l.var same in
          rw (e, n) (grown_same (beq lit.positive l.positive) lit (l ∷ ls) h)
      | inr (inl lt) ↦
          let e : ltb lit.var l.var ≡ true = lt-ltb lit.var l.var lt in
          let first : AllAbove lit.var (l ∷ ls) = All-cons (λ (x : Lit). lit.var < x.var) l ls lt (λ k d less. let far : l.var < (get_or ls k d).var = ascends_head l ls h k d less in omega arith) in
          rw e (record {
            ascends = ascends_cons lit (l ∷ ls) first h;
            above = λ v less all. All-cons (λ (x : Lit). v < x.var) lit (l ∷ ls) less all;
          })
      | inr (inr gt) ↦
          let e : ltb lit.var l.var ≡ false = le-ltb lit.var l.var (omega arith) in
          let n : eqb lit.var l.var ≡ false = ne_eqb lit.var l.var (λ q. omega arith) in
          rw (e, n) (grown_more lit l ls (placed lit ls) gt h (placed_ascends lit ls (ascends_tail l ls h)))
    ]

then_ascends : (o : Option (List Lit)) (lit : Lit) (ls : List Lit) (next : List Lit → Option (List Lit)) → IfSome o (IsGrown lit ls) → ((more : List Lit) → Ascends more → IfSome (next more) Ascends) → IfSome (option_and_then next o) Ascends
then_ascends None lit ls next g f = tt
then_ascends (Some more) lit ls next g f = f more g.ascends

-- the clause of a list of signals ascends
pub joined_ascends : (lits : List Lit) (signals : List Signal) → Ascends lits → IfSome (joined lits signals) Ascends
joined_ascends lits [] h = h
joined_ascends lits (Constant true ∷ signals) h = tt
joined_ascends lits (Constant false ∷ signals) h = joined_ascends lits signals h
joined_ascends lits (Literal lit ∷ signals) h =
    then_ascends (placed lit lits) lit lits (λ more. joined more signals) (placed_ascends lit lits h) (λ more a. joined_ascends more signals a)

-- literals from a place on that are not below v, and the first of which is not at v, are above v
pub above_from : (ls : List Lit) (i v : ℕ) → Ascends ls → ((k : ℕ) (d : Lit) → i ≤ k → k < length ls → v ≤ (get_or ls k d).var) → ((d : Lit) → i < length ls → (get_or ls i d).var ≢ v) → (k : ℕ) (d : Lit) → i ≤ k → k < length ls → v < (get_or ls k d).var
above_from ls i v h after ne k d le lt =
    let least : v ≤ (get_or ls i d).var = after i d (omega arith) (omega arith) in
    let apart : (get_or ls i d).var ≢ v = ne d (omega arith) in
    elim (cases_eq i k) [
      | inl same ↦
          let moved : v ≤ (get_or ls k d).var = after k d le lt in
          let other : (get_or ls k d).var ≢ v = rw (← same) apart in
          omega arith
      | inr differ ↦
          let less : (get_or ls i d).var < (get_or ls k d).var = h i k d (omega arith) lt in
          omega arith
    ]

-- of ascending literals those before a place are below what the last of them is below
pub below_before : (ls : List Lit) (i v : ℕ) (e : Lit) → Ascends ls → i ≤ length ls → 0 < i → (get_or ls (i - 1) e).var < v → (k : ℕ) (d : Lit) → k < i → (get_or ls k d).var < v
below_before ls i v e h le some last k d lt =
    let at : get_or ls (i - 1) d ≡ get_or ls (i - 1) e = get_or_default ls (i - 1) d e (omega arith) in
    let here : (get_or ls (i - 1) d).var < v = rw at last in
    elim (cases_eq k (i - 1)) [
      | inl same ↦ rw same here
      | inr differ ↦
          let less : (get_or ls k d).var < (get_or ls (i - 1) d).var = h k (i - 1) d (omega arith) (omega arith) in
          omega arith
    ]

-- what a literal that is put in its place leaves ascends
pub insert_ascends : (lit : Lit) (ls : List Lit) (i : ℕ) → Ascends ls → placed lit ls ≡ Some (insert ls i lit) → Ascends (insert ls i lit)
insert_ascends lit ls i h e =
    let g : IfSome (Some (insert ls i lit)) (IsGrown lit ls) = rw e at (placed_ascends lit ls h) in
    g.ascends
