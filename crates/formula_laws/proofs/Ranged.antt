-- The clauses of a formula have its variables alone.
use Rattle.std.proofs.Common.{ℕ, ◌+◌, ◌<◌, ◌≤◌, Bool, true, false, cond, nat_lt, List, [], ◌∷◌, ◌++◌, Option, Some, None, arith}
use Rattle.std.specs.Prelude.{All, ◌==◌, flat_map, option_map, option_and_then, option_to_list}
use Rattle.std.specs.Bool.{beq}
use Rattle.std.specs.List.{AllByRecursion}
use Rattle.std.proofs.lemmas.List.Elements.{All-nil, All-cons}
use Rattle.clause_store.specs.declared.lit.Lit.{Lit}
use Rattle.circuit_clauses.specs.declared.signal.Signal.{Signal}
use Rattle.circuit_clauses.specs.declared.signal.Signal.TheVariants.{Constant, Literal}
use Rattle.circuit_clauses.specs.Signals.{placed, joined, disjunction}
use Rattle.circuit_clauses.specs.Steps.{Step, gate_signal, disjunctions, next_variable, step_clauses, clauses_of_steps, variables_after}
use Rattle.circuit_clauses.specs.Steps.Step.{input, or_and_gate, xor_and_gate, demand}
use Rattle.circuit_clauses.specs.Meanings.{IsBelow, ReadsBelow, AllReadBelow}
use Rattle.circuit_clauses.proofs.Sequences.{variables_above}
use Rattle.probe_laws.proofs.Lower.{negated_below, below_more}
use Rattle.formula_laws.specs.Laws.{AreWithin}

-- ---- clauses over variables below a number

abbrev Low : ℕ → List Lit → Type 0
Low n lits = AllByRecursion (λ (l : Lit). l.var < n) lits

abbrev AllLow : ℕ → List (List Lit) → Type 0
AllLow n clauses = AllByRecursion (Low n) clauses

abbrev SomeLow : ℕ → Option (List Lit) → Type 0
SomeLow n None = Unit {0}
SomeLow n (Some lits) = Low n lits

abbrev AllBelow : ℕ → List Signal → Type 0
AllBelow n signals = AllByRecursion (IsBelow n) signals

abbrev ListsBelow : ℕ → List (List Signal) → Type 0
ListsBelow n lists = AllByRecursion (AllBelow n) lists

map_low : (n : ℕ) (l : Lit) (o : Option (List Lit)) → l.var < n → SomeLow n o → SomeLow n (option_map (λ more. l ∷ more) o)
map_low n l None b h = tt
map_low n l (Some ls) b h = (b, h)

placed_low : (n : ℕ) (lit : Lit) (ls : List Lit) → lit.var < n → Low n ls → SomeLow n (placed lit ls)
placed_low n lit [] b h = (b, tt)
placed_low n lit (l ∷ ls) b h = go (nat_lt lit.var l.var) (lit.var == l.var) (beq lit.positive l.positive) (map_low n l (placed lit ls) h.0 (placed_low n lit ls b h.1))
  where
    go : (first same sign : Bool) → SomeLow n (option_map (λ more. l ∷ more) (placed lit ls))
        → SomeLow n (cond first (Some (lit ∷ l ∷ ls)) (cond same (cond sign (Some (l ∷ ls)) None) (option_map (λ more. l ∷ more) (placed lit ls))))
    go true same sign rest = (b, h)
    go false true true rest = h
    go false true false rest = tt
    go false false sign rest = rest

joined_low : (n : ℕ) (lits : List Lit) (signals : List Signal) → Low n lits → AllBelow n signals → SomeLow n (joined lits signals)
joined_low n lits [] h k = h
joined_low n lits (Constant true ∷ signals) h k = tt
joined_low n lits (Constant false ∷ signals) h k = joined_low n lits signals h k.1
joined_low n lits (Literal lit ∷ signals) h k = go (placed lit lits) (placed_low n lit lits k.0 h) (λ more m. joined_low n more signals m k.1)
  where
    go : (o : Option (List Lit)) → SomeLow n o → ((more : List Lit) → Low n more → SomeLow n (joined more signals))
        → SomeLow n (option_and_then (λ more. joined more signals) o)
    go None o rest = tt
    go (Some more) o rest = rest more o

disjunction_low : (n : ℕ) (signals : List Signal) → AllBelow n signals → AllLow n (disjunction signals)
disjunction_low n signals k = go (joined [] signals) (joined_low n [] signals tt k)
  where
    go : (o : Option (List Lit)) → SomeLow n o → AllLow n (option_to_list o)
    go None h = tt
    go (Some c) h = (h, tt)

low-append : (n : ℕ) (xs ys : List (List Lit)) → AllLow n xs → AllLow n ys → AllLow n (xs ++ ys)
low-append n [] ys h k = k
low-append n (x ∷ xs) ys h k = (h.0, low-append n xs ys h.1 k)

lists_low : (n : ℕ) (lists : List (List Signal)) → ListsBelow n lists → AllLow n (flat_map disjunction lists)
lists_low n [] h = tt
lists_low n (signals ∷ lists) h = low-append n (disjunction signals) (flat_map disjunction lists) (disjunction_low n signals h.0) (lists_low n lists h.1)

lits_more : (n more : ℕ) (lits : List Lit) → n ≤ more → Low n lits → Low more lits
lits_more n more [] le h = tt
lits_more n more (l ∷ lits) le h = (let b = h.0 in omega (arith, le, b), lits_more n more lits le h.1)

low_more : (n more : ℕ) (clauses : List (List Lit)) → n ≤ more → AllLow n clauses → AllLow more clauses
low_more n more [] le h = tt
low_more n more (c ∷ clauses) le h = (lits_more n more c le h.0, low_more n more clauses le h.1)

-- ---- the clauses of steps

demand_more : (n : ℕ) (signals : List Signal) → AllBelow n signals → AllBelow n signals
demand_more n signals h = h

said_below : (var : ℕ) (step : Step) → ReadsBelow var step → ListsBelow (next_variable var step) (disjunctions var step)
said_below var input h = tt
said_below var (or_and_gate a p b) h =
    let up : var ≤ var + 1 = omega arith in
    let v : IsBelow (var + 1) (gate_signal var) = (let l : var < var + 1 = omega arith in l) in
    let ha = below_more var (var + 1) a up h.0 in
    let hp = below_more var (var + 1) p up h.1 in
    let hb = below_more var (var + 1) b up h.2 in
    let na = negated_below (var + 1) a ha in
    let np = negated_below (var + 1) p hp in
    let nb = negated_below (var + 1) b hb in
    let nv = negated_below (var + 1) (gate_signal var) v in
    ((na, (v, tt)), ((np, (nb, (v, tt))), ((ha, (hp, (nv, tt))), ((ha, (hb, (nv, tt))), tt))))
said_below var (xor_and_gate a p b) h =
    let up : var ≤ var + 1 = omega arith in
    let v : IsBelow (var + 1) (gate_signal var) = (let l : var < var + 1 = omega arith in l) in
    let ha = below_more var (var + 1) a up h.0 in
    let hp = below_more var (var + 1) p up h.1 in
    let hb = below_more var (var + 1) b up h.2 in
    let na = negated_below (var + 1) a ha in
    let np = negated_below (var + 1) p hp in
    let nb = negated_below (var + 1) b hb in
    let nv = negated_below (var + 1) (gate_signal var) v in
    ((hp, (na, (v, tt))), ((hp, (ha, (nv, tt))), ((hb, (na, (v, tt))), ((hb, (ha, (nv, tt))), ((np, (nb, (ha, (v, tt)))), ((np, (nb, (na, (nv, tt)))), tt))))))
said_below var (demand signals) h = (h, tt)

clauses_low : (var : ℕ) (steps : List Step) → AllReadBelow var steps → AllLow (variables_after var steps) (clauses_of_steps var steps)
clauses_low var [] h = tt
clauses_low var (step ∷ steps) h =
    low-append (variables_after var (step ∷ steps)) (step_clauses var step) (clauses_of_steps (next_variable var step) steps)
    (low_more (next_variable var step) (variables_after (next_variable var step) steps) (step_clauses var step) (variables_above (next_variable var step) steps)
    (lists_low (next_variable var step) (disjunctions var step) (said_below var step h.0)))
    (clauses_low (next_variable var step) steps h.1)

all_lits : (n : ℕ) (lits : List Lit) → Low n lits → All (λ (l : Lit). l.var < n) lits
all_lits n [] h = All-nil (λ (l : Lit). l.var < n)
all_lits n (l ∷ lits) h = All-cons (λ (m : Lit). m.var < n) l lits h.0 (all_lits n lits h.1)

all_low : (n : ℕ) (clauses : List (List Lit)) → AllLow n clauses → AreWithin n clauses
all_low n [] h = All-nil (All (λ (l : Lit). l.var < n))
all_low n (c ∷ clauses) h = All-cons (All (λ (l : Lit). l.var < n)) c clauses (all_lits n c h.0) (all_low n clauses h.1)

-- the clauses of steps that read earlier variables alone are over the variables up to them
pub clauses_within : (var : ℕ) (steps : List Step) → AllReadBelow var steps → AreWithin (variables_after var steps) (clauses_of_steps var steps)
clauses_within var steps h = all_low (variables_after var steps) (clauses_of_steps var steps) (clauses_low var steps h)
