-- Signals, and the clause that says that some signal of a list is true.
use Rattle.std.specs.Prelude.{ℕ, Bool, true, false, not, cond, ◌==◌, nat_lt, List, [], ◌∷◌, Option, Some, None, option_map, option_and_then, option_to_list}
use Rattle.std.specs.Bool.{beq}
use Rattle.clause_store.specs.declared.lit.Lit.{Lit}
use Rattle.circuit_clauses.specs.declared.signal.Signal.{Signal}
use Rattle.circuit_clauses.specs.declared.signal.Signal.TheVariants.{Constant, Literal}

-- a literal is true where its variable has its sign
abbrev pub is_true : (ℕ → Bool) → Lit → Bool
is_true values lit = cond lit.positive (values lit.var) (not (values lit.var))

-- the value of a signal under values of the variables
abbrev pub value : (ℕ → Bool) → Signal → Bool
value values (Constant bit) = bit
value values (Literal lit) = is_true values lit

-- the signal that is true where this one is false
abbrev pub negated : Signal → Signal
negated (Constant bit) = Constant (not bit)
negated (Literal lit) = Literal (record { var = lit.var; positive = not lit.positive })

-- literals whose variables ascend, with one more in its place; none where its opposite is among them
abbrev pub placed : Lit → List Lit → Option (List Lit)
placed lit [] = Some (lit ∷ [])
placed lit (l ∷ ls) =
    cond (nat_lt lit.var l.var) (Some (lit ∷ l ∷ ls))
    (cond (lit.var == l.var) (cond (beq lit.positive l.positive) (Some (l ∷ ls)) None)
    (option_map (λ more. l ∷ more) (placed lit ls)))

-- literals with the signals of a list beside them, where their disjunction can be false: false signals are left out,
-- each literal stands once, and neither a true signal nor two opposites are among them
abbrev pub joined : List Lit → List Signal → Option (List Lit)
joined lits [] = Some lits
joined lits (Constant true ∷ signals) = None
joined lits (Constant false ∷ signals) = joined lits signals
joined lits (Literal lit ∷ signals) = option_and_then (λ more. joined more signals) (placed lit lits)

-- the clauses that say that some signal of a list is true: one, or none where it always is
abbrev pub disjunction : List Signal → List (List Lit)
disjunction signals = option_to_list (joined [] signals)
