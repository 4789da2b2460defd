-- Clauses as lists of literals, and what they say of each variable.
use Rattle.std.specs.Prelude.{ℕ, ◌<◌, Bool, cond, eqb, List, [], ◌∷◌, Option, Some, None}
use Rattle.std.specs.List.{AllPairs}
use Rattle.clause_store.specs.declared.lit.Lit.{Lit}

-- a clause: the variables ascend strictly, so that none stands in it twice
abbrev pub Ascends : List Lit → Type 0
Ascends clause = AllPairs (λ l m. l.var < m.var) clause

-- what a clause or an assignment says of each variable: none, or a sign
abbrev pub Signs : Type 0
Signs = ℕ → Option Bool

-- the sign of the first literal with the variable; in a clause there is at most one
abbrev pub sign_of : List Lit → ℕ → Option Bool
sign_of [] v = None
sign_of (l ∷ lits) v = cond (eqb l.var v) (Some l.positive) (sign_of lits v)
