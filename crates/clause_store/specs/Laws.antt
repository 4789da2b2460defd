-- Laws over the definitions of clauses.
use Rattle.std.specs.Prelude.{◌≡◌, ℕ, List}
use Rattle.clause_store.specs.declared.lit.Lit.{Lit}
use Rattle.clause_store.specs.Signs.{Ascends, sign_of}

-- two clauses that say the same of every variable are the same list of literals
abbrev pub SignsTellClauses : Type 0
SignsTellClauses =
    (c d : List Lit) → Ascends c → Ascends d → ((v : ℕ) → sign_of c v ≡ sign_of d v) → c ≡ d
