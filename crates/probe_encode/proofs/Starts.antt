-- The formula before any step.
use Rattle.std.proofs.Common.{◌≡◌, ℕ, List, [], ap₂}
use Rattle.clause_store.specs.declared.lit.Lit.{Lit}
use Rattle.circuit_clauses.specs.Formulas.{Formula}
use Rattle.probe_encode.specs.Formulas.{no_formula}

pub is_empty : (f : Formula) → f.vars ≡ 0 → f.clauses ≡ [] → f ≡ no_formula
is_empty f v c = ap₂ (λ (n : ℕ) (cs : List (List Lit)). record { vars = n; clauses = cs }) v c
