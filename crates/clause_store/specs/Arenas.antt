-- Clauses one after the other in one list of literals, each told by the place where it ends.
use Rattle.std.specs.Prelude.{◌≡◌, ℕ, ◌≤◌, ◌^◌, List, [], ◌∷◌, length, slice_range, All}
use Rattle.clause_store.specs.declared.lit.Lit.{Lit}
use Rattle.clause_store.specs.Signs.{Ascends}

-- the clauses from a place on: the first one starts there, and each further one where the one before it ends
abbrev pub pieces : List Lit → ℕ → List ℕ → List (List Lit)
pieces lits start [] = []
pieces lits start (end ∷ ends) = slice_range lits start end ∷ pieces lits end ends

-- no clause ends before its start, and the last one ends with the literals
abbrev pub AreEnds : ℕ → ℕ → List ℕ → Type 0
AreEnds len start [] = start ≡ len
AreEnds len start (end ∷ ends) = (start ≤ end) × AreEnds len end ends

-- no more clauses than a list holds, and the variables of each ascend
pub record IsArena (lits : List Lit) (ends : List ℕ) : Type 0 where
  pub cut : AreEnds (length lits) 0 ends
  pub few : length ends ≤ 2 ^ 31
  pub ascending : All Ascends (pieces lits 0 ends)
