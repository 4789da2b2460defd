-- Lines of derivations: which are valid, and which are new.
use Rattle.std.specs.Prelude.{◌≡◌, ◌≢◌, ℕ, Bool, List, [], ◌∷◌, ◌++◌, Some, None, slice_get, map, take, All}
use Rattle.clause_store.specs.declared.lit.Lit.{Lit}
use Rattle.clause_store.specs.declared.line.Line.{Line}
use Rattle.clause_store.specs.Signs.{Ascends, sign_of}
use Rattle.clause_store.specs.Assignments.{IsAssignment, IsClosed, IsUnit}
use Rattle.clause_store.specs.Resolvents.{LeadsTo}

-- all clauses by number: those of the store and then those of the lines
abbrev pub clauses_of : List (List Lit) → List Line → List (List Lit)
clauses_of store lines = store ++ map (λ l. l.clause) lines

-- the clauses that line k may use
abbrev pub earlier : List (List Lit) → List Line → ℕ → List (List Lit)
earlier store lines k = clauses_of store (take k lines)

-- the line's clause is one, its first clause is earlier, each cut names an earlier clause with which there is a
-- resolvent on its variable, and the last resolvent is the line's clause
pub record IsValidLine (clauses : List (List Lit)) (line : Line) : Type 0 where
  pub ascending : Ascends line.clause
  pub start : List Lit
  pub first : slice_get clauses line.first ≡ Some start
  pub leads : LeadsTo clauses (sign_of start) line.cuts (sign_of line.clause)

-- under some assignment that is closed for the clauses, all literals of the clause but one are false and that one
-- is open: so it holds none of the clauses whole, and propagation does not have it already
pub record IsNewUnder (clauses : List (List Lit)) (clause : List Lit) : Type 0 where
  pub assignment : List Lit
  pub consistent : IsAssignment assignment
  pub closed : IsClosed assignment clauses
  pub var : ℕ
  pub sign : Bool
  pub unit : IsUnit assignment clause var sign
  pub is_open : sign_of assignment var ≡ None

-- the empty clause is new where it is not there yet
abbrev pub IsNew : List (List Lit) → List Lit → Type 0
IsNew clauses [] = All (λ c. c ≢ []) clauses
IsNew clauses (l ∷ lits) = IsNewUnder clauses (l ∷ lits)

abbrev pub AllValid : List (List Lit) → List Line → Type 0
AllValid store lines = (k : ℕ) (line : Line) → slice_get lines k ≡ Some line → IsValidLine (earlier store lines k) line

abbrev pub AllNew : List (List Lit) → List Line → Type 0
AllNew store lines = (k : ℕ) (line : Line) → slice_get lines k ≡ Some line → IsNew (earlier store lines k) line.clause
