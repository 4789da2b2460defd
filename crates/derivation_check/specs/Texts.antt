-- The texts of formulas and derivations, as lists of bytes. Variables and clauses are numbered from 1 in them, and
-- negative literals have a minus sign. 32 is a space, 10 a line feed, 45 the minus sign and 48 the digit 0.
use Rattle.std.specs.Prelude.{◌≡◌, ℕ, ◌+◌, ◌<◌, ◌≤◌, cond, List, [], ◌∷◌, ◌++◌, length, slice_index, codes, decimal, All}
use Rattle.std.specs.List.{flat_map}
use Rattle.clause_store.specs.declared.lit.Lit.{Lit}
use Rattle.clause_store.specs.declared.line.Cut.{Cut}
use Rattle.clause_store.specs.declared.line.Line.{Line}
use Rattle.clause_store.specs.Signs.{Ascends}

-- a number that counts from 0, written from 1 and followed by a space
abbrev pub index_text : ℕ → List ℕ
index_text n = decimal (n + 1) ++ 32 ∷ []

abbrev pub lit_text : Lit → List ℕ
lit_text l = cond l.positive (index_text l.var) (45 ∷ index_text l.var)

abbrev pub lits_text : List Lit → List ℕ
lits_text lits = flat_map lit_text lits

-- a clause of a formula: its literals and 0, with single spaces, on a line of its own
abbrev pub clause_text : List Lit → List ℕ
clause_text clause = lits_text clause ++ 48 ∷ 10 ∷ []

abbrev pub clauses_text : List (List Lit) → List ℕ
clauses_text clauses = flat_map clause_text clauses

-- a formula in the DIMACS format
abbrev pub formula_text : List (List Lit) → ℕ → List ℕ
formula_text clauses vars = codes "p cnf " ++
    (decimal vars ++ (32 ∷ (decimal (length clauses) ++ (10 ∷ clauses_text clauses))))

abbrev pub cut_text : Cut → List ℕ
cut_text cut = index_text cut.var ++ index_text cut.id

abbrev pub cuts_text : List Cut → List ℕ
cuts_text cuts = flat_map cut_text cuts

-- a line of a derivation: its literals, 0, the first clause, the variable and the clause of each cut, and 0
abbrev pub line_text : Line → List ℕ
line_text line = lits_text line.clause ++ (48 ∷ 32 ∷ (index_text line.first ++ (cuts_text line.cuts ++ 48 ∷ 10 ∷ [])))

abbrev pub lines_text : List Line → List ℕ
lines_text lines = flat_map line_text lines

abbrev pub head_text : ℕ → List ℕ
head_text count = codes "proof " ++ (decimal count ++ 10 ∷ [])

abbrev pub derivation_text : List Line → List ℕ
derivation_text lines = head_text (length lines) ++ lines_text lines

-- numbers in the texts go up to 2147483647, so what counts from 0 stays below it
abbrev pub IsIndex : ℕ → Type 0
IsIndex n = n < 2147483647

abbrev pub IsLitInRange : Lit → Type 0
IsLitInRange l = IsIndex l.var

pub record IsCutInRange (cut : Cut) : Type 0 where
  pub var : IsIndex cut.var
  pub id : IsIndex cut.id

-- a line that stands for itself as text: its literals ascend and its numbers are in range
pub record IsPrintable (line : Line) : Type 0 where
  pub ascending : Ascends line.clause
  pub lits : All IsLitInRange line.clause
  pub first : IsIndex line.first
  pub cuts : All IsCutInRange line.cuts

-- the bytes are the text of a derivation with these lines
pub record IsProofText (bytes : List ℕ) (lines : List Line) : Type 0 where
  pub count : length lines ≤ 2147483647
  pub printable : All IsPrintable lines
  pub text : bytes ≡ derivation_text lines

-- each byte is a decimal digit
abbrev pub AreDigits : List ℕ → Type 0
AreDigits bytes = (k : ℕ) → k < length bytes → (48 ≤ slice_index bytes k) × (slice_index bytes k ≤ 57)
