-- Expressions: a number, a name or `.`, and a name or `.` with a number added or taken away, in any number of `%hi( )`
-- and `%lo( )`.
use Rattle.std.specs.Prelude.{ℕ, ℤ, pos, Bool, true, false, List, [], ◌∷◌, Option, Some, None, codes, if◌then◌else◌}
use Rattle.std.specs.Str.{bytes_eq}
use Rattle.rv_asm.specs.declared.line.expression.Half.{Half}
use Rattle.rv_asm.specs.declared.line.expression.Half.TheVariants.{High, Low}
use Rattle.rv_asm.specs.declared.line.expression.Term.{Term}
use Rattle.rv_asm.specs.declared.line.expression.Term.TheVariants.{Number, Name, Here}
use Rattle.rv_asm.specs.declared.line.expression.Sum.{Sum}
use Rattle.rv_asm.specs.declared.line.expression.Expr.{Expr}
use Rattle.rv_asm.specs.Readings.{◌>>=◌, items_at}
use Rattle.rv_asm.specs.Tokens.{begins_with_digit, mark_at, run_at, word_at}
use Rattle.rv_asm.specs.Numbers.{number_at}
use Rattle.rv_asm.specs.Tables.{look_up}

-- ---- sums

-- nothing is added
abbrev pub lone_term : Term → Sum
lone_term term = record { term = term; minus = false; amount = Some (pos 0) }

abbrev pub sum_with : Term → Bool → Option (Option ℤ × List ℕ) → Option (Sum × List ℕ)
sum_with term minus None = None
sum_with term minus (Some n) = Some (record { term = term; minus = minus; amount = n.0 }, n.1)

-- what follows a name: `-` and a number, or nothing
abbrev pub sum_after_minus : Term → List ℕ → Option (List ℕ) → Option (Sum × List ℕ)
sum_after_minus term bytes None = Some (lone_term term, bytes)
sum_after_minus term bytes (Some rest) = sum_with term true (number_at rest)

-- what follows a name: `+` and a number, or the above
abbrev pub sum_after_plus : Term → List ℕ → Option (List ℕ) → Option (Sum × List ℕ)
sum_after_plus term bytes None = sum_after_minus term bytes (mark_at 45 bytes)
sum_after_plus term bytes (Some rest) = sum_with term false (number_at rest)

unfoldable pub amount_at : Term → List ℕ → Option (Sum × List ℕ)
amount_at term bytes = sum_after_plus term bytes (mark_at 43 bytes)

-- a name, or the statement's own address
abbrev pub term_of : List ℕ → Term
term_of word = if bytes_eq word (codes ".") then Here else Name word

unfoldable pub symbol_at : List ℕ → Option (Sum × List ℕ)
symbol_at bytes = do
  word ← word_at bytes
  if begins_with_digit word.0 then None else amount_at (term_of word.0) word.1

abbrev pub number_or_symbol : List ℕ → Option (Option ℤ × List ℕ) → Option (Sum × List ℕ)
number_or_symbol bytes (Some n) = Some (lone_term (Number n.0), n.1)
number_or_symbol bytes None = symbol_at bytes

unfoldable pub sum_at : List ℕ → Option (Sum × List ℕ)
sum_at bytes = number_or_symbol bytes (number_at bytes)

-- ---- halves

abbrev pub halves : List (List ℕ × Half)
halves = (codes "hi", High) ∷ (codes "lo", Low) ∷ []

-- `%hi(` or `%lo(`
unfoldable pub half_at : List ℕ → Option (Half × List ℕ)
half_at bytes = do
  rest ← mark_at 37 bytes
  run ← run_at rest
  half ← look_up halves run.0
  after ← mark_at 40 run.1
  Some (half, after)

-- a closing bracket for each half
abbrev pub closed_at : List Half → List ℕ → Option (List ℕ)
closed_at [] bytes = Some bytes
closed_at (half ∷ more) bytes = mark_at 41 bytes >>= closed_at more

unfoldable pub expr_in_halves_at : List Half → List ℕ → Option (Expr × List ℕ)
expr_in_halves_at opened bytes = do
  sum ← sum_at bytes
  rest ← closed_at opened sum.1
  Some (record { halves = opened; sum = sum.0 }, rest)

unfoldable pub expr_at : List ℕ → Option (Expr × List ℕ)
expr_at bytes = let opened = items_at half_at bytes in expr_in_halves_at opened.0 opened.1

-- the number 0
abbrev pub nought : Expr
nought = record { halves = []; sum = lone_term (Number (Some (pos 0))) }
