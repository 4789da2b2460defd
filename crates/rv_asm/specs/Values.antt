-- The values of expressions, as whole numbers.
use Rattle.std.specs.Prelude.{ℕ, ◌+◌, ◌/◌, ◌%◌, ◌^◌, ℤ, pos, ◌+ℤ◌, ◌-ℤ◌, unsigned_abs, Bool, true, false, List, [], ◌∷◌, Option, Some, None, is_some, Result, Ok, Err}
use Rattle.std.specs.Int.{int_rem_euclid}
use Rattle.rv_isa.specs.Fields.{sign_extension}
use Rattle.rv_asm.specs.declared.layout.cause.Cause.{Cause}
use Rattle.rv_asm.specs.declared.layout.cause.Cause.TheVariants.{UnknownName, Range}
use Rattle.rv_asm.specs.declared.layout.names.Meaning.{Meaning}
use Rattle.rv_asm.specs.declared.line.expression.Half.{Half}
use Rattle.rv_asm.specs.declared.line.expression.Half.TheVariants.{High, Low}
use Rattle.rv_asm.specs.declared.line.expression.Term.{Term}
use Rattle.rv_asm.specs.declared.line.expression.Term.TheVariants.{Number, Name, Here}
use Rattle.rv_asm.specs.declared.line.expression.Sum.{Sum}
use Rattle.rv_asm.specs.declared.line.expression.Expr.{Expr}
use Rattle.rv_asm.specs.Causes.{◌>>=◌}
use Rattle.rv_asm.specs.Names.{meaning_of, Table}

-- a number modulo 2^32
abbrev pub low_word : ℤ → ℕ
low_word z = unsigned_abs (int_rem_euclid z (pos (2 ^ 32)))

-- ---- halves of a number modulo 2^32

-- bits 31 to 12 of the number plus 2048
abbrev pub high_half : ℕ → ℕ
high_half word = (word + 2048) % 2 ^ 32 / 2 ^ 12

-- the low 12 bits, read as signed
abbrev pub low_half : ℕ → ℤ
low_half word = sign_extension (word % 2 ^ 12) (2 ^ 11)

abbrev pub half_of : Half → ℤ → ℤ
half_of High z = pos (high_half (low_word z))
half_of Low z = low_half (low_word z)

-- the outermost half is taken last
abbrev pub halves_of : List Half → ℤ → ℤ
halves_of [] z = z
halves_of (half ∷ more) z = half_of half (halves_of more z)

-- ---- sums, at the address of their statement

abbrev pub value_of_meaning : Option Meaning → Result ℤ Cause
value_of_meaning None = Err UnknownName
value_of_meaning (Some meaning) = Ok meaning.value

abbrev pub written : Option ℤ → Result ℤ Cause
written None = Err Range
written (Some z) = Ok z

abbrev pub term_value : Table → ℤ → Term → Result ℤ Cause
term_value names here (Number n) = written n
term_value names here (Name name) = value_of_meaning (meaning_of names name)
term_value names here Here = Ok here

abbrev pub moved : Bool → ℤ → ℤ → ℤ
moved true z amount = z -ℤ amount
moved false z amount = z +ℤ amount

-- a number outside the range of numbers is a fault whatever the names are
unfoldable pub sum_value : Table → ℤ → Sum → Result ℤ Cause
sum_value names here sum = do
  amount ← written sum.amount
  z ← term_value names here sum.term
  Ok (moved sum.minus z amount)

unfoldable pub value_of : Table → ℤ → Expr → Result ℤ Cause
value_of names here e = do
  z ← sum_value names here e.sum
  Ok (halves_of e.halves z)

-- whether the name of an expression is defined, where it has one
abbrev pub term_is_known : Table → Term → Bool
term_is_known names (Name name) = is_some (meaning_of names name)
term_is_known names (Number n) = true
term_is_known names Here = true

abbrev pub is_known : Table → Expr → Bool
is_known names e = term_is_known names e.sum.term
