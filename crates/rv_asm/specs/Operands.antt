-- The operands of statements, separated by commas, up to the line's end.
use Rattle.std.specs.Prelude.{ℕ, ℤ, List, Option, Some}
use Rattle.rv_asm.specs.declared.line.expression.Expr.{Expr}
use Rattle.rv_asm.specs.Readings.{◌>>=◌, items_at, with_first}
use Rattle.rv_asm.specs.Tokens.{ends, mark_at, name_at}
use Rattle.rv_asm.specs.Numbers.{number_at}
use Rattle.rv_asm.specs.Registers.{register_at}
use Rattle.rv_asm.specs.Expressions.{expr_at, nought}

-- a value, and nothing after it but blanks
abbrev pub last : {A : Type 0} → A × List ℕ → Option A
last read = ends read.1 >>= λ _. Some read.0

unfoldable pub comma_register_at : List ℕ → Option (ℕ × List ℕ)
comma_register_at bytes = mark_at 44 bytes >>= register_at

unfoldable pub comma_expr_at : List ℕ → Option (Expr × List ℕ)
comma_expr_at bytes = mark_at 44 bytes >>= expr_at

-- a register in brackets
unfoldable pub base_at : List ℕ → Option (ℕ × List ℕ)
base_at bytes = do
  inside ← mark_at 40 bytes
  register ← register_at inside
  after ← mark_at 41 register.1
  Some (register.0, after)

unfoldable pub one_register : List ℕ → Option ℕ
one_register bytes = register_at bytes >>= last

unfoldable pub two_registers : List ℕ → Option (ℕ × ℕ)
two_registers bytes = do
  a ← register_at bytes
  b ← comma_register_at a.1
  last ((a.0, b.0), b.1)

unfoldable pub three_registers : List ℕ → Option (ℕ × ℕ × ℕ)
three_registers bytes = do
  a ← register_at bytes
  b ← comma_register_at a.1
  c ← comma_register_at b.1
  last ((a.0, b.0, c.0), c.1)

unfoldable pub two_registers_and_value : List ℕ → Option (ℕ × ℕ × Expr)
two_registers_and_value bytes = do
  a ← register_at bytes
  b ← comma_register_at a.1
  e ← comma_expr_at b.1
  last ((a.0, b.0, e.0), e.1)

unfoldable pub register_and_value : List ℕ → Option (ℕ × Expr)
register_and_value bytes = do
  a ← register_at bytes
  e ← comma_expr_at a.1
  last ((a.0, e.0), e.1)

unfoldable pub one_value : List ℕ → Option Expr
one_value bytes = expr_at bytes >>= last

-- a register, and a value with a register in brackets
unfoldable pub register_value_and_base : List ℕ → Option (ℕ × Expr × ℕ)
register_value_and_base bytes = do
  a ← register_at bytes
  e ← comma_expr_at a.1
  b ← base_at e.1
  last ((a.0, e.0, b.0), b.1)

-- the same without a value, which stands for 0
unfoldable pub register_and_base : List ℕ → Option (ℕ × Expr × ℕ)
register_and_base bytes = do
  a ← register_at bytes
  after ← mark_at 44 a.1
  b ← base_at after
  last ((a.0, nought, b.0), b.1)

-- a value, and all that follow it, each behind a comma
abbrev pub values_from : Expr → List ℕ → List Expr × List ℕ
values_from first bytes = with_first first (items_at comma_expr_at bytes)

-- values, one at least
unfoldable pub values : List ℕ → Option (List Expr)
values bytes = do
  first ← expr_at bytes
  last (values_from first.0 first.1)

unfoldable pub one_number : List ℕ → Option (Option ℤ)
one_number bytes = number_at bytes >>= last

unfoldable pub name_and_value : List ℕ → Option (List ℕ × Expr)
name_and_value bytes = do
  name ← name_at bytes
  e ← comma_expr_at name.1
  last ((name.0, e.0), e.1)
