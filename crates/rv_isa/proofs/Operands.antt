-- The operand of an operation with an immediate, and bits 31 to 20 of its word, determine each other.
use Rattle.std.proofs.Common.{◌≡◌, ℕ, ◌<◌, ℤ, Option, Some, None, IfSome, arith}
use Rattle.std.proofs.lemmas.Int.{ints}
use Rattle.rv_isa.specs.Fields.{bits}
use Rattle.rv_isa.specs.Words.{IsOperand, operand_field, operand_at, shift_funct7}
use Rattle.rv_isa.proofs.Formats.{sign_extension-imm_bits, imm_bits-sign_extension, sign_extension-short}
use Rattle.rv_isa.specs.declared.instruction.ImmOp.{ImmOp}
use Rattle.rv_isa.specs.declared.instruction.ImmOp.TheVariants.{Addi}

pub operand_fits : (shift : Option ℕ) (w : ℕ) → IsOperand shift (operand_at shift w)
operand_fits (Some funct7) w = (grind (arith, ints), grind (arith, ints))
operand_fits None w = sign_extension-short (bits w 31 20) (omega arith)

pub operand_field-operand_at : (shift : Option ℕ) (w : ℕ) → IfSome shift (λ funct7. funct7 ≡ bits w 31 25) → operand_field shift (operand_at shift w) ≡ bits w 31 20
operand_field-operand_at (Some funct7) w h = omega (arith, h)
operand_field-operand_at None w h = imm_bits-sign_extension (bits w 31 20) (omega arith)

pub record HoldsOperand (shift : Option ℕ) (w : ℕ) (imm : ℤ) : Type 0 where
  pub funct7_at : IfSome shift (λ funct7. funct7 ≡ bits w 31 25)
  pub imm_at : operand_at shift w ≡ imm

pub holds_operand : (shift : Option ℕ) (w : ℕ) (imm : ℤ) → IfSome shift (λ funct7. funct7 < 128) → IsOperand shift imm → bits w 31 20 ≡ operand_field shift imm → HoldsOperand shift w imm
holds_operand (Some funct7) w imm h7 fits e = record {
  funct7_at = omega (arith, h7);
  imm_at = omega (arith, ints, h7);
}
holds_operand None w imm h7 fits e = record {
  funct7_at = tt;
  imm_at = rw e (sign_extension-imm_bits imm fits);
}

pub shift_funct7-bound : (op : ImmOp) → IfSome (shift_funct7 op) (λ funct7. funct7 < 128)
shift_funct7-bound Addi = tt
shift_funct7-bound _ = omega arith
