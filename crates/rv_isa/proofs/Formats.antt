-- A word of a format and its fields determine each other.
use Rattle.std.proofs.Common.{◌≡◌, ℕ, ◌+◌, ◌*◌, ◌<◌, ◌^◌, ℤ, arith}
use Rattle.std.proofs.lemmas.Int.{ints}
use Rattle.rv_isa.specs.Fields.{bits, imm_bits, sign_extension, b_imm, i_word, b_word}
use Rattle.rv_isa.specs.Words.{IsShortImm, IsBranchOffset}

-- ---- immediates of 12 bits

pub imm_bits-sign_extension : (n : ℕ) → n < 2 ^ 12 → imm_bits (sign_extension n 2048) 11 0 ≡ n
imm_bits-sign_extension n h = grind (arith, ints)

pub sign_extension-imm_bits : (imm : ℤ) → IsShortImm imm → sign_extension (imm_bits imm 11 0) 2048 ≡ imm
sign_extension-imm_bits imm h = grind (arith, ints)

-- the number of a field of 12 bits is an immediate
pub sign_extension-short : (n : ℕ) → n < 2 ^ 12 → IsShortImm (sign_extension n 2048)
sign_extension-short n h = (grind (arith, ints), grind (arith, ints))

-- ---- format I

pub i_word-bits : (w : ℕ) → w < 2 ^ 32 → i_word (bits w 6 0) (bits w 11 7) (bits w 14 12) (bits w 19 15) (bits w 31 20) ≡ w
i_word-bits w h = omega arith

pub record IFields (w opcode rd funct3 rs1 upper : ℕ) : Type 0 where
  pub opcode_at : bits w 6 0 ≡ opcode
  pub rd_at : bits w 11 7 ≡ rd
  pub funct3_at : bits w 14 12 ≡ funct3
  pub rs1_at : bits w 19 15 ≡ rs1
  pub upper_at : bits w 31 20 ≡ upper

pub i_fields : (w opcode rd funct3 rs1 upper : ℕ) → opcode < 128 → rd < 32 → funct3 < 8 → rs1 < 32 → upper < 4096 → i_word opcode rd funct3 rs1 upper ≡ w → IFields w opcode rd funct3 rs1 upper
i_fields w opcode rd funct3 rs1 upper ho hd h3 h1 hu e = record {
  opcode_at = omega arith;
  rd_at = omega arith;
  funct3_at = omega arith;
  rs1_at = omega arith;
  upper_at = omega arith;
}

-- ---- format B

pub b_word-bits : (w : ℕ) → w < 2 ^ 32 → b_word (bits w 6 0) (bits w 14 12) (bits w 19 15) (bits w 24 20) (b_imm w) ≡ w
b_word-bits w h =
    let top : imm_bits (b_imm w) 12 12 ≡ bits w 31 31 = grind (arith, ints) in
    let next : imm_bits (b_imm w) 11 11 ≡ bits w 7 7 = grind (arith, ints) in
    let high : imm_bits (b_imm w) 10 5 ≡ bits w 30 25 = grind (arith, ints) in
    let low : imm_bits (b_imm w) 4 1 ≡ bits w 11 8 = grind (arith, ints) in
    omega arith

pub sign_extension-branch : (w : ℕ) → IsBranchOffset (b_imm w)
sign_extension-branch w = ((grind (arith, ints), grind (arith, ints)), grind (arith, ints))

-- the bits that format B keeps give the offset back
pub sign_extension-branch_bits : (imm : ℤ) → IsBranchOffset imm → sign_extension (imm_bits imm 12 12 * 2 ^ 12 + imm_bits imm 11 11 * 2 ^ 11 + imm_bits imm 10 5 * 2 ^ 5 + imm_bits imm 4 1 * 2) 4096 ≡ imm
sign_extension-branch_bits imm h = grind (arith, ints)

pub record BFields (w opcode funct3 rs1 rs2 : ℕ) (imm : ℤ) : Type 0 where
  pub opcode_at : bits w 6 0 ≡ opcode
  pub funct3_at : bits w 14 12 ≡ funct3
  pub rs1_at : bits w 19 15 ≡ rs1
  pub rs2_at : bits w 24 20 ≡ rs2
  pub imm_at : b_imm w ≡ imm

pub b_fields : (w opcode funct3 rs1 rs2 : ℕ) (imm : ℤ) → opcode < 128 → funct3 < 8 → rs1 < 32 → rs2 < 32 → IsBranchOffset imm → b_word opcode funct3 rs1 rs2 imm ≡ w → BFields w opcode funct3 rs1 rs2 imm
b_fields w opcode funct3 rs1 rs2 imm ho h3 h1 h2 hi e =
    let joined : bits w 31 31 * 2 ^ 12 + bits w 7 7 * 2 ^ 11 + bits w 30 25 * 2 ^ 5 + bits w 11 8 * 2 ≡ imm_bits imm 12 12 * 2 ^ 12 + imm_bits imm 11 11 * 2 ^ 11 + imm_bits imm 10 5 * 2 ^ 5 + imm_bits imm 4 1 * 2 = omega arith in
    record {
      opcode_at = omega arith;
      funct3_at = omega arith;
      rs1_at = omega arith;
      rs2_at = omega arith;
      imm_at = rw joined (sign_extension-branch_bits imm hi);
    }
