-- Which instructions there are, and their words.
-- RISC-V Unprivileged ISA, "RV32I Base Integer Instruction Set", and its table of opcodes in "RV32/64G Instruction Set
-- Listings".
use Rattle.std.specs.Prelude.{◌≡◌, ℕ, ◌+◌, ◌*◌, ◌^◌, ◌<◌, ◌%◌, ℤ, pos, neg_ℤ, ◌≤ℤ◌, unsigned_abs, Option, Some, None, IfSome}
use Rattle.rv_isa.specs.declared.instruction.Instr.{Instr}
use Rattle.rv_isa.specs.declared.instruction.Instr.TheVariants.{Reg, Imm, Load, Store, Branch, Lui, Auipc, Jal, Jalr, Fence, Ecall, Ebreak}
use Rattle.rv_isa.specs.declared.instruction.RegOp.{RegOp}
use Rattle.rv_isa.specs.declared.instruction.RegOp.TheVariants.{Add, Sub, Sll, Slt, Sltu, Xor, Srl, Sra, Or, And}
use Rattle.rv_isa.specs.declared.instruction.ImmOp.{ImmOp}
use Rattle.rv_isa.specs.declared.instruction.ImmOp.TheVariants.{Addi, Slti, Sltiu, Xori, Ori, Andi, Slli, Srli, Srai}
use Rattle.rv_isa.specs.declared.instruction.LoadOp.{LoadOp}
use Rattle.rv_isa.specs.declared.instruction.LoadOp.TheVariants.{Lb, Lh, Lw, Lbu, Lhu}
use Rattle.rv_isa.specs.declared.instruction.StoreOp.{StoreOp}
use Rattle.rv_isa.specs.declared.instruction.StoreOp.TheVariants.{Sb, Sh, Sw}
use Rattle.rv_isa.specs.declared.instruction.BranchOp.{BranchOp}
use Rattle.rv_isa.specs.declared.instruction.BranchOp.TheVariants.{Beq, Bne, Blt, Bge, Bltu, Bgeu}
use Rattle.rv_isa.specs.Fields.{bits, i_imm, imm_bits, r_word, i_word, s_word, b_word, u_word, j_word}

-- ---- the tables: funct3, and funct7 where the format has it

abbrev pub reg_funct3 : RegOp → ℕ
reg_funct3 Add = 0b000
reg_funct3 Sub = 0b000
reg_funct3 Sll = 0b001
reg_funct3 Slt = 0b010
reg_funct3 Sltu = 0b011
reg_funct3 Xor = 0b100
reg_funct3 Srl = 0b101
reg_funct3 Sra = 0b101
reg_funct3 Or = 0b110
reg_funct3 And = 0b111

abbrev pub reg_funct7 : RegOp → ℕ
reg_funct7 Sub = 0b0100000
reg_funct7 Sra = 0b0100000
reg_funct7 _ = 0b0000000

abbrev pub imm_funct3 : ImmOp → ℕ
imm_funct3 Addi = 0b000
imm_funct3 Slti = 0b010
imm_funct3 Sltiu = 0b011
imm_funct3 Xori = 0b100
imm_funct3 Ori = 0b110
imm_funct3 Andi = 0b111
imm_funct3 Slli = 0b001
imm_funct3 Srli = 0b101
imm_funct3 Srai = 0b101

-- of a shift, the high seven bits of its immediate field
abbrev pub shift_funct7 : ImmOp → Option ℕ
shift_funct7 Slli = Some 0b0000000
shift_funct7 Srli = Some 0b0000000
shift_funct7 Srai = Some 0b0100000
shift_funct7 _ = None

abbrev pub load_funct3 : LoadOp → ℕ
load_funct3 Lb = 0b000
load_funct3 Lh = 0b001
load_funct3 Lw = 0b010
load_funct3 Lbu = 0b100
load_funct3 Lhu = 0b101

abbrev pub store_funct3 : StoreOp → ℕ
store_funct3 Sb = 0b000
store_funct3 Sh = 0b001
store_funct3 Sw = 0b010

abbrev pub branch_funct3 : BranchOp → ℕ
branch_funct3 Beq = 0b000
branch_funct3 Bne = 0b001
branch_funct3 Blt = 0b100
branch_funct3 Bge = 0b101
branch_funct3 Bltu = 0b110
branch_funct3 Bgeu = 0b111

-- ---- ranges

-- z lies from low to high
abbrev pub IsWithin : ℤ → ℤ → ℤ → Type 0
IsWithin low high z = (low ≤ℤ z) × (z ≤ℤ high)

-- an immediate of 12 bits in two's complement
abbrev pub IsShortImm : ℤ → Type 0
IsShortImm imm = IsWithin (neg_ℤ (pos 2048)) (pos 2047) imm

-- an even offset of 13 bits, and of 21 bits
abbrev pub IsBranchOffset : ℤ → Type 0
IsBranchOffset offset = IsWithin (neg_ℤ (pos 4096)) (pos 4094) offset × (unsigned_abs offset % 2 ≡ 0)

abbrev pub IsJumpOffset : ℤ → Type 0
IsJumpOffset offset = IsWithin (neg_ℤ (pos 1048576)) (pos 1048574) offset × (unsigned_abs offset % 2 ≡ 0)

-- the operand of an operation with this funct7: a shift amount, or an immediate
abbrev pub IsOperand : Option ℕ → ℤ → Type 0
IsOperand (Some funct7) imm = IsWithin (pos 0) (pos 31) imm
IsOperand None imm = IsShortImm imm

-- registers are below 32, and immediates are in the ranges of their formats
abbrev pub Fits : Instr → Type 0
Fits (Reg op rd rs1 rs2) = (rd < 32) × (rs1 < 32) × (rs2 < 32)
Fits (Imm op rd rs1 imm) = (rd < 32) × (rs1 < 32) × IsOperand (shift_funct7 op) imm
Fits (Load op rd rs1 imm) = (rd < 32) × (rs1 < 32) × IsShortImm imm
Fits (Store op rs1 rs2 imm) = (rs1 < 32) × (rs2 < 32) × IsShortImm imm
Fits (Branch op rs1 rs2 offset) = (rs1 < 32) × (rs2 < 32) × IsBranchOffset offset
Fits (Lui rd imm) = (rd < 32) × (imm < 2 ^ 20)
Fits (Auipc rd imm) = (rd < 32) × (imm < 2 ^ 20)
Fits (Jal rd offset) = (rd < 32) × IsJumpOffset offset
Fits (Jalr rd rs1 imm) = (rd < 32) × (rs1 < 32) × IsShortImm imm
Fits Fence = Unit {0}
Fits Ecall = Unit {0}
Fits Ebreak = Unit {0}

-- ---- words

-- bits 31 to 20 of an operation with this funct7: it stands above a shift amount, and else the immediate fills the
-- field
abbrev pub operand_field : Option ℕ → ℤ → ℕ
operand_field (Some funct7) imm = funct7 * 2 ^ 5 + imm_bits imm 4 0
operand_field None imm = imm_bits imm 11 0

-- the operand that a word of such an operation holds
abbrev pub operand_at : Option ℕ → ℕ → ℤ
operand_at (Some funct7) word = pos (bits word 24 20)
operand_at None word = i_imm word

-- the word of an instruction; `fence` has all bits of its sets of accesses set
abbrev pub word_of : Instr → ℕ
word_of (Reg op rd rs1 rs2) = r_word 0b0110011 rd (reg_funct3 op) rs1 rs2 (reg_funct7 op)
word_of (Imm op rd rs1 imm) = i_word 0b0010011 rd (imm_funct3 op) rs1 (operand_field (shift_funct7 op) imm)
word_of (Load op rd rs1 imm) = i_word 0b0000011 rd (load_funct3 op) rs1 (imm_bits imm 11 0)
word_of (Store op rs1 rs2 imm) = s_word 0b0100011 (store_funct3 op) rs1 rs2 imm
word_of (Branch op rs1 rs2 offset) = b_word 0b1100011 (branch_funct3 op) rs1 rs2 offset
word_of (Lui rd imm) = u_word 0b0110111 rd imm
word_of (Auipc rd imm) = u_word 0b0010111 rd imm
word_of (Jal rd offset) = j_word 0b1101111 rd offset
word_of (Jalr rd rs1 imm) = i_word 0b1100111 rd 0b000 rs1 (imm_bits imm 11 0)
word_of Fence = 0x0ff0000f
word_of Ecall = 0x00000073
word_of Ebreak = 0x00100073

-- the outcome is the instruction that fits and has this word: there is no other, and none where there is no outcome
pub record IsDecoded (word : ℕ) (outcome : Option Instr) : Type 0 where
  pub fits : IfSome outcome Fits
  pub has_word : IfSome outcome (λ instr. word_of instr ≡ word)
  pub every : (instr : Instr) → Fits instr → word_of instr ≡ word → outcome ≡ Some instr

-- two instructions that fit and have one word are one instruction
abbrev pub WordsAreDistinct : Type 0
WordsAreDistinct = (i j : Instr) → Fits i → Fits j → word_of i ≡ word_of j → i ≡ j
