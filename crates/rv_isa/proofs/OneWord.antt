-- No two instructions that fit have one word.
use Rattle.std.proofs.Common.{◌≡◌, ℕ, ℤ, arith}
use Rattle.std.proofs.lemmas.Int.{ints}
use Rattle.rv_isa.specs.Words.{Fits, word_of, reg_funct3, reg_funct7, imm_funct3, shift_funct7, load_funct3, store_funct3, branch_funct3}
use Rattle.rv_isa.specs.declared.instruction.Instr.{Instr}
use Rattle.rv_isa.specs.declared.instruction.Instr.TheVariants.{Reg, Imm, Load, Store, Branch, Lui, Auipc, Jal, Jalr, Fence, Ecall, Ebreak}
use Rattle.rv_isa.specs.declared.instruction.RegOp.{RegOp}
use Rattle.rv_isa.specs.declared.instruction.ImmOp.{ImmOp}
use Rattle.rv_isa.specs.declared.instruction.LoadOp.{LoadOp}
use Rattle.rv_isa.specs.declared.instruction.StoreOp.{StoreOp}
use Rattle.rv_isa.specs.declared.instruction.BranchOp.{BranchOp}

one_reg_op : (a b : RegOp) → reg_funct3 a ≡ reg_funct3 b → reg_funct7 a ≡ reg_funct7 b → a ≡ b
one_reg_op a b e f = grind arith

one_load_op : (a b : LoadOp) → load_funct3 a ≡ load_funct3 b → a ≡ b
one_load_op a b e = grind arith

one_branch_op : (a b : BranchOp) → branch_funct3 a ≡ branch_funct3 b → a ≡ b
one_branch_op a b e = grind arith

one_imm_op : (a b : ImmOp) → imm_funct3 a ≡ imm_funct3 b → shift_funct7 a ≡ shift_funct7 b → a ≡ b
one_imm_op a b e f = grind arith

one_store_op : (a b : StoreOp) → store_funct3 a ≡ store_funct3 b → a ≡ b
one_store_op a b e = grind arith

one_reg : (op : RegOp) (rd rs1 rs2 : ℕ) (j : Instr) → Fits (Reg op rd rs1 rs2) → Fits j → word_of (Reg op rd rs1 rs2) ≡ word_of j → Reg op rd rs1 rs2 ≡ j
one_reg op rd rs1 rs2 j f g e = grind (arith, one_reg_op)

one_imm : (op : ImmOp) (rd rs1 : ℕ) (imm : ℤ) (j : Instr) → Fits (Imm op rd rs1 imm) → Fits j → word_of (Imm op rd rs1 imm) ≡ word_of j → Imm op rd rs1 imm ≡ j
one_imm op rd rs1 imm j f g e = grind (arith, ints, one_imm_op)

one_load : (op : LoadOp) (rd rs1 : ℕ) (imm : ℤ) (j : Instr) → Fits (Load op rd rs1 imm) → Fits j → word_of (Load op rd rs1 imm) ≡ word_of j → Load op rd rs1 imm ≡ j
one_load op rd rs1 imm j f g e = grind (arith, ints, one_load_op)

one_store : (op : StoreOp) (rs1 rs2 : ℕ) (imm : ℤ) (j : Instr) → Fits (Store op rs1 rs2 imm) → Fits j → word_of (Store op rs1 rs2 imm) ≡ word_of j → Store op rs1 rs2 imm ≡ j
one_store op rs1 rs2 imm j f g e = grind (arith, ints, one_store_op)

one_branch : (op : BranchOp) (rs1 rs2 : ℕ) (offset : ℤ) (j : Instr) → Fits (Branch op rs1 rs2 offset) → Fits j → word_of (Branch op rs1 rs2 offset) ≡ word_of j → Branch op rs1 rs2 offset ≡ j
one_branch op rs1 rs2 offset j f g e = grind (arith, ints, one_branch_op)

one_lui : (rd imm : ℕ) (j : Instr) → Fits (Lui rd imm) → Fits j → word_of (Lui rd imm) ≡ word_of j → Lui rd imm ≡ j
one_lui rd imm j f g e = grind (arith, ints)

one_auipc : (rd imm : ℕ) (j : Instr) → Fits (Auipc rd imm) → Fits j → word_of (Auipc rd imm) ≡ word_of j → Auipc rd imm ≡ j
one_auipc rd imm j f g e = grind (arith, ints)

one_jal : (rd : ℕ) (offset : ℤ) (j : Instr) → Fits (Jal rd offset) → Fits j → word_of (Jal rd offset) ≡ word_of j → Jal rd offset ≡ j
one_jal rd offset j f g e = grind (arith, ints)

one_jalr : (rd rs1 : ℕ) (imm : ℤ) (j : Instr) → Fits (Jalr rd rs1 imm) → Fits j → word_of (Jalr rd rs1 imm) ≡ word_of j → Jalr rd rs1 imm ≡ j
one_jalr rd rs1 imm j f g e = grind (arith, ints)

one_fence : (j : Instr) → Fits j → word_of Fence ≡ word_of j → Fence ≡ j
one_fence j g e = grind (arith, ints)

one_ecall : (j : Instr) → Fits j → word_of Ecall ≡ word_of j → Ecall ≡ j
one_ecall j g e = grind (arith, ints)

one_ebreak : (j : Instr) → Fits j → word_of Ebreak ≡ word_of j → Ebreak ≡ j
one_ebreak j g e = grind (arith, ints)

pub one_word : (i j : Instr) → Fits i → Fits j → word_of i ≡ word_of j → i ≡ j
one_word (Reg op rd rs1 rs2) j f g e = one_reg op rd rs1 rs2 j f g e
one_word (Imm op rd rs1 imm) j f g e = one_imm op rd rs1 imm j f g e
one_word (Load op rd rs1 imm) j f g e = one_load op rd rs1 imm j f g e
one_word (Store op rs1 rs2 imm) j f g e = one_store op rs1 rs2 imm j f g e
one_word (Branch op rs1 rs2 offset) j f g e = one_branch op rs1 rs2 offset j f g e
one_word (Lui rd imm) j f g e = one_lui rd imm j f g e
one_word (Auipc rd imm) j f g e = one_auipc rd imm j f g e
one_word (Jal rd offset) j f g e = one_jal rd offset j f g e
one_word (Jalr rd rs1 imm) j f g e = one_jalr rd rs1 imm j f g e
one_word Fence j f g e = one_fence j g e
one_word Ecall j f g e = one_ecall j g e
one_word Ebreak j f g e = one_ebreak j g e
