-- What mnemonics and directives ask for.
-- RISC-V Unprivileged ISA, "RV32/64G Instruction Set Listings" and "RISC-V Assembly Programmer's Handbook": "RISC-V
-- pseudoinstructions".
use Rattle.std.specs.Prelude.{ℕ, List, [], ◌∷◌, ◌++◌, Option, codes}
use Rattle.rv_isa.specs.declared.instruction.RegOp.TheVariants.{Add, Sub, Sll, Slt, Sltu, Xor, Srl, Sra, Or, And}
use Rattle.rv_isa.specs.declared.instruction.ImmOp.TheVariants.{Addi, Slti, Sltiu, Xori, Ori, Andi, Slli, Srli, Srai}
use Rattle.rv_isa.specs.declared.instruction.LoadOp.TheVariants.{Lb, Lh, Lw, Lbu, Lhu}
use Rattle.rv_isa.specs.declared.instruction.StoreOp.TheVariants.{Sb, Sh, Sw}
use Rattle.rv_isa.specs.declared.instruction.BranchOp.TheVariants.{Beq, Bne, Blt, Bge, Bltu, Bgeu}
use Rattle.rv_asm.specs.declared.line.mnemonics.Form.{Form}
use Rattle.rv_asm.specs.declared.line.mnemonics.Form.TheVariants.{Reg, Imm, Load, Store, Branch, Exchanged, Second, First, Move, Invert, Negate, IsZero, IsNotZero, IsNegative, IsPositive, Jal, Jalr, Jump, JumpRegister, Return, Call, Lui, Auipc, LoadNumber, LoadAddress, Nop, FenceAll, EnvironmentCall, Break, TextPart, DataPart, Section, Words, Halves, Bytes, Zeros, Power, Multiple, Equal, Ignored}
use Rattle.rv_asm.specs.Tables.{look_up}

-- operations on two registers
abbrev pub reg_mnemonics : List (List ℕ × Form)
reg_mnemonics = (codes "add", Reg Add)
    ∷ (codes "sub", Reg Sub)
    ∷ (codes "sll", Reg Sll)
    ∷ (codes "slt", Reg Slt)
    ∷ (codes "sltu", Reg Sltu)
    ∷ (codes "xor", Reg Xor)
    ∷ (codes "srl", Reg Srl)
    ∷ (codes "sra", Reg Sra)
    ∷ (codes "or", Reg Or)
    ∷ (codes "and", Reg And) ∷ []

-- operations on a register and an immediate
abbrev pub imm_mnemonics : List (List ℕ × Form)
imm_mnemonics = (codes "addi", Imm Addi)
    ∷ (codes "slti", Imm Slti)
    ∷ (codes "sltiu", Imm Sltiu)
    ∷ (codes "xori", Imm Xori)
    ∷ (codes "ori", Imm Ori)
    ∷ (codes "andi", Imm Andi)
    ∷ (codes "slli", Imm Slli)
    ∷ (codes "srli", Imm Srli)
    ∷ (codes "srai", Imm Srai) ∷ []

-- loads and stores
abbrev pub memory_mnemonics : List (List ℕ × Form)
memory_mnemonics = (codes "lb", Load Lb)
    ∷ (codes "lh", Load Lh)
    ∷ (codes "lw", Load Lw)
    ∷ (codes "lbu", Load Lbu)
    ∷ (codes "lhu", Load Lhu)
    ∷ (codes "sb", Store Sb)
    ∷ (codes "sh", Store Sh)
    ∷ (codes "sw", Store Sw) ∷ []

-- branches; `bgt` and its kin exchange their registers
abbrev pub branch_mnemonics : List (List ℕ × Form)
branch_mnemonics = (codes "beq", Branch Beq)
    ∷ (codes "bne", Branch Bne)
    ∷ (codes "blt", Branch Blt)
    ∷ (codes "bge", Branch Bge)
    ∷ (codes "bltu", Branch Bltu)
    ∷ (codes "bgeu", Branch Bgeu)
    ∷ (codes "bgt", Exchanged Blt)
    ∷ (codes "ble", Exchanged Bge)
    ∷ (codes "bgtu", Exchanged Bltu)
    ∷ (codes "bleu", Exchanged Bgeu) ∷ []

-- branches on one register and x0, which stands second or first
abbrev pub zero_mnemonics : List (List ℕ × Form)
zero_mnemonics = (codes "beqz", Second Beq)
    ∷ (codes "bnez", Second Bne)
    ∷ (codes "blez", First Bge)
    ∷ (codes "bgez", Second Bge)
    ∷ (codes "bltz", Second Blt)
    ∷ (codes "bgtz", First Blt) ∷ []

-- operations on one register
abbrev pub copy_mnemonics : List (List ℕ × Form)
copy_mnemonics = (codes "mv", Move)
    ∷ (codes "not", Invert)
    ∷ (codes "neg", Negate)
    ∷ (codes "seqz", IsZero)
    ∷ (codes "snez", IsNotZero)
    ∷ (codes "sltz", IsNegative)
    ∷ (codes "sgtz", IsPositive) ∷ []

-- jumps
abbrev pub jump_mnemonics : List (List ℕ × Form)
jump_mnemonics = (codes "jal", Jal)
    ∷ (codes "jalr", Jalr)
    ∷ (codes "j", Jump)
    ∷ (codes "jr", JumpRegister)
    ∷ (codes "ret", Return)
    ∷ (codes "call", Call) ∷ []

-- values in a register
abbrev pub value_mnemonics : List (List ℕ × Form)
value_mnemonics = (codes "lui", Lui)
    ∷ (codes "auipc", Auipc)
    ∷ (codes "li", LoadNumber)
    ∷ (codes "la", LoadAddress) ∷ []

-- without operands
abbrev pub system_mnemonics : List (List ℕ × Form)
system_mnemonics = (codes "nop", Nop)
    ∷ (codes "fence", FenceAll)
    ∷ (codes "ecall", EnvironmentCall)
    ∷ (codes "ebreak", Break) ∷ []

-- the parts of a program
abbrev pub part_directives : List (List ℕ × Form)
part_directives = (codes ".text", TextPart) ∷ (codes ".data", DataPart) ∷ (codes ".section", Section) ∷ []

-- values
abbrev pub value_directives : List (List ℕ × Form)
value_directives = (codes ".word", Words) ∷ (codes ".half", Halves) ∷ (codes ".byte", Bytes) ∷ []

-- zeros
abbrev pub zero_directives : List (List ℕ × Form)
zero_directives = (codes ".zero", Zeros) ∷ (codes ".space", Zeros) ∷ (codes ".skip", Zeros) ∷ []

-- alignments
abbrev pub align_directives : List (List ℕ × Form)
align_directives = (codes ".align", Power) ∷ (codes ".p2align", Power) ∷ (codes ".balign", Multiple) ∷ []

-- names
abbrev pub name_directives : List (List ℕ × Form)
name_directives = (codes ".equ", Equal) ∷ (codes ".set", Equal) ∷ []

-- ignored, on symbols
abbrev pub symbol_directives : List (List ℕ × Form)
symbol_directives = (codes ".globl", Ignored)
    ∷ (codes ".global", Ignored)
    ∷ (codes ".weak", Ignored)
    ∷ (codes ".local", Ignored) ∷ []

-- ignored, on what symbols stand for
abbrev pub shape_directives : List (List ℕ × Form)
shape_directives = (codes ".type", Ignored) ∷ (codes ".size", Ignored) ∷ []

-- ignored, on the file
abbrev pub file_directives : List (List ℕ × Form)
file_directives = (codes ".file", Ignored) ∷ (codes ".ident", Ignored) ∷ []

-- ignored, on the assembler
abbrev pub option_directives : List (List ℕ × Form)
option_directives = (codes ".option", Ignored) ∷ (codes ".attribute", Ignored) ∷ []

-- all words that begin a statement: mnemonics, and then directives
abbrev pub statement_words : List (List ℕ × Form)
statement_words =
    reg_mnemonics ++ imm_mnemonics ++ memory_mnemonics ++ branch_mnemonics ++ zero_mnemonics ++ copy_mnemonics
    ++ jump_mnemonics ++ value_mnemonics ++ system_mnemonics
    ++ part_directives ++ value_directives ++ zero_directives ++ align_directives ++ name_directives
    ++ symbol_directives ++ shape_directives ++ file_directives ++ option_directives

-- what a word asks for that begins a statement
unfoldable pub form_of : List ℕ → Option Form
form_of name = look_up statement_words name
