-- What an instruction asks of the memory, and the state after it.
-- RISC-V Unprivileged ISA, "RV32I Base Integer Instruction Set": "Programmers' Model", "Integer Computational
-- Instructions", "Control Transfer Instructions", "Load and Store Instructions", "Memory Ordering Instructions",
-- "Environment Call and Breakpoints".
use Rattle.std.specs.Prelude.{ℕ, zero, suc, ◌+◌, ◌-◌, ◌*◌, ◌/◌, ◌%◌, ◌^◌, ℤ, Bool, not, List, slice_index, slice_set, nat_lt, ◌==◌, int_lt, if◌then◌else◌, bit_and, bit_or, bit_xor}
use Rattle.std.specs.Int.{w32, cast_unsigned, cast_signed, int_shr}
use Rattle.rv_isa.specs.declared.instruction.Instr.{Instr}
use Rattle.rv_isa.specs.declared.instruction.Instr.TheVariants.{Reg, Imm, Load, Store, Branch, Lui, Auipc, Jal, Jalr, Fence, Ecall, Ebreak}
use Rattle.rv_isa.specs.declared.instruction.RegOp.{RegOp}
use Rattle.rv_isa.specs.declared.instruction.RegOp.TheVariants.{Add, Sub, Sll, Slt, Sltu, Xor, Srl, Sra, Or, And}
use Rattle.rv_isa.specs.declared.instruction.ImmOp.{ImmOp}
use Rattle.rv_isa.specs.declared.instruction.ImmOp.TheVariants.{Addi, Slti, Sltiu, Xori, Ori, Andi, Slli, Srli, Srai}
use Rattle.rv_isa.specs.declared.instruction.LoadOp.{LoadOp}
use Rattle.rv_isa.specs.declared.instruction.LoadOp.TheVariants.{Lb, Lh, Lw, Lbu, Lhu}
use Rattle.rv_isa.specs.declared.instruction.StoreOp.{StoreOp}
use Rattle.rv_isa.specs.declared.instruction.StoreOp.TheVariants.{Sb, Sh, Sw}
use Rattle.rv_isa.specs.declared.instruction.BranchOp.{BranchOp}
use Rattle.rv_isa.specs.declared.instruction.BranchOp.TheVariants.{Beq, Bne, Blt, Bge, Bltu, Bgeu}
use Rattle.rv_isa.specs.declared.execution.IsaState.{IsaState}
use Rattle.rv_isa.specs.declared.execution.Access.{Access}
use Rattle.rv_isa.specs.declared.execution.Access.TheVariants.{Nothing, Load as LoadFrom, Store as StoreTo}
use Rattle.rv_isa.specs.Fields.{sign_extension}

-- ---- registers and addresses ("Programmers' Model for Base Integer ISA")

-- what register r holds: x0 is 0
abbrev pub register : IsaState → ℕ → ℕ
register state zero = 0
register state (suc r) = slice_index state.x (suc r)

-- the registers x once rd holds value: a write to x0 is lost
abbrev pub registers_with : List ℕ → ℕ → ℕ → List ℕ
registers_with x zero value = x
registers_with x (suc rd) value = slice_set x (suc rd) value

-- a plus a signed immediate, modulo 2^32
abbrev pub plus_imm : ℕ → ℤ → ℕ
plus_imm a imm = (a + cast_unsigned w32 imm) % 2 ^ 32

-- the address of the instruction that follows in memory
abbrev pub next_pc : ℕ → ℕ
next_pc pc = (pc + 4) % 2 ^ 32

-- the number that a register's bits are in two's complement
abbrev pub signed_value : ℕ → ℤ
signed_value a = cast_signed w32 a

-- ---- operations ("Integer Computational Instructions")

-- what an operation gives on two registers' values: a shift takes the low five bits of the second, and `sra` divides
-- the signed value by a power of two, rounded down
abbrev pub reg_value : RegOp → ℕ → ℕ → ℕ
reg_value Add a b = (a + b) % 2 ^ 32
reg_value Sub a b = (a + (2 ^ 32 - b)) % 2 ^ 32
reg_value Sll a b = (a * 2 ^ (b % 32)) % 2 ^ 32
reg_value Slt a b = if int_lt (signed_value a) (signed_value b) then 1 else 0
reg_value Sltu a b = if nat_lt a b then 1 else 0
reg_value Xor a b = bit_xor a b
reg_value Srl a b = a / 2 ^ (b % 32)
reg_value Sra a b = cast_unsigned w32 (int_shr (signed_value a) (b % 32))
reg_value Or a b = bit_or a b
reg_value And a b = bit_and a b

-- the operation of which this one has an immediate in place of the second register
abbrev pub on_registers : ImmOp → RegOp
on_registers Addi = Add
on_registers Slti = Slt
on_registers Sltiu = Sltu
on_registers Xori = Xor
on_registers Ori = Or
on_registers Andi = And
on_registers Slli = Sll
on_registers Srli = Srl
on_registers Srai = Sra

-- the immediate is extended by its sign to 32 bits
abbrev pub imm_value : ImmOp → ℕ → ℤ → ℕ
imm_value op a imm = reg_value (on_registers op) a (cast_unsigned w32 imm)

-- ---- loads and stores ("Load and Store Instructions")

-- what a load puts into its register, where the addressed bytes are the low ones of `loaded`
abbrev pub load_value : LoadOp → ℕ → ℕ
load_value Lb loaded = cast_unsigned w32 (sign_extension (loaded % 2 ^ 8) (2 ^ 7))
load_value Lh loaded = cast_unsigned w32 (sign_extension (loaded % 2 ^ 16) (2 ^ 15))
load_value Lw loaded = loaded
load_value Lbu loaded = loaded % 2 ^ 8
load_value Lhu loaded = loaded % 2 ^ 16

-- how many bytes a store writes
abbrev pub store_bytes : StoreOp → ℕ
store_bytes Sb = 1
store_bytes Sh = 2
store_bytes Sw = 4

-- the low bytes of a register's value
abbrev pub store_value : StoreOp → ℕ → ℕ
store_value op value = value % 2 ^ (8 * store_bytes op)

-- ---- branches and jumps ("Control Transfer Instructions")

-- whether the branch is taken at these values of its registers
abbrev pub is_taken : BranchOp → ℕ → ℕ → Bool
is_taken Beq a b = a == b
is_taken Bne a b = not (a == b)
is_taken Blt a b = int_lt (signed_value a) (signed_value b)
is_taken Bge a b = not (int_lt (signed_value a) (signed_value b))
is_taken Bltu a b = nat_lt a b
is_taken Bgeu a b = not (nat_lt a b)

-- where a branch goes at these values of its registers
abbrev pub branch_target : BranchOp → ℕ → ℕ → ℕ → ℤ → ℕ
branch_target op a b pc offset = if is_taken op a b then plus_imm pc offset else next_pc pc

-- where `jalr` goes: the lowest bit of the sum is cleared
abbrev pub jalr_target : ℕ → ℤ → ℕ
jalr_target a imm = plus_imm a imm / 2 * 2

-- ---- instructions

-- the access that an instruction makes
abbrev pub request_of : IsaState → Instr → Access
request_of state (Load op rd rs1 imm) = LoadFrom (plus_imm (register state rs1) imm)
request_of state (Store op rs1 rs2 imm) =
    StoreTo (plus_imm (register state rs1) imm) (store_bytes op) (store_value op (register state rs2))
request_of state _ = Nothing

-- value goes to rd, and the next instruction follows
abbrev pub state_with_value : IsaState → ℕ → ℕ → IsaState
state_with_value state rd value = record { pc = next_pc state.pc; x = registers_with state.x rd value }

-- the address of what follows goes to rd, and the next instruction is at target
abbrev pub state_after_jump : IsaState → ℕ → ℕ → IsaState
state_after_jump state rd target = record { pc = target; x = registers_with state.x rd (next_pc state.pc) }

-- the next instruction is at pc, and the registers stay
abbrev pub state_at : IsaState → ℕ → IsaState
state_at state pc = record { pc = pc; x = state.x }

-- the state after an instruction, where a load has found `loaded`
abbrev pub next_state : IsaState → Instr → ℕ → IsaState
next_state state (Reg op rd rs1 rs2) loaded =
    state_with_value state rd (reg_value op (register state rs1) (register state rs2))
next_state state (Imm op rd rs1 imm) loaded = state_with_value state rd (imm_value op (register state rs1) imm)
next_state state (Load op rd rs1 imm) loaded = state_with_value state rd (load_value op loaded)
next_state state (Branch op rs1 rs2 offset) loaded =
    state_at state (branch_target op (register state rs1) (register state rs2) state.pc offset)
next_state state (Lui rd imm) loaded = state_with_value state rd (imm * 2 ^ 12)
next_state state (Auipc rd imm) loaded = state_with_value state rd ((state.pc + imm * 2 ^ 12) % 2 ^ 32)
next_state state (Jal rd offset) loaded = state_after_jump state rd (plus_imm state.pc offset)
next_state state (Jalr rd rs1 imm) loaded = state_after_jump state rd (jalr_target (register state rs1) imm)
next_state state (Store op rs1 rs2 imm) loaded = state_at state (next_pc state.pc)
next_state state Fence loaded = state_at state (next_pc state.pc)
next_state state Ecall loaded = state_at state (next_pc state.pc)
next_state state Ebreak loaded = state_at state (next_pc state.pc)
