-- The statement that a line makes: what each mnemonic and directive stands for with its operands.
-- RISC-V Unprivileged ISA, "RISC-V Assembly Programmer's Handbook": "RISC-V pseudoinstructions".
use Rattle.std.specs.Prelude.{ℕ, ◌==◌, ℤ, pos, negsuc, neg_ℤ, Bool, true, false, if◌then◌else◌, List, [], ◌∷◌, Option, Some, None, codes}
use Rattle.std.specs.List.{starts_with}
use Rattle.rv_isa.specs.declared.instruction.Instr.{Instr}
use Rattle.rv_isa.specs.declared.instruction.Instr.TheVariants as instr
use Rattle.rv_isa.specs.declared.instruction.LoadOp.{LoadOp}
use Rattle.rv_isa.specs.declared.instruction.StoreOp.{StoreOp}
use Rattle.rv_isa.specs.declared.instruction.RegOp.{RegOp}
use Rattle.rv_isa.specs.declared.instruction.RegOp.TheVariants.{Sub, Slt, Sltu}
use Rattle.rv_isa.specs.declared.instruction.ImmOp.{ImmOp}
use Rattle.rv_isa.specs.declared.instruction.ImmOp.TheVariants.{Addi, Sltiu, Xori}
use Rattle.rv_isa.specs.declared.instruction.BranchOp.{BranchOp}
use Rattle.rv_asm.specs.declared.line.expression.Expr.{Expr}
use Rattle.rv_asm.specs.declared.line.expression.Term.{Term}
use Rattle.rv_asm.specs.declared.line.expression.Term.TheVariants.{Number, Name}
use Rattle.rv_asm.specs.declared.line.mnemonics.Form.{Form}
use Rattle.rv_asm.specs.declared.line.mnemonics.Form.TheVariants as form
use Rattle.rv_asm.specs.declared.line.statement.Part.{Part}
use Rattle.rv_asm.specs.declared.line.statement.Part.TheVariants.{Text, Data}
use Rattle.rv_asm.specs.declared.line.statement.Size.{Size}
use Rattle.rv_asm.specs.declared.line.statement.Size.TheVariants.{Byte, Half, Word}
use Rattle.rv_asm.specs.declared.line.statement.Demand.{Demand}
use Rattle.rv_asm.specs.declared.line.statement.Demand.TheVariants as for
use Rattle.rv_asm.specs.declared.line.statement.Statement.{Statement}
use Rattle.rv_asm.specs.declared.line.statement.Statement.TheVariants.{Nothing, Whole, Asks, LoadNumber, Enter, Zeros, Align, Equal}
use Rattle.std.specs.Option.{option_or}
use Rattle.rv_asm.specs.Readings.{◌>>=◌}
use Rattle.rv_asm.specs.Tokens.{ends, mark_at, name_at}
use Rattle.rv_asm.specs.Numbers.{number_at}
use Rattle.rv_asm.specs.Registers.{register_at}
use Rattle.rv_asm.specs.Operands.{register_value_and_base, register_and_base, last, name_and_value, one_number, one_register, one_value, register_and_value, three_registers, two_registers, two_registers_and_value, values}

-- a value for a demand
abbrev pub ask_for : Demand → Expr → Statement
ask_for demand value = Asks demand (value ∷ [])

-- one value for a demand, and nothing else
abbrev pub jump_to_at : Demand → List ℕ → Option Statement
jump_to_at demand bytes = do
  e ← one_value bytes
  Some (ask_for demand e)

-- values of one size
abbrev pub values_at : Size → List ℕ → Option Statement
values_at size bytes = do
  es ← values bytes
  Some (Asks (for.Value size) es)

-- no operands
abbrev pub whole : Instr → List ℕ → Option Statement
whole i bytes = do
  _ ← ends bytes
  Some (Whole i)

-- a register, and a value with a register in brackets, or the register alone
unfoldable pub memory_operands_at : List ℕ → Option (ℕ × Expr × ℕ)
memory_operands_at bytes = option_or (register_value_and_base bytes) (register_and_base bytes)

-- ---- jumps

-- rd and a target
abbrev pub linked_jal_at : List ℕ → Option Statement
linked_jal_at bytes = do
  o ← register_and_value bytes
  Some (ask_for (for.Jal o.0) o.1)

-- rd and a target, or a target alone with x1
unfoldable pub jal_at : List ℕ → Option Statement
jal_at bytes = option_or (linked_jal_at bytes) (jump_to_at (for.Jal 1) bytes)

-- rs1 alone, with x1 and 0
unfoldable pub jalr_of_register_at : List ℕ → Option Statement
jalr_of_register_at bytes = do
  r ← one_register bytes
  Some (Whole (instr.Jalr 1 r (pos 0)))

-- rd, rs1 and a value
abbrev pub jalr_with_value_at : List ℕ → Option Statement
jalr_with_value_at bytes = do
  o ← two_registers_and_value bytes
  Some (ask_for (for.Jalr o.0 o.1) o.2)

unfoldable pub jalr_of_list_at : List ℕ → Option Statement
jalr_of_list_at bytes = option_or (jalr_with_value_at bytes) (jalr_of_register_at bytes)

-- rd, and a value with rs1 in brackets
abbrev pub jalr_with_base_at : List ℕ → Option Statement
jalr_with_base_at bytes = do
  o ← register_value_and_base bytes
  Some (ask_for (for.Jalr o.0 o.2) o.1)

unfoldable pub jalr_at : List ℕ → Option Statement
jalr_at bytes = option_or (jalr_with_base_at bytes) (jalr_of_list_at bytes)

-- ---- numbers in registers

abbrev pub named_source : List ℕ × List ℕ → Term × List ℕ
named_source name = (Name name.0, name.1)

abbrev pub number_or_name : List ℕ → Option (Option ℤ × List ℕ) → Option (Term × List ℕ)
number_or_name bytes (Some n) = Some (Number n.0, n.1)
number_or_name bytes None = name_at bytes >>= λ name. Some (named_source name)

-- a number or a name
unfoldable pub source_at : List ℕ → Option (Term × List ℕ)
source_at bytes = number_or_name bytes (number_at bytes)

unfoldable pub load_number_at : List ℕ → Option Statement
load_number_at bytes = do
  a ← register_at bytes
  after ← mark_at 44 a.1
  s ← source_at after
  last (LoadNumber a.0 s.0, s.1)

-- ---- directives

-- the part that a section's name begins with
unfoldable pub part_of : List ℕ → Option Part
part_of name =
    if starts_with ◌==◌ name (codes ".text") then Some Text
    else if starts_with ◌==◌ name (codes ".data") then Some Data
    else if starts_with ◌==◌ name (codes ".rodata") then Some Data
    else if starts_with ◌==◌ name (codes ".sdata") then Some Data
    else if starts_with ◌==◌ name (codes ".bss") then Some Data
    else if starts_with ◌==◌ name (codes ".sbss") then Some Data
    else None

-- nothing more, or a comma and anything
abbrev pub end_or_comma_at : List ℕ → Option (Unit {0})
end_or_comma_at bytes = option_or (ends bytes) (mark_at 44 bytes >>= λ _. Some tt)

unfoldable pub section_at : List ℕ → Option Statement
section_at bytes = do
  name ← name_at bytes
  part ← part_of name.0
  _ ← end_or_comma_at name.1
  Some (Enter part)

-- the exponent of a exponent of two from 1 to 4096
abbrev pub exponent_of : ℕ → Option ℕ
exponent_of n =
    if n == 1 then Some 0
    else if n == 2 then Some 1
    else if n == 4 then Some 2
    else if n == 8 then Some 3
    else if n == 16 then Some 4
    else if n == 32 then Some 5
    else if n == 64 then Some 6
    else if n == 128 then Some 7
    else if n == 256 then Some 8
    else if n == 512 then Some 9
    else if n == 1024 then Some 10
    else if n == 2048 then Some 11
    else if n == 4096 then Some 12
    else None

-- an exponent, and the exponent of a exponent_of_multiple
abbrev pub exponent : Option ℤ → Option ℕ
exponent None = None
exponent (Some (pos n)) = Some n
exponent (Some (negsuc n)) = None

abbrev pub exponent_of_multiple : Option ℤ → Option ℕ
exponent_of_multiple None = None
exponent_of_multiple (Some (pos n)) = exponent_of n
exponent_of_multiple (Some (negsuc n)) = None

-- ---- statements

-- directives
abbrev pub directive_at : Form → List ℕ → Option Statement
directive_at form.TextPart bytes = ends bytes >>= λ _. Some (Enter Text)
directive_at form.DataPart bytes = ends bytes >>= λ _. Some (Enter Data)
directive_at form.Section bytes = section_at bytes
directive_at form.Words bytes = values_at Word bytes
directive_at form.Halves bytes = values_at Half bytes
directive_at form.Bytes bytes = values_at Byte bytes
directive_at form.Zeros bytes = one_number bytes >>= λ n. Some (Zeros n)
directive_at form.Power bytes = one_number bytes >>= λ n. Some (Align (exponent n))
directive_at form.Multiple bytes = one_number bytes >>= λ n. Some (Align (exponent_of_multiple n))
directive_at form.Equal bytes = name_and_value bytes >>= λ o. Some (Equal o.0 o.1)
directive_at form.Ignored bytes = Some Nothing
directive_at _ bytes = None

unfoldable pub lui_at : List ℕ → Option Statement
lui_at bytes = do
  o ← register_and_value bytes
  Some (ask_for (for.Lui o.0) o.1)

unfoldable pub auipc_at : List ℕ → Option Statement
auipc_at bytes = do
  o ← register_and_value bytes
  Some (ask_for (for.Auipc o.0) o.1)

unfoldable pub load_address_at : List ℕ → Option Statement
load_address_at bytes = do
  o ← register_and_value bytes
  Some (ask_for (for.Address o.0) o.1)

unfoldable pub jump_register_at : List ℕ → Option Statement
jump_register_at bytes = do
  r ← one_register bytes
  Some (Whole (instr.Jalr 0 r (pos 0)))

abbrev pub nop : Instr
nop = instr.Imm Addi 0 0 (pos 0)

-- jumps, numbers in registers, and what has no operands
abbrev pub plain_statement_at : Form → List ℕ → Option Statement
plain_statement_at form.Jal bytes = jal_at bytes
plain_statement_at form.Jalr bytes = jalr_at bytes
plain_statement_at form.Jump bytes = jump_to_at (for.Jal 0) bytes
plain_statement_at form.JumpRegister bytes = jump_register_at bytes
plain_statement_at form.Return bytes = whole (instr.Jalr 0 1 (pos 0)) bytes
plain_statement_at form.Call bytes = jump_to_at (for.Jal 1) bytes
plain_statement_at form.Lui bytes = lui_at bytes
plain_statement_at form.Auipc bytes = auipc_at bytes
plain_statement_at form.LoadNumber bytes = load_number_at bytes
plain_statement_at form.LoadAddress bytes = load_address_at bytes
plain_statement_at form.Nop bytes = whole nop bytes
plain_statement_at form.FenceAll bytes = whole instr.Fence bytes
plain_statement_at form.EnvironmentCall bytes = whole instr.Ecall bytes
plain_statement_at form.Break bytes = whole instr.Ebreak bytes
plain_statement_at f bytes = directive_at f bytes

-- the instruction that an operation on one register stands for
abbrev pub copy_of : Form → ℕ → ℕ → Option Instr
copy_of form.Move rd rs = Some (instr.Imm Addi rd rs (pos 0))
copy_of form.Invert rd rs = Some (instr.Imm Xori rd rs (neg_ℤ (pos 1)))
copy_of form.Negate rd rs = Some (instr.Reg Sub rd 0 rs)
copy_of form.IsZero rd rs = Some (instr.Imm Sltiu rd rs (pos 1))
copy_of form.IsNotZero rd rs = Some (instr.Reg Sltu rd 0 rs)
copy_of form.IsNegative rd rs = Some (instr.Reg Slt rd rs 0)
copy_of form.IsPositive rd rs = Some (instr.Reg Slt rd 0 rs)
copy_of _ rd rs = None

abbrev pub is_copy : Form → Bool
is_copy form.Move = true
is_copy form.Invert = true
is_copy form.Negate = true
is_copy form.IsZero = true
is_copy form.IsNotZero = true
is_copy form.IsNegative = true
is_copy form.IsPositive = true
is_copy _ = false

-- an operation on one register, into another
unfoldable pub copy_at : Form → List ℕ → Option Statement
copy_at form bytes = do
  o ← two_registers bytes
  i ← copy_of form o.0 o.1
  Some (Whole i)

unfoldable pub reg_at : RegOp → List ℕ → Option Statement
reg_at op bytes = do
  o ← three_registers bytes
  Some (Whole (instr.Reg op o.0 o.1 o.2))

unfoldable pub imm_at : ImmOp → List ℕ → Option Statement
imm_at op bytes = do
  o ← two_registers_and_value bytes
  Some (ask_for (for.Imm op o.0 o.1) o.2)

unfoldable pub load_at : LoadOp → List ℕ → Option Statement
load_at op bytes = do
  o ← memory_operands_at bytes
  Some (ask_for (for.Load op o.0 o.2) o.1)

unfoldable pub store_at : StoreOp → List ℕ → Option Statement
store_at op bytes = do
  o ← memory_operands_at bytes
  Some (ask_for (for.Store op o.2 o.0) o.1)

unfoldable pub branch_at : BranchOp → List ℕ → Option Statement
branch_at op bytes = do
  o ← two_registers_and_value bytes
  Some (ask_for (for.Branch op o.0 o.1) o.2)

unfoldable pub exchanged_branch_at : BranchOp → List ℕ → Option Statement
exchanged_branch_at op bytes = do
  o ← two_registers_and_value bytes
  Some (ask_for (for.Branch op o.1 o.0) o.2)

-- with x0 as the second register, and as the first
unfoldable pub branch_with_zero_second_at : BranchOp → List ℕ → Option Statement
branch_with_zero_second_at op bytes = do
  o ← register_and_value bytes
  Some (ask_for (for.Branch op o.0 0) o.1)

unfoldable pub branch_with_zero_first_at : BranchOp → List ℕ → Option Statement
branch_with_zero_first_at op bytes = do
  o ← register_and_value bytes
  Some (ask_for (for.Branch op 0 o.0) o.1)

-- what a form and the bytes of its operands say
abbrev pub statement_at : Form → List ℕ → Option Statement
statement_at (form.Reg op) bytes = reg_at op bytes
statement_at (form.Imm op) bytes = imm_at op bytes
statement_at (form.Load op) bytes = load_at op bytes
statement_at (form.Store op) bytes = store_at op bytes
statement_at (form.Branch op) bytes = branch_at op bytes
statement_at (form.Exchanged op) bytes = exchanged_branch_at op bytes
statement_at (form.Second op) bytes = branch_with_zero_second_at op bytes
statement_at (form.First op) bytes = branch_with_zero_first_at op bytes
statement_at f bytes = if is_copy f then copy_at f bytes else plain_statement_at f bytes
