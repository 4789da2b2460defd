-- The words that values and instructions stand for.
use Rattle.std.specs.Prelude.{ℕ, ◌-◌, ◌%◌, ◌^◌, ◌==◌, nat_lt, ℤ, pos, negsuc, neg_ℤ, ◌-ℤ◌, int_le, unsigned_abs, Bool, true, false, ◌&&◌, ◌||◌, if◌then◌else◌, List, [], ◌∷◌, ◌++◌, Option, Some, None, Result, Ok, Err}
use Rattle.std.specs.Int.{cast_signed, w32}
use Rattle.rv_isa.specs.Words.{shift_funct7, word_of}
use Rattle.rv_isa.specs.declared.instruction.Instr.{Instr}
use Rattle.rv_isa.specs.declared.instruction.Instr.TheVariants as instr
use Rattle.rv_isa.specs.declared.instruction.ImmOp.TheVariants.{Addi}
use Rattle.rv_asm.specs.declared.layout.cause.Cause.{Cause}
use Rattle.rv_asm.specs.declared.layout.cause.Cause.TheVariants.{Range}
use Rattle.rv_asm.specs.declared.line.expression.Expr.{Expr}
use Rattle.rv_asm.specs.declared.line.statement.Size.{Size}
use Rattle.rv_asm.specs.declared.line.statement.Size.TheVariants.{Byte, Half, Word}
use Rattle.rv_asm.specs.declared.line.statement.Demand.{Demand}
use Rattle.rv_asm.specs.declared.line.statement.Demand.TheVariants as for
use Rattle.rv_asm.specs.Causes.{◌>>=◌}
use Rattle.rv_asm.specs.Names.{Table}
use Rattle.rv_asm.specs.Values.{high_half, low_half, low_word, value_of}

-- ---- ranges

abbrev pub is_from : ℤ → ℤ → ℤ → Bool
is_from low high z = int_le low z && int_le z high

-- an immediate of 12 bits in two's complement
abbrev pub is_short : ℤ → Bool
is_short z = is_from (neg_ℤ (pos 2048)) (pos 2047) z

abbrev pub is_even : ℤ → Bool
is_even z = unsigned_abs z % 2 == 0

abbrev pub is_branch_offset : ℤ → Bool
is_branch_offset z = is_from (neg_ℤ (pos 4096)) (pos 4094) z && is_even z

abbrev pub is_jump_offset : ℤ → Bool
is_jump_offset z = is_from (neg_ℤ (pos 1048576)) (pos 1048574) z && is_even z

abbrev pub is_operand : Option ℕ → ℤ → Bool
is_operand (Some funct7) z = is_from (pos 0) (pos 31) z
is_operand None z = is_short z

-- whether an instruction fits its format
abbrev pub is_fit : Instr → Bool
is_fit (instr.Reg op rd rs1 rs2) = nat_lt rd 32 && nat_lt rs1 32 && nat_lt rs2 32
is_fit (instr.Imm op rd rs1 imm) = nat_lt rd 32 && nat_lt rs1 32 && is_operand (shift_funct7 op) imm
is_fit (instr.Load op rd rs1 imm) = nat_lt rd 32 && nat_lt rs1 32 && is_short imm
is_fit (instr.Store op rs1 rs2 imm) = nat_lt rs1 32 && nat_lt rs2 32 && is_short imm
is_fit (instr.Branch op rs1 rs2 offset) = nat_lt rs1 32 && nat_lt rs2 32 && is_branch_offset offset
is_fit (instr.Lui rd imm) = nat_lt rd 32 && nat_lt imm (2 ^ 20)
is_fit (instr.Auipc rd imm) = nat_lt rd 32 && nat_lt imm (2 ^ 20)
is_fit (instr.Jal rd offset) = nat_lt rd 32 && is_jump_offset offset
is_fit (instr.Jalr rd rs1 imm) = nat_lt rd 32 && nat_lt rs1 32 && is_short imm
is_fit instr.Fence = true
is_fit instr.Ecall = true
is_fit instr.Ebreak = true

-- a value of the type that immediates have
abbrev pub signed_word : ℤ → Result ℤ Cause
signed_word z = if is_from (neg_ℤ (pos (2 ^ 31))) (pos (2 ^ 31 - 1)) z then Ok z else Err Range

abbrev pub unsigned_word : ℤ → Result ℕ Cause
unsigned_word (pos n) = if nat_lt n (2 ^ 32) then Ok n else Err Range
unsigned_word (negsuc n) = Err Range

-- the values that a size takes, read as signed or as unsigned
abbrev pub is_stored : Size → ℤ → Bool
is_stored Byte z = is_from (neg_ℤ (pos 128)) (pos 255) z
is_stored Half z = is_from (neg_ℤ (pos 32768)) (pos 65535) z
is_stored Word z = is_from (neg_ℤ (pos (2 ^ 31))) (pos (2 ^ 32 - 1)) z

-- ---- words

-- the word of an instruction that fits
abbrev pub fit_word : Instr → Result ℕ Cause
fit_word i = if is_fit i then Ok (word_of i) else Err Range

-- `lui` and `addi`, which make the word
unfoldable pub address_words : ℕ → ℕ → Result (List ℕ) Cause
address_words rd word = do
  upper ← fit_word (instr.Lui rd (high_half word))
  lower ← fit_word (instr.Imm Addi rd rd (low_half word))
  Ok (upper ∷ lower ∷ [])

abbrev pub single : ℕ → Result (List ℕ) Cause
single word = Ok (word ∷ [])

-- `addi` alone for a short number, `lui` alone where the low half is 0, and else both
unfoldable pub number_words : ℕ → ℕ → Result (List ℕ) Cause
number_words rd word =
    if is_short (cast_signed w32 word) then fit_word (instr.Imm Addi rd 0 (cast_signed w32 word)) >>= single
    else if word % 2 ^ 12 == 0 then fit_word (instr.Lui rd (high_half word)) >>= single
    else address_words rd word

-- ---- what a value fills

-- the instruction that has a value in an offset or a field of 20 bits; a target is an address, and its offset is from
-- the instruction's own address
abbrev pub wide_field_of : Demand → ℤ → ℤ → Result Instr Cause
wide_field_of (for.Branch op rs1 rs2) here z = signed_word (z -ℤ here) >>= λ o. Ok (instr.Branch op rs1 rs2 o)
wide_field_of (for.Lui rd) here z = unsigned_word z >>= λ imm. Ok (instr.Lui rd imm)
wide_field_of (for.Auipc rd) here z = unsigned_word z >>= λ imm. Ok (instr.Auipc rd imm)
wide_field_of (for.Jal rd) here z = signed_word (z -ℤ here) >>= λ o. Ok (instr.Jal rd o)
wide_field_of demand here z = Err Range

-- the instruction whose field a value is
abbrev pub field_of : Demand → ℤ → ℤ → Result Instr Cause
field_of (for.Imm op rd rs1) here z = signed_word z >>= λ imm. Ok (instr.Imm op rd rs1 imm)
field_of (for.Load op rd rs1) here z = signed_word z >>= λ imm. Ok (instr.Load op rd rs1 imm)
field_of (for.Store op rs1 rs2) here z = signed_word z >>= λ imm. Ok (instr.Store op rs1 rs2 imm)
field_of (for.Jalr rd rs1) here z = signed_word z >>= λ imm. Ok (instr.Jalr rd rs1 imm)
field_of demand here z = wide_field_of demand here z

unfoldable pub field_words : Demand → ℤ → ℤ → Result (List ℕ) Cause
field_words demand here z = do
  i ← field_of demand here z
  word ← fit_word i
  single word

-- the words that a value stands for
abbrev pub words_of : Demand → ℤ → ℤ → Result (List ℕ) Cause
words_of (for.Value size) here z = if is_stored size z then Ok (low_word z ∷ []) else Err Range
words_of (for.Address rd) here z = address_words rd (low_word z)
words_of demand here z = field_words demand here z

-- how many words that are
abbrev pub word_count : Demand → ℕ
word_count (for.Address rd) = 2
word_count demand = 1

-- how many bytes of each word stand in the data
abbrev pub byte_count : Demand → ℕ
byte_count (for.Value Byte) = 1
byte_count (for.Value Half) = 2
byte_count demand = 4

-- the words that an expression stands for
unfoldable pub words_at : Table → ℤ → Demand → Expr → Result (List ℕ) Cause
words_at names here demand e = do
  z ← value_of names here e
  words_of demand here z

abbrev pub is_range : Result (List ℕ) Cause → Bool
is_range (Err Range) = true
is_range _ = false

-- whether a value is known and outside what is asked for
abbrev pub is_outside : Table → ℤ → Demand → Expr → Bool
is_outside names here demand e = is_range (words_at names here demand e)

abbrev pub any_outside : Table → ℤ → Demand → List Expr → Bool
any_outside names here demand [] = false
any_outside names here demand (e ∷ es) = is_outside names here demand e || any_outside names here demand es

-- the words of expressions, in order
abbrev pub all_words : Table → ℤ → Demand → List Expr → Result (List ℕ) Cause
all_words names here demand [] = Ok []
all_words names here demand (e ∷ es) = do
  first ← words_at names here demand e
  more ← all_words names here demand es
  Ok (first ++ more)
