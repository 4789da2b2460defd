-- Fields of bits, and the words of the six formats as sums of their fields.
-- RISC-V Unprivileged ISA, "RV32I Base Integer Instruction Set": "Base Instruction Formats" and "Immediate Encoding
-- Variants".
use Rattle.std.specs.Prelude.{ℕ, ◌+◌, ◌-◌, ◌*◌, ◌/◌, ◌%◌, ◌^◌, ℤ, pos, ◌-ℤ◌, nat_lt, if◌then◌else◌}
use Rattle.std.specs.Int.{w32, cast_unsigned}

-- bits high to low of a number, as a number
abbrev pub bits : ℕ → ℕ → ℕ → ℕ
bits n high low = n / 2 ^ low % 2 ^ (high + 1 - low)

-- the same bits of an immediate, in two's complement of 32 bits
abbrev pub imm_bits : ℤ → ℕ → ℕ → ℕ
imm_bits imm high low = bits (cast_unsigned w32 imm) high low

-- the number that a field holds in two's complement, where sign is the worth of its highest bit
abbrev pub sign_extension : ℕ → ℕ → ℤ
sign_extension field sign = if nat_lt field sign then pos field else pos field -ℤ pos (2 * sign)

-- ---- words

-- funct7 from bit 25, rs2 from 20, rs1 from 15, funct3 from 12, rd from 7, and the opcode
abbrev pub r_word : ℕ → ℕ → ℕ → ℕ → ℕ → ℕ → ℕ
r_word opcode rd funct3 rs1 rs2 funct7 =
    funct7 * 2 ^ 25 + rs2 * 2 ^ 20 + rs1 * 2 ^ 15 + funct3 * 2 ^ 12 + rd * 2 ^ 7 + opcode

-- the field of bits 31 to 20, then rs1, funct3, rd and the opcode
abbrev pub i_word : ℕ → ℕ → ℕ → ℕ → ℕ → ℕ
i_word opcode rd funct3 rs1 upper =
    upper * 2 ^ 20 + rs1 * 2 ^ 15 + funct3 * 2 ^ 12 + rd * 2 ^ 7 + opcode

-- imm[11:5], rs2, rs1, funct3, imm[4:0], opcode
abbrev pub s_word : ℕ → ℕ → ℕ → ℕ → ℤ → ℕ
s_word opcode funct3 rs1 rs2 imm =
    imm_bits imm 11 5 * 2 ^ 25 + rs2 * 2 ^ 20 + rs1 * 2 ^ 15 + funct3 * 2 ^ 12 + imm_bits imm 4 0 * 2 ^ 7 + opcode

-- imm[12], imm[10:5], rs2, rs1, funct3, imm[4:1], imm[11], opcode
abbrev pub b_word : ℕ → ℕ → ℕ → ℕ → ℤ → ℕ
b_word opcode funct3 rs1 rs2 imm =
    imm_bits imm 12 12 * 2 ^ 31 + imm_bits imm 10 5 * 2 ^ 25 + rs2 * 2 ^ 20 + rs1 * 2 ^ 15 + funct3 * 2 ^ 12
    + imm_bits imm 4 1 * 2 ^ 8 + imm_bits imm 11 11 * 2 ^ 7 + opcode

-- imm[31:12], given as the field of 20 bits, rd, opcode
abbrev pub u_word : ℕ → ℕ → ℕ → ℕ
u_word opcode rd field = field * 2 ^ 12 + rd * 2 ^ 7 + opcode

-- imm[20], imm[10:1], imm[11], imm[19:12], rd, opcode
abbrev pub j_word : ℕ → ℕ → ℤ → ℕ
j_word opcode rd imm =
    imm_bits imm 20 20 * 2 ^ 31 + imm_bits imm 10 1 * 2 ^ 21 + imm_bits imm 11 11 * 2 ^ 20 + imm_bits imm 19 12 * 2 ^ 12
    + rd * 2 ^ 7 + opcode

-- ---- the immediates that a word of a format holds

-- imm[11:0] in bits 31 to 20
abbrev pub i_imm : ℕ → ℤ
i_imm word = sign_extension (bits word 31 20) (2 ^ 11)

-- imm[11:5] in bits 31 to 25, imm[4:0] in bits 11 to 7
abbrev pub s_imm : ℕ → ℤ
s_imm word = sign_extension (bits word 31 25 * 2 ^ 5 + bits word 11 7) (2 ^ 11)

-- imm[12] in bit 31, imm[11] in bit 7, imm[10:5] in bits 30 to 25, imm[4:1] in bits 11 to 8
abbrev pub b_imm : ℕ → ℤ
b_imm word =
    sign_extension (bits word 31 31 * 2 ^ 12 + bits word 7 7 * 2 ^ 11 + bits word 30 25 * 2 ^ 5 + bits word 11 8 * 2)
    (2 ^ 12)

-- imm[20] in bit 31, imm[19:12] in bits 19 to 12, imm[11] in bit 20, imm[10:1] in bits 30 to 21
abbrev pub j_imm : ℕ → ℤ
j_imm word =
    sign_extension
    (bits word 31 31 * 2 ^ 20 + bits word 19 12 * 2 ^ 12 + bits word 20 20 * 2 ^ 11 + bits word 30 21 * 2)
    (2 ^ 20)
