-- The names of registers.
-- RISC-V Unprivileged ISA, "RISC-V Assembly Programmer's Handbook": "Assembler mnemonics for RISC-V integer registers".
use Rattle.std.specs.Prelude.{ℕ, List, [], ◌∷◌, ◌++◌, Option, Some, codes}
use Rattle.rv_asm.specs.Tables.{look_up}
use Rattle.rv_asm.specs.Readings.{◌>>=◌}
use Rattle.rv_asm.specs.Tokens.{word_at}

-- the registers of one use
abbrev pub special_registers : List (List ℕ × ℕ)
special_registers = (codes "zero", 0)
    ∷ (codes "ra", 1)
    ∷ (codes "sp", 2)
    ∷ (codes "gp", 3)
    ∷ (codes "tp", 4)
    ∷ (codes "fp", 8) ∷ []

-- the registers that a call may change
abbrev pub temporary_registers : List (List ℕ × ℕ)
temporary_registers = (codes "t0", 5)
    ∷ (codes "t1", 6)
    ∷ (codes "t2", 7)
    ∷ (codes "t3", 28)
    ∷ (codes "t4", 29)
    ∷ (codes "t5", 30)
    ∷ (codes "t6", 31) ∷ []

-- the registers that a call keeps
abbrev pub saved_registers : List (List ℕ × ℕ)
saved_registers = (codes "s0", 8)
    ∷ (codes "s1", 9)
    ∷ (codes "s2", 18)
    ∷ (codes "s3", 19)
    ∷ (codes "s4", 20)
    ∷ (codes "s5", 21)
    ∷ (codes "s6", 22)
    ∷ (codes "s7", 23)
    ∷ (codes "s8", 24)
    ∷ (codes "s9", 25)
    ∷ (codes "s10", 26)
    ∷ (codes "s11", 27) ∷ []

-- the registers of arguments
abbrev pub argument_registers : List (List ℕ × ℕ)
argument_registers = (codes "a0", 10)
    ∷ (codes "a1", 11)
    ∷ (codes "a2", 12)
    ∷ (codes "a3", 13)
    ∷ (codes "a4", 14)
    ∷ (codes "a5", 15)
    ∷ (codes "a6", 16)
    ∷ (codes "a7", 17) ∷ []

-- the registers by number, x0 to x15
abbrev pub low_registers : List (List ℕ × ℕ)
low_registers = (codes "x0", 0)
    ∷ (codes "x1", 1)
    ∷ (codes "x2", 2)
    ∷ (codes "x3", 3)
    ∷ (codes "x4", 4)
    ∷ (codes "x5", 5)
    ∷ (codes "x6", 6)
    ∷ (codes "x7", 7)
    ∷ (codes "x8", 8)
    ∷ (codes "x9", 9)
    ∷ (codes "x10", 10)
    ∷ (codes "x11", 11)
    ∷ (codes "x12", 12)
    ∷ (codes "x13", 13)
    ∷ (codes "x14", 14)
    ∷ (codes "x15", 15) ∷ []

-- the registers by number, x16 to x31
abbrev pub high_registers : List (List ℕ × ℕ)
high_registers = (codes "x16", 16)
    ∷ (codes "x17", 17)
    ∷ (codes "x18", 18)
    ∷ (codes "x19", 19)
    ∷ (codes "x20", 20)
    ∷ (codes "x21", 21)
    ∷ (codes "x22", 22)
    ∷ (codes "x23", 23)
    ∷ (codes "x24", 24)
    ∷ (codes "x25", 25)
    ∷ (codes "x26", 26)
    ∷ (codes "x27", 27)
    ∷ (codes "x28", 28)
    ∷ (codes "x29", 29)
    ∷ (codes "x30", 30)
    ∷ (codes "x31", 31) ∷ []

-- all names of registers
abbrev pub registers : List (List ℕ × ℕ)
registers =
    special_registers ++ temporary_registers ++ saved_registers ++ argument_registers ++ low_registers ++ high_registers

-- the number of a register
unfoldable pub register_of : List ℕ → Option ℕ
register_of name = look_up registers name

-- a register, with blanks before it
unfoldable pub register_at : List ℕ → Option (ℕ × List ℕ)
register_at bytes = do
  word ← word_at bytes
  number ← register_of word.0
  Some (number, word.1)
