-- A law over the words that `li` and `la` stand for, in the words of what instructions do.
use Rattle.std.specs.Prelude.{◌≡◌, ℕ, ◌^◌, ◌<◌, List, [], ◌∷◌, length, map, IsOkAnd}
use Rattle.std.specs.List.{All}
use Rattle.rv_isa.specs.declared.execution.IsaState.{IsaState}
use Rattle.rv_isa.specs.declared.instruction.Instr.{Instr}
use Rattle.rv_isa.specs.Words.{Fits, word_of}
use Rattle.rv_isa.specs.Steps.{next_state, register}
use Rattle.rv_asm.specs.Demands.{address_words, number_words}

-- the state after instructions that load nothing, one after the other
abbrev pub state_after : List Instr → IsaState → IsaState
state_after [] state = state
state_after (i ∷ is) state = state_after is (next_state state i 0)

-- these are the words of instructions that put the number into the register, whatever the registers held
pub record PutsNumber (rd number : ℕ) (words : List ℕ) : Type 0 where
  pub instrs : List Instr
  pub fit : All Fits instrs
  pub words_are : words ≡ map word_of instrs
  pub puts : (state : IsaState) → length state.x ≡ 32 → register (state_after instrs state) rd ≡ number

-- the words of `li`, and those of `la`, put their number into each register but x0
abbrev pub NumbersArePut : Type 0
NumbersArePut =
    (rd number : ℕ) → 0 < rd → rd < 32 → number < 2 ^ 32 →
    IsOkAnd (number_words rd number) (PutsNumber rd number) × IsOkAnd (address_words rd number) (PutsNumber rd number)
