-- What is wrong with a line, and what functions answer that find it.
use Rattle.std.specs.Prelude.{◌≡◌, ℕ, Result, Ok, Err}
use Rattle.rv_asm.specs.declared.layout.cause.Cause.{Cause}
use Rattle.rv_asm.specs.declared.layout.cause.Cause.TheVariants as cause
use Rattle.rv_asm.specs.declared.fault.AsmFault.{AsmFault}
use Rattle.rv_asm.specs.declared.fault.AsmFault.TheVariants as fault
use Rattle.rv_asm.specs.declared.line.reading.Unread.{Unread}
use Rattle.rv_asm.specs.declared.line.reading.Unread.TheVariants as unread

abbrev pub cause_of : Unread → Cause
cause_of unread.Memory = cause.Memory
cause_of unread.Other = cause.BadLine

-- the fault of the line of this number
abbrev pub fault_of : ℕ → Cause → AsmFault
fault_of line cause.BadLine = fault.BadLine line
fault_of line cause.UnknownName = fault.UnknownName line
fault_of line cause.Range = fault.Range line
fault_of line cause.Twice = fault.Twice line
fault_of line cause.Memory = fault.Memory

infixl 10 ◌>>=◌
abbrev pub ◌>>=◌ : {A B : Type 0} → Result A Cause → (A → Result B Cause) → Result B Cause
(Ok x) >>= f = f x
(Err e) >>= f = Err e

abbrev pub Fails : {Y : Type 0} → Cause → Result Y Cause → Type 0
Fails cause.Memory outcome = Unit {0}
Fails c outcome = outcome ≡ Err c

-- what a function returned, seen by view, is this outcome, unless memory ran out
abbrev pub Answers : {X Y : Type 0} → (X → Y) → Result X Cause → Result Y Cause → Type 0
Answers view (Ok x) outcome = outcome ≡ Ok (view x)
Answers view (Err e) outcome = Fails e outcome
