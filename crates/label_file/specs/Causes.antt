-- What is wrong with a line, and what functions answer that find it.
use Rattle.std.specs.Prelude.{◌≡◌, ℕ, Bool, if◌then◌else◌, Option, Some, None, Result, Ok, Err}
use Rattle.label_file.specs.declared.cause.Cause.{Cause}
use Rattle.label_file.specs.declared.cause.Cause.TheVariants as cause
use Rattle.label_file.specs.declared.fault.LabelFault.{LabelFault}
use Rattle.label_file.specs.declared.fault.LabelFault.TheVariants as fault

-- the fault of the line of this number
abbrev pub fault_at : ℕ → Cause → LabelFault
fault_at line cause.BadLine = fault.BadLine line
fault_at line cause.Twice = fault.Twice line
fault_at line cause.UnknownSecret = fault.UnknownSecret line
fault_at line cause.ShareRange = fault.ShareRange line
fault_at line (cause.TooMany count limit) = fault.TooMany count limit
fault_at line cause.Memory = fault.Memory

infixl 10 ◌>>=◌
abbrev pub ◌>>=◌ : {A B : Type 0} → Result A Cause → (A → Result B Cause) → Result B Cause
(Ok x) >>= f = f x
(Err e) >>= f = Err e

-- the value, or a cause where there is none
abbrev pub or_cause : {A : Type 0} → Cause → Option A → Result A Cause
or_cause c (Some x) = Ok x
or_cause c None = Err c

-- the test has to hold
abbrev pub holds_or : Cause → Bool → Result (Unit {0}) Cause
holds_or c test = if test then Ok tt else Err c

abbrev pub Fails : {Y : Type 0} → Cause → Result Y Cause → Type 0
Fails cause.Memory outcome = Unit {0}
Fails c outcome = outcome ≡ Err c

-- what a function returned, seen by view, is this outcome, unless memory ran out
abbrev pub Answers : {X Y : Type 0} → (X → Y) → Result X Cause → Result Y Cause → Type 0
Answers view (Ok x) outcome = outcome ≡ Ok (view x)
Answers view (Err e) outcome = Fails e outcome
