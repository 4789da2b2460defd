-- What functions answer that find a fault.
use Rattle.std.specs.Prelude.{◌≡◌, Result, Ok, Err}
use Rattle.bind_run.specs.declared.fault.BindFault.{BindFault}
use Rattle.bind_run.specs.declared.fault.BindFault.TheVariants as fault

abbrev pub Fails : {Y : Type 0} → BindFault → Result Y BindFault → Type 0
Fails fault.Memory outcome = Unit {0}
Fails f outcome = outcome ≡ Err f

-- what a function returned, seen by view, is this outcome, unless memory ran out
abbrev pub Answers : {X Y : Type 0} → (X → Y) → Result X BindFault → Result Y BindFault → Type 0
Answers view (Ok x) outcome = outcome ≡ Ok (view x)
Answers view (Err f) outcome = Fails f outcome
