-- What a reader gives: a value, or the first fault; and want of memory, which says nothing of the file.
use Rattle.std.specs.Prelude.{◌≡◌, ◌≢◌, List, ℕ, Option, Some, None, Result, Ok, Err}
use Rattle.netlist_json.specs.declared.fault.NetFault.{NetFault}
use Rattle.netlist_json.specs.declared.fault.NetFault.TheVariants.{Shape, Memory}

infixl 10 ◌>>=◌
abbrev pub ◌>>=◌ : {A B : Type 0} → Result A NetFault → (A → Result B NetFault) → Result B NetFault
(Ok x) >>= f = f x
(Err fault) >>= f = Err fault

-- a fault that was answered is the one that is read, unless memory was refused
abbrev pub Fails : {Y : Type 0} → NetFault → Result Y NetFault → Type 0
Fails fault read = fault ≢ Memory → read ≡ Err fault

-- what was answered is what is read, unless memory was refused
abbrev pub Gives : {Y : Type 0} → Result Y NetFault → Result Y NetFault → Type 0
Gives (Ok y) read = read ≡ Ok y
Gives (Err fault) read = Fails fault read

-- a part of the file that has its form, and else the fault at its path
abbrev pub or_shape : {X : Type 0} → List ℕ → Option X → Result X NetFault
or_shape path None = Err (Shape path)
or_shape path (Some x) = Ok x
