-- Steps of a reader: the first fault is the fault of all.
use Rattle.std.proofs.Common.{◌≡◌, ◌∙◌, ℕ, List, [], ◌∷◌, ◌++◌, Result, Ok, Err, refl, ap, sym}
use Rattle.std.proofs.lemmas.List.{append_assoc}
use Rattle.serde_json.specs.Data.{Data, Members, member}
use Rattle.netlist_json.specs.Faults.{◌>>=◌, Fails}
use Rattle.netlist_json.specs.Shape.{each}
use Rattle.netlist_json.specs.declared.fault.NetFault.{NetFault}

-- what is read, behind what was read before
abbrev pub with_front : {X : Type 0} → List X → Result (List X) NetFault → Result (List X) NetFault
with_front front (Ok xs) = Ok (front ++ xs)
with_front front (Err fault) = Err fault

-- one more
pub with_front-cons : {X : Type 0} (front : List X) (x : X) (rest : Result (List X) NetFault) →
    with_front (front ++ x ∷ []) rest ≡ with_front front (rest >>= λ xs. Ok (x ∷ xs))
with_front-cons front x (Ok xs) = ap (λ l. Ok l) (append_assoc front (x ∷ []) xs)
with_front-cons front x (Err fault) = refl

pub each_more : {X : Type 0} (f : List ℕ → Data → Result X NetFault) (front : List X) (x : X) (name : List ℕ) (d : Data) (ms : Members) (all : Result (List X) NetFault) →
    with_front front (each f (member name d ms)) ≡ all → f name d ≡ Ok x → with_front (front ++ x ∷ []) (each f ms) ≡ all
each_more f front x name d ms all before read = with_front-cons front x (each f ms) ∙ (rw read at before)

-- a fault of one is that of all
pub each_fails : {X : Type 0} (f : List ℕ → Data → Result X NetFault) (front : List X) (name : List ℕ) (d : Data) (ms : Members) (all : Result (List X) NetFault) (fault : NetFault) →
    with_front front (each f (member name d ms)) ≡ all → Fails fault (f name d) → Fails fault all
each_fails f front name d ms all fault before fails memory = sym before ∙ (rw (fails memory) refl)
