-- Gates by the words that rows have for them, and the ports of cells.
use Rattle.std.specs.Prelude.{ℕ, List, [], ◌∷◌, ◌++◌, ◌==◌, Bool, false, Option, Some, None, option_map, map, codes, if◌then◌else◌}
use Rattle.std.specs.Borrow.{Bor}
use Rattle.std.specs.Option.{option_or}
use Rattle.std.specs.Str.{bytes_eq}
use Rattle.coco_base.specs.declared.cell.Kind.{Kind}
use Rattle.coco_base.specs.declared.cell.Kind.TheVariants.{Buf, Not, And, Nand, Or, Nor, Xor, Xnor, AndNot, OrNot, Mux, Nmux, Aoi3, Oai3, Aoi4, Oai4}
use Rattle.circuit_rows.specs.Words.{◌>>=◌}
use Rattle.circuit_rows.specs.declared.gates.Gate.{Gate}

-- pairs as the code has them
abbrev pub shown_pairs : List (Bor (List ℕ) × Bor (List ℕ)) → List (List ℕ × List ℕ)
shown_pairs pairs = map (λ (p : Bor (List ℕ) × Bor (List ℕ)). (p.0.now, p.1.now)) pairs

-- what stands beside a name in a table
abbrev pub named : {A : Type 0} → List (List ℕ × A) → List ℕ → Option A
named [] name = None
named (row ∷ rows) name = if bytes_eq row.0 name then Some row.1 else named rows name

-- a gate's kind and the letters of its inputs in order
abbrev pub Shape : Type 0
Shape = Kind × List ℕ

-- gates of one input, of two, and of more
abbrev pub small_gates : List (List ℕ × Shape)
small_gates = (codes "BUF", (Buf, codes "A")) ∷ (codes "NOT", (Not, codes "A")) ∷ []

abbrev pub monotone_gates : List (List ℕ × Shape)
monotone_gates = (codes "AND", (And, codes "AB"))
    ∷ (codes "NAND", (Nand, codes "AB"))
    ∷ (codes "OR", (Or, codes "AB"))
    ∷ (codes "NOR", (Nor, codes "AB")) ∷ []

abbrev pub mixed_gates : List (List ℕ × Shape)
mixed_gates = (codes "XOR", (Xor, codes "AB"))
    ∷ (codes "XNOR", (Xnor, codes "AB"))
    ∷ (codes "ANDNOT", (AndNot, codes "AB"))
    ∷ (codes "ORNOT", (OrNot, codes "AB")) ∷ []

abbrev pub large_gates : List (List ℕ × Shape)
large_gates = (codes "MUX", (Mux, codes "ABS"))
    ∷ (codes "NMUX", (Nmux, codes "ABS"))
    ∷ (codes "AOI3", (Aoi3, codes "ABC"))
    ∷ (codes "OAI3", (Oai3, codes "ABC"))
    ∷ (codes "AOI4", (Aoi4, codes "ABCD"))
    ∷ (codes "OAI4", (Oai4, codes "ABCD")) ∷ []

abbrev pub binary_gate : List ℕ → Option Shape
binary_gate word = option_or (named monotone_gates word) (named mixed_gates word)

-- the gate of a word
abbrev pub gate_of : List ℕ → Option Shape
gate_of word = option_or (named small_gates word) (option_or (binary_gate word) (named large_gates word))

abbrev pub shown_gate : Gate → Shape
shown_gate g = (g.kind, g.ports.now)

-- ---- the ports of a cell and the words of their wires

abbrev pub Pairs : Type 0
Pairs = List (List ℕ × List ℕ)

-- a wire for each letter
abbrev pub lettered : List ℕ → List (List ℕ) → Option Pairs
lettered [] [] = Some []
lettered [] (w ∷ ws) = None
lettered (p ∷ ps) [] = None
lettered (p ∷ ps) (w ∷ ws) = do
  pairs ← lettered ps ws
  Some ((p ∷ [], w) ∷ pairs)

-- a port and its wire in turn
abbrev pub in_turn : List (List ℕ) → Option Pairs
in_turn [] = Some []
in_turn (port ∷ []) = None
in_turn (port ∷ w ∷ ws) = do
  pairs ← in_turn ws
  Some ((port, w) ∷ pairs)

-- the word is the type of a cell
abbrev pub is_type : List ℕ → Bool
is_type [] = false
is_type (b ∷ bs) = b == 36

-- the letters of the inputs that a word has
abbrev pub letters_of : List ℕ → Option (List ℕ)
letters_of word = if bytes_eq word (codes "FLOP") then Some (codes "D") else option_map (λ g. g.1) (gate_of word)

-- all ports, in the order of the type: a flop has its clock, and its output is Q
abbrev pub with_others : List ℕ → List ℕ → Pairs → Pairs
with_others name word inputs =
    if bytes_eq word (codes "FLOP") then (codes "C", codes "clk") ∷ (inputs ++ (codes "Q", name) ∷ [])
    else inputs ++ (codes "Y", name) ∷ []

-- the ports of a cell with this output, where they are as its word wants them
abbrev pub pairs_of : List ℕ → List ℕ → List (List ℕ) → Option Pairs
pairs_of name word args = if is_type word then in_turn args else do
  letters ← letters_of word
  inputs ← lettered letters args
  Some (with_others name word inputs)

-- the type of a cell
abbrev pub type_of : List ℕ → List ℕ
type_of word =
    if is_type word then word
    else (if bytes_eq word (codes "FLOP") then codes "$_DFF_P_" else codes "$_" ++ word ++ codes "_")
