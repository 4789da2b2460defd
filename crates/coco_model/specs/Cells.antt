-- Gates: their functions, what is forced where some inputs are known, and their signed sums.
use Rattle.std.specs.Prelude.{◌≡◌, ◌≢◌, ℕ, zero, suc, ◌%◌, ◌/◌, Bool, true, false, cond, not, ◌&&◌, ◌||◌, nat_eq, List, [], ◌∷◌, ◌++◌, map, length, take, get_or, set, ℤ, pos, neg_ℤ, ◌+ℤ◌}
use Rattle.coco_base.specs.declared.cell.Kind.{Kind}
use Rattle.coco_base.specs.declared.cell.Kind.TheVariants.{Buf, Not, And, Nand, Or, Nor, Xor, Xnor, AndNot, OrNot, Mux, Nmux, Aoi3, Oai3, Aoi4, Oai4}
use Rattle.coco_base.specs.declared.cell.Part.{Part}
use Rattle.coco_base.specs.declared.cell.Part.TheVariants.{Zero, One, Vary}

-- exclusive or
abbrev pub xor : Bool → Bool → Bool
xor true b = not b
xor false b = b

-- the output of a gate for its inputs A, B, C, D, of a multiplexer A, B, S: the single-bit gate cells of the Yosys
-- manual
abbrev pub gate_function : Kind → Bool → Bool → Bool → Bool → Bool
gate_function Buf a b c d = a
gate_function Not a b c d = not a
gate_function And a b c d = a && b
gate_function Nand a b c d = not (a && b)
gate_function Or a b c d = a || b
gate_function Nor a b c d = not (a || b)
gate_function Xor a b c d = xor a b
gate_function Xnor a b c d = not (xor a b)
gate_function AndNot a b c d = a && not b
gate_function OrNot a b c d = a || not b
gate_function Mux a b s d = cond s b a
gate_function Nmux a b s d = not (cond s b a)
gate_function Aoi3 a b c d = not ((a && b) || c)
gate_function Oai3 a b c d = not ((a || b) && c)
gate_function Aoi4 a b c d = not ((a && b) || (c && d))
gate_function Oai4 a b c d = not ((a || b) && (c || d))

-- the output for a list of input values; a place beyond the list is 0
abbrev pub output_of : Kind → List Bool → Bool
output_of kind inputs =
    gate_function kind (get_or inputs 0 false) (get_or inputs 1 false) (get_or inputs 2 false) (get_or inputs 3 false)

-- how many inputs a kind has
abbrev pub input_count : Kind → ℕ
input_count Buf = 1
input_count Not = 1
input_count And = 2
input_count Nand = 2
input_count Or = 2
input_count Nor = 2
input_count Xor = 2
input_count Xnor = 2
input_count AndNot = 2
input_count OrNot = 2
input_count Mux = 3
input_count Nmux = 3
input_count Aoi3 = 3
input_count Oai3 = 3
input_count Aoi4 = 4
input_count Oai4 = 4

-- of a list by places, those that are inputs of the kind
abbrev pub input_places : {X : Type 0} → Kind → List X → List X
input_places kind xs = take (input_count kind) xs

-- a value that a part allows
abbrev pub Allows : Part → Bool → Type 0
Allows Zero b = b ≡ false
Allows One b = b ≡ true
Allows Vary b = Unit {0}

-- input values that the parts allow, place by place
abbrev pub AllowsAll : List Part → List Bool → Type 0
AllowsAll [] [] = Unit {0}
AllowsAll (p ∷ ps) (b ∷ bs) = Allows p b × AllowsAll ps bs
AllowsAll [] (b ∷ bs) = ⊥
AllowsAll (p ∷ ps) [] = ⊥

-- the output is c for every value of the inputs that vary
abbrev pub Forces : Kind → List Part → Bool → Type 0
Forces kind parts c = (inputs : List Bool) → AllowsAll parts inputs → output_of kind inputs ≡ c

-- what is known of the output: c where the parts force c, and else nothing
abbrev pub IsForced : Kind → List Part → Part → Type 0
IsForced kind parts Zero = Forces kind parts false
IsForced kind parts One = Forces kind parts true
IsForced kind parts Vary = (Forces kind parts false → ⊥) × (Forces kind parts true → ⊥)

-- the input at a place varies, and the output changes with it for some value of the others that vary.
-- No place beyond the kind's inputs changes the output, so such a place is an input
pub record IsLiveInput (kind : Kind) (parts : List Part) (place : ℕ) : Type 0 where
  pub varies : get_or parts place Zero ≡ Vary
  pub inputs : List Bool
  pub allowed : AllowsAll parts inputs
  pub changes : output_of kind (set inputs place false) ≢ output_of kind (set inputs place true)

-- a set of the places of a gate: for each place, whether it has it
abbrev pub Subset : Type 0
Subset = List Bool

-- the set of the first places whose bits in a number are 1, bit j for place j
abbrev pub subset_of_number : ℕ → ℕ → Subset
subset_of_number zero number = []
subset_of_number (suc places) number = nat_eq (number % 2) 1 ∷ subset_of_number places (number / 2)

-- a set of places that all vary
pub record IsSubsetOf (subset : Subset) (parts : List Part) : Type 0 where
  pub as_long : length subset ≡ length parts
  pub varies : (place : ℕ) → get_or subset place false ≡ true → get_or parts place Zero ≡ Vary

-- every list of input values that the parts allow
abbrev pub allowed_inputs : List Part → List (List Bool)
allowed_inputs [] = [] ∷ []
allowed_inputs (Zero ∷ ps) = map (λ (xs : List Bool). false ∷ xs) (allowed_inputs ps)
allowed_inputs (One ∷ ps) = map (λ (xs : List Bool). true ∷ xs) (allowed_inputs ps)
allowed_inputs (Vary ∷ ps) =
    map (λ (xs : List Bool). false ∷ xs) (allowed_inputs ps) ++ map (λ (xs : List Bool). true ∷ xs) (allowed_inputs ps)

-- a number times -1 to the power of a bit
abbrev pub signed : Bool → ℤ → ℤ
signed false x = x
signed true x = neg_ℤ x

-- the sum, over lists of input values, of -1 to the power of a test
abbrev pub sign_total : (List Bool → Bool) → List (List Bool) → ℤ
sign_total f [] = pos 0
sign_total f (xs ∷ rest) = signed (f xs) (pos 1) +ℤ sign_total f rest

-- the exclusive or of the input values in a subset
abbrev pub chosen_parity : Subset → List Bool → Bool
chosen_parity [] xs = false
chosen_parity (s ∷ ss) [] = false
chosen_parity (s ∷ ss) (x ∷ xs) = xor (s && x) (chosen_parity ss xs)

-- the signed sum (Walsh coefficient) of a gate at a subset of its inputs, where parts are those of its inputs alone:
-- the sum, over all values of the inputs that vary, of -1 to the power of the output plus the inputs in the subset
abbrev pub signed_sum : Kind → List Part → Subset → ℤ
signed_sum kind parts subset =
    sign_total (λ inputs. xor (output_of kind inputs) (chosen_parity subset inputs)) (allowed_inputs parts)
