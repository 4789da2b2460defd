-- The gate of a cell, by its four places.
use Rattle.std.proofs.Common.{◌≡◌, ℕ, zero, suc, ◌≤◌, List, [], ◌∷◌, map, length, get_or, take, refl, sym, ◌∙◌, ap, arith}
use Rattle.std.proofs.Math.ListN.{get_or-eq_default}
use Rattle.coco_base.specs.declared.cell.Kind.{Kind}
use Rattle.coco_base.specs.declared.cell.Kind.TheVariants.{Buf, Not, And, Nand, Or, Nor, Xor, Xnor, AndNot, OrNot, Mux, Nmux, Aoi3, Oai3, Aoi4, Oai4}
use Rattle.coco_base.specs.declared.cell.Part.{Part}
use Rattle.coco_base.specs.declared.cell.Part.TheVariants.{Zero}
use Rattle.coco_base.specs.declared.netlist.FlatCell.{FlatCell}
use Rattle.coco_base.specs.declared.netlist.Wire.{Wire}
use Rattle.coco_model.specs.Cells.{input_count, input_places}
use Rattle.coco_model.specs.Known.{Row, wire_part}
use Rattle.coco_model.specs.Netlist.{wires_of}
use Rattle.coco_model.specs.Nodes.{wire_operand, IsGateOf}

few_inputs : (kind : Kind) → input_count kind ≤ 4
few_inputs Buf = omega arith
few_inputs Not = omega arith
few_inputs And = omega arith
few_inputs Nand = omega arith
few_inputs Or = omega arith
few_inputs Nor = omega arith
few_inputs Xor = omega arith
few_inputs Xnor = omega arith
few_inputs AndNot = omega arith
few_inputs OrNot = omega arith
few_inputs Mux = omega arith
few_inputs Nmux = omega arith
few_inputs Aoi3 = omega arith
few_inputs Oai3 = omega arith
few_inputs Aoi4 = omega arith
few_inputs Oai4 = omega arith

-- the first four items of a list, padded
abbrev pub four : {X : Type 0} → X → List X → List X
four d xs = get_or xs 0 d ∷ get_or xs 1 d ∷ get_or xs 2 d ∷ get_or xs 3 d ∷ []

all_items : {X : Type 0} (d : X) (xs : List X) → length xs ≤ 4 → take (length xs) (four d xs) ≡ xs
all_items d [] h = refl
all_items d (a ∷ []) h = refl
all_items d (a ∷ b ∷ []) h = refl
all_items d (a ∷ b ∷ e ∷ []) h = refl
all_items d (a ∷ b ∷ e ∷ f ∷ []) h = refl
all_items d (a ∷ b ∷ e ∷ f ∷ g ∷ xs) h = absurd (omega arith)

input_items : {X : Type 0} (d : X) (kind : Kind) (xs : List X) → length xs ≡ input_count kind → input_places kind (four d xs) ≡ xs
input_items d kind xs as_long =
    ap (λ n. take n (four d xs)) (sym as_long) ∙ all_items d xs (let f = few_inputs kind in omega arith)

other_items : {X : Type 0} (d : X) (kind : Kind) (xs : List X) → length xs ≡ input_count kind → (j : ℕ) → input_count kind ≤ j
    → get_or (four d xs) j d ≡ d
other_items d kind xs as_long zero h = get_or-eq_default xs d (omega arith)
other_items d kind xs as_long (suc zero) h = get_or-eq_default xs d (omega arith)
other_items d kind xs as_long (suc (suc zero)) h = get_or-eq_default xs d (omega arith)
other_items d kind xs as_long (suc (suc (suc zero))) h = get_or-eq_default xs d (omega arith)
other_items d kind xs as_long (suc (suc (suc (suc j)))) h = refl

length-mapped : {X Y : Type 0} (f : X → Y) (xs : List X) → length (map f xs) ≡ length xs
length-mapped f [] = refl
length-mapped f (x ∷ xs) = ap (λ n. suc n) (length-mapped f xs)

-- what the four places of a cell's wires have makes its gate
pub gate_is : (index : ℕ → ℕ) (row : Row) (c : FlatCell) (wires : List Wire) → wires ≡ wires_of c → length wires ≡ input_count c.kind
    → IsGateOf index row c c.kind (four Zero (map (wire_part row) wires)) (four 0 (map (wire_operand row index) wires))
gate_is index row c wires is as_long = record {
  kinds = refl;
  parts = input_items Zero c.kind ps parts_long ∙ ap (map (wire_part row)) is;
  operands = input_items 0 c.kind os operands_long ∙ ap (map (wire_operand row index)) is;
  others = other_items Zero c.kind ps parts_long;
  no_operands = other_items 0 c.kind os operands_long;
}
  where
    ps : List Part
    ps = map (wire_part row) wires

    os : List ℕ
    os = map (wire_operand row index) wires

    parts_long : length ps ≡ input_count c.kind
    parts_long = length-mapped (wire_part row) wires ∙ as_long

    operands_long : length os ≡ input_count c.kind
    operands_long = length-mapped (wire_operand row index) wires ∙ as_long
