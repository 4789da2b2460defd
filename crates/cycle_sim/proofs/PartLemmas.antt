-- What is known of wires, numbers and gates.
use Rattle.std.proofs.Common.{◌≡◌, ℕ, zero, suc, ◌+◌, ◌*◌, ◌^◌, ◌<◌, ◌≤◌, Bool, true, false, cond, List, [], ◌∷◌, map, length, get_or, take, refl, sym, ◌∙◌, ap, subst, arith}
use mir.Val.{bool_byte}
use Rattle.std.proofs.Math.Nat.{pow-suc}
use Rattle.std.proofs.lemmas.Nat.{pow_pos}
use Rattle.coco_base.specs.declared.cell.Kind.{Kind}
use Rattle.coco_base.specs.declared.cell.Kind.TheVariants.{Buf, Not, And, Nand, Or, Nor, Xor, Xnor, AndNot, OrNot, Mux, Nmux, Aoi3, Oai3, Aoi4, Oai4}
use Rattle.coco_base.specs.declared.cell.Part.{Part}
use Rattle.coco_base.specs.declared.cell.Part.TheVariants.{Zero, One, Vary}
use Rattle.coco_base.specs.declared.netlist.Wire.{Wire}
use Rattle.coco_base.specs.declared.netlist.Wire.TheVariants.{Const, Bit}
use Rattle.coco_model.specs.Cells.{IsForced, input_count, input_places}
use Rattle.coco_model.specs.Netlist.{Valuation, wire_value}
use Rattle.coco_model.specs.Carried.{number_on}
use Rattle.coco_model.specs.Known.{Row, is_one, ones, wire_part}

few_inputs : (kind : Kind) → input_count kind ≤ 4
few_inputs Buf = omega arith
few_inputs Not = omega arith
few_inputs And = omega arith
few_inputs Nand = omega arith
few_inputs Or = omega arith
few_inputs Nor = omega arith
few_inputs Xor = omega arith
few_inputs Xnor = omega arith
few_inputs AndNot = omega arith
few_inputs OrNot = omega arith
few_inputs Mux = omega arith
few_inputs Nmux = omega arith
few_inputs Aoi3 = omega arith
few_inputs Oai3 = omega arith
few_inputs Aoi4 = omega arith
few_inputs Oai4 = omega arith

-- the first four items of a list of at most four, padded
all_items : (ps : List Part) → length ps ≤ 4
    → take (length ps) (get_or ps 0 Zero ∷ get_or ps 1 Zero ∷ get_or ps 2 Zero ∷ get_or ps 3 Zero ∷ []) ≡ ps
all_items [] h = refl
all_items (a ∷ []) h = refl
all_items (a ∷ b ∷ []) h = refl
all_items (a ∷ b ∷ d ∷ []) h = refl
all_items (a ∷ b ∷ d ∷ e ∷ []) h = refl
all_items (a ∷ b ∷ d ∷ e ∷ f ∷ ps) h = absurd (omega arith)

-- what four places force of a gate with as many inputs as the list has items
pub forced_items : (kind : Kind) (ps : List Part) (q : Part) → length ps ≡ input_count kind
    → IsForced kind (input_places kind (get_or ps 0 Zero ∷ get_or ps 1 Zero ∷ get_or ps 2 Zero ∷ get_or ps 3 Zero ∷ [])) q → IsForced kind ps q
forced_items kind ps q as_long forced =
    subst (λ qs. IsForced kind qs q)
    (ap (λ n. take n (get_or ps 0 Zero ∷ get_or ps 1 Zero ∷ get_or ps 2 Zero ∷ get_or ps 3 Zero ∷ [])) (sym as_long)
    ∙ all_items ps (let f = few_inputs kind in omega arith)) forced

-- the number on few wires is small
pub number_small : (v : Valuation) (ws : List Wire) (n : ℕ) → length ws ≤ n → number_on v ws < 2 ^ n
number_small v [] n h = pow_pos n
number_small v (w ∷ ws) zero h = absurd (omega arith)
number_small v (w ∷ ws) (suc n) h = go (wire_value v w) (number_small v ws n (omega arith))
  where
    go : (b : Bool) → number_on v ws < 2 ^ n → cond b 1 0 + 2 * number_on v ws < 2 ^ suc n
    go true small = let e = pow-suc 2 n in omega arith
    go false small = let e = pow-suc 2 n in omega arith

-- a wire is known as 1 exactly where its value among the ones is true
pub one_true : (row : Row) (w : Wire) → wire_part row w ≡ One → wire_value (ones row) w ≡ true
one_true row (Const true) e = refl
one_true row (Const false) e = absurd cc
one_true row (Bit b) e = ap is_one e

pub true_one : (row : Row) (w : Wire) → wire_value (ones row) w ≡ true → wire_part row w ≡ One
true_one row (Const true) e = refl
true_one row (Const false) e = absurd cc
true_one row (Bit b) e = part (row b) e
  where
    part : (p : Part) → is_one p ≡ true → p ≡ One
    part One e = refl
    part Zero e = absurd cc
    part Vary e = absurd cc

pub length-parts : (row : Row) (ws : List Wire) → length (map (wire_part row) ws) ≡ length ws
length-parts row [] = refl
length-parts row (w ∷ ws) = ap (λ n. suc n) (length-parts row ws)

pub byte_small : (b : Bool) → bool_byte b ≤ 1
byte_small true = omega arith
byte_small false = omega arith
