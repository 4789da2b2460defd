-- Two cycles of a masked share that is stored in a register.
use Rattle.std.proofs.Common.{◌≡◌, ℕ, zero, suc, ◌<◌, ◌≤◌, ◌⊎◌, inl, inr, true, false, List, [], ◌∷◌, get_or, Some, refl, subst, arith}
use Rattle.std.specs.Prelude.{Contains}
use Rattle.coco_base.specs.declared.text.Text.{Text}
use Rattle.coco_base.specs.declared.cell.Kind.TheVariants.{Xor}
use Rattle.coco_base.specs.declared.cell.Part.{Part}
use Rattle.coco_base.specs.declared.cell.Part.TheVariants.{Zero, Vary}
use Rattle.coco_base.specs.declared.netlist.FlatCell.{FlatCell}
use Rattle.coco_base.specs.declared.netlist.FlatFlop.{FlatFlop}
use Rattle.coco_base.specs.declared.netlist.Wire.TheVariants.{Const, Bit}
use Rattle.coco_base.specs.declared.setup.Start.TheVariants.{Public}
use Rattle.coco_base.specs.declared.unrolled.Node.TheVariants.{Nothing}
use Rattle.coco_model.specs.Netlist.{Valuation, IsUndriven, on_wire}
use Rattle.coco_model.specs.Carried.{States, start_state, IsGiven, IsFirst, IsNext}
use Rattle.coco_model.specs.Cells.{IsForced}
use Rattle.coco_model.specs.Known.{cell_parts, parts, ones, IsKnown}
use Rattle.coco_model.specs.Roots.{roots, IsKept, HasCellRoot, IsRooted}
use Rattle.coco_model.specs.Nodes.{node_number, starting_nodes, copy_of, HasCellNode, IsUnrolled}
use Rattle.coco_model.specs.Roots.Root.{nothing}
use Rattle.coco_model.specs.Examples.{gate, keeper, masked_register, masked_setup, masked_row, masked_root, masked_node, masked_nodes}
use Rattle.coco_model.proofs.Basics.{Contains-cases, Contains-none, any_from_member}

-- P holds of each member of a list
abbrev AllOf : {X : Type 0} → (X → Type 0) → List X → Type 0
AllOf P [] = Unit {0}
AllOf P (x ∷ xs) = P x × AllOf P xs

each_of : {X : Type 0} (P : X → Type 0) (xs : List X) → AllOf P xs → (x : X) → Contains xs x → P x
each_of P [] all x h = absurd (Contains-none x h)
each_of P (y ∷ xs) all x h = go (Contains-cases y x xs h) (each_of P xs all.1 x)
  where
    go : (y ≡ x) ⊎ Contains xs x → (Contains xs x → P x) → P x
    go (inl e) rest = subst P e all.0
    go (inr i) rest = rest i

each_cycle : (P : ℕ → Type 0) → P 0 → P 1 → (t : ℕ) → t < 2 → P t
each_cycle P first second zero below = first
each_cycle P first second (suc zero) below = second
each_cycle P first second (suc (suc t)) below = absurd (omega arith)

only_first : (P : ℕ → Type 0) → P 0 → (t : ℕ) → suc t < 2 → P t
only_first P first zero below = first
only_first P first (suc t) below = absurd (omega arith)

-- ---- the leaves

flop_driven : (name : Text) (f : FlatFlop) → Contains (masked_register name).flops f → (b : ℕ) → f.output ≡ b
    → IsUndriven (masked_register name) b → ⊥
flop_driven name f h b e u = u.no_flop (any_from_member (λ (g : FlatFlop). g.output ≡ b) (masked_register name).flops f h e)

cell_driven : (name : Text) (c : FlatCell) → Contains (masked_register name).cells c → (b : ℕ) → c.output ≡ b
    → IsUndriven (masked_register name) b → ⊥
cell_driven name c h b e u = u.no_cell (any_from_member (λ (d : FlatCell). d.output ≡ b) (masked_register name).cells c h e)

-- states in a cycle where the clock and all bits behind the last have what a constant 0 has
is_given : {X : Type 0} (states : States X) (name : Text) (t : ℕ) (state : ℕ → X) → state 0 ≡ states.constant false
    → ((b : ℕ) → state (suc (suc (suc (suc (suc (suc (suc b))))))) ≡ states.constant false)
    → IsGiven states (masked_register name) (masked_setup name) t state
is_given states name t state first past = record {
  undriven = undriven;
  clock = clock;
  inputs = λ p h. absurd (Contains-none p h);
}
  where
    clock : (b : ℕ) → Some 0 ≡ Some b → state b ≡ states.constant false
    clock zero e = first
    clock (suc b) e = absurd cc

    undriven : (b : ℕ) → IsUndriven (masked_register name) b → state b ≡ states.constant false
    undriven zero u = first
    undriven (suc zero) u = absurd (flop_driven name (keeper name 1) (0, omega arith, refl) 1 refl u)
    undriven (suc (suc zero)) u = absurd (flop_driven name (keeper name 2) (1, omega arith, refl) 2 refl u)
    undriven (suc (suc (suc zero))) u = absurd (flop_driven name (keeper name 3) (2, omega arith, refl) 3 refl u)
    undriven (suc (suc (suc (suc zero)))) u =
        absurd (cell_driven name (gate name Xor (Bit 1 ∷ Bit 3 ∷ Const false ∷ Const false ∷ []) 4) (0, omega arith, refl) 4 refl u)
    undriven (suc (suc (suc (suc (suc zero))))) u =
        absurd (flop_driven name (record (keeper name 5) { next = Bit 4 }) (3, omega arith, refl) 5 refl u)
    undriven (suc (suc (suc (suc (suc (suc zero)))))) u =
        absurd (cell_driven name (gate name Xor (Bit 5 ∷ Bit 2 ∷ Const false ∷ Const false ∷ []) 6) (1, omega arith, refl) 6 refl u)
    undriven (suc (suc (suc (suc (suc (suc (suc b))))))) u = past b

-- the flops have their starts
abbrev HasStart : {X : Type 0} → States X → Text → (ℕ → X) → FlatFlop → Type 0
HasStart states name state f =
    state f.output ≡ start_state states (masked_setup name).table 0 (get_or (masked_setup name).starts f.output (Public false))

is_first : {X : Type 0} (states : States X) (name : Text) (state : ℕ → X) → AllOf (HasStart states name state) (masked_register name).flops
    → IsFirst states (masked_register name) (masked_setup name) state (λ address k. states.constant false)
is_first states name state starts = record {
  flops = each_of (HasStart states name state) (masked_register name).flops starts;
  echoes = λ e h. absurd (Contains-none e h);
  answers = λ mem h. absurd (Contains-none mem h);
  leaves = λ leaf h. absurd (Contains-none leaf h);
  words = λ address k. refl;
}

-- the flops have what their next wires had
abbrev HasNext : {X : Type 0} → States X → (ℕ → X) → (ℕ → X) → FlatFlop → Type 0
HasNext states old new f = new f.output ≡ on_wire states.constant old f.next

is_next : {X : Type 0} (states : States X) (name : Text) (v : Valuation) (old new : ℕ → X)
    → AllOf (HasNext states old new) (masked_register name).flops
    → IsNext states (masked_register name) (masked_setup name) v old (λ address k. states.constant false) new (λ address k. states.constant false)
is_next states name v old new nexts = record {
  flops = each_of (HasNext states old new) (masked_register name).flops nexts;
  echoes = λ e h. absurd (Contains-none e h);
  answers = λ mem h. absurd (Contains-none mem h);
  leaves = λ leaf h. absurd (Contains-none leaf h);
  words = λ address k. refl;
}

-- ---- what is known

xor_varies : IsForced Xor (Vary ∷ Vary ∷ []) Vary
xor_varies = (
  (λ f. let e = f (true ∷ false ∷ []) (tt, (tt, tt)) in cc),
  (λ f. let e = f (false ∷ false ∷ []) (tt, (tt, tt)) in cc),
)

second_varies : IsForced Xor (Zero ∷ Vary ∷ []) Vary
second_varies = (
  (λ f. let e = f (false ∷ true ∷ []) (refl, (tt, tt)) in cc),
  (λ f. let e = f (false ∷ false ∷ []) (refl, (tt, tt)) in cc),
)

abbrev IsForcedAt : ℕ → FlatCell → Type 0
IsForcedAt t c = IsForced c.kind (cell_parts (masked_row t) c) (masked_row t c.output)

pub is_known : (name : Text) → IsKnown (masked_register name) (masked_setup name) 2 masked_row (λ t address k. Zero)
is_known name = record {
  forced = each_cycle (λ t. _)
      (record { cells = each_of (IsForcedAt 0) (masked_register name).cells (xor_varies, (second_varies, tt)) })
      (record { cells = each_of (IsForcedAt 1) (masked_register name).cells (xor_varies, (xor_varies, tt)) });
  carried = record {
    given = each_cycle (λ t. IsGiven parts (masked_register name) (masked_setup name) t (masked_row t))
        (is_given parts name 0 (masked_row 0) refl (λ b. refl))
        (is_given parts name 1 (masked_row 1) refl (λ b. refl));
    first = is_first parts name (masked_row 0) (refl, (refl, (refl, (refl, tt))));
    next = only_first
        (λ t. IsNext parts (masked_register name) (masked_setup name) (ones (masked_row t)) (masked_row t) (λ address k. Zero) (masked_row (suc t)) (λ address k. Zero))
        (is_next parts name (ones (masked_row 0)) (masked_row 0) (masked_row 1) (refl, (refl, (refl, (refl, tt)))));
  };
}

-- ---- roots

-- the first gate keeps its root, and the second has a new one
first_kept : (name : Text) → IsKept masked_row masked_root 1 (gate name Xor (Bit 1 ∷ Bit 3 ∷ Const false ∷ Const false ∷ []) 4)
first_kept name = each_of (λ w. _) (Bit 1 ∷ Bit 3 ∷ []) (record { part = refl; root = refl }, (record { part = refl; root = refl }, tt))

second_new : (name : Text) → IsKept masked_row masked_root 1 (gate name Xor (Bit 5 ∷ Bit 2 ∷ Const false ∷ Const false ∷ []) 6) → ⊥
second_new name kept = let e = (kept (Bit 5) (0, omega arith, refl)).part in cc

pub is_rooted : (name : Text) → IsRooted (masked_register name) (masked_setup name) 2 masked_row masked_root (λ t address k. nothing)
is_rooted name = record {
  cells = each_cycle (λ t. (c : FlatCell) → Contains (masked_register name).cells c → HasCellRoot masked_row masked_root t c)
      (each_of (HasCellRoot masked_row masked_root 0) (masked_register name).cells (
        record { known = λ n. absurd (n refl); kept = λ v k. absurd k; own = λ v n. refl },
        (record { known = λ n. absurd (n refl); kept = λ v k. absurd k; own = λ v n. refl }, tt),
      ))
      (each_of (HasCellRoot masked_row masked_root 1) (masked_register name).cells (
        record { known = λ n. absurd (n refl); kept = λ v k. refl; own = λ v n. absurd (n (first_kept name)) },
        (record { known = λ n. absurd (n refl); kept = λ v k. absurd (second_new name k); own = λ v n. refl }, tt),
      ));
  carried = record {
    given = each_cycle (λ t. IsGiven roots (masked_register name) (masked_setup name) t (masked_root t))
        (is_given roots name 0 (masked_root 0) refl (λ b. refl))
        (is_given roots name 1 (masked_root 1) refl (λ b. refl));
    first = is_first roots name (masked_root 0) (refl, (refl, (refl, (refl, tt))));
    next = only_first
        (λ t. IsNext roots (masked_register name) (masked_setup name) (ones (masked_row t)) (masked_root t) (λ address k. nothing) (masked_root (suc t)) (λ address k. nothing))
        (is_next roots name (ones (masked_row 0)) (masked_root 0) (masked_root 1) (refl, (refl, (refl, (refl, tt)))));
  };
}

-- ---- nodes

abbrev index : ℕ → ℕ → ℕ
index = node_number 7 (λ b. b)

-- behind the inputs of a gate all places are known, and have no operand
others : (p q : Part) (j : ℕ) → 2 ≤ j → get_or (p ∷ q ∷ Zero ∷ Zero ∷ []) j Zero ≡ Zero
others p q zero past = absurd (omega arith)
others p q (suc zero) past = absurd (omega arith)
others p q (suc (suc zero)) past = refl
others p q (suc (suc (suc zero))) past = refl
others p q (suc (suc (suc (suc j)))) past = refl

no_operands : (a b j : ℕ) → 2 ≤ j → get_or (a ∷ b ∷ 0 ∷ 0 ∷ []) j 0 ≡ 0
no_operands a b zero past = absurd (omega arith)
no_operands a b (suc zero) past = absurd (omega arith)
no_operands a b (suc (suc zero)) past = refl
no_operands a b (suc (suc (suc zero))) past = refl
no_operands a b (suc (suc (suc (suc j)))) past = refl

pub is_unrolled : (name : Text)
    → IsUnrolled (masked_register name) (masked_setup name) 2 index masked_row masked_root masked_node (λ t address k. Nothing)
is_unrolled name = record {
  cells = each_cycle (λ t. (c : FlatCell) → Contains (masked_register name).cells c → HasCellNode index masked_row masked_root t c (masked_node t c.output))
      (each_of (λ (c : FlatCell). HasCellNode index masked_row masked_root 0 c (masked_node 0 c.output)) (masked_register name).cells (
        record { known = λ n. absurd (n refl); kept = λ v k. absurd k; own = λ v n. record { kinds = refl; parts = refl; operands = refl; others = others Vary Vary; no_operands = no_operands 1 3 } },
        (record { known = λ n. absurd (n refl); kept = λ v k. absurd k; own = λ v n. record { kinds = refl; parts = refl; operands = refl; others = others Zero Vary; no_operands = no_operands 0 2 } }, tt),
      ))
      (each_of (λ (c : FlatCell). HasCellNode index masked_row masked_root 1 c (masked_node 1 c.output)) (masked_register name).cells (
        record { known = λ n. absurd (n refl); kept = λ v k. refl; own = λ v n. absurd (n (first_kept name)) },
        (record { known = λ n. absurd (n refl); kept = λ v k. absurd (second_new name k); own = λ v n. record { kinds = refl; parts = refl; operands = refl; others = others Vary Vary; no_operands = no_operands 12 9 } }, tt),
      ));
  given = each_cycle (λ t. IsGiven starting_nodes (masked_register name) (masked_setup name) t (masked_node t))
      (is_given starting_nodes name 0 (masked_node 0) refl (λ b. refl))
      (is_given starting_nodes name 1 (masked_node 1) refl (λ b. refl));
  first = is_first starting_nodes name (masked_node 0) (refl, (refl, (refl, (refl, tt))));
  next = only_first (λ t. _)
      (is_next starting_nodes name (ones (masked_row 0)) (λ b. copy_of (masked_row 0 b) (index 0 b)) (masked_node 1) (refl, (refl, (refl, (refl, tt)))));
}

-- numbers below 7
each_bit : (P : ℕ → Type 0) → P 0 → P 1 → P 2 → P 3 → P 4 → P 5 → P 6 → (b : ℕ) → b < 7 → P b
each_bit P p q r s t u v zero below = p
each_bit P p q r s t u v (suc zero) below = q
each_bit P p q r s t u v (suc (suc zero)) below = r
each_bit P p q r s t u v (suc (suc (suc zero))) below = s
each_bit P p q r s t u v (suc (suc (suc (suc zero)))) below = t
each_bit P p q r s t u v (suc (suc (suc (suc (suc zero))))) below = u
each_bit P p q r s t u v (suc (suc (suc (suc (suc (suc zero)))))) below = v
each_bit P p q r s t u v (suc (suc (suc (suc (suc (suc (suc b))))))) below = absurd (omega arith)

pub are_numbered : (t b : ℕ) → t < 2 → b < 7 → get_or masked_nodes (index t b) Nothing ≡ masked_node t b
are_numbered t b below inside = each_cycle (λ t. (b : ℕ) → b < 7 → get_or masked_nodes (index t b) Nothing ≡ masked_node t b)
    (each_bit (λ b. get_or masked_nodes (index 0 b) Nothing ≡ masked_node 0 b) refl refl refl refl refl refl refl)
    (each_bit (λ b. get_or masked_nodes (index 1 b) Nothing ≡ masked_node 1 b) refl refl refl refl refl refl refl) t below b inside
