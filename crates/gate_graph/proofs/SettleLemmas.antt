-- Settling a netlist cell by cell.
use Rattle.std.proofs.Common.{◌≡◌, ◌≢◌, ℕ, zero, suc, ◌+◌, ◌<◌, ◌≤◌, ◌⊎◌, inl, inr, Bool, true, false, cond, nat_eq, List, [], ◌∷◌, ◌++◌, map, length, get_or, set, take, refl, sym, ◌∙◌, ap, subst, arith}
use Rattle.std.specs.Prelude.{Contains, Some, None, slice_get}
use Rattle.std.proofs.lemmas.Bool.{cases_eq}
use Rattle.std.proofs.lemmas.List.{map-append, get_or-set_same, get_or-set_other}
use Rattle.coco_base.specs.declared.netlist.Flat.{Flat}
use Rattle.coco_base.specs.declared.netlist.FlatCell.{FlatCell}
use Rattle.coco_base.specs.declared.netlist.FlatFlop.{FlatFlop}
use Rattle.coco_base.specs.declared.netlist.Wire.{Wire}
use Rattle.coco_base.specs.declared.netlist.Wire.TheVariants.{Const}
use Rattle.coco_base.specs.declared.cell.Kind.{Kind}
use Rattle.coco_base.specs.declared.cell.Kind.TheVariants.{Buf, Not, And, Nand, Or, Nor, Xor, Xnor, AndNot, OrNot, Mux, Nmux, Aoi3, Oai3, Aoi4, Oai4}
use Rattle.coco_model.specs.Cells.{output_of, input_places}
use Rattle.coco_model.specs.Netlist.{Valuation, wires_of, wire_value, cell_value, HasOneDriver, IsRanked, IsSettled, IsCellBit, IsFlopBit, IsInputBit, IsUndriven}
use Rattle.coco_model.specs.Events.{Event, put, put_cell, after_event, after_events, IsCellOrder}
use Rattle.coco_model.specs.Events.Event.{cell}
use Rattle.coco_model.proofs.Basics.{any_from_member}
use Rattle.model_laws.proofs.Ends.{end_law}
use Rattle.model_laws.proofs.Forced.{on_wires-cong}
use Rattle.model_laws.proofs.Lists.{member_of_place}
use Rattle.model_laws.proofs.Settling.{some_settled_law}
use Rattle.model_laws.specs.Laws.{HasSettled, SomeSettledLaw, EndLaw}
use Rattle.gate_graph.specs.declared.driver.Driver.{Driver}
use Rattle.gate_graph.specs.declared.driver.Driver.TheVariants.{Port, Cell, Flop, Nothing}
use Rattle.gate_graph.specs.Drivers.{IsDriver, AreDrivers}
use Rattle.gate_graph.specs.Settled.{valuation_of, leaf_value, IsAfterCells, IsSettledBy}
use Rattle.gate_graph.proofs.TableLemmas.{cond_same, cond_other}
use Rattle.gate_graph.proofs.WiredLemmas.{port_input}

-- the values of the wires that are read
get_seen : (v : Valuation) (n k : ℕ) (ws : List Wire) → k < n → get_or (map (wire_value v) (take n ws)) k false ≡ wire_value v (get_or ws k (Const false))
get_seen v zero k ws h = absurd (omega arith)
get_seen v (suc n) k [] h = refl
get_seen v (suc n) zero (w ∷ ws) h = refl
get_seen v (suc n) (suc k) (w ∷ ws) h = get_seen v n k ws (omega arith)

-- the places behind a kind's inputs do not count
pub seen : (kind : Kind) (v : Valuation) (ws : List Wire)
    → output_of kind
    (wire_value v (get_or ws 0 (Const false)) ∷ wire_value v (get_or ws 1 (Const false)) ∷ wire_value v (get_or ws 2 (Const false))
    ∷ wire_value v (get_or ws 3 (Const false)) ∷ [])
    ≡ output_of kind (map (wire_value v) (input_places kind ws))
seen Buf v ws = let e0 = get_seen v 1 0 ws (omega arith) in cc
seen Not v ws = let e0 = get_seen v 1 0 ws (omega arith) in cc
seen And v ws = let e0 = get_seen v 2 0 ws (omega arith) in let e1 = get_seen v 2 1 ws (omega arith) in cc
seen Nand v ws = let e0 = get_seen v 2 0 ws (omega arith) in let e1 = get_seen v 2 1 ws (omega arith) in cc
seen Or v ws = let e0 = get_seen v 2 0 ws (omega arith) in let e1 = get_seen v 2 1 ws (omega arith) in cc
seen Nor v ws = let e0 = get_seen v 2 0 ws (omega arith) in let e1 = get_seen v 2 1 ws (omega arith) in cc
seen Xor v ws = let e0 = get_seen v 2 0 ws (omega arith) in let e1 = get_seen v 2 1 ws (omega arith) in cc
seen Xnor v ws = let e0 = get_seen v 2 0 ws (omega arith) in let e1 = get_seen v 2 1 ws (omega arith) in cc
seen AndNot v ws = let e0 = get_seen v 2 0 ws (omega arith) in let e1 = get_seen v 2 1 ws (omega arith) in cc
seen OrNot v ws = let e0 = get_seen v 2 0 ws (omega arith) in let e1 = get_seen v 2 1 ws (omega arith) in cc
seen Mux v ws = let e0 = get_seen v 3 0 ws (omega arith) in let e1 = get_seen v 3 1 ws (omega arith) in let e2 = get_seen v 3 2 ws (omega arith) in cc
seen Nmux v ws = let e0 = get_seen v 3 0 ws (omega arith) in let e1 = get_seen v 3 1 ws (omega arith) in let e2 = get_seen v 3 2 ws (omega arith) in cc
seen Aoi3 v ws = let e0 = get_seen v 3 0 ws (omega arith) in let e1 = get_seen v 3 1 ws (omega arith) in let e2 = get_seen v 3 2 ws (omega arith) in cc
seen Oai3 v ws = let e0 = get_seen v 3 0 ws (omega arith) in let e1 = get_seen v 3 1 ws (omega arith) in let e2 = get_seen v 3 2 ws (omega arith) in cc
seen Aoi4 v ws = let e0 = get_seen v 4 0 ws (omega arith) in let e1 = get_seen v 4 1 ws (omega arith) in let e2 = get_seen v 4 2 ws (omega arith) in let e3 = get_seen v 4 3 ws (omega arith) in cc
seen Oai4 v ws = let e0 = get_seen v 4 0 ws (omega arith) in let e1 = get_seen v 4 1 ws (omega arith) in let e2 = get_seen v 4 2 ws (omega arith) in let e3 = get_seen v 4 3 ws (omega arith) in cc

after_push : (flat : Flat) (new now : Valuation) (es : List Event) (e : Event)
    → after_events flat new now (es ++ e ∷ []) ≡ after_event flat new (after_events flat new now es) e
after_push flat new now [] e = refl
after_push flat new now (x ∷ es) e = after_push flat new (after_event flat new now x) es e

pub cell_value-cong : (v w : Valuation) (c : FlatCell) → ((b : ℕ) → v b ≡ w b) → cell_value v c ≡ cell_value w c
cell_value-cong v w c same = ap (output_of c.kind) (on_wires-cong (λ b. b) v w (wires_of c) (λ b h. same b))

-- a row with another value at a bit
pub put_row : (row : List Bool) (v : Valuation) (bit : ℕ) (x y : Bool) → bit < length row → ((b : ℕ) → valuation_of row b ≡ v b) → x ≡ y
    → (b : ℕ) → valuation_of (set row bit x) b ≡ put v bit y b
put_row row v bit x y inside same e b = go (cases_eq b bit)
  where
    go : (b ≡ bit) ⊎ (b ≢ bit) → valuation_of (set row bit x) b ≡ put v bit y b
    go (inl is) = ap (λ n. get_or (set row bit x) n false) is ∙ get_or-set_same row bit x false inside ∙ e ∙ sym (cond_same b bit y (v b) is)
    go (inr n) = get_or-set_other row bit b x false n ∙ same b ∙ sym (cond_other b bit y (v b) n)

-- the event of one more cell
pub cells_more : (flat : Flat) (done : List ℕ) (number : ℕ) (c : FlatCell) (old row : List Bool) (x : Bool) → slice_get flat.cells number ≡ Some c
    → c.output < length row → x ≡ cell_value (valuation_of row) c → IsAfterCells flat done old row
    → IsAfterCells flat (done ++ number ∷ []) old (set row c.output x)
cells_more flat done number c old row x at inside value after leaves b =
    put_row row now c.output x (cell_value now c) inside (after leaves) (value ∙ cell_value-cong (valuation_of row) now c (after leaves)) b
    ∙ sym (ap (λ v. v b) event)
  where
    now : Valuation
    now = after_events flat leaves (valuation_of old) (map cell done)

    event : after_events flat leaves (valuation_of old) (map cell (done ++ number ∷ [])) ≡ put now c.output (cell_value now c)
    event =
        ap (after_events flat leaves (valuation_of old)) (map-append cell done (number ∷ []))
        ∙ after_push flat leaves (valuation_of old) (map cell done) (cell number)
        ∙ ap (put_cell now) at

-- what the settled valuation has at a bit that no cell drives, the row begins with
begins : (flat : Flat) (drivers : List Driver) (leaves new : Valuation) → AreDrivers flat drivers → IsSettled flat new
    → ((b : ℕ) → IsFlopBit flat b ⊎ IsInputBit flat b → new b ≡ leaves b) → (b : ℕ) → (IsCellBit flat b → ⊥)
    → leaf_value (get_or drivers b Nothing) (leaves b) ≡ new b
begins flat drivers leaves new d settled agrees b none = go (get_or drivers b Nothing) (d.each b)
  where
    go : (x : Driver) → IsDriver flat b x → leaf_value x (leaves b) ≡ new b
    go (Port p) is = sym (agrees b (inr (port_input flat p b is)))
    go (Flop f) is =
        sym (agrees b (inl (any_from_member (λ (g : FlatFlop). g.output ≡ b) flat.flops is.flop (member_of_place flat.flops f is.flop is.at) is.drives)))
    go (Cell i) is = absurd (none (any_from_member (λ (c : FlatCell). c.output ≡ b) flat.cells is.cell (member_of_place flat.cells i is.cell is.at) is.drives))
    go Nothing is = sym (settled.undriven b is)

-- a valuation with the values of a settled one is settled
pub settled-same : (flat : Flat) (v new : Valuation) → IsSettled flat new → ((b : ℕ) → v b ≡ new b) → IsSettled flat v
settled-same flat v new s same = record {
  cells = λ c listed. same c.output ∙ s.cells c listed ∙ cell_value-cong new v c (λ b. sym (same b));
  undriven = λ b none. same b ∙ s.undriven b none;
}

-- the events of all cells settle what begins with the leaves
pub settles : (flat : Flat) (rank : ℕ → ℕ) (drivers : List Driver) (order : List ℕ) (leaves : Valuation) (first last : List Bool) → HasOneDriver flat
    → IsRanked flat rank → IsCellOrder flat [] order → AreDrivers flat drivers
    → ((b : ℕ) → valuation_of first b ≡ leaf_value (get_or drivers b Nothing) (leaves b)) → IsAfterCells flat order first last
    → IsSettledBy flat leaves (valuation_of last)
unfolding SomeSettledLaw EndLaw
settles flat rank drivers order leaves first last one ranked ordered d starts after = record {
  settled = settled-same flat (valuation_of last) has.valuation has.settled same;
  agrees = λ b given. same b ∙ has.agrees b given;
}
  where
    has : HasSettled flat leaves
    has = some_settled_law flat rank ranked one leaves

    same : (b : ℕ) → valuation_of last b ≡ has.valuation b
    same b =
        after has.valuation b
        ∙ end_law flat (valuation_of first) has.valuation has.settled [] order
        (λ a none. inr (starts a ∙ begins flat drivers leaves has.valuation d has.settled has.agrees a none)) ordered b
