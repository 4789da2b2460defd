-- What a walk does at a cell: its inputs in order.
use Rattle.std.proofs.Common.{◌≡◌, ◌≢◌, ℕ, zero, suc, ◌+◌, ◌<◌, ◌≤◌, max, ◌⊎◌, inl, inr, List, [], ◌∷◌, ◌++◌, length, get_or, take, refl, sym, ◌∙◌, ap, subst, arith}
use Rattle.std.specs.Prelude.{Contains, Some, None, slice_get, count_by}
use Rattle.std.proofs.lemmas.Bool.{cases_order}
use Rattle.std.proofs.lemmas.List.{append-nil, take_all, get_or_default}
use Rattle.coco_base.specs.declared.netlist.Flat.{Flat}
use Rattle.coco_base.specs.declared.netlist.FlatCell.{FlatCell}
use Rattle.coco_base.specs.declared.netlist.FlatFlop.{FlatFlop}
use Rattle.coco_base.specs.declared.netlist.FlatPort.{FlatPort}
use Rattle.coco_base.specs.declared.netlist.Wire.{Wire}
use Rattle.coco_base.specs.declared.netlist.Wire.TheVariants.{Const, Bit}
use Rattle.coco_model.specs.Netlist.{wires_of, bits_in, IsWireBelow, HasOneDriver, IsInputBit, IsFlopBit, IsCellBit}
use Rattle.coco_model.proofs.Basics.{any_from_member}
use Rattle.model_laws.proofs.Lists.{Contains-flat_map, member_of_place, place_of_member}
use Rattle.model_laws.proofs.Sources.{input_no_cell, flop_no_cell}
use Rattle.gate_graph.specs.declared.driver.Driver.{Driver}
use Rattle.gate_graph.specs.declared.driver.Driver.TheVariants.{Port, Cell, Flop, Nothing}
use Rattle.gate_graph.specs.declared.mark.Mark.{Mark}
use Rattle.gate_graph.specs.declared.mark.Mark.TheVariants.{New, Walked, Level}
use Rattle.gate_graph.specs.declared.mark.Step.{Step}
use Rattle.gate_graph.specs.declared.mark.Step.TheVariants.{Down, Closed, Up}
use Rattle.gate_graph.specs.Drivers.{IsDriver, IsCellOutput, IsWired}
use Rattle.gate_graph.specs.Levels.{greatest, HasLevel}
use Rattle.gate_graph.specs.Levels.HasLevel.{leaf, output}
use Rattle.gate_graph.specs.Marks.{mark_of, mark_level, driver_level, bit_level, has_level, HasCellLevel, AreMarks, LeadsOn, IsStep, IsInputStep}
use Rattle.gate_graph.proofs.Items.{place_below, same_at}
use Rattle.gate_graph.proofs.LevelLemmas.{bits_in-append, greatest-push, cell_bit}
use Rattle.gate_graph.proofs.WiredLemmas.{port_input, driver_read}

-- a bit that a port, a flop or nothing drives is no cell's output
pub no_cell_by : (flat : Flat) → HasOneDriver flat → (bit : ℕ) (d : Driver) → IsDriver flat bit d → ((i : ℕ) → d ≢ Cell i) → IsCellBit flat bit → ⊥
no_cell_by flat one bit (Port p) is other = input_no_cell flat one bit (port_input flat p bit is)
no_cell_by flat one bit (Cell i) is other = absurd (other i refl)
no_cell_by flat one bit (Flop f) is other =
    subst (λ b. IsCellBit flat b → ⊥) is.drives (flop_no_cell flat one is.flop (member_of_place flat.flops f is.flop is.at))
no_cell_by flat one bit Nothing is other = is.no_cell

-- inputs of a cell up to a place, all of which have levels
pub record IsScanned (flat : Flat) (drivers : List Driver) (marks : List Mark) (wires : List Wire) (i so_far : ℕ) : Type 0 where
  pub level_is : so_far ≡ greatest (bit_level drivers marks) (bits_in (take i wires))
  pub each : (k b : ℕ) → k < i → slice_get wires k ≡ Some (Bit b) → HasLevel flat b (bit_level drivers marks b)
  pub bound : so_far ≤ count_by has_level marks

pub scanned_none : (flat : Flat) (drivers : List Driver) (marks : List Mark) (wires : List Wire) → IsScanned flat drivers marks wires 0 0
scanned_none flat drivers marks wires = record { level_is = refl; each = λ k b h at. absurd (omega arith); bound = omega arith }

pub scanned_more : (flat : Flat) (drivers : List Driver) (marks : List Mark) (wires : List Wire) (i so_far level : ℕ) (w : Wire)
    → take (i + 1) wires ≡ take i wires ++ w ∷ [] → slice_get wires i ≡ Some w → IsInputStep flat drivers marks w (Up level)
    → IsScanned flat drivers marks wires i so_far → IsScanned flat drivers marks wires (i + 1) (max so_far level)
scanned_more flat drivers marks wires i so_far level w taken at step s = record {
  level_is = by w step taken;
  each = λ k b h at_k. each k b (cases_order k i) h at_k;
  bound = bound w step;
}
  where
    upto : ℕ → ℕ
    upto n = greatest (bit_level drivers marks) (bits_in (take n wires))

    by : (v : Wire) → IsInputStep flat drivers marks v (Up level) → take (i + 1) wires ≡ take i wires ++ v ∷ [] → max so_far level ≡ upto (i + 1)
    by (Const x) e t =
        let zero_level : level ≡ 0 = cc in
        let same : upto (i + 1) ≡ upto i =
        ap (λ vs. greatest (bit_level drivers marks) (bits_in vs)) t
        ∙ ap (greatest (bit_level drivers marks)) (bits_in-append (take i wires) (Const x ∷ []) ∙ append-nil (bits_in (take i wires))) in
        let l : so_far ≡ upto i = s.level_is in omega arith
    by (Bit n) e t =
        let more : upto (i + 1) ≡ max (upto i) (bit_level drivers marks n) =
        ap (λ vs. greatest (bit_level drivers marks) (bits_in vs)) t
        ∙ ap (greatest (bit_level drivers marks)) (bits_in-append (take i wires) (Bit n ∷ []))
        ∙ greatest-push (bit_level drivers marks) (bits_in (take i wires)) n in
        let l : so_far ≡ upto i = s.level_is in let m : level ≡ bit_level drivers marks n = e.1 in omega arith

    bound : (v : Wire) → IsInputStep flat drivers marks v (Up level) → max so_far level ≤ count_by has_level marks
    bound (Const x) e = let zero_level : level ≡ 0 = cc in let b = s.bound in omega arith
    bound (Bit n) e = let m : level ≤ count_by has_level marks = e.2 in let b = s.bound in omega arith

    each : (k b : ℕ) → (k ≡ i) ⊎ ((k < i) ⊎ (i < k)) → k < i + 1 → slice_get wires k ≡ Some (Bit b) → HasLevel flat b (bit_level drivers marks b)
    each k b (inl e) h at_k =
        let f : Some w ≡ Some (Bit b) = sym at ∙ ap (slice_get wires) (sym e) ∙ at_k in
        let is : w ≡ Bit b = cc in
        let here : IsInputStep flat drivers marks (Bit b) (Up level) = subst (λ v. IsInputStep flat drivers marks v (Up level)) is step in
        subst (HasLevel flat b) here.1 here.0
    each k b (inr (inl below)) h at_k = s.each k b below at_k
    each k b (inr (inr above)) h at_k = absurd (omega arith)

-- all inputs have levels: so has the cell
pub scanned_all : (flat : Flat) (drivers : List Driver) (marks : List Mark) (number i so_far : ℕ) (cell : FlatCell)
    → slice_get flat.cells number ≡ Some cell → length (wires_of cell) ≤ i
    → IsScanned flat drivers marks (wires_of cell) i so_far → HasCellLevel flat number (so_far + 1)
scanned_all flat drivers marks number i so_far cell at high s = record {
  cell = cell;
  at = at;
  level_is = subst (HasLevel flat cell.output) level_of
      (output cell (bit_level drivers marks) (member_of_place flat.cells number cell at)
      (λ b read.
      let p = place_of_member (wires_of cell) (Bit b) read in
      s.each p.place b (let h = place_below (wires_of cell) p.place (Bit b) p.at in omega arith) p.at));
}
  where
    level_of : suc (greatest (bit_level drivers marks) (bits_in (wires_of cell))) ≡ so_far + 1
    level_of =
        let t = ap (λ vs. greatest (bit_level drivers marks) (bits_in vs)) (take_all i (wires_of cell) high) in
        let l = s.level_is in omega arith

-- an input without a level leads on
pub leads_on : (flat : Flat) (drivers : List Driver) (marks : List Mark) (number i so_far to bit : ℕ) (cell : FlatCell)
    → slice_get flat.cells number ≡ Some cell → slice_get (wires_of cell) i ≡ Some (Bit bit)
    → IsScanned flat drivers marks (wires_of cell) i so_far → IsCellOutput flat to bit → LeadsOn flat number to
leads_on flat drivers marks number i so_far to bit cell at input s driven = record {
  cell = cell;
  at = at;
  place = i;
  bit = bit;
  input = input;
  first = λ k b h at_k. (bit_level drivers marks b, s.each k b h at_k);
  driven = driven;
}

-- the cell that drives a bit has a mark
pub marked_inside : (flat : Flat) (drivers : List Driver) (marks : List Mark) → IsWired flat drivers → AreMarks flat marks → (wire : Wire) (bit : ℕ)
    → wire ≡ Bit bit → IsWireBelow flat.bits wire → (default : Driver) (i : ℕ) → get_or drivers bit default ≡ Cell i → i < length marks
marked_inside flat drivers marks w a wire bit is below default i e =
    let d = driver_read flat drivers w bit (subst (IsWireBelow flat.bits) is below) default (Cell i) e in
    let l = a.as_long in
    let b = place_below flat.cells i d.cell d.at in omega arith

-- what an input shows: its driver is no cell
pub leaf_step : (flat : Flat) (drivers : List Driver) (marks : List Mark) → IsWired flat drivers → (wire : Wire) (bit : ℕ) → wire ≡ Bit bit
    → IsWireBelow flat.bits wire → (default : Driver) → ((i : ℕ) → get_or drivers bit default ≡ Cell i → ⊥) → IsInputStep flat drivers marks wire (Up 0)
leaf_step flat drivers marks w wire bit is below default other =
    subst (λ v. IsInputStep flat drivers marks v (Up 0)) (sym is) (
      leaf bit (no_cell_by flat w.one_driver bit (get_or drivers bit Nothing) (w.driven.each bit) not_cell),
      sym (level (get_or drivers bit Nothing) not_cell),
      omega arith,
    )
  where
    inside : bit < flat.bits
    inside = subst (IsWireBelow flat.bits) is below

    not_cell : (i : ℕ) → get_or drivers bit Nothing ≡ Cell i → ⊥
    not_cell i e = other i (get_or_default drivers bit default Nothing (let l = w.driven.as_long in let b = inside in omega arith) ∙ e)

    level : (d : Driver) → ((i : ℕ) → d ≡ Cell i → ⊥) → driver_level marks d ≡ 0
    level (Port p) no_cell = refl
    level (Flop f) no_cell = refl
    level Nothing no_cell = refl
    level (Cell i) no_cell = absurd (no_cell i refl)

-- its driver is a new cell
pub down_step : (flat : Flat) (drivers : List Driver) (marks : List Mark) → IsWired flat drivers → AreMarks flat marks → (wire : Wire) (bit : ℕ)
    → wire ≡ Bit bit → IsWireBelow flat.bits wire → (default : Driver) (i : ℕ) → get_or drivers bit default ≡ Cell i → (mark : Mark)
    → get_or marks i mark ≡ New → IsInputStep flat drivers marks wire (Down i)
down_step flat drivers marks w a wire bit is below default i e mark m =
    let inside = marked_inside flat drivers marks w a wire bit is below default i e in
    subst (λ v. IsInputStep flat drivers marks v (Down i)) (sym is)
    (driver_read flat drivers w bit (subst (IsWireBelow flat.bits) is below) default (Cell i) e, get_or_default marks i New mark inside ∙ m, inside)

-- its driver is a cell that the walk has met
pub met_step : (flat : Flat) (drivers : List Driver) (marks : List Mark) → IsWired flat drivers → AreMarks flat marks → (wire : Wire) (bit : ℕ)
    → wire ≡ Bit bit → IsWireBelow flat.bits wire → (default : Driver) (i : ℕ) → get_or drivers bit default ≡ Cell i → (mark : Mark)
    → get_or marks i mark ≡ Walked → IsInputStep flat drivers marks wire (Closed i)
met_step flat drivers marks w a wire bit is below default i e mark m =
    let inside = marked_inside flat drivers marks w a wire bit is below default i e in
    subst (λ v. IsInputStep flat drivers marks v (Closed i)) (sym is)
    (driver_read flat drivers w bit (subst (IsWireBelow flat.bits) is below) default (Cell i) e, get_or_default marks i New mark inside ∙ m)

-- its driver is a cell with a level
pub up_step : (flat : Flat) (drivers : List Driver) (marks : List Mark) → IsWired flat drivers → AreMarks flat marks → (wire : Wire) (bit : ℕ)
    → wire ≡ Bit bit → IsWireBelow flat.bits wire → (default : Driver) (i : ℕ) → get_or drivers bit default ≡ Cell i → (mark : Mark) (l : ℕ)
    → get_or marks i mark ≡ Level l → IsInputStep flat drivers marks wire (Up l)
up_step flat drivers marks w a wire bit is below default i e mark l m =
    subst (λ v. IsInputStep flat drivers marks v (Up l)) (sym is) (
      subst (λ n. HasLevel flat n l) (ap (λ (c : FlatCell). c.output) same ∙ drives.drives) has.level_is,
      sym (ap (driver_level marks) driver_is ∙ ap mark_level marked),
      a.bound i l marked,
    )
  where
    low : bit < flat.bits
    low = subst (IsWireBelow flat.bits) is below

    inside : i < length marks
    inside = marked_inside flat drivers marks w a wire bit is below default i e

    drives : IsCellOutput flat i bit
    drives = driver_read flat drivers w bit low default (Cell i) e

    driver_is : get_or drivers bit Nothing ≡ Cell i
    driver_is = get_or_default drivers bit Nothing default (let k = w.driven.as_long in let b = low in omega arith) ∙ e

    marked : mark_of marks i ≡ Level l
    marked = get_or_default marks i New mark inside ∙ m

    has : HasCellLevel flat i l
    has = a.levels i l marked

    same : has.cell ≡ drives.cell
    same = same_at flat.cells i has.cell drives.cell has.at drives.at

-- an input without a level ends the look at a cell
pub stops : (flat : Flat) (drivers : List Driver) (marks : List Mark) (number i so_far : ℕ) (cell : FlatCell) (w : Wire) (step : Step)
    → slice_get flat.cells number ≡ Some cell → slice_get (wires_of cell) i ≡ Some w
    → IsScanned flat drivers marks (wires_of cell) i so_far → IsInputStep flat drivers marks w step → ((l : ℕ) → step ≡ Up l → ⊥)
    → IsStep flat marks number step
stops flat drivers marks number i so_far cell (Const x) step at input s is other = absurd (other 0 is)
stops flat drivers marks number i so_far cell (Bit n) (Down to) at input s is other =
    (leads_on flat drivers marks number i so_far to n cell at input s is.0, is.1, is.2)
stops flat drivers marks number i so_far cell (Bit n) (Closed to) at input s is other =
    (leads_on flat drivers marks number i so_far to n cell at input s is.0, is.1)
stops flat drivers marks number i so_far cell (Bit n) (Up l) at input s is other = absurd (other l refl)

-- a bit that no cell is looked up for is no cell's output
pub no_output : (flat : Flat) (drivers : List Driver) → IsWired flat drivers → (bit : ℕ) → bit < flat.bits → (default : Driver)
    → ((i : ℕ) → get_or drivers bit default ≡ Cell i → ⊥) → (i : ℕ) → IsCellOutput flat i bit → ⊥
no_output flat drivers w bit below default other i d =
    no_cell_by flat w.one_driver bit (get_or drivers bit default) (driver_read flat drivers w bit below default (get_or drivers bit default) refl) other
    (cell_bit flat d.cell bit (member_of_place flat.cells i d.cell d.at) d.drives)
