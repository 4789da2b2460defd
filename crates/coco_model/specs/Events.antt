-- Gate events while a cycle settles, and the waveforms that they make.
use Rattle.std.specs.Prelude.{ℕ, Bool, cond, nat_eq, List, [], ◌∷◌, ◌≡◌, slice_get, Option, Some, None, Contains}
use Rattle.coco_base.specs.declared.netlist.Flat.{Flat}
use Rattle.coco_base.specs.declared.netlist.FlatCell.{FlatCell}
use Rattle.coco_base.specs.declared.netlist.Wire.TheVariants.{Bit}
use Rattle.coco_model.specs.Netlist.{Valuation, wires_of, cell_value, IsCellBit}

-- one event within a cycle: a leaf goes to its new value, or a cell, by its number, computes its output anew
pub data Event : Type 0 where
  leaf : ℕ → Event
  cell : ℕ → Event

-- a valuation with another value at one bit
abbrev pub put : Valuation → ℕ → Bool → Valuation
put v bit b n = cond (nat_eq n bit) b (v n)

-- a valuation after an event of a cell, where there is one
abbrev pub put_cell : Valuation → Option FlatCell → Valuation
put_cell v None = v
put_cell v (Some c) = put v c.output (cell_value v c)

-- what an event makes of the present valuation, where new has the leaves' new values
abbrev pub after_event : Flat → Valuation → Valuation → Event → Valuation
after_event flat new now (leaf bit) = put now bit (new bit)
after_event flat new now (cell index) = put_cell now (slice_get flat.cells index)

-- the values of a bit before the first event and after each, under a schedule
abbrev pub waveform : Flat → Valuation → ℕ → Valuation → List Event → List Bool
waveform flat new bit now [] = now bit ∷ []
waveform flat new bit now (e ∷ es) = now bit ∷ waveform flat new bit (after_event flat new now e) es

-- the valuation after the last event
abbrev pub after_events : Flat → Valuation → Valuation → List Event → Valuation
after_events flat new now [] = now
after_events flat new now (e ∷ es) = after_events flat new (after_event flat new now e) es

-- numbers of cells, among them every cell, each after those whose outputs it reads; done has the outputs of those
-- before
abbrev pub IsCellOrder : Flat → List ℕ → List ℕ → Type 0
IsCellOrder flat done [] = (b : ℕ) → IsCellBit flat b → Contains done b
IsCellOrder flat done (i ∷ is) =
    (c : FlatCell) × (slice_get flat.cells i ≡ Some c)
    × ((b : ℕ) → Contains (wires_of c) (Bit b) → IsCellBit flat b → Contains done b)
    × IsCellOrder flat (c.output ∷ done) is
