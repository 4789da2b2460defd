-- Whether a netlist has one clock that is read as a clock alone.
use Rattle.std.proofs.Common.{◌≡◌, ◌≢◌, ℕ, zero, suc, ◌+◌, ◌<◌, ◌≤◌, ◌⊎◌, inl, inr, Bool, List, [], ◌∷◌, ◌++◌, map, length, get_or, refl, sym, ◌∙◌, ap, subst, arith}
use Rattle.std.specs.Prelude.{Contains, Some, slice_get}
use Rattle.std.proofs.lemmas.List.Elements.{Contains-append_left}
use Rattle.coco_base.specs.declared.netlist.Flat.{Flat}
use Rattle.coco_base.specs.declared.netlist.FlatCell.{FlatCell}
use Rattle.coco_base.specs.declared.netlist.FlatFlop.{FlatFlop}
use Rattle.coco_base.specs.declared.netlist.Wire.{Wire}
use Rattle.coco_base.specs.declared.netlist.Wire.TheVariants.{Const, Bit}
use Rattle.coco_model.specs.Netlist.{wires_of, input_bits, HasOneDriver, IsInputBit}
use Rattle.model_laws.proofs.Apart.{apart_parts}
use Rattle.model_laws.proofs.Lists.{Contains-map, member_of_place}
use Rattle.model_laws.proofs.Sources.{input_no_cell}
use Rattle.gate_graph.specs.declared.driver.Driver.{Driver}
use Rattle.gate_graph.specs.declared.driver.Driver.TheVariants.{Port, Cell, Flop, Nothing}
use Rattle.gate_graph.specs.Drivers.{IsDriver, IsWired}
use Rattle.gate_graph.specs.Clocks.{first_clock, IsClockWire, IsOffClock, HasClock, IsFirstOf}
use Rattle.gate_graph.proofs.LevelLemmas.{cell_bit}
use Rattle.gate_graph.proofs.WiredLemmas.{port_input, driver_read}

-- a bit that no input port drives
pub no_input_by : (flat : Flat) → HasOneDriver flat → (bit : ℕ) (d : Driver) → IsDriver flat bit d → ((p : ℕ) → d ≢ Port p) → IsInputBit flat bit → ⊥
no_input_by flat one bit (Port p) is other input = other p refl
no_input_by flat one bit (Cell i) is other input =
    input_no_cell flat one bit input (cell_bit flat is.cell bit (member_of_place flat.cells i is.cell is.at) is.drives)
no_input_by flat one bit (Flop f) is other input =
    (apart_parts (input_bits flat ++ map (λ (c : FlatCell). c.output) flat.cells) (map (λ (g : FlatFlop). g.output) flat.flops) one.once).apart bit
    (Contains-append_left (input_bits flat) (map (λ (c : FlatCell). c.output) flat.cells) bit input)
    (subst (Contains (map (λ (g : FlatFlop). g.output) flat.flops)) is.drives
    (Contains-map (λ (g : FlatFlop). g.output) flat.flops is.flop (member_of_place flat.flops f is.flop is.at)))
no_input_by flat one bit Nothing is other input = is.no_input input

-- the first member, found by going through the places
pub first_at : {X : Type 0} (P : X → Type 0) (xs : List X) (place : ℕ) (x : X) → slice_get xs place ≡ Some x → P x
    → ((k : ℕ) (y : X) → k < place → slice_get xs k ≡ Some y → P y → ⊥) → IsFirstOf P xs x
first_at P xs place x at holds none = record {
  place = place;
  first = record { member = x; at = at; holds = holds; none_before = none };
  is = refl;
}

pub first_is : (flops : List FlatFlop) (f : FlatFlop) → 0 < length flops → f ≡ get_or flops 0 f → first_clock flops ≡ Some f.clock
first_is [] f some e = absurd (omega arith)
first_is (g ∷ gs) f some e = ap (λ (h : FlatFlop). Some h.clock) (sym e)

pub has_clock : (flat : Flat) (clock : Wire) (bit : ℕ) → clock ≡ Bit bit → first_clock flat.flops ≡ Some clock
    → ((f : FlatFlop) → Contains flat.flops f → IsClockWire flat clock f.clock) → HasClock flat bit
has_clock flat clock bit is first all = record {
  first = first ∙ ap Some is;
  flops = λ f listed. subst (λ w. IsClockWire flat w f.clock) is (all f listed);
}

-- the clock of the first flop is a bit where all flops are on it
pub no_constant : (flat : Flat) (f : FlatFlop) (b : Bool) → f.clock ≡ Const b → IsClockWire flat f.clock f.clock → ⊥
no_constant flat f b is on = let w : IsClockWire flat f.clock (Const b) = subst (IsClockWire flat f.clock) is on in w.input

pub input_read : (flat : Flat) (drivers : List Driver) → IsWired flat drivers → (bit : ℕ) → bit < flat.bits → (default : Driver) (p : ℕ)
    → get_or drivers bit default ≡ Port p → IsInputBit flat bit
input_read flat drivers w bit below default p e = port_input flat p bit (driver_read flat drivers w bit below default (Port p) e)

pub no_input_read : (flat : Flat) (drivers : List Driver) → IsWired flat drivers → (bit : ℕ) → bit < flat.bits → (default : Driver)
    → ((p : ℕ) → get_or drivers bit default ≡ Port p → ⊥) → IsInputBit flat bit → ⊥
no_input_read flat drivers w bit below default other input =
    no_input_by flat w.one_driver bit (get_or drivers bit default)
    (driver_read flat drivers w bit below default (get_or drivers bit default) refl) other input
