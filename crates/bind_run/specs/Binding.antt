-- Which bits lines bind, and the first fault: line by line, net by net, and at a net its name, its width, what drives
-- its bits, the clock, and what is bound already.
use Rattle.std.specs.Prelude.{◌≡◌, ℕ, ◌<◌, nat_eq, Bool, true, false, not, ◌&&◌, ◌||◌, if◌then◌else◌, List, [], ◌∷◌, ◌++◌, length, flat_map, Option, Some, None, Result, Ok, Err}
use Rattle.std.specs.List.{list_all, list_any}
use Rattle.coco_base.specs.declared.netlist.Flat.{Flat}
use Rattle.coco_base.specs.declared.netlist.FlatCell.{FlatCell}
use Rattle.coco_base.specs.declared.netlist.FlatFlop.{FlatFlop}
use Rattle.coco_base.specs.declared.netlist.Wire.{Wire}
use Rattle.coco_base.specs.declared.netlist.Wire.TheVariants.{Const, Bit}
use Rattle.coco_model.specs.Netlist as netlist
use Rattle.label_file.specs.declared.line.LabelLine.{LabelLine}
use Rattle.bind_run.specs.declared.fault.BindFault.{BindFault}
use Rattle.bind_run.specs.declared.fault.BindFault.TheVariants as fault
use Rattle.bind_run.specs.declared.need.Role.{Role}
use Rattle.bind_run.specs.declared.need.Role.TheVariants as role
use Rattle.bind_run.specs.declared.nets.NetFault.{NetFault}
use Rattle.bind_run.specs.declared.nets.NetFault.TheVariants.{Missing, Outside}
use Rattle.bind_run.specs.Needs.{Need, binds, fits, needs_of}
use Rattle.bind_run.specs.Nets.{meaning_of}

abbrev pub has_bit : List ℕ → ℕ → Bool
has_bit bits b = list_any (nat_eq b) bits

abbrev pub is_wire_of : ℕ → Wire → Bool
is_wire_of b (Const c) = false
is_wire_of b (Bit n) = nat_eq b n

abbrev pub is_option_of : ℕ → Option Wire → Bool
is_option_of b None = false
is_option_of b (Some w) = is_wire_of b w

abbrev pub is_input_bit : Flat → ℕ → Bool
is_input_bit flat b = has_bit (netlist.input_bits flat) b

abbrev pub is_flop_bit : Flat → ℕ → Bool
is_flop_bit flat b = list_any (λ (f : FlatFlop). nat_eq b f.output) flat.flops

abbrev pub cell_reads : ℕ → FlatCell → Bool
cell_reads b cell = list_any (is_wire_of b) (netlist.wires_of cell)

abbrev pub flop_reads : ℕ → FlatFlop → Bool
flop_reads b flop = is_wire_of b flop.next || is_wire_of b flop.clock || is_option_of b flop.reset

-- a cell or a flop reads the bit
abbrev pub is_read : Flat → ℕ → Bool
is_read flat b = list_any (cell_reads b) flat.cells || list_any (flop_reads b) flat.flops

-- what has to drive a bit that a line binds: a flop for a start, else an input port
abbrev pub is_driven : Flat → Role → ℕ → Bool
is_driven flat role.Flop b = is_flop_bit flat b
is_driven flat r b = is_input_bit flat b

abbrev pub drives_wire : Flat → Role → Wire → Bool
drives_wire flat r (Const c) = false
drives_wire flat r (Bit b) = is_driven flat r b

abbrev pub is_clock : Option ℕ → ℕ → Bool
is_clock None b = false
is_clock (Some c) b = nat_eq b c

-- a clock line may name the netlist's clock, or a bit that nothing reads; no other line binds the netlist's clock
abbrev pub clashes : Flat → Option ℕ → Role → ℕ → Bool
clashes flat clock role.Clock b = not (is_clock clock b) && is_read flat b
clashes flat clock r b = is_clock clock b

abbrev pub wire_clashes : Flat → Option ℕ → Role → Wire → Bool
wire_clashes flat clock r (Const c) = false
wire_clashes flat clock r (Bit b) = clashes flat clock r b

-- the bits that are bound after the bits of a word, none of which may be bound before
abbrev pub after_wires : List ℕ → List ℕ → List Wire → Result (List ℕ) BindFault
after_wires bound word [] = Ok bound
after_wires bound word (Const c ∷ ws) = after_wires bound word ws
after_wires bound word (Bit b ∷ ws) =
    if has_bit bound b then Err (fault.BoundTwice word) else after_wires (bound ++ b ∷ []) word ws

-- the bits that are bound after a word whose wires a line binds
abbrev pub after_bound : Flat → Option ℕ → List ℕ → List ℕ → Role → List Wire → Result (List ℕ) BindFault
after_bound flat clock bound word r wires =
    if list_all (drives_wire flat r) wires
    then (if list_any (wire_clashes flat clock r) wires
    then Err (fault.ClockMismatch word)
    else after_wires bound word wires)
    else Err (fault.WrongDriver word)

abbrev pub after_role : Flat → Option ℕ → List ℕ → List ℕ → Role → List Wire → Result (List ℕ) BindFault
after_role flat clock bound word r wires = if binds r then after_bound flat clock bound word r wires else Ok bound

abbrev pub after_meaning : Flat → Option ℕ → List ℕ → Need → Result (List Wire) NetFault → Result (List ℕ) BindFault
after_meaning flat clock bound n (Err Missing) = Err (fault.NoSuchNet n.word)
after_meaning flat clock bound n (Err Outside) = Err (fault.Width n.word)
after_meaning flat clock bound n (Ok wires) =
    if fits n.wide (length wires) then after_role flat clock bound n.word n.role wires else Err (fault.Width n.word)

-- the bits that are bound after a net of a line, or what is wrong with it
abbrev pub after_need : Flat → Option ℕ → List ℕ → Need → Result (List ℕ) BindFault
after_need flat clock bound n = after_meaning flat clock bound n (meaning_of flat n.word)

infixl 10 ◌>>=◌
abbrev pub ◌>>=◌ : {A B : Type 0} → Result A BindFault → (A → Result B BindFault) → Result B BindFault
(Ok x) >>= f = f x
(Err e) >>= f = Err e

abbrev pub after_needs : Flat → Option ℕ → List ℕ → List Need → Result (List ℕ) BindFault
after_needs flat clock bound [] = Ok bound
after_needs flat clock bound (n ∷ ns) = after_need flat clock bound n >>= (λ more. after_needs flat clock more ns)

-- the bits that lines bind, or the first fault of their nets
abbrev pub bound_by : Flat → Option ℕ → List LabelLine → Result (List ℕ) BindFault
bound_by flat clock lines = after_needs flat clock [] (flat_map (needs_of flat) lines)

-- an input port bit that no line binds
pub record IsUnbound (flat : Flat) (bound : List ℕ) (b : ℕ) : Type 0 where
  pub input : is_input_bit flat b ≡ true
  pub free : has_bit bound b ≡ false

-- the least of them
pub record IsLeastUnbound (flat : Flat) (bound : List ℕ) (b : ℕ) : Type 0 where
  pub unbound : IsUnbound flat bound b
  pub least : (c : ℕ) → c < b → IsUnbound flat bound c → ⊥
