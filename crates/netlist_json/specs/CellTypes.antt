-- The types of cells that are read: the sixteen gates of the Yosys manual, and its flops at the rising edge. A flop's
-- type is one of seven forms; behind the edge stand letters for the level of its reset (P high, N low), the value that
-- a reset leaves (0 or 1) and the level of its enable, each where the form has it.
use Rattle.std.specs.Prelude.{ℕ, ◌==◌, ◌&&◌, List, [], ◌∷◌, ◌++◌, Bool, true, false, Option, Some, None, option_and_then, option_map, find, map, codes, if◌then◌else◌}
use Rattle.std.specs.Str.{bytes_eq}
use Rattle.coco_base.specs.declared.cell.Kind.{Kind}
use Rattle.coco_base.specs.declared.cell.Kind.TheVariants.{Buf, Not, And, Nand, Or, Nor, Xor, Xnor, AndNot, OrNot, Mux, Nmux, Aoi3, Oai3, Aoi4, Oai4}
use Rattle.cell_table.specs.Names.{type_name}
use Rattle.netlist_json.specs.declared.cell_type.CellType.{CellType}
use Rattle.netlist_json.specs.declared.cell_type.CellType.TheVariants.{Gate, Flop}
use Rattle.netlist_json.specs.declared.cell_type.Enable.{Enable}
use Rattle.netlist_json.specs.declared.cell_type.Enable.TheVariants.{NoEnable, Inside, Outside}
use Rattle.netlist_json.specs.declared.cell_type.FlopType.{FlopType}
use Rattle.netlist_json.specs.declared.cell_type.MuxStep.{MuxStep}
use Rattle.netlist_json.specs.declared.cell_type.MuxStep.TheVariants.{EnableMux, ResetMux}
use Rattle.netlist_json.specs.declared.cell_type.Reset.{Reset}
use Rattle.netlist_json.specs.declared.cell_type.Reset.TheVariants.{NoReset, Asynchronous, Synchronous}

-- ---- gates

abbrev pub kinds : List Kind
kinds = Buf ∷ Not ∷ And ∷ Nand ∷ Or ∷ Nor ∷ Xor ∷ Xnor ∷ AndNot ∷ OrNot ∷ Mux ∷ Nmux ∷ Aoi3 ∷ Oai3 ∷ Aoi4 ∷ Oai4 ∷ []

abbrev pub gate_of : List ℕ → Option Kind
gate_of text = find (λ kind. bytes_eq text (type_name kind)) kinds

-- ---- flops

pub record Form : Type 0 where
  pub prefix : List ℕ
  pub reset : Reset
  pub enable : Enable

abbrev form : List ℕ → Reset → Enable → Form
form prefix reset enable = record { prefix = prefix; reset = reset; enable = enable }

abbrev pub flop_forms : List Form
flop_forms =
    form (codes "$_DFF_P") NoReset NoEnable ∷
    form (codes "$_DFFE_P") NoReset Inside ∷
    form (codes "$_DFF_P") Asynchronous NoEnable ∷
    form (codes "$_DFFE_P") Asynchronous Inside ∷
    form (codes "$_SDFF_P") Synchronous NoEnable ∷
    form (codes "$_SDFFE_P") Synchronous Inside ∷
    form (codes "$_SDFFCE_P") Synchronous Outside ∷ []

abbrev pub level_of : ℕ → Option Bool
level_of letter = if letter == 80 then Some true else (if letter == 78 then Some false else None)

abbrev pub value_of : ℕ → Option Bool
value_of letter = if letter == 49 then Some true else (if letter == 48 then Some false else None)

-- the text behind a prefix
abbrev pub letters_after : List ℕ → List ℕ → Option (List ℕ)
letters_after [] text = Some text
letters_after (p ∷ ps) [] = None
letters_after (p ∷ ps) (c ∷ text) = if c == p then letters_after ps text else None

-- the level and the value of a reset, and the letters behind
abbrev pub reset_of : Reset → List ℕ → Option (Bool × Bool × List ℕ)
reset_of NoReset text = Some (false, false, text)
reset_of _ [] = None
reset_of _ (l ∷ []) = None
reset_of _ (l ∷ v ∷ rest) =
    option_and_then (λ level. option_map (λ value. (level, value, rest)) (value_of v)) (level_of l)

-- the level of an enable, and the letters behind
abbrev pub enable_of : Enable → List ℕ → Option (Bool × List ℕ)
enable_of NoEnable text = Some (false, text)
enable_of _ [] = None
enable_of _ (l ∷ rest) = option_map (λ level. (level, rest)) (level_of l)

-- a flop of a form, from the letters behind the edge
abbrev pub flop_with : Reset → Enable → Bool → Bool → Bool × List ℕ → Option FlopType
flop_with reset enable level value e =
    if bytes_eq e.1 (codes "_")
    then Some (record {
      reset = reset;
      reset_level = level;
      reset_value = value;
      enable = enable;
      enable_level = e.0;
    })
    else None

abbrev pub flop_in : Reset → Enable → List ℕ → Option FlopType
flop_in reset enable text =
    option_and_then (λ r. option_and_then (flop_with reset enable r.0 r.1) (enable_of enable r.2))
    (reset_of reset text)

abbrev pub flop_of : Form → List ℕ → Option FlopType
flop_of f text = option_and_then (flop_in f.reset f.enable) (letters_after f.prefix text)

abbrev pub or_else : Option FlopType → Option FlopType → Option FlopType
or_else None other = other
or_else (Some flop) other = Some flop

abbrev pub first_flop : List Form → List ℕ → Option FlopType
first_flop [] text = None
first_flop (f ∷ fs) text = or_else (flop_of f text) (first_flop fs text)

-- ---- all types

abbrev pub gate_or_flop : Option Kind → Option FlopType → Option CellType
gate_or_flop (Some kind) flop = Some (Gate kind)
gate_or_flop None flop = option_map Flop flop

abbrev pub type_of : List ℕ → Option CellType
type_of text = gate_or_flop (gate_of text) (first_flop flop_forms text)

-- ---- ports

abbrev pub enable_port : Enable → Option (List ℕ)
enable_port NoEnable = None
enable_port _ = Some (codes "E")

abbrev pub reset_port : Reset → Option (List ℕ)
reset_port NoReset = None
reset_port _ = Some (codes "R")

-- the input ports of a type in order, up to four
abbrev pub gate_inputs : Kind → List (Option (List ℕ))
gate_inputs Buf = Some (codes "A") ∷ None ∷ None ∷ None ∷ []
gate_inputs Not = Some (codes "A") ∷ None ∷ None ∷ None ∷ []
gate_inputs Mux = Some (codes "A") ∷ Some (codes "B") ∷ Some (codes "S") ∷ None ∷ []
gate_inputs Nmux = Some (codes "A") ∷ Some (codes "B") ∷ Some (codes "S") ∷ None ∷ []
gate_inputs Aoi3 = Some (codes "A") ∷ Some (codes "B") ∷ Some (codes "C") ∷ None ∷ []
gate_inputs Oai3 = Some (codes "A") ∷ Some (codes "B") ∷ Some (codes "C") ∷ None ∷ []
gate_inputs Aoi4 = Some (codes "A") ∷ Some (codes "B") ∷ Some (codes "C") ∷ Some (codes "D") ∷ []
gate_inputs Oai4 = Some (codes "A") ∷ Some (codes "B") ∷ Some (codes "C") ∷ Some (codes "D") ∷ []
gate_inputs kind = Some (codes "A") ∷ Some (codes "B") ∷ None ∷ None ∷ []

abbrev pub input_ports : CellType → List (Option (List ℕ))
input_ports (Gate kind) = gate_inputs kind
input_ports (Flop f) = Some (codes "D") ∷ Some (codes "C") ∷ enable_port f.enable ∷ reset_port f.reset ∷ []

abbrev pub output_port : CellType → List ℕ
output_port (Gate kind) = codes "Y"
output_port (Flop f) = codes "Q"

-- ---- the multiplexers before a flop, the inner one first

abbrev pub reset_steps : Reset → List MuxStep
reset_steps Synchronous = ResetMux ∷ []
reset_steps _ = []

abbrev pub steps_of : Reset → Enable → List MuxStep
steps_of reset NoEnable = reset_steps reset
steps_of reset Inside = EnableMux ∷ reset_steps reset
steps_of reset Outside = reset_steps reset ++ EnableMux ∷ []

abbrev pub mux_steps : FlopType → List MuxStep
mux_steps f = steps_of f.reset f.enable
