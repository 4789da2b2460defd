-- What the bits of a value start at, and what is made of the bits among wires.
use Rattle.std.specs.Prelude.{ℕ, ◌+◌, ◌<◌, ◌^◌, ◌/◌, ◌%◌, ◌==◌, nat_lt, Bool, false, if◌then◌else◌, List, [], ◌∷◌, map, All}
use Rattle.std.specs.List.{range_with_len}
use Rattle.coco_base.specs.declared.netlist.Wire.{Wire}
use Rattle.coco_base.specs.declared.netlist.Wire.TheVariants.{Const, Bit}
use Rattle.coco_base.specs.declared.setup.Start.{Start}
use Rattle.coco_base.specs.declared.setup.Start.TheVariants.{Public, Label}
use Rattle.label_file.specs.declared.line.LabelLine.{LabelLine}
use Rattle.label_file.specs.declared.line.LabelLine.TheVariants as line
use Rattle.label_file.specs.declared.line.LabelValue.{LabelValue}
use Rattle.label_file.specs.declared.line.LabelValue.TheVariants.{Number, Bits}

abbrev pub number_bit : ℕ → ℕ → Bool
number_bit n k = n / 2 ^ k % 2 == 1

-- what bit k of a value starts at: the number's bit, or the label of that place; behind the labels public 0
abbrev pub value_start : LabelValue → ℕ → Start
value_start (Number n) k = Public (number_bit n k)
value_start (Bits first width) k = if nat_lt k width then Label (first + k) else Public false

-- what the 32 bits of a memory word start at
unfoldable pub word_bits : LabelValue → List Start
word_bits value = map (value_start value) (range_with_len 0 32)

-- what is made of each bit among wires, by its place, where the first wire has the place given
abbrev pub at_bits : {X : Type 0} → (ℕ → ℕ → X) → ℕ → List Wire → List X
at_bits make place [] = []
at_bits make place (Const c ∷ ws) = at_bits make (place + 1) ws
at_bits make place (Bit b ∷ ws) = make place b ∷ at_bits make (place + 1) ws

-- ---- what keeps numbers small

-- the labels of a value have numbers of 32 bits
abbrev pub HasRoom : LabelValue → Type 0
HasRoom (Number n) = Unit {0}
HasRoom (Bits first width) = first + width < 2 ^ 32

abbrev pub LineHasRoom : LabelLine → Type 0
LineHasRoom (line.Reg net value) = HasRoom value
LineHasRoom (line.Input net values) = All HasRoom values
LineHasRoom (line.Mem address value) = HasRoom value
LineHasRoom l = Unit {0}

abbrev pub HaveRoom : List LabelLine → Type 0
HaveRoom lines = All LineHasRoom lines
