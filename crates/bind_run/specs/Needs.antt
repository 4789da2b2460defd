-- What the lines of a label file ask of the nets that they name.
use Rattle.std.specs.Prelude.{ℕ, suc, ◌^◌, ◌/◌, ◌%◌, ◌==◌, nat_lt, nat_le, Bool, true, false, ◌&&◌, if◌then◌else◌, List, [], ◌∷◌, ◌++◌, length, zero, ◌+◌, codes}
use Rattle.std.specs.List.{list_all}
use Rattle.coco_base.specs.declared.netlist.Flat.{Flat}
use Rattle.label_file.specs.declared.line.LabelLine.{LabelLine}
use Rattle.label_file.specs.declared.line.LabelLine.TheVariants as line
use Rattle.label_file.specs.declared.line.LabelValue.{LabelValue}
use Rattle.label_file.specs.declared.line.LabelValue.TheVariants.{Number, Bits}
use Rattle.bind_run.specs.declared.need.Role.{Role}
use Rattle.bind_run.specs.declared.need.Role.TheVariants as role
use Rattle.bind_run.specs.Nets.{wires_of}

-- a value fits a net of so many wires: a label value has just as many labels, and a number fits in as many bits
abbrev pub value_fits : ℕ → LabelValue → Bool
value_fits width (Number n) = nat_lt n (2 ^ width)
value_fits width (Bits first labels) = labels == width

-- how wide a net may be: any width, so many wires, from 1 to 32 wires, or what values fit
pub data Wide : Type 0 where
  any : Wide
  exactly : ℕ → Wide
  number : Wide
  holding : List LabelValue → Wide

abbrev pub fits : Wide → ℕ → Bool
fits any width = true
fits (exactly n) width = width == n
fits number width = nat_le 1 width && nat_le width 32
fits (holding values) width = list_all (value_fits width) values

-- whether a line binds the bits of a net
abbrev pub binds : Role → Bool
binds role.Read = false
binds r = true

-- a net of a line: its word, how wide it may be, and what the line does with it
pub record Need : Type 0 where
  pub word : List ℕ
  pub wide : Wide
  pub role : Role

abbrev pub need : List ℕ → Wide → Role → Need
need word wide role = record { word = word; wide = wide; role = role }

abbrev pub hex_digit : ℕ → ℕ
hex_digit n = if nat_lt n 10 then 48 + n else 87 + n

-- so many hexadecimal digits of a number, the last ones
abbrev pub hex_digits : ℕ → ℕ → List ℕ
hex_digits zero n = []
hex_digits (suc count) n = hex_digits count (n / 16) ++ hex_digit (n % 16) ∷ []

-- the name of the port of a memory word that is leaves: its address with eight digits
unfoldable pub leaf_name : ℕ → List ℕ
leaf_name address = codes "mem@" ++ hex_digits 8 address

-- the nets of a memory port
abbrev pub port_needs : LabelLine → List Need
port_needs (line.Imem request address answer) =
    need request (exactly 1) role.Read ∷ need address number role.Read ∷ need answer (exactly 32) role.Input ∷ []
port_needs (line.Dmem request write enables address value answer) =
    need request (exactly 1) role.Read ∷ need write (exactly 1) role.Read ∷ need enables (exactly 4) role.Read
    ∷ need address number role.Read ∷ need value (exactly 32) role.Read ∷ need answer (exactly 32) role.Input ∷ []
port_needs l = []

-- the nets of a line, in order; those of a `leaf` line are the ports that it adds
abbrev pub needs_of : Flat → LabelLine → List Need
needs_of flat (line.Fresh net name) = need net any role.Input ∷ []
needs_of flat (line.Reg net value) = need net (holding (value ∷ [])) role.Flop ∷ []
needs_of flat (line.Input net values) = need net (holding values) role.Input ∷ []
needs_of flat (line.Leaf address) = need (leaf_name address) (exactly 32) role.Input ∷ []
needs_of flat (line.Echo net source) =
    need net any role.Input ∷ need source (exactly (length (wires_of flat net))) role.Read ∷ []
needs_of flat (line.Clock net) = need net (exactly 1) role.Clock ∷ []
needs_of flat (line.Control net) = need net any role.Read ∷ []
needs_of flat (line.Pc net) = need net number role.Read ∷ []
needs_of flat l = port_needs l
