-- The module that is read of a file, by the form that the Yosys manual gives for `write_json`. Parts that are not named
-- here are not read. The first part that has not its form is the fault, and each part is called by its path.
use Rattle.std.specs.Prelude.{ℕ, ◌++◌, List, [], ◌∷◌, Option, Some, None, option_and_then, Result, Ok, Err, codes, true, false, Bool, if◌then◌else◌}
use Rattle.std.specs.List.{list_all}
use Rattle.std.specs.Str.{bytes_eq}
use Rattle.serde_json.specs.Data.{Data, Members, no_members, member}
use Rattle.serde_json.specs.Find.{as_array, as_object, as_str, get}
use Rattle.coco_base.specs.declared.netlist.FlatNet.{FlatNet}
use Rattle.coco_base.specs.declared.netlist.Wire.{Wire}
use Rattle.coco_base.specs.declared.netlist.Wire.TheVariants.{Const, Bit}
use Rattle.netlist_json.specs.Faults.{◌>>=◌, or_shape}
use Rattle.netlist_json.specs.Wires.{wires_of}
use Rattle.netlist_json.specs.declared.fault.NetFault.{NetFault}
use Rattle.netlist_json.specs.declared.fault.NetFault.TheVariants.{NoTop, ManyTops}
use Rattle.netlist_json.specs.declared.source.Direction.{Direction}
use Rattle.netlist_json.specs.declared.source.Direction.TheVariants.{Input, Output, Inout}
use Rattle.netlist_json.specs.declared.source.Source.{Source}
use Rattle.netlist_json.specs.declared.source.SourceCell.{SourceCell}
use Rattle.netlist_json.specs.declared.source.SourcePort.{SourcePort}

-- the path of a part: `ports/NAME/bits`
abbrev pub path_of : List ℕ → List ℕ → List ℕ → List ℕ
path_of group name rest = group ++ codes "/" ++ name ++ rest

-- what each member stands for, in order of names, or the first fault
abbrev pub each : {X : Type 0} → (List ℕ → Data → Result X NetFault) → Members → Result (List X) NetFault
each f no_members = Ok []
each f (member name d ms) = do
  x ← f name d
  xs ← each f ms
  Ok (x ∷ xs)

-- what the members of a part of a module stand for; none where the part is absent
abbrev pub parts : {X : Type 0} → (List ℕ → Data → Result X NetFault) → List ℕ → Option Data → Result (List X) NetFault
parts f group None = Ok []
parts f group (Some d) = or_shape group (as_object d) >>= each f

abbrev pub array_wires : Data → Option (List Wire)
array_wires d = option_and_then wires_of (as_array d)

abbrev pub bits_of : Data → Option (List Wire)
bits_of d = option_and_then array_wires (get (codes "bits") d)

-- ---- ports

abbrev pub direction_of : List ℕ → Option Direction
direction_of text =
    if bytes_eq text (codes "input") then Some Input else
    (if bytes_eq text (codes "output") then Some Output else
    (if bytes_eq text (codes "inout") then Some Inout else None))

abbrev pub is_number : Wire → Bool
is_number (Const b) = false
is_number (Bit n) = true

-- an input is tied to no constant
abbrev pub may_have : Direction → List Wire → Bool
may_have Input wires = list_all is_number wires
may_have Output wires = true
may_have Inout wires = true

abbrev pub port_bits : Direction → Data → Option (List Wire)
port_bits direction d = option_and_then (λ wires. if may_have direction wires then Some wires else None) (bits_of d)

abbrev pub port_of : List ℕ → Data → Result SourcePort NetFault
port_of name d = do
  object ← or_shape (path_of (codes "ports") name []) (as_object d)
  direction ← or_shape (path_of (codes "ports") name (codes "/direction"))
      (option_and_then direction_of (option_and_then as_str (get (codes "direction") d)))
  wires ← or_shape (path_of (codes "ports") name (codes "/bits")) (port_bits direction d)
  Ok (record { name = name; direction = direction; wires = wires })

-- ---- cells

abbrev pub connection_of : List ℕ → List ℕ → Data → Result FlatNet NetFault
connection_of cell port d = do
  wires ← or_shape (path_of (codes "cells") cell (codes "/connections/" ++ port)) (array_wires d)
  Ok (record { name = port; wires = wires })

abbrev pub cell_of : List ℕ → Data → Result SourceCell NetFault
cell_of name d = do
  object ← or_shape (path_of (codes "cells") name []) (as_object d)
  kind ← or_shape (path_of (codes "cells") name (codes "/type")) (option_and_then as_str (get (codes "type") d))
  ports ← or_shape (path_of (codes "cells") name (codes "/connections"))
      (option_and_then as_object (get (codes "connections") d))
  connections ← each (connection_of name) ports
  Ok (record { name = name; kind = kind; connections = connections })

-- ---- nets

abbrev pub net_of : List ℕ → Data → Result FlatNet NetFault
net_of name d = do
  object ← or_shape (path_of (codes "netnames") name []) (as_object d)
  wires ← or_shape (path_of (codes "netnames") name (codes "/bits")) (bits_of d)
  Ok (record { name = name; wires = wires })

-- ---- the module

abbrev pub module_of : List ℕ → Data → Result Source NetFault
module_of name d = do
  object ← or_shape (codes "modules/" ++ name) (as_object d)
  ports ← parts port_of (codes "ports") (get (codes "ports") d)
  cells ← parts cell_of (codes "cells") (get (codes "cells") d)
  nets ← parts net_of (codes "netnames") (get (codes "netnames") d)
  Ok (record { ports = ports; cells = cells; nets = nets })

-- the module of the name that is given, and else the only one
abbrev pub named_module : List ℕ → Option Data → Result Source NetFault
named_module name None = Err NoTop
named_module name (Some d) = module_of name d

abbrev pub only_module : Members → Result Source NetFault
only_module no_members = Err NoTop
only_module (member name d no_members) = module_of name d
only_module (member name d (member next e ms)) = Err ManyTops

abbrev pub module_in : Option (List ℕ) → Data → Members → Result Source NetFault
module_in (Some name) modules ms = named_module name (get name modules)
module_in None modules ms = only_module ms

abbrev pub source_of : Option (List ℕ) → Data → Result Source NetFault
source_of top d = do
  object ← or_shape (codes ".") (as_object d)
  modules ← or_shape (codes "modules") (get (codes "modules") d)
  members ← or_shape (codes "modules") (as_object modules)
  module_in top modules members
