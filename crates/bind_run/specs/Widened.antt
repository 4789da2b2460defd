-- A netlist with its word leaves: an input port of 32 bits for each `leaf` line.
use Rattle.std.specs.Prelude.{◌≡◌, ℕ, ◌+◌, ◌*◌, nat_lt, true, if◌then◌else◌, List, [], ◌∷◌, map, flat_map, length, is_some, Option, Some, None, Result, Ok, Err}
use Rattle.std.specs.Cmp.Lexicographic.{slice_cmp}
use Rattle.std.specs.List.{range_with_len}
use Rattle.std.specs.Ordering.{is_lt, nat_cmp}
use Rattle.coco_base.specs.declared.netlist.Flat.{Flat}
use Rattle.coco_base.specs.declared.netlist.FlatPort.{FlatPort}
use Rattle.coco_base.specs.declared.netlist.Wire.TheVariants.{Bit}
use Rattle.coco_model.specs.Netlist.{IsInRange}
use Rattle.gate_graph.specs.declared.fault.GraphFault.{GraphFault}
use Rattle.gate_graph.specs.declared.fault.GraphFault.TheVariants as graph
use Rattle.gate_graph.specs.Drivers.{HasNumbers}
use Rattle.gate_graph.specs.Faults.{IsGraphFault}
use Rattle.label_file.specs.declared.line.LabelLine.{LabelLine}
use Rattle.label_file.specs.Conditions.{named_leaves}
use Rattle.bind_run.specs.declared.fault.BindFault.{BindFault}
use Rattle.bind_run.specs.declared.fault.BindFault.TheVariants as fault
use Rattle.bind_run.specs.Needs.{leaf_name}
use Rattle.bind_run.specs.Nets.{Named, names_of, wires_named}

-- how many bits a memory word has
unfoldable pub leaf_bits : ℕ
leaf_bits = 32

-- the addresses of `leaf` lines, in order
abbrev pub leaf_addresses : List LabelLine → List ℕ
leaf_addresses lines = flat_map named_leaves lines

-- the port of a word, whose bits have the numbers from the first on
abbrev pub leaf_port : ℕ → ℕ → FlatPort
leaf_port first address =
    record { name = leaf_name address; input = true; wires = map Bit (range_with_len first leaf_bits) }

-- a port among ports in order of names, before the first whose name is greater
abbrev pub with_port : FlatPort → List FlatPort → List FlatPort
with_port p [] = p ∷ []
with_port p (q ∷ qs) = if is_lt (slice_cmp nat_cmp p.name q.name) then p ∷ q ∷ qs else q ∷ with_port p qs

-- ports with those of words, the first of which has the bits from the number given on
abbrev pub with_leaves : ℕ → List FlatPort → List ℕ → List FlatPort
with_leaves first ports [] = ports
with_leaves first ports (a ∷ others) =
    with_leaves (first + leaf_bits) (with_port (leaf_port first a) ports) others

abbrev pub bits_with : Flat → List ℕ → ℕ
bits_with flat addresses = flat.bits + leaf_bits * length addresses

abbrev pub widened : Flat → List ℕ → Flat
widened flat addresses =
    record {
      bits = bits_with flat addresses;
      ports = with_leaves flat.bits flat.ports addresses;
      cells = flat.cells;
      flops = flat.flops;
      nets = flat.nets;
    }

-- the first port of words whose name is among names
abbrev pub first_taken : List Named → List ℕ → Option (List ℕ)
first_taken names [] = None
first_taken names (a ∷ others) =
    if is_some (wires_named names (leaf_name a)) then Some (leaf_name a) else first_taken names others

abbrev pub or_taken : Flat → ℕ → List ℕ → Option (List ℕ) → Result Flat BindFault
or_taken flat limit addresses (Some name) = Err (fault.NameTaken name)
or_taken flat limit addresses None =
    if nat_lt limit (bits_with flat addresses)
    then Err (fault.LeafBits (bits_with flat addresses) limit)
    else Ok (widened flat addresses)

-- the netlist with the ports of `leaf` lines; or the first of them whose name is taken; or how many bits it would have,
-- where they are above the limit
abbrev pub widened_by : Flat → List LabelLine → ℕ → Result Flat BindFault
widened_by flat lines limit =
    or_taken flat limit (leaf_addresses lines) (first_taken (names_of flat) (leaf_addresses lines))

-- a netlist has a graph: it may be built, and nothing but want of memory refuses it
pub record HasGraph (flat : Flat) : Type 0 where
  pub range : IsInRange flat
  pub numbers : HasNumbers flat
  pub no_fault : (f : GraphFault) → IsGraphFault flat f → f ≡ graph.Memory
