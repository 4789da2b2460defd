-- The nodes of a run stand for its roots, and selections of nodes for selections of roots.
use Rattle.std.proofs.Common.{◌≡◌, ◌≢◌, ℕ, zero, suc, ◌<◌, ◌⊎◌, inl, inr, Bool, true, false, cond, List, [], ◌∷◌, refl, sym, subst, arith}
use Rattle.std.specs.Prelude.{Contains}
use Rattle.coco_base.specs.declared.cell.Part.{Part}
use Rattle.coco_base.specs.declared.cell.Part.TheVariants.{Zero, One, Vary}
use Rattle.coco_base.specs.declared.netlist.Flat.{Flat}
use Rattle.coco_base.specs.declared.netlist.FlatCell.{FlatCell}
use Rattle.coco_base.specs.declared.netlist.FlatFlop.{FlatFlop}
use Rattle.coco_base.specs.declared.netlist.FlatPort.{FlatPort}
use Rattle.coco_base.specs.declared.netlist.Wire.{Wire}
use Rattle.coco_base.specs.declared.netlist.Wire.TheVariants.{Const, Bit}
use Rattle.coco_base.specs.declared.setup.Start.{Start}
use Rattle.coco_base.specs.declared.setup.Start.TheVariants.{Public, Label as LabelStart, Fresh}
use Rattle.coco_base.specs.declared.labels.LabelTable.{LabelTable}
use Rattle.coco_base.specs.declared.setup.Setup.{Setup}
use Rattle.coco_base.specs.declared.unrolled.Node.{Node}
use Rattle.coco_base.specs.declared.unrolled.Node.TheVariants.{Nothing, Label, Copy, Gate}
use Rattle.coco_model.specs.Netlist.{IsInRange, IsWireBelow, IsCellBit, IsFlopBit, IsInputBit, bits_in}
use Rattle.coco_model.specs.Carried.{start_state}
use Rattle.coco_model.specs.Run.{before}
use Rattle.coco_model.specs.Known.{Row, ones}
use Rattle.coco_model.specs.Roots.{Root, roots, IsKept, HasCellRoot, IsRooted}
use Rattle.coco_model.specs.Roots.Root.{nothing, label, output}
use Rattle.coco_model.specs.Nodes.{IsOwnGate, IsNodeOf, starting_nodes, copy_of, HasCellNode, IsUnrolled}
use Rattle.coco_model.proofs.Basics.{Contains-here, Contains-later, Contains-cases, Contains-none, some_from_any}
use Rattle.model_laws.proofs.Lists.{IsJoined, joined_of_flat_map}
use Rattle.model_laws.proofs.Ranks.{flop_bit_or_not, input_bit_or_not}
use Rattle.model_laws.proofs.Carry.{first-linked, next-linked, start_word-linked, stored_word-linked, along}
use Rattle.model_laws.proofs.Knowing.{IsAnyStart, any_starts}
use Rattle.model_laws.proofs.Calms.{vary_or_not}
use Rattle.model_laws.proofs.Unique.{same_requests, before_earlier, kept_or_not}
use Rattle.model_laws.proofs.Rooted.{IsNothingWhereKnown, nothing_where_known, by_driver}
use Rattle.model_laws.specs.Laws.{IsChecked, UnrolledLaw}

-- a bit among wires that are below a number is below it
bits_in_below : (n : ℕ) (ws : List Wire) → ((w : Wire) → Contains ws w → IsWireBelow n w) → (b : ℕ) → Contains (bits_in ws) b → b < n
bits_in_below n [] below b h = absurd (Contains-none b h)
bits_in_below n (Const x ∷ ws) below b h = bits_in_below n ws (λ w i. below w (Contains-later (Const x) w ws i)) b h
bits_in_below n (Bit a ∷ ws) below b h =
    go (Contains-cases a b (bits_in ws) h) (λ i. bits_in_below n ws (λ w j. below w (Contains-later (Bit a) w ws j)) b i)
  where
    go : (a ≡ b) ⊎ Contains (bits_in ws) b → (Contains (bits_in ws) b → b < n) → b < n
    go (inl e) rest = subst (λ x. x < n) e (below (Bit a) (Contains-here (Bit a) ws))
    go (inr i) rest = rest i

input_below : (flat : Flat) → IsInRange flat → (b : ℕ) → IsInputBit flat b → b < flat.bits
input_below flat range b h = go (joined_of_flat_map (λ (p : FlatPort). cond p.input (bits_in p.wires) []) flat.ports b h)
  where
    at_port : (p : FlatPort) → Contains flat.ports p → (x : Bool) → Contains (cond x (bits_in p.wires) []) b → b < flat.bits
    at_port p listed true i = bits_in_below flat.bits p.wires (range.ports p listed) b i
    at_port p listed false i = absurd (Contains-none b i)

    go : IsJoined (λ (p : FlatPort). cond p.input (bits_in p.wires) []) flat.ports b → b < flat.bits
    go r = at_port r.source r.listed r.source.input r.member

-- an unknown bit is a bit of the netlist
unknown_below : (flat : Flat) (setup : Setup) (cycles : ℕ) (rank : ℕ → ℕ) (row : ℕ → Row) (word : ℕ → ℕ → Row)
    → IsChecked flat setup cycles rank row word → IsInRange flat
    → (t : ℕ) → t < cycles → (b : ℕ) → row t b ≡ Vary → b < flat.bits
unknown_below flat setup cycles rank row word checked range t below =
    by_driver flat (λ b. row t b ≡ Vary → b < flat.bits) leaves (λ c listed varies. range.outputs c listed)
  where
    leaves : (b : ℕ) → (IsCellBit flat b → ⊥) → row t b ≡ Vary → b < flat.bits
    leaves b none varies = go (flop_bit_or_not flat b) (input_bit_or_not flat b)
      where
        go : IsFlopBit flat b ⊎ (IsFlopBit flat b → ⊥) → IsInputBit flat b ⊎ (IsInputBit flat b → ⊥) → b < flat.bits
        go (inl h) other =
            let s = some_from_any (λ (f : FlatFlop). f.output ≡ b) flat.flops h in subst (λ x. x < flat.bits) s.holds (range.flops s.member s.listed)
        go (inr no_flop) (inl h) = input_below flat range b h
        go (inr no_flop) (inr no_input) =
            absurd (let e = (checked.known.carried.given t below).undriven b (record { no_input = no_input; no_flop = no_flop; no_cell = none }) in cc)

-- the node of a leaf, or of a bit of a memory word, stands for its root: nothing, a label, or a copy of an earlier node with that root
abbrev IsLeafNode : Flat → (ℕ → ℕ → ℕ) → (ℕ → ℕ → Root) → ℕ → Root → Node → Type 0
IsLeafNode flat index root t r Nothing = r ≡ nothing
IsLeafNode flat index root t r (Label l) = r ≡ label l
IsLeafNode flat index root t r (Copy j) = (s : ℕ) × (c : ℕ) × (s < t) × (c < flat.bits) × (j ≡ index s c) × (r ≢ nothing) × (r ≡ root s c)
IsLeafNode flat index root t r (Gate kind parts operands) = ⊥

leaf_node_later : (flat : Flat) (index : ℕ → ℕ → ℕ) (root : ℕ → ℕ → Root) (t : ℕ) (r : Root) (node : Node)
    → IsLeafNode flat index root t r node → IsLeafNode flat index root (suc t) r node
leaf_node_later flat index root t r Nothing h = h
leaf_node_later flat index root t r (Label l) h = h
leaf_node_later flat index root t r (Copy j) (s, c, lt, inside, is, some, same) = (s, c, omega arith, inside, is, some, same)
leaf_node_later flat index root t r (Gate kind parts operands) h = h

node_starts : (flat : Flat) (index : ℕ → ℕ → ℕ) (root : ℕ → ℕ → Root) (table : LabelTable) (t : ℕ) (start : Start)
    → IsLeafNode flat index root t (start_state roots table t start) (start_state starting_nodes table t start)
node_starts flat index root table t (Public b) = refl
node_starts flat index root table t (LabelStart l) = refl
node_starts flat index root table t (Fresh j) = refl

-- a bit of a cycle, as the source of a later leaf
record IsSource (flat : Flat) (index : ℕ → ℕ → ℕ) (root : ℕ → ℕ → Root) (t : ℕ) (r : Root) (node : Node) : Type 0 where
  later : IsLeafNode flat index root (suc t) r node

copy_source : (flat : Flat) (index : ℕ → ℕ → ℕ) (row : ℕ → Row) (root : ℕ → ℕ → Root) (t b : ℕ) → IsNothingWhereKnown (row t b) (root t b)
    → (row t b ≡ Vary → b < flat.bits)
    → IsSource flat index root t (root t b) (copy_of (row t b) (index t b))
copy_source flat index row root t b known inside = record { later = go (row t b) refl }
  where
    go : (p : Part) → row t b ≡ p → IsLeafNode flat index root (suc t) (root t b) (copy_of p (index t b))
    go Zero e = known.nothing_if (λ f. cc)
    go One e = known.nothing_if (λ f. cc)
    go Vary e = (t, b, omega arith, inside e, refl, (λ f. known.known_if f e), refl)

-- what holds of the nodes of a cycle
record HasLeafNodes (flat : Flat) (index : ℕ → ℕ → ℕ) (root : ℕ → ℕ → Root) (t : ℕ) (rooted : ℕ → ℕ → Root) (node : ℕ → Node)
    (node_word : ℕ → ℕ → Node) : Type 0 where
  leaves : (b : ℕ) → (IsCellBit flat b → ⊥) → IsLeafNode flat index root t (root t b) (node b)
  words : (address k : ℕ) → IsLeafNode flat index root t (rooted address k) (node_word address k)

leaf_nodes : (flat : Flat) (setup : Setup) (cycles : ℕ) (rank : ℕ → ℕ) (row : ℕ → Row) (word : ℕ → ℕ → Row)
    → IsChecked flat setup cycles rank row word → IsInRange flat
    → (root : ℕ → ℕ → Root) (rooted : ℕ → ℕ → ℕ → Root) → IsRooted flat setup cycles row root rooted
    → (index : ℕ → ℕ → ℕ) (node : ℕ → ℕ → Node) (node_word : ℕ → ℕ → ℕ → Node) → IsUnrolled flat setup cycles index row root node node_word
    → (t : ℕ) → t < cycles → HasLeafNodes flat index root t (rooted t) (node t) (node_word t)
leaf_nodes flat setup cycles rank row word checked range root rooted is_rooted index node node_word unrolled zero below = record {
  leaves = first-linked roots starting_nodes IsAnyStart flat setup (root 0) (node 0) (rooted 0) (node_word 0) (IsLeafNode flat index root 0)
      (λ b. refl) (λ start any. node_starts flat index root setup.table 0 start) checked.bound (any_starts flat setup)
      (is_rooted.carried.given 0 below) (unrolled.given 0 below) is_rooted.carried.first unrolled.first;
  words = λ address k. along (IsLeafNode flat index root 0) (is_rooted.carried.first.words address k) (unrolled.first.words address k)
      (start_word-linked (IsLeafNode flat index root 0) roots starting_nodes setup IsAnyStart (λ b. refl) (λ start any. node_starts flat index root setup.table 0 start) setup.words (λ w h k. tt) address k);
}
leaf_nodes flat setup cycles rank row word checked range root rooted is_rooted index node node_word unrolled (suc t) below =
    next (leaf_nodes flat setup cycles rank row word checked range root rooted is_rooted index node node_word unrolled t (omega arith))
  where
    source : (b : ℕ) → IsSource flat index root t (root t b) (copy_of (row t b) (index t b))
    source b =
        copy_source flat index row root t b ((nothing_where_known flat setup cycles rank row word checked root rooted is_rooted t (omega arith)).bits b)
        (unknown_below flat setup cycles rank row word checked range t (omega arith) b)

    next : HasLeafNodes flat index root t (rooted t) (node t) (node_word t)
        → HasLeafNodes flat index root (suc t) (rooted (suc t)) (node (suc t)) (node_word (suc t))
    next old = record {
      leaves =
          next-linked roots starting_nodes IsAnyStart flat setup (suc t) (ones (row t)) (ones (row t)) (root t) (root (suc t))
          (λ b. copy_of (row t b) (index t b)) (node (suc t))
          (rooted t) (rooted (suc t)) (node_word t) (node_word (suc t))
          (IsLeafNode flat index root (suc t)) (IsSource flat index root t) (IsLeafNode flat index root t)
          (λ b. refl) (λ start any. node_starts flat index root setup.table (suc t) start) (λ r n h. h.later)
          (λ r n h. leaf_node_later flat index root t r n h)
          checked.bound (any_starts flat setup) (λ mem h. same_requests (ones (row t)) (ones (row t)) refl mem)
          (is_rooted.carried.given (suc t) below) (unrolled.given (suc t) below) (is_rooted.carried.next t below)
          (unrolled.next t below) source old.words;
      words =
          λ address k. along (IsLeafNode flat index root (suc t)) ((is_rooted.carried.next t below).words address k)
          ((unrolled.next t below).words address k)
          (stored_word-linked (IsLeafNode flat index root (suc t)) (IsSource flat index root t) roots starting_nodes (ones (row t)) (ones (row t)) (root t) (λ b. copy_of (row t b) (index t b))
          (λ b. refl) (λ r n h. h.later) source setup.memories (λ mem h. same_requests (ones (row t)) (ones (row t)) refl mem)
          address k (rooted t address k) (node_word t address k)
          (leaf_node_later flat index root t (rooted t address k) (node_word t address k) (old.words address k)));
    }

-- a leaf's node is a node of its bit
leaf_is_node : (flat : Flat) (index : ℕ → ℕ → ℕ) (row : ℕ → Row) (root : ℕ → ℕ → Root) (t b : ℕ) (node : Node)
    → IsLeafNode flat index root t (root t b) node → IsNodeOf flat index row root t b node
leaf_is_node flat index row root t b Nothing h = h
leaf_is_node flat index row root t b (Label l) h = h
leaf_is_node flat index row root t b (Copy j) h = h
leaf_is_node flat index row root t b (Gate kind parts operands) h = absurd h

gate_is_node : (flat : Flat) (index : ℕ → ℕ → ℕ) (row : ℕ → Row) (root : ℕ → ℕ → Root) (t : ℕ) (c : FlatCell) → Contains flat.cells c
    → root t c.output ≡ output t c.output
    → (node : Node) → IsOwnGate (index t) (row t) c node → IsNodeOf flat index row root t c.output node
gate_is_node flat index row root t c listed own Nothing h = absurd h
gate_is_node flat index row root t c listed own (Label l) h = absurd h
gate_is_node flat index row root t c listed own (Copy j) h = absurd h
gate_is_node flat index row root t c listed own (Gate kind parts operands) h = (c, listed, refl, own, h)

pub unrolled_law : UnrolledLaw
unfolding UnrolledLaw
unrolled_law flat setup cycles sim range root rooted is_rooted index apart node node_word unrolled nodes same = record {
  each = λ t b below inside. subst (IsNodeOf flat index sim.row root t b) (sym (same t b below inside))
      (by_driver flat (λ b. IsNodeOf flat index sim.row root t b (node t b))
      (λ b none. leaf_is_node flat index sim.row root t b (node t b)
      ((leaf_nodes flat setup cycles sim.rank sim.row sim.word sim.is range root rooted is_rooted index node node_word unrolled t below).leaves b none))
      (λ c listed. cell t below c listed) b);
  apart = apart;
}
  where
    cell : (t : ℕ) → t < cycles → (c : FlatCell) → Contains flat.cells c
        → IsNodeOf flat index sim.row root t c.output (node t c.output)
    cell t below c listed = go (vary_or_not (sim.row t c.output)) (kept_or_not sim.row root t c)
      where
        has : HasCellNode index sim.row root t c (node t c.output)
        has = unrolled.cells t below c listed

        root_is : HasCellRoot sim.row root t c
        root_is = is_rooted.cells t below c listed

        known : IsNothingWhereKnown (sim.row t c.output) (root t c.output)
        known = (nothing_where_known flat setup cycles sim.rank sim.row sim.word sim.is root rooted is_rooted t below).bits c.output

        go : (sim.row t c.output ≡ Vary) ⊎ (sim.row t c.output ≢ Vary) → IsKept sim.row root t c ⊎ (IsKept sim.row root t c → ⊥)
            → IsNodeOf flat index sim.row root t c.output (node t c.output)
        go (inr n) kept = subst (IsNodeOf flat index sim.row root t c.output) (sym (has.known n)) (root_is.known n)
        go (inl varies) (inl kept) = subst (IsNodeOf flat index sim.row root t c.output) (sym (has.kept varies kept))
            (before t, c.output, before_earlier sim.row root t c kept, range.outputs c listed, refl, (λ e. known.known_if e varies), root_is.kept varies kept)
        go (inl varies) (inr own) =
            gate_is_node flat index sim.row root t c listed (root_is.own varies own) (node t c.output) (has.own varies own)
