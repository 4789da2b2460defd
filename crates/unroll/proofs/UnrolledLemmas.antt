-- The nodes of a walk make an unrolled run.
use Rattle.std.proofs.Common.{◌≡◌, ◌≢◌, ℕ, zero, suc, ◌<◌, ◌≤◌, ◌⊎◌, inl, inr, false, List, [], ◌∷◌, map, length, get_or, refl, sym, ◌∙◌, ap, subst, arith}
use Rattle.std.specs.Prelude.{Contains}
use Rattle.std.proofs.Math.ListN.{get_or-eq_default}
use Rattle.std.proofs.lemmas.List.{get_or-take}
use Rattle.std.proofs.lemmas.List.Elements.{Contains-get_or}
use Rattle.coco_base.specs.declared.labels.LabelTable.{LabelTable}
use Rattle.coco_base.specs.declared.netlist.Flat.{Flat}
use Rattle.coco_base.specs.declared.netlist.Wire.TheVariants.{Const, Bit}
use Rattle.coco_base.specs.declared.setup.Start.{Start}
use Rattle.coco_base.specs.declared.setup.Start.TheVariants.{Public}
use Rattle.coco_model.specs.Carried.{AreStarts, IsLabelled}
use Rattle.coco_model.specs.Cells.{input_count}
use Rattle.coco_model.specs.Netlist.{wires_of, IsCellBit}
use Rattle.coco_model.proofs.Basics.{any_from_member, some_from_any}
use Rattle.model_laws.proofs.Calms.{vary_bit, member_at}
use Rattle.model_laws.proofs.Ranks.{cell_bit_or_not}
use Rattle.coco_base.specs.declared.cell.Kind.{Kind}
use Rattle.coco_base.specs.declared.cell.Part.{Part}
use Rattle.coco_base.specs.declared.cell.Part.TheVariants.{Zero, Vary}
use Rattle.coco_base.specs.declared.netlist.FlatCell.{FlatCell}
use Rattle.coco_base.specs.declared.netlist.Wire.{Wire}
use Rattle.coco_base.specs.declared.setup.Setup.{Setup}
use Rattle.coco_base.specs.declared.unrolled.Node.{Node}
use Rattle.coco_base.specs.declared.unrolled.Node.TheVariants.{Nothing, Label, Copy, Gate}
use Rattle.coco_base.specs.declared.unrolled.Unrolled.{Unrolled}
use Rattle.coco_model.specs.Known.{wire_part}
use Rattle.coco_model.specs.Labels.{label_count}
use Rattle.coco_model.specs.Meaning.{HasMeaning}
use Rattle.coco_model.specs.Nodes.{part_operand, wire_operand, IsNodeOf, IsGateOf, AreNodesOf, IsUnrolled}
use Rattle.coco_model.specs.Roots.Root.{nothing, label}
use Rattle.coco_model.specs.Setups.{IsBoundTo}
use Rattle.coco_model.specs.Stepped.{IsGoodCycle, IsStepped}
use Rattle.coco_model.specs.UnrolledRuns.{IsGoodNode, IsUnrolledFor, IsUnrolledValue, IsUnrolledOf}
use Rattle.model_laws.proofs.Meanings.{meaning_law}
use Rattle.model_laws.proofs.Noded.{unrolled_law}
use Rattle.model_laws.proofs.Rooted.{IsNothingWhereKnown, nothing_where_known, root_law}
use Rattle.model_laws.proofs.UnrolledValues.{unrolled_run_law}
use Rattle.model_laws.specs.NodeLaws.{UnrolledRunLaw}
use Rattle.model_laws.specs.Laws.{IsChecked, MeaningLaw, RootLaw, UnrolledLaw}
use Rattle.gate_graph.specs.Graphs.{Gates, IsBuilt, rank_in}
use Rattle.unroll.specs.NodeRows.{nodes_of, HasFourPlaces}
use Rattle.unroll.specs.RootedRuns.{RootedRun, number_in, node_words}
use Rattle.unroll.specs.Walks.{IsNumbered, IsRunTo, AreAllNodes, HasNodes, listed_row}
use Rattle.unroll.proofs.NumberLemmas.{numbers_apart, ranks_apart, number_from, number_within}
use Rattle.unroll.proofs.SimLemmas.{same_row}
use Rattle.unroll.proofs.StepLemmas.{listed_inside, low_or_not}

-- an item of a list that was mapped
mapped_at : {X Y : Type 0} (f : X → Y) (d : X) (xs : List X) (j : ℕ) → get_or (map f xs) j (f d) ≡ f (get_or xs j d)
mapped_at f d [] j = refl
mapped_at f d (x ∷ xs) zero = refl
mapped_at f d (x ∷ xs) (suc j) = mapped_at f d xs j

read_labelled : (table : LabelTable) (starts : List Start) (i : ℕ) → ((s : Start) → Contains starts s → IsLabelled table s)
    → IsLabelled table (get_or starts i (Public false))
read_labelled table starts i all = go (low_or_not i (length starts))
  where
    go : (i < length starts) ⊎ (length starts ≤ i) → IsLabelled table (get_or starts i (Public false))
    go (inl low) = all _ (Contains-get_or starts i (Public false) low)
    go (inr high) = subst (IsLabelled table) (sym (get_or-eq_default starts (Public false) high)) tt

-- the starts of a bound setup are labels of its table
starts_labelled : (flat : Flat) (setup : Setup) → IsBoundTo flat setup → AreStarts (IsLabelled setup.table) flat setup
starts_labelled flat setup bound = record {
  flops = λ f h. read_labelled setup.table setup.starts f.output bound.labels;
  inputs = λ p h t. read_labelled setup.table p.values _ (bound.input_labels p h);
  words = λ w h k. read_labelled setup.table w.bits k (bound.word_labels w h);
}

module _ (g : Gates) (setup : Setup) (built : IsBuilt g) (bound : IsBoundTo g.flat setup) (cycles : ℕ) (some : 0 < cycles) (nodes : List Node)
    (has : HasNodes g setup cycles nodes) where
  unrolled : Unrolled
  unrolled = record { bits = g.flat.bits; cycles = cycles; ranks = g.ranks; nodes = nodes; table = setup.table }

  meaning : HasMeaning g.flat setup cycles
  unfolding MeaningLaw
  meaning = meaning_law g.flat setup cycles (rank_in g) built.ranked bound.bound built.one_driver built.range

  run : RootedRun
  run = record { row = meaning.row; word = meaning.word; root = meaning.root; rooted = meaning.rooted }

  is_run : IsRunTo g setup cycles run
  unfolding run
  is_run = record { known = meaning.known; roots = meaning.roots }

  all : AreAllNodes g setup cycles run nodes
  all = has.all run is_run

  stepped : IsStepped g.flat setup cycles run.row run.word
  stepped = record {
    known = is_run.known;
    good = λ t below. subst (IsGoodCycle g.flat setup)
        (same_row g setup built bound cycles has.no_fault.row run.row has.no_fault.word run.word has.no_fault.stepped.known is_run.known t below)
        (has.no_fault.stepped.good t below);
  }

  checked : IsChecked g.flat setup cycles (rank_in g) run.row run.word
  checked = record {
    ranked = built.ranked;
    bound = bound.bound;
    has_controls = bound.controls;
    known = is_run.known;
    controls = λ t below. (stepped.good t below).controls;
  }

  is_unrolled : IsUnrolled g.flat setup cycles (number_in g) run.row run.root (listed_row g nodes) (node_words setup (number_in g) run.row)
  is_unrolled = record {
    cells = λ t below. (all.nodes_are t below).cells;
    given = λ t below. (all.nodes_are t below).given;
    first = (all.nodes_are 0 some).leaves;
    next = λ t below. (all.nodes_are (suc t) below).leaves;
  }

  listed : (t b : ℕ) → t < cycles → b < g.flat.bits → nodes_of nodes (number_in g t b) ≡ listed_row g nodes t b
  listed t b below low = sym (listed_inside g nodes t b low)

  stand : AreNodesOf g.flat cycles (number_in g) run.row run.root (nodes_of nodes)
  unfolding UnrolledLaw checked run
  stand = unrolled_law g.flat setup cycles (record { rank = rank_in g; row = run.row; word = run.word; is = checked }) built.range
      run.root run.rooted is_run.roots (number_in g) (numbers_apart g built) (listed_row g nodes) (node_words setup (number_in g) run.row)
      is_unrolled (nodes_of nodes) listed

  by_root : (t b : ℕ) → t < cycles → IsNothingWhereKnown (run.row t b) (run.root t b)
  by_root t b below =
      (nothing_where_known g.flat setup cycles (rank_in g) run.row run.word checked run.root run.rooted is_run.roots t below).bits b

  -- the node of a bit with a root is something
  has_node : (t b : ℕ) → t < cycles → b < g.flat.bits → run.root t b ≢ nothing → nodes_of nodes (number_in g t b) ≢ Nothing
  has_node t b below low some_root e =
      some_root (subst (IsNodeOf g.flat (number_in g) run.row run.root t b) e (stand.each t b below low))

  labels_below : (t b l : ℕ) → t < cycles → run.root t b ≡ label l → l < label_count setup.table cycles
  unfolding RootLaw checked run
  labels_below t b l below e =
      (root_law g.flat setup cycles (record { rank = rank_in g; row = run.row; word = run.word; is = checked }) (starts_labelled g.flat setup bound)
      run.root run.rooted is_run.roots t b below).3.labels l e

  -- an input of a cell that varies has an earlier node
  input_node : (t : ℕ) (c : FlatCell) (n : ℕ) → t < cycles → Contains g.flat.cells c → Contains (wires_of c) (Bit n) → run.row t n ≡ Vary
      → (number_in g t n < number_in g t c.output) × (nodes_of nodes (number_in g t n) ≢ Nothing)
  input_node t c n below listed reads varies =
      let lower = built.ranked.cells c listed n reads in
      (omega arith, has_node t n below (built.range.inputs c listed (Bit n) reads) (λ e. (by_root t n below).known_if e varies))

  -- an input of a gate that varies has an earlier node
  gate_input : (t b : ℕ) (c : FlatCell) (kind : Kind) (parts : List Part) (operands : List ℕ) → t < cycles → Contains g.flat.cells c → c.output ≡ b
      → IsGateOf (number_in g t) (run.row t) c kind parts operands → (j : ℕ) → get_or parts j Zero ≡ Vary
      → (get_or operands j 0 < number_in g t b) × (nodes_of nodes (get_or operands j 0) ≢ Nothing)
  gate_input t b c kind parts operands below listed out gate j varies = found (vary_bit (run.row t) wire wire_varies)
    where
      inside : j < input_count kind
      inside = go (low_or_not j (input_count kind))
        where
          go : (j < input_count kind) ⊎ (input_count kind ≤ j) → j < input_count kind
          go (inl low) = low
          go (inr high) = absurd (let e = gate.others j high in cc)

      wire : Wire
      wire = get_or (wires_of c) j (Const false)

      wire_varies : wire_part (run.row t) wire ≡ Vary
      wire_varies =
          sym (mapped_at (wire_part (run.row t)) (Const false) (wires_of c) j) ∙ sym (ap (λ ps. get_or ps j Zero) gate.parts)
          ∙ get_or-take (input_count kind) parts j Zero inside ∙ varies

      operand_is : get_or operands j 0 ≡ wire_operand (run.row t) (number_in g t) wire
      operand_is =
          sym (get_or-take (input_count kind) operands j 0 inside) ∙ ap (λ os. get_or os j 0) gate.operands
          ∙ mapped_at (wire_operand (run.row t) (number_in g t)) (Const false) (wires_of c) j

      found : (n : ℕ) × (wire ≡ Bit n) → (get_or operands j 0 < number_in g t b) × (nodes_of nodes (get_or operands j 0) ≢ Nothing)
      found (n, is) =
          let row_varies : run.row t n ≡ Vary = sym (ap (wire_part (run.row t)) is) ∙ wire_varies in
          let number : get_or operands j 0 ≡ number_in g t n =
          operand_is ∙ ap (wire_operand (run.row t) (number_in g t)) is ∙ ap (λ p. part_operand p (number_in g t n)) row_varies in
          let node = input_node t c n below listed (member_at (wires_of c) j n is) row_varies in (
            subst (λ x. x < number_in g t b) (sym number) (subst (λ x. number_in g t n < number_in g t x) out node.0),
            subst (λ x. nodes_of nodes x ≢ Nothing) (sym number) node.1,
          )

  -- each node is good
  good_node : (t b : ℕ) → t < cycles → b < g.flat.bits → (node : Node) → HasFourPlaces node
      → IsNodeOf g.flat (number_in g) run.row run.root t b node → IsGoodNode unrolled (number_in g t b) node
  unfolding unrolled
  good_node t b below low Nothing places h = tt
  good_node t b below low (Label l) places h = labels_below t b l below h
  good_node t b below low (Copy j) places (s, c, earlier, inside, is, some_root, same) = (
    subst (λ x. x < number_in g t b) (sym is) (let f = number_within g built s t c inside earlier in let e = number_from g t b in omega arith),
    subst (λ x. nodes_of nodes x ≢ Nothing) (sym is) (has_node s c (omega arith) inside (λ e. some_root (same ∙ e))),
  )
  good_node t b below low (Gate kind parts operands) (parts_long, operands_long) (c, listed, out, root, gate) = record {
    parts_long = parts_long;
    operands_long = operands_long;
    others = gate.others;
    earlier = λ j varies. (gate_input t b c kind parts operands below listed out gate j varies).0;
    something = λ j varies. (gate_input t b c kind parts operands below listed out gate j varies).1;
  }

  -- a node that is no gate has no places, and a gate is a cell's
  four_places : (t b : ℕ) → t < cycles → b < g.flat.bits → HasFourPlaces (nodes_of nodes (number_in g t b))
  four_places t b below low = go (cell_bit_or_not g.flat b)
    where
      no_gate : (node : Node) → (IsCellBit g.flat b → ⊥) → IsNodeOf g.flat (number_in g) run.row run.root t b node → HasFourPlaces node
      no_gate Nothing none h = tt
      no_gate (Label l) none h = tt
      no_gate (Copy j) none h = tt
      no_gate (Gate kind parts operands) none h = absurd (none (any_from_member (λ (c : FlatCell). c.output ≡ b) g.flat.cells h.0 h.1 h.2))

      go : IsCellBit g.flat b ⊎ (IsCellBit g.flat b → ⊥) → HasFourPlaces (nodes_of nodes (number_in g t b))
      go (inr none) = no_gate (nodes_of nodes (number_in g t b)) none (stand.each t b below low)
      go (inl drives) =
          let d = some_from_any (λ (c : FlatCell). c.output ≡ b) g.flat.cells drives in
          subst HasFourPlaces (listed_inside g nodes t b low)
          (subst (λ x. HasFourPlaces (listed_row g nodes t x)) d.holds ((all.nodes_are t below).places d.member d.listed))

  good : IsUnrolledValue unrolled
  unfolding unrolled
  good = record {
    table = bound.table;
    as_long = has.as_long;
    ranks_long = built.ranks.as_long;
    ranks_below = built.ranks.below;
    ranks_apart = λ b c low high same. ranks_apart g built b c low high same;
    nodes = λ i h. each i (all.others i);
  }
    where
      each : (i : ℕ) → (nodes_of nodes i ≡ Nothing) ⊎ IsNumbered g cycles i → IsGoodNode unrolled i (nodes_of nodes i)
      each i (inl still) = subst (IsGoodNode unrolled i) (sym still) tt
      each i (inr is) =
          subst (λ x. IsGoodNode unrolled x (nodes_of nodes x)) (sym is.number)
          (good_node is.cycle is.bit is.earlier is.inside (nodes_of nodes (number_in g is.cycle is.bit)) (four_places is.cycle is.bit is.earlier is.inside)
          (stand.each is.cycle is.bit is.earlier is.inside))

  -- the nodes of a walk make an unrolled run
  pub unrolled_of : (bits : ℕ) (ranks : List ℕ) (all_nodes : List Node) (table : LabelTable) → bits ≡ g.flat.bits → ranks ≡ g.ranks
      → all_nodes ≡ nodes → table ≡ setup.table
      → IsUnrolledOf g.flat setup cycles (record { bits = bits; cycles = cycles; ranks = ranks; nodes = all_nodes; table = table })
  unfolding unrolled
  unrolled_of bits ranks all_nodes table bits_are ranks_are nodes_are table_is =
      subst (λ (n : ℕ). IsUnrolledOf g.flat setup cycles (record { bits = n; cycles = cycles; ranks = ranks; nodes = all_nodes; table = table })) (sym bits_are)
      (subst (λ (rs : List ℕ). IsUnrolledOf g.flat setup cycles (record { bits = g.flat.bits; cycles = cycles; ranks = rs; nodes = all_nodes; table = table })) (sym ranks_are)
      (subst (λ (ns : List Node). IsUnrolledOf g.flat setup cycles (record { bits = g.flat.bits; cycles = cycles; ranks = g.ranks; nodes = ns; table = table })) (sym nodes_are)
      (subst (λ (x : LabelTable). IsUnrolledOf g.flat setup cycles (record { bits = g.flat.bits; cycles = cycles; ranks = g.ranks; nodes = nodes; table = x })) (sym table_is) is)))
    where
      is : IsUnrolledOf g.flat setup cycles unrolled
      is = record {
        row = run.row;
        word = run.word;
        root = run.root;
        rooted = run.rooted;
        node = listed_row g nodes;
        node_word = node_words setup (number_in g) run.row;
        stepped = stepped;
        roots = is_run.roots;
        unrolled = is_unrolled;
        listed = listed;
        bits = refl;
        is_cycles = refl;
        same_table = refl;
        good = good;
      }

-- an unrolled run with the bits and ranks of a graph
pub unrolled_for : (g : Gates) (setup : Setup) → IsBuilt g → IsBoundTo g.flat setup → (cycles : ℕ) (u : Unrolled) → u.ranks ≡ g.ranks
    → IsUnrolledOf g.flat setup cycles u → IsUnrolledFor g.flat g.ranks u
unfolding UnrolledRunLaw
unrolled_for g setup built bound cycles u ranks is = record {
  bits = is.bits;
  same_ranks = ranks;
  leaves = λ t b below low none.
      (unrolled_run_law g.flat setup cycles (rank_in g) built.ranked built.range bound.bound bound.controls u is).leaves t b
      (subst (λ n. t < n) is.is_cycles below) (subst (λ n. b < n) is.bits low) none;
}
