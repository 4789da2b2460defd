-- What nodes that stand for roots lead to, and selections of nodes and of roots.
use Rattle.std.proofs.Common.{◌≡◌, ◌≢◌, ℕ, zero, suc, ◌<◌, ◌≤◌, true, false, List, [], ◌∷◌, ◌++◌, map, get_or, refl, sym, ◌∙◌, ap, subst, arith}
use Rattle.std.specs.Prelude.{Contains, nat_eq, Some}
use Rattle.std.proofs.Math.ListN.{get_or-map}
use Rattle.coco_base.specs.declared.cell.Kind.{Kind}
use Rattle.coco_base.specs.declared.cell.Part.{Part}
use Rattle.coco_base.specs.declared.cell.Part.TheVariants.{Vary}
use Rattle.coco_base.specs.declared.netlist.Flat.{Flat}
use Rattle.coco_base.specs.declared.netlist.FlatCell.{FlatCell}
use Rattle.coco_base.specs.declared.netlist.FlatFlop.{FlatFlop}
use Rattle.coco_base.specs.declared.netlist.Wire.{Wire}
use Rattle.coco_base.specs.declared.netlist.Wire.TheVariants.{Const, Bit}
use Rattle.coco_base.specs.declared.unrolled.Node.{Node}
use Rattle.coco_base.specs.declared.unrolled.Node.TheVariants.{Nothing, Label, Copy, Gate}
use Rattle.coco_model.specs.Cells.{xor, Subset, IsSubsetOf, signed_sum, input_places}
use Rattle.coco_model.specs.Netlist.{wires_of, IsInRange, HasOneDriver, HasNoRepeat, input_bits}
use Rattle.coco_model.specs.Known.{Row, wire_part, cell_parts}
use Rattle.coco_model.specs.Roots.{Root, wire_root}
use Rattle.coco_model.specs.Roots.Root.{nothing, label, output}
use Rattle.coco_model.specs.Findings.{Labels, chosen_set, IsChosen}
use Rattle.coco_model.specs.Nodes.{part_operand, wire_operand, IsGateOf, IsNodeOf, LeadsTo, AreNodesOf, IsNodeSet}
use Rattle.coco_model.specs.Nodes.LeadsTo.{stays, goes}
use Rattle.coco_model.proofs.Basics.{Contains-here, Contains-later}
use Rattle.model_laws.proofs.Apart.{apart_parts}
use Rattle.model_laws.proofs.Solved.{outputs, driver_of, driver_of-listed}
use Rattle.model_laws.specs.Laws.{AreNodeSets, NodesLaw, NodeSetsLaw, RootSetsLaw}

-- the bit and cycle of a node's origin, which has the same root
pub record HasOrigin (flat : Flat) (index : ℕ → ℕ → ℕ) (root : ℕ → ℕ → Root) (r : Root) (origin : ℕ) : Type 0 where
  pub cycle : ℕ
  pub bit : ℕ
  pub inside : bit < flat.bits
  pub number : origin ≡ index cycle bit
  pub same : r ≡ root cycle bit

pub node_at : (flat : Flat) (cycles : ℕ) (index : ℕ → ℕ → ℕ) (row : ℕ → Row) (root : ℕ → ℕ → Root) (nodes : ℕ → Node)
    → AreNodesOf flat cycles index row root nodes
    → (t b : ℕ) → t < cycles → b < flat.bits → (node : Node) → nodes (index t b) ≡ node → IsNodeOf flat index row root t b node
node_at flat cycles index row root nodes are t b below inside node e =
    subst (IsNodeOf flat index row root t b) e (are.each t b below inside)

origin_of : (flat : Flat) (cycles : ℕ) (index : ℕ → ℕ → ℕ) (row : ℕ → Row) (root : ℕ → ℕ → Root) (nodes : ℕ → Node)
    → AreNodesOf flat cycles index row root nodes
    → (o i : ℕ) → LeadsTo nodes o i → (t b : ℕ) → t < cycles → b < flat.bits → i ≡ index t b → HasOrigin flat index root (root t b) o
origin_of flat cycles index row root nodes are o i stays t b below inside is =
    record { cycle = t; bit = b; inside = inside; number = is; same = refl }
origin_of flat cycles index row root nodes are o i (goes k j copy rest) t b below inside is =
    let n = node_at flat cycles index row root nodes are t b below inside (Copy j) (ap nodes (sym is) ∙ copy) in
    later n (λ s c lt ok number. origin_of flat cycles index row root nodes are o j rest s c lt ok number)
  where
    later : (s : ℕ) × (c : ℕ) × (s < t) × (c < flat.bits) × (j ≡ index s c) × (root t b ≢ nothing) × (root t b ≡ root s c)
        → ((s c : ℕ) → s < cycles → c < flat.bits → j ≡ index s c → HasOrigin flat index root (root s c) o)
        → HasOrigin flat index root (root t b) o
    later (s, c, lt, ok, number, some, same) next =
        let r = next s c (omega arith) ok number in record { cycle = r.cycle; bit = r.bit; inside = r.inside; number = r.number; same = same ∙ r.same }

-- the sources of a cycle's nodes are of earlier cycles, so an induction on cycles goes through them
leads_to_output : (flat : Flat) (cycles : ℕ) (index : ℕ → ℕ → ℕ) (row : ℕ → Row) (root : ℕ → ℕ → Root) (nodes : ℕ → Node)
    → AreNodesOf flat cycles index row root nodes
    → (n t b s c : ℕ) → t < n → t < cycles → b < flat.bits → root t b ≡ output s c → LeadsTo nodes (index s c) (index t b)
leads_to_output flat cycles index row root nodes are zero t b s c lt below inside is = absurd (omega arith)
leads_to_output flat cycles index row root nodes are (suc n) t b s c lt below inside is =
    go (nodes (index t b)) refl (are.each t b below inside)
    (λ u d earlier ok e. leads_to_output flat cycles index row root nodes are n u d s c (omega arith) (omega arith) ok e)
  where
    go : (node : Node) → nodes (index t b) ≡ node → IsNodeOf flat index row root t b node
        → ((u d : ℕ) → u < t → d < flat.bits → root u d ≡ output s c → LeadsTo nodes (index s c) (index u d))
        → LeadsTo nodes (index s c) (index t b)
    go Nothing e h lower = absurd cc
    go (Label l) e h lower = absurd cc
    go (Copy j) e (u, d, earlier, ok, number, some, same) lower =
        goes (index t b) j e (subst (LeadsTo nodes (index s c)) (sym number) (lower u d earlier ok (sym same ∙ is)))
    go (Gate kind parts operands) e (x, listed, drives, own, gate) lower =
        let f : t ≡ s = cc in let g : b ≡ c = cc in
        subst (λ i. LeadsTo nodes (index s c) i) (ap (λ u. index u c) (sym f) ∙ ap (index t) (sym g)) stays

pub nodes_law : NodesLaw
unfolding NodesLaw
nodes_law flat cycles index row root nodes are = record {
  origin = λ o t b s c below inside below' inside' one other.
      joined o t b s c (origin_of flat cycles index row root nodes are o (index t b) one t b below inside refl)
      (origin_of flat cycles index row root nodes are o (index s c) other s c below' inside' refl);
  output = λ t b s c below inside is. leads_to_output flat cycles index row root nodes are (suc t) t b s c (omega arith) below inside is;
}
  where
    joined : (o t b s c : ℕ) → HasOrigin flat index root (root t b) o → HasOrigin flat index root (root s c) o → root t b ≡ root s c
    joined o t b s c one other =
        let e = are.apart one.cycle one.bit other.cycle other.bit one.inside other.inside (sym one.number ∙ other.number) in
        one.same ∙ ap (λ u. root u one.bit) e.0 ∙ ap (root other.cycle) e.1 ∙ sym other.same

-- sets of the places that are chosen, where each chosen place has the same set on both sides
chosen_same : {X Y : Type 0} (one : X → Labels) (other : Y → Labels) (f : X → Y) (subset : Subset) (xs : List X) (l : ℕ)
    → ((place : ℕ) (x : X) → get_or subset place false ≡ true → ((d : X) → get_or xs place d ≡ x) → Contains xs x → one x l ≡ other (f x) l)
    → chosen_set one subset xs l ≡ chosen_set other subset (map f xs) l
chosen_same one other f [] xs l same = refl
chosen_same one other f (s ∷ ss) [] l same = refl
chosen_same one other f (false ∷ ss) (x ∷ xs) l same =
    chosen_same one other f ss xs l (λ place y h e i. same (suc place) y h e (Contains-later x y xs i))
chosen_same one other f (true ∷ ss) (x ∷ xs) l same =
    ap (λ b. xor b (chosen_set one ss xs l)) (same 0 x refl (λ d. refl) (Contains-here x xs))
    ∙ ap (xor (other (f x) l)) (chosen_same one other f ss xs l (λ place y h e i. same (suc place) y h e (Contains-later x y xs i)))

-- a chosen wire is an unknown bit
chosen_bit : (row : Row) (ws : List Wire) (subset : Subset) → IsSubsetOf subset (map (wire_part row) ws) → (place : ℕ) (w : Wire)
    → get_or subset place false ≡ true
    → ((d : Wire) → get_or ws place d ≡ w) → (n : ℕ) × (w ≡ Bit n) × (row n ≡ Vary)
chosen_bit row ws subset within place w chosen at = go w part
  where
    part : wire_part row w ≡ Vary
    part =
        ap (wire_part row) (sym (at (Const false))) ∙ sym (get_or-map (wire_part row) ws place (Const false)) ∙ within.varies place chosen

    go : (w : Wire) → wire_part row w ≡ Vary → (n : ℕ) × (w ≡ Bit n) × (row n ≡ Vary)
    go (Const false) e = absurd cc
    go (Const true) e = absurd cc
    go (Bit n) e = (n, refl, e)

-- the chosen sets of a cell's wires by their roots are those of the operands of its gate
same_choice : (flat : Flat) (cycles : ℕ) (index : ℕ → ℕ → ℕ) (row : ℕ → Row) (root : ℕ → ℕ → Root) (set_of : Root → Labels)
    (sets : ℕ → Labels) → IsInRange flat
    → (t : ℕ) → ((b l : ℕ) → b < flat.bits → sets (index t b) l ≡ set_of (root t b) l)
    → (c : FlatCell) → Contains flat.cells c → (kind : Kind) (gate_parts : List Part) (operands : List ℕ)
    → IsGateOf (index t) (row t) c kind gate_parts operands
    → (subset : Subset) → IsSubsetOf subset (cell_parts (row t) c) → (l : ℕ)
    → chosen_set (λ w. set_of (wire_root (root t) w)) subset (wires_of c) l ≡ chosen_set sets subset (input_places kind operands) l
same_choice flat cycles index row root set_of sets range t same c listed kind gate_parts operands gate subset within l =
    chosen_same (λ w. set_of (wire_root (root t) w)) sets (wire_operand (row t) (index t)) subset (wires_of c) l at_place
    ∙ ap (λ os. chosen_set sets subset os l) (sym gate.operands)
  where
    at_place : (place : ℕ) (w : Wire) → get_or subset place false ≡ true → ((d : Wire) → get_or (wires_of c) place d ≡ w)
        → Contains (wires_of c) w
        → set_of (wire_root (root t) w) l ≡ sets (wire_operand (row t) (index t) w) l
    at_place place w chosen at member = go (chosen_bit (row t) (wires_of c) subset within place w chosen at)
      where
        go : (n : ℕ) × (w ≡ Bit n) × (row t n ≡ Vary) → set_of (wire_root (root t) w) l ≡ sets (wire_operand (row t) (index t) w) l
        go (n, is, varies) =
            subst (λ x. set_of (wire_root (root t) x) l ≡ sets (wire_operand (row t) (index t) x) l) (sym is)
            (sym (same n l (range.inputs c listed (Bit n) (subst (Contains (wires_of c)) is member))) ∙ ap (λ i. sets i l) (sym (ap (λ p. part_operand p (index t n)) varies)))

pub node_sets_law : NodeSetsLaw
unfolding NodeSetsLaw
node_sets_law flat cycles index row root nodes are range set_of selection sets same t b below inside =
    go (nodes (index t b)) (are.each t b below inside)
  where
    go : (node : Node) → IsNodeOf flat index row root t b node → IsNodeSet sets (index t b) node
    go Nothing is = λ l. same t b l below inside ∙ ap (λ r. set_of r l) is ∙ selection.empty l
    go (Label k) is = λ l. same t b l below inside ∙ ap (λ r. set_of r l) is ∙ selection.single k l
    go (Copy j) (s, c, lt, ok, number, some, is) = λ l.
        same t b l below inside ∙ ap (λ r. set_of r l) is ∙ sym (same s c l (omega arith) ok) ∙ ap (λ i. sets i l) (sym number)
    go (Gate kind parts operands) (c, listed, drives, own, gate) =
        let own_bit : root t c.output ≡ output t c.output = subst (λ x. root t x ≡ output t x) (sym drives) own in
        let chosen : IsChosen set_of (row t) (root t) c (set_of (output t c.output)) = selection.outputs t below c listed own_bit in
        record {
          subset = chosen.subset;
          choice = record {
            varies = subst (IsSubsetOf chosen.subset) (sym gate.parts) chosen.unknown;
            signed =
                λ e. chosen.signed (ap (λ ps. signed_sum c.kind ps chosen.subset) (sym gate.parts) ∙ ap (λ k. signed_sum k (input_places kind parts) chosen.subset) (sym gate.kinds) ∙ e);
          };
          set = λ l. same t b l below inside ∙ ap (λ r. set_of r l) (own ∙ ap (output t) (sym drives)) ∙ chosen.set l
              ∙ same_choice flat cycles index row root set_of sets range t (λ a m ok. same t a m below ok) c listed kind parts operands gate chosen.subset chosen.unknown l;
        }

-- the sets of roots that the sets of nodes give
abbrev set_by : (ℕ → ℕ → ℕ) → (ℕ → Labels) → Root → Labels
set_by index sets nothing l = false
set_by index sets (label k) l = nat_eq k l
set_by index sets (output s c) l = sets (index s c) l

same_sets : (flat : Flat) (cycles : ℕ) (index : ℕ → ℕ → ℕ) (row : ℕ → Row) (root : ℕ → ℕ → Root) (nodes : ℕ → Node)
    → AreNodesOf flat cycles index row root nodes
    → (sets : ℕ → Labels) → AreNodeSets flat cycles index nodes sets → (n t b l : ℕ) → t < n → t < cycles → b < flat.bits
    → sets (index t b) l ≡ set_by index sets (root t b) l
same_sets flat cycles index row root nodes are sets node_sets zero t b l lt below inside = absurd (omega arith)
same_sets flat cycles index row root nodes are sets node_sets (suc n) t b l lt below inside =
    go (nodes (index t b)) (are.each t b below inside) (node_sets t b below inside)
    (λ s c earlier ok. same_sets flat cycles index row root nodes are sets node_sets n s c l (omega arith) (omega arith) ok)
  where
    go : (node : Node) → IsNodeOf flat index row root t b node → IsNodeSet sets (index t b) node
        → ((s c : ℕ) → s < t → c < flat.bits → sets (index s c) l ≡ set_by index sets (root s c) l)
        → sets (index t b) l ≡ set_by index sets (root t b) l
    go Nothing is set lower = set l ∙ ap (λ r. set_by index sets r l) (sym is)
    go (Label k) is set lower = set l ∙ ap (λ r. set_by index sets r l) (sym is)
    go (Copy j) (s, c, earlier, ok, number, some, is) set lower =
        set l ∙ ap (λ i. sets i l) number ∙ lower s c earlier ok ∙ ap (λ r. set_by index sets r l) (sym is)
    go (Gate kind parts operands) (c, listed, drives, own, gate) set lower = ap (λ r. set_by index sets r l) (sym own)

-- two cells with one output are one
pub one_cell : (flat : Flat) → HasOneDriver flat → (c d : FlatCell) → Contains flat.cells c → Contains flat.cells d → c.output ≡ d.output
    → c ≡ d
one_cell flat driven c d in_c in_d same =
    let e : Some c ≡ Some d =
    sym (driver_of-listed flat.cells once c in_c) ∙ ap (driver_of flat.cells) same ∙ driver_of-listed flat.cells once d in_d in cc
  where
    once : HasNoRepeat (outputs flat.cells)
    once =
        (apart_parts (input_bits flat) (outputs flat.cells) (apart_parts (input_bits flat ++ outputs flat.cells) (map (λ (x : FlatFlop). x.output) flat.flops) driven.once).left).right

pub root_sets_law : RootSetsLaw
unfolding RootSetsLaw
root_sets_law flat cycles index row root nodes are range driven order sets node_sets = record {
  set_of = set_by index sets;
  selection = record {
    empty = λ l. refl;
    single = λ k l. refl;
    outputs =
        λ t below c listed own. chosen t below c listed own (nodes (index t c.output)) (are.each t c.output below (range.outputs c listed))
        (node_sets t c.output below (range.outputs c listed));
  };
  same = λ t b l below inside. same_sets flat cycles index row root nodes are sets node_sets (suc t) t b l (omega arith) below inside;
}
  where
    chosen : (t : ℕ) → t < cycles → (c : FlatCell) → Contains flat.cells c → root t c.output ≡ output t c.output
        → (node : Node) → IsNodeOf flat index row root t c.output node → IsNodeSet sets (index t c.output) node
        → IsChosen (set_by index sets) (row t) (root t) c (set_by index sets (output t c.output))
    chosen t below c listed own Nothing is set = absurd cc
    chosen t below c listed own (Label k) is set = absurd cc
    chosen t below c listed own (Copy j) (s, d, earlier, ok, number, some, is) set =
        absurd (let e : t ≤ s = order s d t c.output (omega arith) (sym is ∙ own) in omega arith)
    chosen t below c listed own (Gate kind parts operands) (d, in_d, drives, own_d, gate) set =
        let same_cell : c ≡ d = one_cell flat driven c d listed in_d (sym drives) in
        let gate_c : IsGateOf (index t) (row t) c kind parts operands =
        subst (λ x. IsGateOf (index t) (row t) x kind parts operands) (sym same_cell) gate in
        let within : IsSubsetOf set.subset (cell_parts (row t) c) = subst (IsSubsetOf set.subset) gate_c.parts set.choice.varies in
        record {
          subset = set.subset;
          unknown = within;
          signed =
              λ e. set.choice.signed (ap (λ ps. signed_sum kind ps set.subset) gate_c.parts ∙ ap (λ k. signed_sum k (cell_parts (row t) c) set.subset) gate_c.kinds ∙ e);
          set = λ l. set.set l
              ∙ sym (same_choice flat cycles index row root (set_by index sets) sets range t
              (λ b m ok. same_sets flat cycles index row root nodes are sets node_sets (suc t) t b m (omega arith) below ok) c listed kind parts operands gate_c set.subset within l);
        }
