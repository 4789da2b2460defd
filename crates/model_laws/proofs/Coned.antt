-- The cones of nodes are those of the roots that they stand for.
use Rattle.std.proofs.Common.{◌≡◌, ℕ, zero, suc, ◌<◌, ◌≤◌, ◌⊎◌, inl, inr, false, List, [], ◌∷◌, take, get_or, refl, sym, ◌∙◌, ap, subst, arith}
use Rattle.std.proofs.Math.ListN.{get_or-map}
use Rattle.std.proofs.lemmas.Bool.{cases_lt}
use Rattle.std.proofs.lemmas.List.{get_or-take}
use Rattle.coco_base.specs.declared.cell.Kind.{Kind}
use Rattle.coco_base.specs.declared.cell.Part.{Part}
use Rattle.coco_base.specs.declared.cell.Part.TheVariants.{Vary}
use Rattle.coco_base.specs.declared.netlist.Flat.{Flat}
use Rattle.coco_base.specs.declared.netlist.FlatCell.{FlatCell}
use Rattle.coco_base.specs.declared.netlist.Wire.TheVariants.{Const, Bit}
use Rattle.coco_base.specs.declared.unrolled.Node.{Node}
use Rattle.coco_base.specs.declared.unrolled.Node.TheVariants.{Nothing, Label, Copy, Gate}
use Rattle.coco_model.specs.Cells.{input_count, input_places, IsLiveInput}
use Rattle.coco_model.specs.Netlist.{wires_of, IsInRange, HasOneDriver}
use Rattle.coco_model.specs.Known.{Row, wire_part, cell_parts}
use Rattle.coco_model.specs.Roots.{Root}
use Rattle.coco_model.specs.Roots.Root.{nothing, label, output}
use Rattle.coco_model.specs.Nodes.{part_operand, wire_operand, IsGateOf, IsNodeOf, AreNodesOf}
use Rattle.coco_model.specs.Cones.{IsInRootCone, IsInCone}
use Rattle.coco_model.specs.Cones.IsInRootCone.{here as root_here, through as root_through}
use Rattle.coco_model.specs.Cones.IsInCone.{here as node_here, copied, through as node_through}
use Rattle.model_laws.proofs.Calms.{member_at, vary_bit}
use Rattle.model_laws.proofs.Selected.{node_at, one_cell}
use Rattle.model_laws.specs.Laws.{ConesLaw}

get_or-take_past : {X : Type 0} (n : ℕ) (xs : List X) (place : ℕ) (d : X) → n ≤ place → get_or (take n xs) place d ≡ d
get_or-take_past zero xs place d past = refl
get_or-take_past (suc n) [] place d past = refl
get_or-take_past (suc n) (x ∷ xs) zero d past = absurd (omega arith)
get_or-take_past (suc n) (x ∷ xs) (suc place) d past = get_or-take_past n xs place d (omega arith)

-- the operand of a gate at a place is that of the cell's wire there
operand_at : (index : ℕ → ℕ) (row : Row) (c : FlatCell) (kind : Kind) (parts : List Part) (operands : List ℕ)
    → IsGateOf index row c kind parts operands
    → (place : ℕ) → get_or operands place 0 ≡ wire_operand row index (get_or (wires_of c) place (Const false))
operand_at index row c kind parts operands gate place =
    inner (cases_lt place (input_count kind)) ∙ ap (λ os. get_or os place 0) gate.operands
    ∙ get_or-map (wire_operand row index) (wires_of c) place (Const false)
  where
    inner : (place < input_count kind) ⊎ (input_count kind ≤ place)
        → get_or operands place 0 ≡ get_or (input_places kind operands) place 0
    inner (inl below) = sym (get_or-take (input_count kind) operands place 0 below)
    inner (inr past) = gate.no_operands place past ∙ sym (get_or-take_past (input_count kind) operands place 0 past)

-- a live input of a gate is an unknown bit, and the gate's operand there is the bit's node
pub record IsLiveBit (index : ℕ → ℕ) (row : Row) (c : FlatCell) (operands : List ℕ) (place : ℕ) : Type 0 where
  pub bit : ℕ
  pub wired : get_or (wires_of c) place (Const false) ≡ Bit bit
  pub operand : get_or operands place 0 ≡ index bit

live_bit : (index : ℕ → ℕ) (row : Row) (c : FlatCell) (kind : Kind) (parts : List Part) (operands : List ℕ)
    → IsGateOf index row c kind parts operands
    → (place : ℕ) → IsLiveInput c.kind (cell_parts row c) place → IsLiveBit index row c operands place
live_bit index row c kind parts operands gate place live = record {
  bit = bit.0;
  wired = bit.1;
  operand = operand_at index row c kind parts operands gate place ∙ ap (wire_operand row index) bit.1
      ∙ ap (λ p. part_operand p (index bit.0)) (sym (ap (wire_part row) bit.1) ∙ part);
}
  where
    part : wire_part row (get_or (wires_of c) place (Const false)) ≡ Vary
    part = sym (get_or-map (wire_part row) (wires_of c) place (Const false)) ∙ live.varies

    bit : (n : ℕ) × (get_or (wires_of c) place (Const false) ≡ Bit n)
    bit = vary_bit row (get_or (wires_of c) place (Const false)) part

module _ (flat : Flat) (cycles : ℕ) (index : ℕ → ℕ → ℕ) (row : ℕ → Row) (root : ℕ → ℕ → Root) (nodes : ℕ → Node)
    (are : AreNodesOf flat cycles index row root nodes) (range : IsInRange flat) (l : ℕ) where
  live_of_cell : (t : ℕ) (c : FlatCell) (kind : Kind) (parts : List Part) (operands : List ℕ)
      → IsGateOf (index t) (row t) c kind parts operands
      → (place : ℕ) → IsLiveInput kind (input_places kind parts) place → IsLiveInput c.kind (cell_parts (row t) c) place
  live_of_cell t c kind parts operands gate place live =
      subst (λ k. IsLiveInput k (cell_parts (row t) c) place) gate.kinds
      (subst (λ ps. IsLiveInput kind ps place) gate.parts live)

  root_cone_of : (i : ℕ) → IsInCone nodes l i → (t b : ℕ) → t < cycles → b < flat.bits → i ≡ index t b
      → IsInRootCone flat row root l (root t b)
  root_cone_of i (node_here k is) t b below inside number =
      root_here (root t b) (node_at flat cycles index row root nodes are t b below inside (Label l) (ap nodes (sym number) ∙ is))
  root_cone_of i (copied k j is rest) t b below inside number =
      go (node_at flat cycles index row root nodes are t b below inside (Copy j) (ap nodes (sym number) ∙ is))
      (λ s c lt ok e. root_cone_of j rest s c lt ok e)
    where
      go : IsNodeOf flat index row root t b (Copy j)
          → ((s c : ℕ) → s < cycles → c < flat.bits → j ≡ index s c → IsInRootCone flat row root l (root s c))
          → IsInRootCone flat row root l (root t b)
      go (s, c, lt, ok, at, some, same) lower = subst (IsInRootCone flat row root l) (sym same) (lower s c (omega arith) ok at)
  root_cone_of i (node_through k kind parts operands place is live rest) t b below inside number =
      go (node_at flat cycles index row root nodes are t b below inside (Gate kind parts operands) (ap nodes (sym number) ∙ is))
      (λ n ok e. root_cone_of (get_or operands place 0) rest t n below ok e)
    where
      go : IsNodeOf flat index row root t b (Gate kind parts operands)
          → ((n : ℕ) → n < flat.bits → get_or operands place 0 ≡ index t n → IsInRootCone flat row root l (root t n))
          → IsInRootCone flat row root l (root t b)
      go (c, listed, drives, own, gate) lower =
          let of_cell = live_of_cell t c kind parts operands gate place live in
          let bit = live_bit (index t) (row t) c kind parts operands gate place of_cell in
          root_through (root t b) t c place bit.bit listed (own ∙ ap (output t) (sym drives)) of_cell bit.wired
          (lower bit.bit (range.inputs c listed (Bit bit.bit) (member_at (wires_of c) place bit.bit bit.wired)) bit.operand)

  -- a node is no copy
  abbrev IsNoCopy : Node → Type 0
  IsNoCopy node = (j : ℕ) → node ≡ Copy j → ⊥

  -- a label that is in the cone of each node with a root that is no copy is in those of the copies too
  by_copies : (r : Root)
      → ((t b : ℕ) → t < cycles → b < flat.bits → root t b ≡ r → IsNoCopy (nodes (index t b)) → IsInCone nodes l (index t b))
      → (n t b : ℕ) → t < n → t < cycles → b < flat.bits → root t b ≡ r → IsInCone nodes l (index t b)
  by_copies r own zero t b lt below inside is = absurd (omega arith)
  by_copies r own (suc n) t b lt below inside is =
      go (nodes (index t b)) refl (λ s c earlier ok e. by_copies r own n s c (omega arith) (omega arith) ok e)
    where
      go : (node : Node) → nodes (index t b) ≡ node
          → ((s c : ℕ) → s < t → c < flat.bits → root s c ≡ r → IsInCone nodes l (index s c)) → IsInCone nodes l (index t b)
      go Nothing e lower = own t b below inside is (λ j k. let f : Nothing ≡ Copy j = sym e ∙ k in cc)
      go (Label k) e lower = own t b below inside is (λ j h. let f : Label k ≡ Copy j = sym e ∙ h in cc)
      go (Copy j) e lower = of_copy (node_at flat cycles index row root nodes are t b below inside (Copy j) e)
        where
          of_copy : IsNodeOf flat index row root t b (Copy j) → IsInCone nodes l (index t b)
          of_copy (s, c, earlier, ok, at, some, same) =
              copied (index t b) j e (subst (IsInCone nodes l) (sym at) (lower s c earlier ok (sym same ∙ is)))
      go (Gate kind parts operands) e lower =
          own t b below inside is (λ j h. let f : Gate kind parts operands ≡ Copy j = sym e ∙ h in cc)

  node_cone_of : HasOneDriver flat → (r : Root) → IsInRootCone flat row root l r
      → (t b : ℕ) → t < cycles → b < flat.bits → root t b ≡ r → IsInCone nodes l (index t b)
  node_cone_of driven r (root_here q is) t b below inside e = by_copies r own (suc t) t b (omega arith) below inside e
    where
      own : (t b : ℕ) → t < cycles → b < flat.bits → root t b ≡ r → IsNoCopy (nodes (index t b)) → IsInCone nodes l (index t b)
      own t b below inside e no_copy = go (nodes (index t b)) refl (are.each t b below inside)
        where
          go : (node : Node) → nodes (index t b) ≡ node → IsNodeOf flat index row root t b node → IsInCone nodes l (index t b)
          go Nothing at has = absurd (let f : nothing ≡ label l = sym has ∙ e ∙ is in cc)
          go (Label k) at has =
              let f : label k ≡ label l = sym has ∙ e ∙ is in
              let g : k ≡ l = cc in
              node_here (index t b) (at ∙ ap Label g)
          go (Copy j) at has = absurd (no_copy j at)
          go (Gate kind parts operands) at (c, listed, drives, out, gate) =
              absurd (let f : output t b ≡ label l = sym out ∙ e ∙ is in cc)
  node_cone_of driven r (root_through q u cell place from member is live wired rest) t b below inside e =
      by_copies r (λ t b below inside e no_copy. own t b below inside e no_copy (λ t below. node_cone_of driven (root u from) rest t from below))
      (suc t) t b (omega arith) below inside e
    where
      own : (t b : ℕ) → t < cycles → b < flat.bits → root t b ≡ r → IsNoCopy (nodes (index t b))
          → ((t : ℕ) → t < cycles → from < flat.bits → root t from ≡ root u from → IsInCone nodes l (index t from))
          → IsInCone nodes l (index t b)
      own t b below inside e no_copy lower = go (nodes (index t b)) refl (are.each t b below inside)
        where
          at_cell : (kind : Kind) (parts : List Part) (operands : List ℕ) → nodes (index t b) ≡ Gate kind parts operands → u ≡ t
              → IsGateOf (index t) (row t) cell kind parts operands → IsInCone nodes l (index t b)
          at_cell kind parts operands at cycle gate =
              node_through (index t b) kind parts operands place at
              (subst (λ ps. IsLiveInput kind ps place) (sym gate.parts) (subst (λ k. IsLiveInput k (cell_parts (row t) cell) place) (sym gate.kinds) now))
              (subst (IsInCone nodes l) (sym bit.operand) there)
            where
              now : IsLiveInput cell.kind (cell_parts (row t) cell) place
              now = subst (λ s. IsLiveInput cell.kind (cell_parts (row s) cell) place) cycle live

              bit : IsLiveBit (index t) (row t) cell operands place
              bit = live_bit (index t) (row t) cell kind parts operands gate place now

              same : from ≡ bit.bit
              same = let f : Bit from ≡ Bit bit.bit = sym wired ∙ bit.wired in cc

              there : IsInCone nodes l (index t bit.bit)
              there = subst (λ n. IsInCone nodes l (index t n)) same
                  (lower t below (range.inputs cell member (Bit from) (member_at (wires_of cell) place from wired)) (ap (λ s. root s from) (sym cycle)))

          go : (node : Node) → nodes (index t b) ≡ node → IsNodeOf flat index row root t b node → IsInCone nodes l (index t b)
          go Nothing at has = absurd (let f : nothing ≡ output u cell.output = sym has ∙ e ∙ is in cc)
          go (Label k) at has = absurd (let f : label k ≡ output u cell.output = sym has ∙ e ∙ is in cc)
          go (Copy j) at has = absurd (no_copy j at)
          go (Gate kind parts operands) at (c, listed, drives, out, gate) =
              let f : output t b ≡ output u cell.output = sym out ∙ e ∙ is in
              let cycle : t ≡ u = cc in
              let bit : b ≡ cell.output = cc in
              at_cell kind parts operands at (sym cycle)
              (subst (λ x. IsGateOf (index t) (row t) x kind parts operands) (one_cell flat driven c cell listed member (drives ∙ bit)) gate)

pub cones_law : ConesLaw
unfolding ConesLaw
cones_law flat cycles index row root nodes are range driven t b l below inside = (
  (λ h. root_cone_of flat cycles index row root nodes are range l (index t b) h t b below inside refl),
  (λ h. node_cone_of flat cycles index row root nodes are range l driven (root t b) h t b below inside refl),
)
