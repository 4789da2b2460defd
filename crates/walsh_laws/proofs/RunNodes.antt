-- The nodes of a run, numbered by rank, and their values in the runs of all choices.
use Rattle.std.proofs.Common.{◌≡◌, ◌≢◌, ℕ, zero, suc, ◌<◌, ◌≤◌, ◌⊎◌, inl, inr, Bool, true, false, List, [], ◌∷◌, ◌++◌, map, length, take, get_or, refl, sym, ◌∙◌, ap, subst, arith}
use Rattle.std.specs.Prelude.{Contains, Option, Some, None}
use Rattle.std.proofs.lemmas.Bool.{cases_lt}
use Rattle.std.proofs.lemmas.List.{length-map, get_or_past}
use Rattle.coco_base.specs.declared.cell.Part.{Part}
use Rattle.coco_base.specs.declared.cell.Part.TheVariants.{Zero, One, Vary}
use Rattle.coco_base.specs.declared.netlist.Flat.{Flat}
use Rattle.coco_base.specs.declared.netlist.FlatCell.{FlatCell}
use Rattle.coco_base.specs.declared.netlist.FlatFlop.{FlatFlop}
use Rattle.coco_base.specs.declared.netlist.Wire.{Wire}
use Rattle.coco_base.specs.declared.netlist.Wire.TheVariants.{Const, Bit}
use Rattle.coco_base.specs.declared.setup.Setup.{Setup}
use Rattle.coco_base.specs.declared.unrolled.Node.{Node}
use Rattle.coco_base.specs.declared.unrolled.Node.TheVariants.{Nothing, Label, Copy, Gate}
use Rattle.coco_model.specs.Cells.{Allows, input_count, input_places, output_of}
use Rattle.coco_model.specs.Netlist.{Valuation, wires_of, wire_value, HasNoRepeat, input_bits, IsCellBit, HasOneDriver, IsInRange, IsWireBelow}
use Rattle.coco_model.specs.Labels.{Choice, label_count, IsLabelTable}
use Rattle.coco_model.specs.Carried.{AreStarts, IsLabelled}
use Rattle.coco_model.specs.Run.{Memory, IsRun, AreRuns}
use Rattle.coco_model.specs.Known.{Row, wire_part, cell_parts}
use Rattle.coco_model.specs.Roots.{Root, IsRooted, root_value}
use Rattle.coco_model.specs.Roots.Root.{nothing, label, output}
use Rattle.coco_model.specs.Nodes.{part_operand, wire_operand, IsGateOf, IsNodeOf, AreNodesOf}
use Rattle.coco_model.proofs.Basics.{Contains-here, Contains-later, some_from_any, HasMember}
use Rattle.model_laws.proofs.Apart.{apart_parts}
use Rattle.model_laws.proofs.Calms.{vary_or_not}
use Rattle.model_laws.proofs.Knowing.{known_law}
use Rattle.model_laws.proofs.Rooted.{root_law}
use Rattle.model_laws.proofs.Solved.{outputs, driver_of, driver_of-listed}
use Rattle.model_laws.specs.Laws.{IsChecked, KnownLaw, RootLaw, IsRootInRange}
use Rattle.walsh_laws.specs.NodeValues.{input_value, input_values, AreOperandsBefore, IsGateValue, IsNodeValue, AreNodeValues}
use Rattle.walsh_laws.proofs.Numbering.{number_of, number_count, number-earlier, number-lower, number-apart, IsNumber, number_or_not, by_number, at_number, at_number-number}
use Rattle.walsh_laws.proofs.Homes.{root_home}

-- a netlist and a setup that are checked, what is known of their run, and its roots
pub record IsRootedRun (flat : Flat) (setup : Setup) (cycles : ℕ) (rank : ℕ → ℕ) (row : ℕ → Row) (word : ℕ → ℕ → Row) (root : ℕ → ℕ → Root)
    (rooted : ℕ → ℕ → ℕ → Root) : Type 0 where
  pub checked : IsChecked flat setup cycles rank row word
  pub range : IsInRange flat
  pub driven : HasOneDriver flat
  pub table : IsLabelTable setup.table
  pub starts : AreStarts (IsLabelled setup.table) flat setup
  pub is_rooted : IsRooted flat setup cycles row root rooted

abbrev pub index_of : Flat → (ℕ → ℕ) → ℕ → ℕ → ℕ
index_of flat rank = number_of flat.bits rank

-- the gate of a cell that drives a bit
abbrev driver_node : (ℕ → ℕ) → Row → Option FlatCell → Node
driver_node index row None = Nothing
driver_node index row (Some c) = Gate c.kind (cell_parts row c) (map (wire_operand row index) (wires_of c))

abbrev output_node : (ℕ → ℕ → ℕ) → (ℕ → Row) → List FlatCell → (t b s c : ℕ) → (s < t) ⊎ (t ≤ s) → Node
output_node index row cells t b s c (inl h) = Copy (index s c)
output_node index row cells t b s c (inr h) = driver_node (index t) (row t) (driver_of cells b)

-- the node of a bit in a cycle, by its root
abbrev node_by_root : (ℕ → ℕ → ℕ) → (ℕ → Row) → List FlatCell → (t b : ℕ) → Root → Node
node_by_root index row cells t b nothing = Nothing
node_by_root index row cells t b (label l) = Label l
node_by_root index row cells t b (output s c) = output_node index row cells t b s c (cases_lt s t)

abbrev pub run_nodes : Flat → ℕ → (ℕ → ℕ) → (ℕ → Row) → (ℕ → ℕ → Root) → ℕ → Node
run_nodes flat cycles rank row root = at_number flat.bits rank cycles
    (λ t b. node_by_root (index_of flat rank) row flat.cells t b (root t b)) Nothing

abbrev pub run_values : Flat → ℕ → (ℕ → ℕ) → (Choice → ℕ → Valuation) → Choice → ℕ → Bool
run_values flat cycles rank run choice = at_number flat.bits rank cycles (λ t b. run choice t b) false

pub nothing_node : (flat : Flat) (cycles : ℕ) (rank : ℕ → ℕ) (row : ℕ → Row) (root : ℕ → ℕ → Root) (t b : ℕ) → t < cycles → b < flat.bits
    → root t b ≡ nothing
    → run_nodes flat cycles rank row root (index_of flat rank t b) ≡ Nothing
nothing_node flat cycles rank row root t b below inside e =
    at_number-number flat.bits rank cycles (λ t b. node_by_root (index_of flat rank) row flat.cells t b (root t b)) Nothing t b below inside
    ∙ ap (node_by_root (index_of flat rank) row flat.cells t b) e

-- what is taken from a list is taken from what is taken
take-take-map : {X Y : Type 0} (f : X → Y) (n : ℕ) (xs : List X) → take n (map f (take n xs)) ≡ map f (take n xs)
take-take-map f zero xs = refl
take-take-map f (suc n) [] = refl
take-take-map f (suc n) (x ∷ xs) = ap (λ ys. f x ∷ ys) (take-take-map f n xs)

past_taken : {X : Type 0} (n : ℕ) (xs : List X) → length (take n xs) ≤ n
past_taken zero xs = omega arith
past_taken (suc n) [] = omega arith
past_taken (suc n) (x ∷ xs) = let e = past_taken n xs in omega arith

nothing_past : {X Y : Type 0} (f : X → Y) (n : ℕ) (xs : List X) (d : Y) (j : ℕ) → n ≤ j → get_or (map f (take n xs)) j d ≡ d
nothing_past f n xs d j h = get_or_past (map f (take n xs)) j d (let e = length-map (take n xs) f in let g = past_taken n xs in omega arith)

gate_of_cell : (index : ℕ → ℕ) (row : Row) (c : FlatCell)
    → IsGateOf index row c c.kind (cell_parts row c) (map (wire_operand row index) (wires_of c))
gate_of_cell index row c = record {
  kinds = refl;
  parts = take-take-map (wire_part row) (input_count c.kind) c.inputs;
  operands = take-take-map (wire_operand row index) (input_count c.kind) c.inputs;
  others = λ j h. nothing_past (wire_part row) (input_count c.kind) c.inputs Zero j h;
  no_operands = λ j h. nothing_past (wire_operand row index) (input_count c.kind) c.inputs 0 j h;
}

-- the cell that drives a bit which is a cell's output
cell_of : (flat : Flat) → HasOneDriver flat → (b : ℕ) → IsCellBit flat b
    → (c : FlatCell) × Contains flat.cells c × (c.output ≡ b) × (driver_of flat.cells b ≡ Some c)
cell_of flat driven b h = go (some_from_any (λ (c : FlatCell). c.output ≡ b) flat.cells h)
  where
    once : HasNoRepeat (outputs flat.cells)
    once = (apart_parts (input_bits flat) (outputs flat.cells)
        (apart_parts (input_bits flat ++ outputs flat.cells) (map (λ (x : FlatFlop). x.output) flat.flops) driven.once).left).right

    go : HasMember (λ (c : FlatCell). c.output ≡ b) flat.cells
        → (c : FlatCell) × Contains flat.cells c × (c.output ≡ b) × (driver_of flat.cells b ≡ Some c)
    go s = (s.member, s.listed, s.holds, ap (driver_of flat.cells) (sym s.holds) ∙ driver_of-listed flat.cells once s.member s.listed)

-- facts on a root of a bit
module _ (flat : Flat) (setup : Setup) (cycles : ℕ) (rank : ℕ → ℕ) (row : ℕ → Row) (word : ℕ → ℕ → Row) (root : ℕ → ℕ → Root)
    (rooted : ℕ → ℕ → ℕ → Root)
    (ready : IsRootedRun flat setup cycles rank row word root rooted) where
  pub in_range : (t b : ℕ) → t < cycles → IsRootInRange flat (label_count setup.table cycles) t b (root t b)
  unfolding RootLaw
  in_range t b below = (root_law flat setup cycles (record { rank = rank; row = row; word = word; is = ready.checked }) ready.starts root rooted ready.is_rooted t b below).3

  value_of_root : (t b : ℕ) → t < cycles → (choice : Choice) (v : ℕ → Valuation) (m : ℕ → Memory) → IsRun flat setup cycles choice v m
      → row t b ≡ Vary → v t b ≡ root_value choice v (root t b)
  unfolding RootLaw
  value_of_root t b below = (root_law flat setup cycles (record { rank = rank; row = row; word = word; is = ready.checked }) ready.starts root rooted ready.is_rooted t b below).0

  pub nothing_if_known : (t b : ℕ) → t < cycles → row t b ≢ Vary → root t b ≡ nothing
  unfolding RootLaw
  nothing_if_known t b below = (root_law flat setup cycles (record { rank = rank; row = row; word = word; is = ready.checked }) ready.starts root rooted ready.is_rooted t b below).1

  known_if_nothing : (t b : ℕ) → t < cycles → root t b ≡ nothing → row t b ≢ Vary
  unfolding RootLaw
  known_if_nothing t b below = (root_law flat setup cycles (record { rank = rank; row = row; word = word; is = ready.checked }) ready.starts root rooted ready.is_rooted t b below).2

  varies_if_some : (t b : ℕ) → t < cycles → root t b ≢ nothing → row t b ≡ Vary
  varies_if_some t b below n = go (vary_or_not (row t b))
    where
      go : (row t b ≡ Vary) ⊎ (row t b ≢ Vary) → row t b ≡ Vary
      go (inl e) = e
      go (inr k) = absurd (n (nothing_if_known t b below k))

  known_value : (t : ℕ) → t < cycles → (choice : Choice) (v : ℕ → Valuation) (m : ℕ → Memory) → IsRun flat setup cycles choice v m → (b : ℕ)
      → Allows (row t b) (v t b)
  unfolding KnownLaw
  known_value t below choice v m run = (known_law flat setup cycles (record { rank = rank; row = row; word = word; is = ready.checked }) choice v m run t below).0

  -- an output that is a root of a bit is of an earlier cycle, or the bit's own
  pub output_below : (t b s c : ℕ) → t < cycles → root t b ≡ output s c → c < flat.bits
  output_below t b s c below e = go (some_from_any (λ (x : FlatCell). x.output ≡ c) flat.cells ((in_range t b below).cells s c e))
    where
      go : HasMember (λ (x : FlatCell). x.output ≡ c) flat.cells → c < flat.bits
      go x = subst (λ y. y < flat.bits) x.holds (ready.range.outputs x.member x.listed)

  own_output : (t b s c : ℕ) → t < cycles → root t b ≡ output s c → t ≤ s → (s ≡ t) × (c ≡ b)
  own_output t b s c below e le = go ((in_range t b below).earlier s c e)
    where
      go : (s < t) ⊎ ((s ≡ t) × (c ≡ b)) → (s ≡ t) × (c ≡ b)
      go (inl lt) = absurd (omega arith)
      go (inr same) = same

  index : ℕ → ℕ → ℕ
  index = index_of flat rank

  by_root : (t b : ℕ) → t < cycles → b < flat.bits → (r : Root) → root t b ≡ r
      → IsNodeOf flat (index_of flat rank) row root t b (node_by_root (index_of flat rank) row flat.cells t b r)
  by_root t b below inside nothing e = e
  by_root t b below inside (label l) e = e
  by_root t b below inside (output s c) e = go (cases_lt s t)
    where
      own : (s ≡ t) × (c ≡ b) → (x : FlatCell) × Contains flat.cells x × (x.output ≡ b) × (driver_of flat.cells b ≡ Some x)
          → IsNodeOf flat (index_of flat rank) row root t b (driver_node (index_of flat rank t) (row t) (driver_of flat.cells b))
      own same (x, listed, drives, found) =
          subst (λ o. IsNodeOf flat (index_of flat rank) row root t b (driver_node (index_of flat rank t) (row t) o)) (sym found)
          (x, listed, drives, e ∙ ap (λ u. output u c) same.0 ∙ ap (output t) same.1, gate_of_cell (index_of flat rank t) (row t) x)

      go : (d : (s < t) ⊎ (t ≤ s))
          → IsNodeOf flat (index_of flat rank) row root t b (output_node (index_of flat rank) row flat.cells t b s c d)
      go (inl lt) = (
        s,
        c,
        lt,
        output_below t b s c below e,
        refl,
        (λ n. cc),
        e
            ∙ sym (root_home flat setup cycles rank row word ready.checked root rooted ready.is_rooted t below b s c e),
      )
      go (inr le) =
          let same = own_output t b s c below e le in
          own same (cell_of flat ready.driven b (subst (IsCellBit flat) same.1 ((in_range t b below).cells s c e)))

  -- the nodes stand for the roots
  pub are_nodes : AreNodesOf flat cycles (index_of flat rank) row root (run_nodes flat cycles rank row root)
  are_nodes = record {
    each = λ t b below inside. subst (IsNodeOf flat (index_of flat rank) row root t b)
        (sym (at_number-number flat.bits rank cycles (λ t b. node_by_root (index_of flat rank) row flat.cells t b (root t b)) Nothing t b
        below inside))
        (by_root t b below inside (root t b) refl);
    apart = λ t b s c. number-apart flat.bits rank t b s c;
  }

  -- the value of a node is that of its bit
  pub value_at : (run : Choice → ℕ → Valuation) (choice : Choice) (t b : ℕ) → t < cycles → b < flat.bits
      → run_values flat cycles rank run choice (index_of flat rank t b) ≡ run choice t b
  value_at run choice t b below inside = at_number-number flat.bits rank cycles (λ t b. run choice t b) false t b below inside

  one_input : (run : Choice → ℕ → Valuation) (memory : Choice → ℕ → Memory) → AreRuns flat setup cycles run memory
      → (choice : Choice) (t : ℕ) → t < cycles
      → (w : Wire) → IsWireBelow flat.bits w
      → wire_value (run choice t) w
      ≡ input_value (run_values flat cycles rank run choice) (wire_part (row t) w) (wire_operand (row t) (index_of flat rank t) w)
  one_input run memory runs choice t below (Const false) inside = refl
  one_input run memory runs choice t below (Const true) inside = refl
  one_input run memory runs choice t below (Bit n) inside = go (row t n)
      (known_value t below choice (run choice) (memory choice) (runs.each choice) n)
    where
      go : (p : Part) → Allows p (run choice t n)
          → run choice t n ≡ input_value (run_values flat cycles rank run choice) p (part_operand p (index_of flat rank t n))
      go Zero e = e
      go One e = e
      go Vary e = sym (value_at run choice t n below inside)

  all_inputs : (run : Choice → ℕ → Valuation) (memory : Choice → ℕ → Memory) → AreRuns flat setup cycles run memory
      → (choice : Choice) (t : ℕ) → t < cycles
      → (ws : List Wire) → ((w : Wire) → Contains ws w → IsWireBelow flat.bits w)
      → map (wire_value (run choice t)) ws
      ≡ input_values (run_values flat cycles rank run choice) (map (wire_part (row t)) ws)
      (map (wire_operand (row t) (index_of flat rank t)) ws)
  all_inputs run memory runs choice t below [] inside = refl
  all_inputs run memory runs choice t below (w ∷ ws) inside =
      ap (λ x. x ∷ map (wire_value (run choice t)) ws) (one_input run memory runs choice t below w (inside w (Contains-here w ws)))
      ∙ ap (λ xs. input_value (run_values flat cycles rank run choice) (wire_part (row t) w)
      (wire_operand (row t) (index_of flat rank t) w) ∷ xs)
      (all_inputs run memory runs choice t below ws (λ x h. inside x (Contains-later w x ws h)))

  operand_before : (t b : ℕ) (w : Wire) → IsWireBelow flat.bits w → ((n : ℕ) → w ≡ Bit n → rank n < rank b) → wire_part (row t) w ≡ Vary
      → wire_operand (row t) (index_of flat rank t) w < index_of flat rank t b
  operand_before t b (Const false) inside lower e = absurd cc
  operand_before t b (Const true) inside lower e = absurd cc
  operand_before t b (Bit n) inside lower e = rw e (number-lower flat.bits rank t b n (lower n refl) inside)

  operands_before : (t b : ℕ) (ws : List Wire) → ((w : Wire) → Contains ws w → IsWireBelow flat.bits w)
      → ((n : ℕ) → Contains ws (Bit n) → rank n < rank b)
      → (place : ℕ) → get_or (map (wire_part (row t)) ws) place Zero ≡ Vary
      → get_or (map (wire_operand (row t) (index_of flat rank t)) ws) place 0 < index_of flat rank t b
  operands_before t b [] inside lower place e = absurd cc
  operands_before t b (w ∷ ws) inside lower zero e =
      operand_before t b w (inside w (Contains-here w ws)) (λ n k. lower n (subst (Contains (w ∷ ws)) k (Contains-here w ws))) e
  operands_before t b (w ∷ ws) inside lower (suc place) e =
      operands_before t b ws (λ x h. inside x (Contains-later w x ws h)) (λ n h. lower n (Contains-later w (Bit n) ws h)) place e

  gate_value : (run : Choice → ℕ → Valuation) (memory : Choice → ℕ → Memory) → AreRuns flat setup cycles run memory → (t : ℕ) → t < cycles
      → (c : FlatCell) → Contains flat.cells c
      → IsGateValue (label_count setup.table cycles) (run_values flat cycles rank run) (index_of flat rank t c.output) c.kind
      (cell_parts (row t) c) (map (wire_operand (row t) (index_of flat rank t)) (wires_of c))
  gate_value run memory runs t below c listed = record {
    earlier = subst (λ ps. AreOperandsBefore (index_of flat rank t c.output) ps
        (input_places c.kind (map (wire_operand (row t) (index_of flat rank t)) (wires_of c)))) (sym parts)
        (subst (AreOperandsBefore (index_of flat rank t c.output) (cell_parts (row t) c)) (sym operands)
        (record {
          as_long = length-map (wires_of c) (wire_operand (row t) (index_of flat rank t))
              ∙ sym (length-map (wires_of c) (wire_part (row t)));
          before = operands_before t c.output (wires_of c) (ready.range.inputs c listed) (ready.checked.ranked.cells c listed);
        }));
    output = λ choice h.
        value_at run choice t c.output below (ready.range.outputs c listed) ∙ ((runs.each choice).settled t below).cells c listed
        ∙ ap (output_of c.kind) (all_inputs run memory runs choice t below (wires_of c) (ready.range.inputs c listed)
        ∙ ap (λ ps. input_values (run_values flat cycles rank run choice) ps
        (map (wire_operand (row t) (index_of flat rank t)) (wires_of c))) (sym parts)
        ∙ ap (input_values (run_values flat cycles rank run choice) (input_places c.kind (cell_parts (row t) c))) (sym operands));
  }
    where
      parts : input_places c.kind (cell_parts (row t) c) ≡ cell_parts (row t) c
      parts = (gate_of_cell (index_of flat rank t) (row t) c).parts

      operands : input_places c.kind (map (wire_operand (row t) (index_of flat rank t)) (wires_of c))
          ≡ map (wire_operand (row t) (index_of flat rank t)) (wires_of c)
      operands = (gate_of_cell (index_of flat rank t) (row t) c).operands

  value_by_root : (run : Choice → ℕ → Valuation) (memory : Choice → ℕ → Memory) → AreRuns flat setup cycles run memory → (t b : ℕ)
      → t < cycles → b < flat.bits
      → (r : Root) → root t b ≡ r
      → IsNodeValue (label_count setup.table cycles) (run_values flat cycles rank run) (index_of flat rank t b)
      (node_by_root (index_of flat rank) row flat.cells t b r)
  value_by_root run memory runs t b below inside nothing e =
      go (row t b) (known_if_nothing t b below e) (λ choice. known_value t below choice (run choice) (memory choice) (runs.each choice) b)
    where
      go : (p : Part) → p ≢ Vary → ((choice : Choice) → Allows p (run choice t b))
          → (x : Bool) × ((choice : Choice) → length choice ≡ label_count setup.table cycles
          → run_values flat cycles rank run choice (index_of flat rank t b) ≡ x)
      go Zero n allows = (false, λ choice h. value_at run choice t b below inside ∙ allows choice)
      go One n allows = (true, λ choice h. value_at run choice t b below inside ∙ allows choice)
      go Vary n allows = absurd (n refl)
  value_by_root run memory runs t b below inside (label l) e = (
    (in_range t b below).labels l e,
    λ choice h. value_at run choice t b below inside
        ∙ value_of_root t b below choice (run choice) (memory choice) (runs.each choice) (varies_if_some t b below (λ n. cc))
        ∙ ap (root_value choice (run choice)) e,
  )
  value_by_root run memory runs t b below inside (output s c) e = go (cases_lt s t)
    where
      copied : s < t → (choice : Choice) → length choice ≡ label_count setup.table cycles
          → run_values flat cycles rank run choice (index_of flat rank t b)
          ≡ run_values flat cycles rank run choice (index_of flat rank s c)
      copied lt choice h = value_at run choice t b below inside
          ∙ value_of_root t b below choice (run choice) (memory choice) (runs.each choice) (varies_if_some t b below (λ n. cc))
          ∙ ap (root_value choice (run choice)) e
          ∙ sym (value_at run choice s c (omega arith) (output_below t b s c below e))

      own : (x : FlatCell) × Contains flat.cells x × (x.output ≡ b) × (driver_of flat.cells b ≡ Some x)
          → IsNodeValue (label_count setup.table cycles) (run_values flat cycles rank run) (index_of flat rank t b)
          (driver_node (index_of flat rank t) (row t) (driver_of flat.cells b))
      own (x, listed, drives, found) =
          subst (λ o. IsNodeValue (label_count setup.table cycles) (run_values flat cycles rank run) (index_of flat rank t b)
          (driver_node (index_of flat rank t) (row t) o)) (sym found)
          (subst (λ y. IsGateValue (label_count setup.table cycles) (run_values flat cycles rank run) (index_of flat rank t y) x.kind
          (cell_parts (row t) x) (map (wire_operand (row t) (index_of flat rank t)) (wires_of x))) drives
          (gate_value run memory runs t below x listed))

      go : (d : (s < t) ⊎ (t ≤ s))
          → IsNodeValue (label_count setup.table cycles) (run_values flat cycles rank run) (index_of flat rank t b)
          (output_node (index_of flat rank) row flat.cells t b s c d)
      go (inl lt) = (number-earlier flat.bits rank s t b c lt (output_below t b s c below e), copied lt)
      go (inr le) =
          let same = own_output t b s c below e le in
          own (cell_of flat ready.driven b (subst (IsCellBit flat) same.1 ((in_range t b below).cells s c e)))

  -- the values of all nodes
  pub are_values : (run : Choice → ℕ → Valuation) (memory : Choice → ℕ → Memory) → AreRuns flat setup cycles run memory
      → AreNodeValues (number_count flat.bits rank cycles) (run_nodes flat cycles rank row root) (label_count setup.table cycles)
      (run_values flat cycles rank run)
  are_values run memory runs = record { each = λ i h. each i (number_or_not flat.bits rank cycles i) (λ choice. refl) }
    where
      each : (i : ℕ) → (p : IsNumber flat.bits rank cycles i ⊎ (IsNumber flat.bits rank cycles i → ⊥))
          → ((choice : Choice) → run_values flat cycles rank run choice i ≡ by_number (λ t b. run choice t b) false p)
          → IsNodeValue (label_count setup.table cycles) (run_values flat cycles rank run) i
          (by_number (λ t b. node_by_root (index_of flat rank) row flat.cells t b (root t b)) Nothing p)
      each i (inl p) is = subst (λ j. IsNodeValue (label_count setup.table cycles) (run_values flat cycles rank run) j
          (node_by_root (index_of flat rank) row flat.cells p.cycle p.bit (root p.cycle p.bit)))
          (sym p.number) (value_by_root run memory runs p.cycle p.bit p.below p.inside (root p.cycle p.bit) refl)
      each i (inr n) is = (false, λ choice h. is choice)
