-- The nodes of the leaves of a cycle.
use Rattle.std.proofs.Common.{◌≡◌, ℕ, suc, ◌*◌, ◌^◌, ◌<◌, ◌≤◌, ◌⊎◌, inl, inr, Bool, true, false, cond, List, [], ◌∷◌, ◌++◌, map, get_or, refl, sym, ◌∙◌, ap, arith}
use Rattle.std.specs.Prelude.{Contains, slice_get, Some, flat_map, option_to_list}
use Rattle.std.proofs.lemmas.List.Elements.{Contains-append_cases, Contains-get_or}
use Rattle.coco_base.specs.declared.netlist.Flat.{Flat}
use Rattle.coco_base.specs.declared.netlist.FlatFlop.{FlatFlop}
use Rattle.coco_base.specs.declared.setup.InputPlan.{InputPlan}
use Rattle.coco_base.specs.declared.setup.MemPlan.{MemPlan}
use Rattle.coco_base.specs.declared.setup.Setup.{Setup}
use Rattle.coco_base.specs.declared.setup.Start.TheVariants.{Public}
use Rattle.coco_base.specs.declared.unrolled.Node.{Node}
use Rattle.coco_base.specs.declared.unrolled.Node.TheVariants.{Nothing}
use Rattle.coco_model.specs.Carried.{start_state, start_word, stored_word, entry_of, is_read, word_address, number_on, IsLabelled}
use Rattle.coco_model.specs.Known.{Row, ones}
use Rattle.coco_model.specs.Labels.{label_count}
use Rattle.coco_model.specs.Netlist.{HasOneDriver, IsInRange}
use Rattle.coco_model.specs.Nodes.{starting_nodes}
use Rattle.coco_model.specs.Setups.{IsBoundTo}
use Rattle.coco_model.specs.Stepped.{HasNoOutside}
use Rattle.coco_model.proofs.Basics.{Contains-cases, Contains-none}
use Rattle.model_laws.proofs.Lists.{image_of_map, joined_of_flat_map}
use Rattle.model_laws.proofs.Sources.{Sources, HasSources}
use Rattle.gate_graph.proofs.Items.{place_below}
use Rattle.cycle_sim.proofs.CycleLemmas.{read_inside}
use Rattle.cycle_sim.proofs.PlacedLemmas.{region_word}
use Rattle.unroll.specs.NodeRows.{NodeRow, nodes_of, wire_node}
use Rattle.unroll.specs.NodeWords.{word_node, HoldsNodes}
use Rattle.unroll.specs.NodeWrites.{Write, IsWritten, bit_writes, answer_node}
use Rattle.unroll.specs.Walks.{AgreeOnLeaves, AreFirstLeaves, AreNextLeaves}
use Rattle.unroll.proofs.SourceLemmas.{parts_of, joined, write_zero, write_echo, sources_hold}
use Rattle.unroll.proofs.WriteLemmas.{after_zeros}

-- what gives the leaves of the first cycle their nodes
abbrev pub first_sources : Setup → List Node → Sources Node
first_sources setup memory = record {
  still = Nothing;
  input = λ p. start_state starting_nodes setup.table 0 (entry_of p.values 0);
  echo = λ e. Nothing;
  answer = λ mem k b. Nothing;
  leaf = λ leaf k b. word_node memory leaf.address k;
  flop = λ f. start_state starting_nodes setup.table 0 (get_or setup.starts f.output (Public false));
}

-- what gives the leaves of a later cycle their nodes
abbrev pub next_sources : Setup → ℕ → Row → NodeRow → List Node → Sources Node
next_sources setup t row copied memory = record {
  still = Nothing;
  input = λ p. start_state starting_nodes setup.table t (entry_of p.values t);
  echo = λ e. wire_node copied e.source;
  answer = λ mem k b. answer_node (ones row) copied memory mem k b;
  leaf = λ leaf k b. stored_word starting_nodes (ones row) copied setup.memories leaf.address k (copied b);
  flop = λ f. wire_node copied f.next;
}

-- writes of 0 alone
abbrev AreZeros : List Write → Type 0
AreZeros ws = (w : Write) → Contains ws w → w.node ≡ Nothing

zeros-append : (ws vs : List Write) → AreZeros ws → AreZeros vs → AreZeros (ws ++ vs)
zeros-append ws vs a b w h = go (Contains-append_cases ws vs w h)
  where
    go : Contains ws w ⊎ Contains vs w → w.node ≡ Nothing
    go (inl i) = a w i
    go (inr j) = b w j

zeros-map : {A : Type 0} (f : A → Write) (xs : List A) → ((x : A) → (f x).node ≡ Nothing) → AreZeros (map f xs)
zeros-map f xs still w h = let i = image_of_map f xs w h in ap (λ (v : Write). v.node) (sym i.image) ∙ still i.source

zeros-bits : (j : ℕ) (bs : List ℕ) → AreZeros (bit_writes (λ k b. Nothing) j bs)
zeros-bits j [] w h = absurd (Contains-none w h)
zeros-bits j (b ∷ bs) w h = go (Contains-cases (write_zero b) w (bit_writes (λ k b. Nothing) (suc j) bs) h) (λ i. zeros-bits (suc j) bs w i)
  where
    go : (write_zero b ≡ w) ⊎ Contains (bit_writes (λ k b. Nothing) (suc j) bs) w → (Contains (bit_writes (λ k b. Nothing) (suc j) bs) w → w.node ≡ Nothing) → w.node ≡ Nothing
    go (inl e) rest = ap (λ (v : Write). v.node) (sym e)
    go (inr i) rest = rest i

zeros-answers : (mems : List MemPlan) → AreZeros (flat_map (λ (mem : MemPlan). bit_writes (λ k b. Nothing) 0 mem.answer) mems)
zeros-answers mems w h =
    let j = joined_of_flat_map (λ (mem : MemPlan). bit_writes (λ k b. Nothing) 0 mem.answer) mems w h in zeros-bits 0 j.source.answer w j.member

-- writes of 0 leave a row of 0
pub written_zeros : (ws : List Write) (row : List Node) → AreZeros ws → ((b : ℕ) → nodes_of row b ≡ Nothing) → IsWritten ws row row
written_zeros ws row all still = record { as_long = refl; bits = λ b. still b ∙ sym (after_zeros ws (nodes_of row) all still b) }

pub clock_written : (setup : Setup) (row : List Node) → ((b : ℕ) → nodes_of row b ≡ Nothing) → IsWritten (map write_zero (option_to_list setup.clock)) row row
clock_written setup row still = written_zeros _ row (zeros-map write_zero (option_to_list setup.clock) (λ b. refl)) still

pub first_written : (flat : Flat) (setup : Setup) (memory row : List Node) → ((b : ℕ) → nodes_of row b ≡ Nothing)
    → IsWritten (let p = parts_of flat setup (first_sources setup memory) in p.clock ++ p.echoes ++ p.answers) row row
first_written flat setup memory row still =
    written_zeros _ row
    (zeros-append _ _
    (zeros-append _ _ (zeros-map write_zero (option_to_list setup.clock) (λ b. refl)) (zeros-map (write_echo (first_sources setup memory)) setup.echoes (λ e. refl)))
    (zeros-answers setup.memories)) still

product_within : (t p n : ℕ) → p ≤ n → t * p ≤ n * t
product_within t p n h = grind arith

cond_when : {X : Type 0} (t : Bool) (x y z : X) → (t ≡ true → x ≡ z) → cond t x y ≡ cond t z y
cond_when true x y z same = same refl
cond_when false x y z same = refl

-- the leaves of the first cycle
pub first_leaves : (flat : Flat) (setup : Setup) (memory zero_row written : List Node) → IsBoundTo flat setup → HasOneDriver flat
    → ((b : ℕ) → nodes_of zero_row b ≡ Nothing)
    → IsWritten (joined (parts_of flat setup (first_sources setup memory))) zero_row written
    → HoldsNodes memory (start_word starting_nodes setup.table setup.words)
    → (node : NodeRow) → AgreeOnLeaves flat node (nodes_of written) → AreFirstLeaves flat setup node
first_leaves flat setup memory zero_row written bound driven zeros writes holds node agrees = record {
  given = record { undriven = has.undriven; clock = has.clock; inputs = has.inputs };
  first = record {
    flops = has.flops;
    echoes = has.echoes;
    answers = has.answers;
    leaves = λ leaf listed k b at. has.leaves leaf listed k b at
        ∙ holds.each leaf.address k (bound.leaves leaf listed).address
        (let low = place_below leaf.bits k b at in let long = (bound.leaves leaf listed).bits in omega arith);
    words = λ a k. refl;
  };
}
  where
    has : HasSources flat setup (first_sources setup memory) node
    has = sources_hold flat setup (first_sources setup memory) refl bound.bound driven (nodes_of zero_row) node zeros
        (λ b none. agrees b none ∙ writes.bits b)

-- the leaves of a later cycle
pub next_leaves : (flat : Flat) (setup : Setup) (t : ℕ) (row : Row) (copied : NodeRow) (memory zero_row written : List Node)
    → IsBoundTo flat setup → HasOneDriver flat → HasNoOutside setup row
    → ((b : ℕ) → nodes_of zero_row b ≡ Nothing)
    → IsWritten (joined (parts_of flat setup (next_sources setup t row copied memory))) zero_row written
    → (word : ℕ → ℕ → Node) → HoldsNodes memory word
    → (node : NodeRow) → AgreeOnLeaves flat node (nodes_of written) → AreNextLeaves flat setup t row copied word node
next_leaves flat setup t row copied memory zero_row written bound driven inside zeros writes word holds node agrees = record {
  given = record { undriven = has.undriven; clock = has.clock; inputs = has.inputs };
  next = record {
    flops = has.flops;
    echoes = has.echoes;
    answers = λ mem listed k b at. has.answers mem listed k b at
        ∙ cond_when (is_read (ones row) mem) _ (copied b) _ (λ reads. answer_read mem listed k b at reads);
    leaves = has.leaves;
    words = λ a k. refl;
  };
}
  where
    has : HasSources flat setup (next_sources setup t row copied memory) node
    has = sources_hold flat setup (next_sources setup t row copied memory) refl bound.bound driven (nodes_of zero_row) node zeros
        (λ b none. agrees b none ∙ writes.bits b)

    answer_read : (mem : MemPlan) → Contains setup.memories mem → (k b : ℕ) → slice_get mem.answer k ≡ Some b
        → is_read (ones row) mem ≡ true → word_node memory (word_address (ones row) mem) k ≡ word (word_address (ones row) mem) k
    answer_read mem listed k b at reads =
        holds.each (word_address (ones row) mem) k (region_word (number_on (ones row) mem.address) (read_inside row mem (inside mem listed) reads))
        (let low = place_below mem.answer k b at in let long = (bound.memories mem listed).answer in omega arith)

-- the starts of a setup name labels of its table
pub flop_labelled : (flat : Flat) (setup : Setup) → IsInRange flat → IsBoundTo flat setup → (f : FlatFlop) → Contains flat.flops f
    → IsLabelled setup.table (get_or setup.starts f.output (Public false))
flop_labelled flat setup range bound f listed =
    bound.labels _ (Contains-get_or setup.starts f.output (Public false)
    (let low = range.flops f listed in let long = bound.starts in omega arith))

pub input_labelled : (flat : Flat) (setup : Setup) → IsBoundTo flat setup → (t : ℕ) → (p : InputPlan) → Contains setup.inputs p
    → IsLabelled setup.table (entry_of p.values t)
input_labelled flat setup bound t p listed =
    bound.input_labels p listed _ (Contains-get_or p.values _ (Public false) (let some = bound.some_values p listed in omega arith))

-- a run within the limit of nodes has few labels
pub few_labels : (flat : Flat) (setup : Setup) → IsBoundTo flat setup → (t : ℕ) → flat.bits * t ≤ 4000000 → label_count setup.table t < 2 ^ 32
few_labels flat setup bound t few =
    let declared = bound.table.few in
    let fresh : t * setup.table.per_cycle ≤ flat.bits * t = product_within t setup.table.per_cycle flat.bits bound.fresh_labels in
    omega arith
