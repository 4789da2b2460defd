-- States over all cycles, for functions of cells that read the cells' wires alone.
use Rattle.std.proofs.Common.{◌≡◌, ℕ, zero, suc, false, cond, get_or, refl}
use Rattle.std.specs.Prelude.{Contains}
use Rattle.coco_base.specs.declared.netlist.Flat.{Flat}
use Rattle.coco_base.specs.declared.netlist.FlatCell.{FlatCell}
use Rattle.coco_base.specs.declared.setup.Start.TheVariants.{Public}
use Rattle.coco_base.specs.declared.setup.Setup.{Setup}
use Rattle.coco_model.specs.Netlist.{Valuation, on_wire, IsRanked, HasOneDriver}
use Rattle.coco_model.specs.Carried.{States, start_state, entry_of, start_word, stored_word, is_read, word_address, IsGiven, IsCarried, IsBound}
use Rattle.model_laws.proofs.Solved.{ReadsWires, HasStates, states_exist}
use Rattle.model_laws.proofs.Sources.{Sources, HasSources, leaf_state, leaf_states}

-- what gives the leaves of cycle 0 their states
abbrev first_sources : {X : Type 0} → States X → Setup → Sources X
first_sources one setup = record {
  still = one.constant false;
  input = λ p. start_state one setup.table 0 (entry_of p.values 0);
  echo = λ e. one.constant false;
  answer = λ mem k b. one.constant false;
  leaf = λ leaf k b. start_word one setup.table setup.words leaf.address k;
  flop = λ f. start_state one setup.table 0 (get_or setup.starts f.output (Public false));
}

-- what gives the leaves of a later cycle their states
abbrev next_sources : {X : Type 0} → States X → Setup → ℕ → Valuation → (ℕ → X) → (ℕ → ℕ → X) → Sources X
next_sources one setup t v old old_word = record {
  still = one.constant false;
  input = λ p. start_state one setup.table t (entry_of p.values t);
  echo = λ e. on_wire one.constant old e.source;
  answer = λ mem k b. cond (is_read v mem) (old_word (word_address v mem) k) (old b);
  leaf = λ leaf k b. stored_word one v old setup.memories leaf.address k (old b);
  flop = λ f. on_wire one.constant old f.next;
}

-- the states of a cycle
pub record Cycle (X : Type 0) : Type 0 where
  pub state : ℕ → X
  pub word : ℕ → ℕ → X

-- a function of cells by cycle, which may look at the states of the cycle before
abbrev pub CellFunction : Type 0 → Type 0
CellFunction X = ℕ → (ℕ → X) → FlatCell → (ℕ → X) → X

-- the states of the cycle before; before cycle 0 a state of no matter
abbrev pub old_of : {X : Type 0} → X → (ℕ → ℕ → X) → ℕ → ℕ → X
old_of none state zero b = none
old_of none state (suc t) b = state t b

pub record HasCarried {X : Type 0} (one : States X) (flat : Flat) (setup : Setup) (f : CellFunction X)
    (v_of : ℕ → (ℕ → X) → Valuation) : Type 0 where
  pub state : ℕ → ℕ → X
  pub word : ℕ → ℕ → ℕ → X
  pub carried : (cycles : ℕ) → IsCarried one flat setup cycles (λ t. v_of t (state t)) state word
  pub cells : (t : ℕ) (c : FlatCell) → Contains flat.cells c → state t c.output ≡ f t (old_of (one.constant false) state t) c (state t)

pub carried_exists : {X : Type 0} (one : States X) (flat : Flat) (setup : Setup) (rank : ℕ → ℕ) (f : CellFunction X)
    (v_of : ℕ → (ℕ → X) → Valuation)
    → IsRanked flat rank → IsBound flat setup → HasOneDriver flat → ((t : ℕ) (old : ℕ → X) → ReadsWires (f t old))
    → HasCarried one flat setup f v_of
carried_exists {X} one flat setup rank f v_of ranked bound driven reads = record {
  state = λ t. (cycle t).state;
  word = λ t. (cycle t).word;
  carried = λ cycles. record {
    given = λ t below. given t;
    first = record {
      flops = (sources 0).flops;
      echoes = (sources 0).echoes;
      answers = (sources 0).answers;
      leaves = (sources 0).leaves;
      words = λ address k. refl;
    };
    next = λ t below. record {
      flops = (sources (suc t)).flops;
      echoes = (sources (suc t)).echoes;
      answers = (sources (suc t)).answers;
      leaves = (sources (suc t)).leaves;
      words = λ address k. refl;
    };
  };
  cells = cells;
}
  where
    none : ℕ → X
    none b = one.constant false

    solved : (t : ℕ) (old : ℕ → X) (s : Sources X) → HasStates flat (f t old) (leaf_state flat setup s)
    solved t old s = states_exist flat rank (f t old) (leaf_state flat setup s) ranked driven (reads t old)

    first_cycle : Cycle X
    first_cycle = record { state = (solved 0 none (first_sources one setup)).state; word = start_word one setup.table setup.words }

    next_cycle : ℕ → Cycle X → Cycle X
    next_cycle t c = record {
      state = (solved (suc t) c.state (next_sources one setup (suc t) (v_of t c.state) c.state c.word)).state;
      word = λ address k. stored_word one (v_of t c.state) c.state setup.memories address k (c.word address k);
    }

    cycle : ℕ → Cycle X
    cycle zero = first_cycle
    cycle (suc t) = next_cycle t (cycle t)

    sources_of : ℕ → Sources X
    sources_of zero = first_sources one setup
    sources_of (suc t) = next_sources one setup (suc t) (v_of t (cycle t).state) (cycle t).state (cycle t).word

    sources : (t : ℕ) → HasSources flat setup (sources_of t) (cycle t).state
    sources zero = leaf_states flat setup (sources_of 0) bound driven (cycle 0).state (solved 0 none (sources_of 0)).leaves
    sources (suc t) =
        leaf_states flat setup (sources_of (suc t)) bound driven (cycle (suc t)).state (solved (suc t) (cycle t).state (sources_of (suc t))).leaves

    given : (t : ℕ) → IsGiven one flat setup t (cycle t).state
    given zero = record { undriven = (sources 0).undriven; clock = (sources 0).clock; inputs = (sources 0).inputs }
    given (suc t) = record { undriven = (sources (suc t)).undriven; clock = (sources (suc t)).clock; inputs = (sources (suc t)).inputs }

    cells : (t : ℕ) (c : FlatCell) → Contains flat.cells c
        → (cycle t).state c.output ≡ f t (old_of (one.constant false) (λ t. (cycle t).state) t) c (cycle t).state
    cells zero c h = (solved 0 none (sources_of 0)).cells c h
    cells (suc t) c h = (solved (suc t) (cycle t).state (sources_of (suc t))).cells c h
