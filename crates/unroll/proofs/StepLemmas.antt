-- A walk with one cycle more.
use Rattle.std.proofs.Common.{◌≡◌, ◌≢◌, ℕ, suc, ◌<◌, ◌≤◌, ◌⊎◌, inl, inr, cond, List, length, get_or, refl, sym, ◌∙◌, ap, subst, arith}
use Rattle.std.proofs.Math.ListN.{get_or-eq_default}
use Rattle.std.proofs.Math.Path.{fun_ext}
use Rattle.std.proofs.lemmas.Bool.{cases_eq, cases_order, lt-ltb, le-ltb}
use Rattle.coco_base.specs.declared.cell.Part.{Part}
use Rattle.coco_base.specs.declared.setup.Setup.{Setup}
use Rattle.coco_base.specs.declared.unrolled.Node.{Node}
use Rattle.coco_base.specs.declared.unrolled.Node.TheVariants.{Nothing}
use Rattle.coco_model.specs.Netlist.{IsCellBit}
use Rattle.gate_graph.specs.Graphs.{Gates, IsBuilt}
use Rattle.unroll.specs.NodeRows.{nodes_of, root_of, roots_of}
use Rattle.unroll.specs.RootedRuns.{RootedRun, number_in, node_words, AreNodesIn}
use Rattle.unroll.specs.Moments.{AreRootedLeaves}
use Rattle.unroll.specs.Walks.{IsRunAt, IsNumbered, AreWalked, AreLeaves, AreSettled, AreNumbered, listed_row, StandsFor}
use Rattle.unroll.specs.declared.origin.Origin.{Origin}
use Rattle.unroll.specs.declared.origin.Origin.TheVariants.{Nothing as NoOrigin}
use Rattle.unroll.proofs.NumberLemmas.{number_within}
use Rattle.unroll.proofs.RootLemmas.{words_stand, leaves_stand, leaf_root_is}

-- a bit is one of so many, or it is not
pub low_or_not : (b n : ℕ) → (b < n) ⊎ (n ≤ b)
low_or_not b n = go (cases_order b n)
  where
    go : (b ≡ n) ⊎ ((b < n) ⊎ (n < b)) → (b < n) ⊎ (n ≤ b)
    go (inl e) = inr (omega arith)
    go (inr (inl less)) = inl less
    go (inr (inr more)) = inr (omega arith)

pub listed_inside : (g : Gates) (nodes : List Node) (t b : ℕ) → b < g.flat.bits → listed_row g nodes t b ≡ nodes_of nodes (number_in g t b)
listed_inside g nodes t b h = ap (λ x. cond x (nodes_of nodes (number_in g t b)) Nothing) (lt-ltb b g.flat.bits h)

listed_outside : (g : Gates) (nodes : List Node) (t b : ℕ) → g.flat.bits ≤ b → listed_row g nodes t b ≡ Nothing
listed_outside g nodes t b h = ap (λ x. cond x (nodes_of nodes (number_in g t b)) Nothing) (le-ltb b g.flat.bits h)

-- the nodes of a cycle that were written are listed
placed_row : (g : Gates) (t : ℕ) (row old new : List Node) → length row ≡ g.flat.bits → AreNumbered Nothing g t g.flat.bits row old new
    → listed_row g new t ≡ nodes_of row
placed_row g t row old new long placed = fun_ext (λ b. go b (low_or_not b g.flat.bits))
  where
    go : (b : ℕ) → (b < g.flat.bits) ⊎ (g.flat.bits ≤ b) → listed_row g new t b ≡ nodes_of row b
    go b (inl low) = listed_inside g new t b low ∙ placed.placed b low
    go b (inr high) = listed_outside g new t b high ∙ sym (get_or-eq_default row Nothing (omega arith))

-- those of earlier cycles stay
earlier_row : (g : Gates) → IsBuilt g → (t s : ℕ) (row old new : List Node) → AreNumbered Nothing g t g.flat.bits row old new → s < t
    → listed_row g new s ≡ listed_row g old s
earlier_row g built t s row old new placed h = fun_ext (λ b. go b (low_or_not b g.flat.bits))
  where
    go : (b : ℕ) → (b < g.flat.bits) ⊎ (g.flat.bits ≤ b) → listed_row g new s b ≡ listed_row g old s b
    go b (inl low) = listed_inside g new s b low ∙ placed.earlier (number_in g s b) (number_within g built s t b low h) ∙ sym (listed_inside g old s b low)
    go b (inr high) = listed_outside g new s b high ∙ sym (listed_outside g old s b high)

module _ (g : Gates) (setup : Setup) (built : IsBuilt g) (t : ℕ) (known old : List Part) (run : RootedRun)
    (at : IsRunAt g setup t known old run) (long_old : length old ≡ g.flat.bits)
    (nodes : List Node) (origins : List Origin) (words : List Node) (roots : List Origin)
    (walked : AreWalked g setup run t nodes origins words roots)
    (new_words leaves now : List Node) (now_roots : List Origin)
    (leaves_are : AreLeaves g setup run t new_words leaves) where
  -- bits that no cell drives have their roots
  pub rooted_leaves : AreRootedLeaves g run t origins leaves
  rooted_leaves b none =
      leaf_root_is g run t (roots_of origins) walked.origins_are (nodes_of leaves b) (run.root t b)
      (leaves_stand g setup t known old run at long_old walked.word_roots (nodes_of leaves) (leaves_are.given (nodes_of leaves) (λ c n. refl))
      (leaves_are.leaves (nodes_of leaves) (λ c n. refl)) b none)

  -- the lists with one cycle more
  pub walked_more : (new_nodes : List Node) (new_origins : List Origin) → length now ≡ g.flat.bits
      → ((b : ℕ) → (IsCellBit g.flat b → ⊥) → nodes_of now b ≡ nodes_of leaves b) → AreSettled g run t now now_roots
      → AreNumbered Nothing g t g.flat.bits now nodes new_nodes → AreNumbered NoOrigin g t g.flat.bits now_roots origins new_origins
      → AreWalked g setup run (suc t) new_nodes new_origins new_words now_roots
  walked_more new_nodes new_origins long kept settled placed placed_roots = record {
    nodes_are = λ s h. nodes_at s h (cases_eq s t);
    origins_are = λ s b h low. origins_at s b h low (cases_eq s t);
    last = λ s e b. settled.roots b ∙ ap (λ x. run.root x b) (let f : t ≡ s = omega arith in f);
    words_are = leaves_are.words_are;
    word_roots = λ s e address k.
        subst (λ x. StandsFor g run x (node_words setup (number_in g) run.row x address k) (run.rooted x address k)) (let f : t ≡ s = omega arith in f)
        (words_stand g setup t known old run at long_old walked.word_roots address k);
    others = λ i. others i (placed.others i) (walked.others i);
  }
    where
      now_nodes : AreNodesIn g.flat setup (number_in g) run t (listed_row g new_nodes t)
      now_nodes = subst (AreNodesIn g.flat setup (number_in g) run t) (sym (placed_row g t now nodes new_nodes long placed)) (record {
        cells = settled.cells;
        places = settled.places;
        given = leaves_are.given (nodes_of now) kept;
        leaves = leaves_are.leaves (nodes_of now) kept;
      })

      nodes_at : (s : ℕ) → s < suc t → (s ≡ t) ⊎ (s ≢ t) → AreNodesIn g.flat setup (number_in g) run s (listed_row g new_nodes s)
      nodes_at s h (inl e) = subst (λ x. AreNodesIn g.flat setup (number_in g) run x (listed_row g new_nodes x)) (sym e) now_nodes
      nodes_at s h (inr n) =
          subst (AreNodesIn g.flat setup (number_in g) run s) (sym (earlier_row g built t s now nodes new_nodes placed (omega arith)))
          (walked.nodes_are s (omega arith))

      origins_at : (s b : ℕ) → s < suc t → b < g.flat.bits → (s ≡ t) ⊎ (s ≢ t) → roots_of new_origins (number_in g s b) ≡ run.root s b
      origins_at s b h low (inl e) =
          subst (λ x. roots_of new_origins (number_in g x b) ≡ run.root x b) (sym e) (ap root_of (placed_roots.placed b low) ∙ settled.roots b)
      origins_at s b h low (inr n) =
          ap root_of (placed_roots.earlier (number_in g s b) (number_within g built s t b low (omega arith)))
          ∙ walked.origins_are s b (omega arith) low

      others : (i : ℕ) → (get_or new_nodes i Nothing ≡ get_or nodes i Nothing) ⊎ IsNumbered g (suc t) i
          → (nodes_of nodes i ≡ Nothing) ⊎ IsNumbered g t i → (nodes_of new_nodes i ≡ Nothing) ⊎ IsNumbered g (suc t) i
      others i (inr is) rest = inr is
      others i (inl same) (inl still) = inl (same ∙ still)
      others i (inl same) (inr is) =
          let early = is.earlier in
          inr (record { cycle = is.cycle; bit = is.bit; earlier = omega arith; inside = is.inside; number = is.number })
