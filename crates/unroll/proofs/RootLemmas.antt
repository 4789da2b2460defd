-- The nodes of the leaves and of the words of a cycle stand for their roots.
use Rattle.std.proofs.Common.{◌≡◌, ℕ, zero, suc, ◌<◌, ◌≤◌, ◌⊎◌, inl, inr, List, length, refl, sym, ◌∙◌, ap, subst, arith}
use Rattle.std.proofs.Math.ListN.{get_or-eq_default}
use Rattle.std.proofs.lemmas.Bool.{cases_order}
use Rattle.coco_base.specs.declared.cell.Part.{Part}
use Rattle.coco_base.specs.declared.cell.Part.TheVariants.{Zero, One, Vary}
use Rattle.coco_base.specs.declared.labels.LabelTable.{LabelTable}
use Rattle.coco_base.specs.declared.setup.Setup.{Setup}
use Rattle.coco_base.specs.declared.setup.Start.{Start}
use Rattle.coco_base.specs.declared.setup.Start.TheVariants.{Public, Label as LabelStart, Fresh}
use Rattle.coco_base.specs.declared.unrolled.Node.{Node}
use Rattle.coco_base.specs.declared.unrolled.Node.TheVariants.{Nothing, Label, Copy, Gate}
use Rattle.coco_model.specs.Carried.{start_state, IsGiven}
use Rattle.coco_model.specs.Known.{ones}
use Rattle.coco_model.specs.Netlist.{IsCellBit}
use Rattle.coco_model.specs.Nodes.{starting_nodes, copy_of}
use Rattle.coco_model.specs.Roots.{Root, roots}
use Rattle.coco_model.specs.Run.{before}
use Rattle.coco_model.specs.Stepped.{row_of}
use Rattle.model_laws.proofs.Carry.{first-linked, next-linked, start_word-linked, stored_word-linked, along}
use Rattle.model_laws.proofs.Knowing.{IsAnyStart, any_starts}
use Rattle.model_laws.proofs.Rooted.{IsNothingWhereKnown, nothing_where_known}
use Rattle.model_laws.proofs.Unique.{same_requests}
use Rattle.gate_graph.specs.Graphs.{Gates, rank_in}
use Rattle.unroll.specs.NodeRows.{NodeRow, copies, leaf_root}
use Rattle.unroll.specs.RootedRuns.{RootedRun, number_in, node_words, HasLeafNodes}
use Rattle.unroll.specs.Walks.{IsRunAt, StandsFor}

stands_later : (g : Gates) (run : RootedRun) (t : ℕ) (node : Node) (r : Root) → StandsFor g run t node r → StandsFor g run (suc t) node r
stands_later g run t Nothing r h = h
stands_later g run t (Label l) r h = h
stands_later g run t (Copy j) r (s, b, below, inside, is, same) = (s, b, omega arith, inside, is, same)
stands_later g run t (Gate kind parts operands) r h = absurd h

starts_stand : (g : Gates) (run : RootedRun) (t : ℕ) (table : LabelTable) (cycle : ℕ) (start : Start)
    → StandsFor g run t (start_state starting_nodes table cycle start) (start_state roots table cycle start)
starts_stand g run t table cycle (Public b) = refl
starts_stand g run t table cycle (LabelStart l) = refl
starts_stand g run t table cycle (Fresh j) = refl

-- what varies in a row of a list is a place of the list
pub varies_below : (parts : List Part) (b : ℕ) → row_of parts b ≡ Vary → b < length parts
varies_below parts b e = go (cases_order b (length parts))
  where
    behind : length parts ≤ b → ⊥
    behind h = let f = sym (get_or-eq_default parts Zero h) ∙ e in absurd cc

    go : (b ≡ length parts) ⊎ ((b < length parts) ⊎ (length parts < b)) → b < length parts
    go (inl same) = absurd (behind (omega arith))
    go (inr (inl less)) = less
    go (inr (inr more)) = absurd (behind (omega arith))

module _ (g : Gates) (setup : Setup) (t : ℕ) (known old : List Part) (run : RootedRun) (at : IsRunAt g setup t known old run)
    (long : length old ≡ g.flat.bits) where
  -- copies of a cycle before stand for the roots of its bits
  copies_stand : (p : ℕ) → t ≡ suc p → (b : ℕ) → StandsFor g run t (copies (number_in g p) (run.row p) b) (run.root p b)
  copies_stand p e b = go (run.row p b) refl
    where
      fixed : IsNothingWhereKnown (run.row p b) (run.root p b)
      fixed = (nothing_where_known g.flat setup (suc t) (rank_in g) run.row run.word at.checked run.root run.rooted at.roots p (omega arith)).bits b

      go : (part : Part) → run.row p b ≡ part → StandsFor g run t (copy_of part (number_in g p b)) (run.root p b)
      go Zero f = fixed.nothing_if (λ h. cc)
      go One f = fixed.nothing_if (λ h. cc)
      go Vary f = (p, b, omega arith, inside, refl, refl)
        where
          row_is : row_of old b ≡ Vary
          row_is = ap (λ r. r b) (at.earlier ∙ ap (λ s. run.row (before s)) e) ∙ f

          inside : b < g.flat.bits
          inside = let h = varies_below old b row_is in omega arith

  -- the words of the first cycle stand for their roots
  first_words : (address k : ℕ) → StandsFor g run t (node_words setup (number_in g) run.row 0 address k) (run.rooted 0 address k)
  first_words address k =
      along (StandsFor g run t) refl (at.roots.carried.first.words address k)
      (start_word-linked (StandsFor g run t) starting_nodes roots setup IsAnyStart (λ b. refl)
      (λ start any. starts_stand g run t setup.table 0 start) setup.words (λ w h k. tt) address k)

  -- and those of a later cycle
  next_words : (p : ℕ) → t ≡ suc p
      → ((address k : ℕ) → StandsFor g run p (node_words setup (number_in g) run.row p address k) (run.rooted p address k))
      → (address k : ℕ) → StandsFor g run t (node_words setup (number_in g) run.row t address k) (run.rooted t address k)
  next_words p e old_words address k =
      subst (λ s. StandsFor g run t (node_words setup (number_in g) run.row s address k) (run.rooted s address k)) (sym e)
      (along (StandsFor g run t) refl ((at.roots.carried.next p (omega arith)).words address k)
      (stored_word-linked (StandsFor g run t) (StandsFor g run t) starting_nodes roots (ones (run.row p)) (ones (run.row p))
      (copies (number_in g p) (run.row p)) (run.root p) (λ b. refl) (λ n r h. h) (copies_stand p e) setup.memories
      (λ mem h. same_requests (ones (run.row p)) (ones (run.row p)) refl mem) address k
      (node_words setup (number_in g) run.row p address k) (run.rooted p address k)
      (subst (λ s. StandsFor g run s (node_words setup (number_in g) run.row p address k) (run.rooted p address k)) (sym e)
      (stands_later g run p (node_words setup (number_in g) run.row p address k) (run.rooted p address k) (old_words address k)))))

  -- the words of a cycle stand for their roots, where those of the cycle before do
  pub words_stand : ((p : ℕ) → t ≡ suc p → (address k : ℕ)
      → StandsFor g run p (node_words setup (number_in g) run.row p address k) (run.rooted p address k))
      → (address k : ℕ) → StandsFor g run t (node_words setup (number_in g) run.row t address k) (run.rooted t address k)
  words_stand old_words = go t refl
    where
      go : (n : ℕ) → t ≡ n → (address k : ℕ) → StandsFor g run t (node_words setup (number_in g) run.row t address k) (run.rooted t address k)
      go zero e address k =
          subst (λ s. StandsFor g run t (node_words setup (number_in g) run.row s address k) (run.rooted s address k)) (sym e) (first_words address k)
      go (suc p) e address k = next_words p e (old_words p e) address k

  -- the nodes of leaves stand for their roots
  pub leaves_stand : ((p : ℕ) → t ≡ suc p → (address k : ℕ)
      → StandsFor g run p (node_words setup (number_in g) run.row p address k) (run.rooted p address k))
      → (node : NodeRow) → IsGiven starting_nodes g.flat setup t node → HasLeafNodes g.flat setup (number_in g) run.row t node
      → (b : ℕ) → (IsCellBit g.flat b → ⊥) → StandsFor g run t (node b) (run.root t b)
  leaves_stand old_words node given leaves = go t refl
    where
      first : t ≡ 0 → IsGiven starting_nodes g.flat setup 0 node → HasLeafNodes g.flat setup (number_in g) run.row 0 node
          → (b : ℕ) → (IsCellBit g.flat b → ⊥) → StandsFor g run t (node b) (run.root 0 b)
      first e given leaves =
          first-linked starting_nodes roots IsAnyStart g.flat setup node (run.root 0) (node_words setup (number_in g) run.row 0) (run.rooted 0)
          (StandsFor g run t) (λ b. refl) (λ start any. starts_stand g run t setup.table 0 start) at.checked.bound (any_starts g.flat setup)
          given (at.roots.carried.given 0 (omega arith)) leaves at.roots.carried.first

      next : (p : ℕ) → t ≡ suc p → IsGiven starting_nodes g.flat setup (suc p) node → HasLeafNodes g.flat setup (number_in g) run.row (suc p) node
          → (b : ℕ) → (IsCellBit g.flat b → ⊥) → StandsFor g run t (node b) (run.root (suc p) b)
      next p e given leaves =
          next-linked starting_nodes roots IsAnyStart g.flat setup (suc p) (ones (run.row p)) (ones (run.row p))
          (copies (number_in g p) (run.row p)) node (run.root p) (run.root (suc p))
          (node_words setup (number_in g) run.row p) (node_words setup (number_in g) run.row (suc p)) (run.rooted p) (run.rooted (suc p))
          (StandsFor g run t) (StandsFor g run t) (StandsFor g run p) (λ b. refl) (λ start any. starts_stand g run t setup.table (suc p) start)
          (λ n r h. h) (λ n r h. subst (λ s. StandsFor g run s n r) (sym e) (stands_later g run p n r h))
          at.checked.bound (any_starts g.flat setup) (λ mem h. same_requests (ones (run.row p)) (ones (run.row p)) refl mem)
          given (at.roots.carried.given (suc p) (omega arith)) leaves (at.roots.carried.next p (omega arith))
          (copies_stand p e) (old_words p e)

      go : (n : ℕ) → t ≡ n → (b : ℕ) → (IsCellBit g.flat b → ⊥) → StandsFor g run t (node b) (run.root t b)
      go zero e b none =
          subst (λ s. StandsFor g run t (node b) (run.root s b)) (sym e)
          (first e (subst (λ s. IsGiven starting_nodes g.flat setup s node) e given)
          (subst (λ s. HasLeafNodes g.flat setup (number_in g) run.row s node) e leaves) b none)
      go (suc p) e b none =
          subst (λ s. StandsFor g run t (node b) (run.root s b)) (sym e)
          (next p e (subst (λ s. IsGiven starting_nodes g.flat setup s node) e given)
          (subst (λ s. HasLeafNodes g.flat setup (number_in g) run.row s node) e leaves) b none)

-- a node that stands for a root has it, by the roots of earlier nodes
pub leaf_root_is : (g : Gates) (run : RootedRun) (t : ℕ) (told : ℕ → Root)
    → ((s b : ℕ) → s < t → b < g.flat.bits → told (number_in g s b) ≡ run.root s b)
    → (node : Node) (r : Root) → StandsFor g run t node r → leaf_root told node ≡ r
leaf_root_is g run t told earlier Nothing r h = sym h
leaf_root_is g run t told earlier (Label l) r h = sym h
leaf_root_is g run t told earlier (Copy j) r (s, b, below, inside, is, same) = ap told is ∙ earlier s b below inside ∙ sym same
leaf_root_is g run t told earlier (Gate kind parts operands) r h = absurd h
