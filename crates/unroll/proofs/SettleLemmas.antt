-- The nodes and roots of cells, cell by cell by rank.
use Rattle.std.proofs.Common.{◌≡◌, ◌≢◌, ℕ, zero, suc, ◌+◌, ◌<◌, ◌≤◌, ◌⊎◌, inl, inr, List, [], ◌∷◌, map, length, get_or, set, refl, sym, ◌∙◌, ap, subst, arith}
use Rattle.std.specs.Prelude.{Contains, slice_get, Some}
use Rattle.std.proofs.lemmas.Bool.{cases_order}
use Rattle.std.proofs.lemmas.List.{get_or-set_same, get_or-set_other}
use Rattle.std.proofs.Math.ListN.{length-set}
use Rattle.coco_base.specs.declared.cell.Part.{Part}
use Rattle.coco_base.specs.declared.netlist.FlatCell.{FlatCell}
use Rattle.coco_base.specs.declared.netlist.Wire.TheVariants.{Const, Bit}
use Rattle.coco_base.specs.declared.setup.Setup.{Setup}
use Rattle.coco_base.specs.declared.unrolled.Node.{Node}
use Rattle.coco_base.specs.declared.unrolled.Node.TheVariants.{Nothing}
use Rattle.coco_model.specs.Netlist.{IsCellBit}
use Rattle.coco_model.specs.Nodes.{HasCellNode}
use Rattle.coco_model.specs.Roots.{HasCellRoot}
use Rattle.coco_model.proofs.Basics.{any_from_member, some_from_any}
use Rattle.model_laws.proofs.Lists.{place_of_member, member_of_place}
use Rattle.model_laws.proofs.Ranks.{cell_bit_or_not}
use Rattle.gate_graph.proofs.Items.{get_at, same_at, place_below}
use Rattle.gate_graph.specs.Graphs.{Gates, IsBuilt, rank_in}
use Rattle.gate_graph.specs.Ranks.{output_rank}
use Rattle.unroll.specs.NodeRows.{nodes_of, root_of, roots_of, HasFourPlaces}
use Rattle.unroll.specs.RootedRuns.{RootedRun, number_in}
use Rattle.unroll.specs.Moments.{HasInputRoots, AreOldRoots, AreLeafRoots}
use Rattle.unroll.specs.Walks.{IsRunAt, IsCellEntry, AreSettled}
use Rattle.unroll.specs.declared.origin.Origin.{Origin}
use Rattle.unroll.specs.declared.origin.Origin.TheVariants.{Nothing as NoOrigin}

-- the node and the root of a cell's output
pub record IsNoded (g : Gates) (run : RootedRun) (t : ℕ) (now : List Node) (roots : List Origin) (c : FlatCell) : Type 0 where
  pub node_is : HasCellNode (number_in g) run.row run.root t c (nodes_of now c.output)
  pub places : HasFourPlaces (nodes_of now c.output)
  pub root_is : roots_of roots c.output ≡ run.root t c.output

-- the cells at the places of the order below one have their nodes and roots, and no other bit has changed
pub record AreNoded (g : Gates) (setup : Setup) (t : ℕ) (known old : List Part) (olds : List Origin) (place : ℕ) (first now : List Node)
    (first_roots roots : List Origin) : Type 0 where
  pub now_long : length now ≡ length first
  pub roots_long : length roots ≡ length first_roots
  pub kept : (b : ℕ) → (IsCellBit g.flat b → ⊥) → nodes_of now b ≡ nodes_of first b
  pub kept_roots : (b : ℕ) → (IsCellBit g.flat b → ⊥) → roots_of roots b ≡ roots_of first_roots b
  pub cells : (run : RootedRun) → IsRunAt g setup t known old run → AreOldRoots run t olds → AreLeafRoots g run t first_roots
      → (p i : ℕ) (c : FlatCell) → p < place → slice_get g.order p ≡ Some i → slice_get g.flat.cells i ≡ Some c
      → IsNoded g run t now roots c

pub noded_none : (g : Gates) (setup : Setup) (t : ℕ) (known old : List Part) (olds : List Origin) (now : List Node) (roots : List Origin)
    → AreNoded g setup t known old olds 0 now now roots roots
noded_none g setup t known old olds now roots = record {
  now_long = refl;
  roots_long = refl;
  kept = λ b n. refl;
  kept_roots = λ b n. refl;
  cells = λ run at is leaves p i c h. absurd (omega arith);
}

output_of_number : (cells : List FlatCell) (i : ℕ) (c : FlatCell) → slice_get cells i ≡ Some c
    → get_or (map (λ (d : FlatCell). d.output) cells) i 0 ≡ c.output
output_of_number [] i c at = absurd cc
output_of_number (d ∷ cells) zero c at = let e : d ≡ c = cc in ap (λ (x : FlatCell). x.output) e
output_of_number (d ∷ cells) (suc i) c at = output_of_number cells i c at

-- the rank of the output of the cell at a place of the order
rank_at : (g : Gates) (p i : ℕ) (c : FlatCell) → slice_get g.order p ≡ Some i → slice_get g.flat.cells i ≡ Some c
    → output_rank g.flat g.ranks (get_or g.order p 0) ≡ rank_in g c.output
rank_at g p i c at is =
    ap (output_rank g.flat g.ranks) (get_at g.order p i 0 at) ∙ ap (λ b. get_or g.ranks b 0) (output_of_number g.flat.cells i c is)

-- a cell that comes earlier in the order has a lower rank, and the other way round
earlier_lower : (g : Gates) → IsBuilt g → (p i : ℕ) (d : FlatCell) (place n : ℕ) (c : FlatCell) → slice_get g.order p ≡ Some i
    → slice_get g.flat.cells i ≡ Some d → slice_get g.order place ≡ Some n → slice_get g.flat.cells n ≡ Some c → p < place
    → rank_in g d.output < rank_in g c.output
earlier_lower g built p i d place n c at_p is_d at is h =
    subst (λ r. r < rank_in g c.output) (rank_at g p i d at_p is_d)
    (subst (λ r. output_rank g.flat g.ranks (get_or g.order p 0) < r) (rank_at g place n c at is)
    (built.order.ascending p place h (place_below g.order place n at)))

lower_earlier : (g : Gates) → IsBuilt g → (p i : ℕ) (d : FlatCell) (place n : ℕ) (c : FlatCell) → slice_get g.order p ≡ Some i
    → slice_get g.flat.cells i ≡ Some d → slice_get g.order place ≡ Some n → slice_get g.flat.cells n ≡ Some c
    → rank_in g d.output < rank_in g c.output → p < place
lower_earlier g built p i d place n c at_p is_d at is lower = go (cases_order p place)
  where
    go : (p ≡ place) ⊎ ((p < place) ⊎ (place < p)) → p < place
    go (inr (inl less)) = less
    go (inl e) =
        let same : i ≡ n = same_at g.order place i n (ap (slice_get g.order) (sym e) ∙ at_p) at in
        let cell : d ≡ c = same_at g.flat.cells n d c (ap (slice_get g.flat.cells) (sym same) ∙ is_d) is in
        let rank : rank_in g d.output ≡ rank_in g c.output = ap (λ (x : FlatCell). rank_in g x.output) cell in
        absurd (omega arith)
    go (inr (inr more)) = let less = earlier_lower g built place n c p i d at is at_p is_d more in absurd (omega arith)

module _ (g : Gates) (setup : Setup) (built : IsBuilt g) (t : ℕ) (known old : List Part) (olds : List Origin) (place n : ℕ) (c : FlatCell)
    (first now : List Node) (first_roots roots : List Origin)
    (at : slice_get g.order place ≡ Some n) (is : slice_get g.flat.cells n ≡ Some c)
    (so_far : AreNoded g setup t known old olds place first now first_roots roots) where
  -- what the cell reads has its roots already
  pub input_roots : (run : RootedRun) → IsRunAt g setup t known old run → AreOldRoots run t olds → AreLeafRoots g run t first_roots
      → HasInputRoots (roots_of roots) (run.root t) c
  input_roots run at_run is_old leaves (Const x) h = refl
  input_roots run at_run is_old leaves (Bit b) h = go (cell_bit_or_not g.flat b)
    where
      go : IsCellBit g.flat b ⊎ (IsCellBit g.flat b → ⊥) → roots_of roots b ≡ run.root t b
      go (inr none) = so_far.kept_roots b none ∙ leaves b none
      go (inl drives) =
          let d = some_from_any (λ (x : FlatCell). x.output ≡ b) g.flat.cells drives in
          let number = place_of_member g.flat.cells d.member d.listed in
          let spot = place_of_member g.order number.place (built.order.all number.place (place_below g.flat.cells number.place d.member number.at)) in
          let lower : rank_in g d.member.output < rank_in g c.output =
          subst (λ x. rank_in g x < rank_in g c.output) (sym d.holds) (built.ranked.cells c (member_of_place g.flat.cells n c is) b h) in
          let early = lower_earlier g built spot.place number.place d.member place n c spot.at number.at at is lower in
          subst (λ x. roots_of roots x ≡ run.root t x) d.holds
          (so_far.cells run at_run is_old leaves spot.place number.place d.member early spot.at number.at).root_is

  -- one more cell has its node and its root
  pub noded_more : (node : Node) (origin : Origin) → c.output < length now → c.output < length roots
      → ((run : RootedRun) → IsRunAt g setup t known old run → AreOldRoots run t olds → HasInputRoots (roots_of roots) (run.root t) c
      → HasCellRoot run.row run.root t c → IsCellEntry g run t c node (root_of origin))
      → AreNoded g setup t known old olds (place + 1) first (set now c.output node) first_roots (set roots c.output origin)
  noded_more node origin inside inside_roots entry = record {
    now_long = length-set now c.output node ∙ so_far.now_long;
    roots_long = length-set roots c.output origin ∙ so_far.roots_long;
    kept = λ b none. other b (apart b none) ∙ so_far.kept b none;
    kept_roots = λ b none. other_root b (apart b none) ∙ so_far.kept_roots b none;
    cells = λ run at_run is_old leaves p i d h at_p is_d. go run at_run is_old leaves p i d h at_p is_d (cases_order p place);
  }
    where
      listed : Contains g.flat.cells c
      listed = member_of_place g.flat.cells n c is

      apart : (b : ℕ) → (IsCellBit g.flat b → ⊥) → b ≢ c.output
      apart b none e = none (any_from_member (λ (d : FlatCell). d.output ≡ b) g.flat.cells c listed (sym e))

      other : (b : ℕ) → b ≢ c.output → nodes_of (set now c.output node) b ≡ nodes_of now b
      other b n = get_or-set_other now c.output b node Nothing n

      other_root : (b : ℕ) → b ≢ c.output → roots_of (set roots c.output origin) b ≡ roots_of roots b
      other_root b n = ap root_of (get_or-set_other roots c.output b origin NoOrigin n)

      here : (run : RootedRun) → IsRunAt g setup t known old run → AreOldRoots run t olds → AreLeafRoots g run t first_roots
          → IsNoded g run t (set now c.output node) (set roots c.output origin) c
      here run at_run is_old leaves =
          let e = entry run at_run is_old (input_roots run at_run is_old leaves) (at_run.roots.cells t (omega arith) c listed) in
          record {
            node_is = subst (HasCellNode (number_in g) run.row run.root t c) (sym (get_or-set_same now c.output node Nothing inside)) e.node_is;
            places = subst HasFourPlaces (sym (get_or-set_same now c.output node Nothing inside)) e.places;
            root_is = ap root_of (get_or-set_same roots c.output origin NoOrigin inside_roots) ∙ e.root_is;
          }

      go : (run : RootedRun) → IsRunAt g setup t known old run → AreOldRoots run t olds → AreLeafRoots g run t first_roots
          → (p i : ℕ) (d : FlatCell) → p < place + 1 → slice_get g.order p ≡ Some i → slice_get g.flat.cells i ≡ Some d
          → (p ≡ place) ⊎ ((p < place) ⊎ (place < p)) → IsNoded g run t (set now c.output node) (set roots c.output origin) d
      go run at_run is_old leaves p i d h at_p is_d (inl e) =
          let same : i ≡ n = same_at g.order place i n (ap (slice_get g.order) (sym e) ∙ at_p) at in
          let cell : d ≡ c = same_at g.flat.cells n d c (ap (slice_get g.flat.cells) (sym same) ∙ is_d) is in
          subst (λ (x : FlatCell). IsNoded g run t (set now c.output node) (set roots c.output origin) x) (sym cell) (here run at_run is_old leaves)
      go run at_run is_old leaves p i d h at_p is_d (inr (inl below)) =
          let lower = earlier_lower g built p i d place n c at_p is_d at is below in
          let away : d.output ≢ c.output = (λ e. let f : rank_in g d.output ≡ rank_in g c.output = ap (rank_in g) e in omega arith) in
          let before = so_far.cells run at_run is_old leaves p i d below at_p is_d in
          record {
            node_is = subst (HasCellNode (number_in g) run.row run.root t d) (sym (other d.output away)) before.node_is;
            places = subst HasFourPlaces (sym (other d.output away)) before.places;
            root_is = other_root d.output away ∙ before.root_is;
          }
      go run at_run is_old leaves p i d h at_p is_d (inr (inr above)) = absurd (omega arith)

-- all cells have their nodes and roots at the end of the order
pub noded_all : (g : Gates) (setup : Setup) → IsBuilt g → (t : ℕ) (known old : List Part) (olds : List Origin) (place : ℕ) (first now : List Node)
    (first_roots roots : List Origin) → length g.order ≤ place → AreNoded g setup t known old olds place first now first_roots roots
    → (run : RootedRun) → IsRunAt g setup t known old run → AreOldRoots run t olds → AreLeafRoots g run t first_roots → AreSettled g run t now roots
noded_all g setup built t known old olds place first now first_roots roots end so_far run at_run is_old leaves = record {
  cells = λ c listed. (each c listed).node_is;
  places = λ c listed. (each c listed).places;
  roots = λ b. go b (cell_bit_or_not g.flat b);
}
  where
    each : (c : FlatCell) → Contains g.flat.cells c → IsNoded g run t now roots c
    each c listed =
        let number = place_of_member g.flat.cells c listed in
        let spot = place_of_member g.order number.place (built.order.all number.place (place_below g.flat.cells number.place c number.at)) in
        so_far.cells run at_run is_old leaves spot.place number.place c (let low = place_below g.order spot.place number.place spot.at in omega arith) spot.at number.at

    go : (b : ℕ) → IsCellBit g.flat b ⊎ (IsCellBit g.flat b → ⊥) → roots_of roots b ≡ run.root t b
    go b (inr none) = so_far.kept_roots b none ∙ leaves b none
    go b (inl drives) =
        let d = some_from_any (λ (x : FlatCell). x.output ≡ b) g.flat.cells drives in
        subst (λ x. roots_of roots x ≡ run.root t x) d.holds (each d.member d.listed).root_is
