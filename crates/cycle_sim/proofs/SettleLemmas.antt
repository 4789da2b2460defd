-- Settling what is known, cell by cell by rank.
use Rattle.std.proofs.Common.{◌≡◌, ◌≢◌, ℕ, zero, suc, ◌+◌, ◌<◌, ◌≤◌, ◌⊎◌, inl, inr, List, [], ◌∷◌, map, length, get_or, set, refl, sym, ◌∙◌, ap, subst, arith}
use Rattle.std.specs.Prelude.{Contains, slice_get, Some}
use Rattle.std.proofs.lemmas.Bool.{cases_order}
use Rattle.std.proofs.lemmas.List.{get_or-set_same, get_or-set_other}
use Rattle.coco_base.specs.declared.cell.Part.{Part}
use Rattle.coco_base.specs.declared.cell.Part.TheVariants.{Zero}
use Rattle.coco_base.specs.declared.netlist.Flat.{Flat}
use Rattle.coco_base.specs.declared.netlist.FlatCell.{FlatCell}
use Rattle.coco_base.specs.declared.netlist.Wire.TheVariants.{Bit}
use Rattle.coco_model.specs.Cells.{IsForced}
use Rattle.coco_model.specs.Known.{part_of, cell_parts, IsForcedRow}
use Rattle.coco_model.specs.Netlist.{wires_of, IsCellBit}
use Rattle.coco_model.specs.Stepped.{row_of}
use Rattle.coco_model.proofs.Basics.{any_from_member}
use Rattle.model_laws.proofs.Forced.{on_wires-cong}
use Rattle.model_laws.proofs.Lists.{place_of_member, member_of_place}
use Rattle.gate_graph.proofs.Items.{get_at, same_at, place_below}
use Rattle.gate_graph.specs.Graphs.{Gates, IsBuilt, rank_in}
use Rattle.gate_graph.specs.Ranks.{output_rank}

-- the cells at the places of the order below one have what their known inputs force, and no other bit has changed
pub record AreSettled (flat : Flat) (order : List ℕ) (place : ℕ) (first row : List Part) : Type 0 where
  pub as_long : length row ≡ length first
  pub kept : (b : ℕ) → (IsCellBit flat b → ⊥) → row_of row b ≡ row_of first b
  pub forced : (p i : ℕ) (c : FlatCell) → p < place → slice_get order p ≡ Some i → slice_get flat.cells i ≡ Some c
      → IsForced c.kind (cell_parts (row_of row) c) (row_of row c.output)

pub settled_none : (flat : Flat) (order : List ℕ) (row : List Part) → AreSettled flat order 0 row row
settled_none flat order row = record { as_long = refl; kept = λ b n. refl; forced = λ p i c h. absurd (omega arith) }

output_of_number : (cells : List FlatCell) (i : ℕ) (c : FlatCell) → slice_get cells i ≡ Some c
    → get_or (map (λ (d : FlatCell). d.output) cells) i 0 ≡ c.output
output_of_number [] i c at = absurd cc
output_of_number (d ∷ cells) zero c at = let e : d ≡ c = cc in ap (λ (x : FlatCell). x.output) e
output_of_number (d ∷ cells) (suc i) c at = output_of_number cells i c at

-- the rank of the output of the cell at a place of the order
rank_at : (g : Gates) (p i : ℕ) (c : FlatCell) → slice_get g.order p ≡ Some i → slice_get g.flat.cells i ≡ Some c
    → output_rank g.flat g.ranks (get_or g.order p 0) ≡ rank_in g c.output
rank_at g p i c at is =
    ap (output_rank g.flat g.ranks) (get_at g.order p i 0 at) ∙ ap (λ b. get_or g.ranks b 0) (output_of_number g.flat.cells i c is)

same_elsewhere : (row : List Part) (bit : ℕ) (x : Part) (b : ℕ) → b ≢ bit → row_of (set row bit x) b ≡ row_of row b
same_elsewhere row bit x b n = get_or-set_other row bit b x Zero n

-- a cell whose inputs and output are not at the bit keeps what is forced
forced_kept : (row : List Part) (bit : ℕ) (x : Part) (c : FlatCell) → ((b : ℕ) → Contains (wires_of c) (Bit b) → b ≢ bit) → c.output ≢ bit
    → IsForced c.kind (cell_parts (row_of row) c) (row_of row c.output)
    → IsForced c.kind (cell_parts (row_of (set row bit x)) c) (row_of (set row bit x) c.output)
forced_kept row bit x c inputs output is =
    subst (λ p. IsForced c.kind (cell_parts (row_of (set row bit x)) c) p) (sym (same_elsewhere row bit x c.output output))
    (subst (λ ps. IsForced c.kind ps (row_of row c.output))
    (sym (on_wires-cong part_of (row_of (set row bit x)) (row_of row) (wires_of c) (λ b h. same_elsewhere row bit x b (inputs b h)))) is)

-- a cell that was just settled, and does not read its output
forced_now : (row : List Part) (x : Part) (c : FlatCell) → ((b : ℕ) → Contains (wires_of c) (Bit b) → b ≢ c.output) → c.output < length row
    → IsForced c.kind (cell_parts (row_of row) c) x
    → IsForced c.kind (cell_parts (row_of (set row c.output x)) c) (row_of (set row c.output x) c.output)
forced_now row x c inputs inside is =
    subst (λ p. IsForced c.kind (cell_parts (row_of (set row c.output x)) c) p) (sym (get_or-set_same row c.output x Zero inside))
    (subst (λ ps. IsForced c.kind ps x)
    (sym (on_wires-cong part_of (row_of (set row c.output x)) (row_of row) (wires_of c) (λ b h. same_elsewhere row c.output x b (inputs b h)))) is)

pub settled_more : (g : Gates) → IsBuilt g → (place n : ℕ) (c : FlatCell) (first row : List Part) (x : Part)
    → slice_get g.order place ≡ Some n → slice_get g.flat.cells n ≡ Some c → c.output < length row
    → IsForced c.kind (cell_parts (row_of row) c) x → AreSettled g.flat g.order place first row
    → length (set row c.output x) ≡ length row
    → AreSettled g.flat g.order (place + 1) first (set row c.output x)
settled_more g built place n c first row x at is inside forced so_far long = record {
  as_long = long ∙ so_far.as_long;
  kept = λ b none. same_elsewhere row c.output x b (λ e. none (any_from_member (λ (d : FlatCell). d.output ≡ b) g.flat.cells c (member_of_place g.flat.cells n c is) (sym e)))
      ∙ so_far.kept b none;
  forced = λ p i d h at_p is_d. go p i d h at_p is_d (cases_order p place);
}
  where
    ordered : (p i : ℕ) (d : FlatCell) → p < place → slice_get g.order p ≡ Some i → slice_get g.flat.cells i ≡ Some d
        → rank_in g d.output < rank_in g c.output
    ordered p i d h at_p is_d =
        subst (λ r. r < rank_in g c.output) (rank_at g p i d at_p is_d)
        (subst (λ r. output_rank g.flat g.ranks (get_or g.order p 0) < r) (rank_at g place n c at is)
        (built.order.ascending p place h (place_below g.order place n at)))

    reads : (i : ℕ) (d : FlatCell) → slice_get g.flat.cells i ≡ Some d → (b : ℕ) → Contains (wires_of d) (Bit b) → rank_in g b < rank_in g d.output
    reads i d is_d b h = built.ranked.cells d (member_of_place g.flat.cells i d is_d) b h

    apart : (a b : ℕ) → rank_in g a < rank_in g b → a ≢ b
    apart a b less e = let same : rank_in g a ≡ rank_in g b = ap (rank_in g) e in omega arith

    go : (p i : ℕ) (d : FlatCell) → p < place + 1 → slice_get g.order p ≡ Some i → slice_get g.flat.cells i ≡ Some d
        → (p ≡ place) ⊎ ((p < place) ⊎ (place < p))
        → IsForced d.kind (cell_parts (row_of (set row c.output x)) d) (row_of (set row c.output x) d.output)
    go p i d h at_p is_d (inl e) =
        let same_number : i ≡ n = same_at g.order place i n (ap (slice_get g.order) (sym e) ∙ at_p) at in
        let same_cell : d ≡ c = same_at g.flat.cells n d c (ap (slice_get g.flat.cells) (sym same_number) ∙ is_d) is in
        subst (λ (y : FlatCell). IsForced y.kind (cell_parts (row_of (set row c.output x)) y) (row_of (set row c.output x) y.output)) (sym same_cell)
        (forced_now row x c (λ b h. apart b c.output (reads n c is b h)) inside forced)
    go p i d h at_p is_d (inr (inl below)) =
        let less = ordered p i d below at_p is_d in
        forced_kept row c.output x d
        (λ b h. apart b c.output (let under = reads i d is_d b h in omega arith)) (apart d.output c.output less)
        (so_far.forced p i d below at_p is_d)
    go p i d h at_p is_d (inr (inr above)) = absurd (omega arith)

-- all cells are settled at the end of the order
pub settled_all : (g : Gates) → IsBuilt g → (place : ℕ) (first row : List Part) → length g.order ≤ place
    → AreSettled g.flat g.order place first row → IsForcedRow g.flat (row_of row)
settled_all g built place first row end so_far = record { cells = cells }
  where
    cells : (c : FlatCell) → Contains g.flat.cells c → IsForced c.kind (cell_parts (row_of row) c) (row_of row c.output)
    cells c listed =
        let number = place_of_member g.flat.cells c listed in
        let spot = place_of_member g.order number.place (built.order.all number.place (place_below g.flat.cells number.place c number.at)) in
        so_far.forced spot.place number.place c (let low = place_below g.order spot.place number.place spot.at in omega arith) spot.at number.at
