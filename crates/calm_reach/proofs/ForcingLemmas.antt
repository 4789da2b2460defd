-- What the inputs of cells force, cell by cell in the order of ranks.
use Rattle.std.proofs.Common.{◌≡◌, ◌≢◌, ℕ, ◌+◌, ◌<◌, ◌⊎◌, inl, inr, List, length, get_or, set, sym, ◌∙◌, ap, subst, arith}
use Rattle.std.specs.Prelude.{Contains, slice_get, Some}
use Rattle.std.proofs.lemmas.Bool.{cases_order}
use Rattle.std.proofs.lemmas.List.{get_or-set_same, get_or-set_other, get_or-map}
use Rattle.coco_base.specs.declared.netlist.Flat.{Flat}
use Rattle.coco_base.specs.declared.netlist.FlatCell.{FlatCell}
use Rattle.coco_base.specs.declared.netlist.Wire.TheVariants.{Bit}
use Rattle.coco_base.specs.declared.cell.Part.{Part}
use Rattle.coco_base.specs.declared.cell.Part.TheVariants.{Zero}
use Rattle.coco_model.specs.Cells.{IsForced}
use Rattle.coco_model.specs.Netlist.{wires_of}
use Rattle.coco_model.specs.Known.{Row, cell_parts, part_of}
use Rattle.coco_model.specs.Calm.{both, IsCalm}
use Rattle.model_laws.proofs.Forced.{on_wires-cong}
use Rattle.model_laws.proofs.Lists.{place_of_member, member_of_place}
use Rattle.gate_graph.specs.Graphs.{Gates, IsBuilt, rank_in}
use Rattle.gate_graph.specs.Ranks.{output_rank}
use Rattle.gate_graph.proofs.Items.{place_below, same_at, get_at}
use Rattle.gate_graph.proofs.LevelLemmas.{cell_bit}
use Rattle.calm_reach.specs.CalmRows.{row_of}
use Rattle.calm_reach.specs.Forcing.{AreForcedTo, AgreeOnLeaves}

-- the rank of a cell's output, by the cell's number
pub output_ranked : (gates : Gates) (number : ℕ) (c : FlatCell) → slice_get gates.flat.cells number ≡ Some c
    → output_rank gates.flat gates.ranks number ≡ rank_in gates c.output
output_ranked gates number c at =
    ap (λ b. get_or gates.ranks b 0)
    (get_or-map (λ (x : FlatCell). x.output) gates.flat.cells number c 0 (place_below gates.flat.cells number c at)
    ∙ ap (λ (x : FlatCell). x.output) (get_at gates.flat.cells number c c at))

-- a write at a bit that a cell does not read leaves what is known of its inputs
same_inputs : (c : FlatCell) (parts : List Part) (n : ℕ) (x : Part) → ((b : ℕ) → Contains (wires_of c) (Bit b) → b ≢ n)
    → cell_parts (row_of (set parts n x)) c ≡ cell_parts (row_of parts) c
same_inputs c parts n x apart =
    on_wires-cong part_of (row_of (set parts n x)) (row_of parts) (wires_of c) (λ b h. get_or-set_other parts n b x Zero (apart b h))

pub forced_none : (gates : Gates) (parts : List Part) → AreForcedTo gates 0 parts
forced_none gates parts = record { each = λ j h c at. absurd (omega (arith, h)) }

pub forced_more : (gates : Gates) (parts : List Part) (i : ℕ) (cell : FlatCell) (x : Part) → IsBuilt gates → i < length gates.order
    → slice_get gates.flat.cells (get_or gates.order i 0) ≡ Some cell → cell.output < length parts
    → IsForced cell.kind (cell_parts (row_of parts) cell) x
    → AreForcedTo gates i parts → AreForcedTo gates (i + 1) (set parts cell.output x)
forced_more gates parts i cell x built inside at low forced known =
    record { each = λ j h c at_c. each j h c at_c (cases_order j i) }
  where
    new : List Part
    new = set parts cell.output x

    below : (c : FlatCell) (number : ℕ) → slice_get gates.flat.cells number ≡ Some c → (b : ℕ) → Contains (wires_of c) (Bit b)
        → rank_in gates b < rank_in gates c.output
    below c number at_c b read = built.ranked.cells c (member_of_place gates.flat.cells number c at_c) b read

    here : (c : FlatCell) → c ≡ cell → IsForced c.kind (cell_parts (row_of (set parts cell.output x)) c) (row_of (set parts cell.output x) c.output)
    here c e = subst (λ (a : FlatCell). IsForced a.kind (cell_parts (row_of (set parts cell.output x)) a) (row_of (set parts cell.output x) a.output)) (sym e)
        (subst (λ p. IsForced cell.kind (cell_parts (row_of (set parts cell.output x)) cell) p) (sym (get_or-set_same parts cell.output x Zero low))
        (subst (λ ps. IsForced cell.kind ps x)
        (sym (same_inputs cell parts cell.output x (λ b read e2. let r = below cell (get_or gates.order i 0) at b read in let f = ap (rank_in gates) e2 in omega (arith, r, f)))) forced))

    earlier : (j : ℕ) → j < i → (c : FlatCell) → slice_get gates.flat.cells (get_or gates.order j 0) ≡ Some c
        → IsForced c.kind (cell_parts (row_of (set parts cell.output x)) c) (row_of (set parts cell.output x) c.output)
    earlier j h c at_c =
        let less : output_rank gates.flat gates.ranks (get_or gates.order j 0) < output_rank gates.flat gates.ranks (get_or gates.order i 0) =
        built.order.ascending j i h inside in
        let mine = output_ranked gates (get_or gates.order j 0) c at_c in let its = output_ranked gates (get_or gates.order i 0) cell at in
        subst (λ p. IsForced c.kind (cell_parts (row_of (set parts cell.output x)) c) p)
        (sym (get_or-set_other parts cell.output c.output x Zero (λ e. let f = ap (rank_in gates) e in omega (arith, less, mine, its, f))))
        (subst (λ ps. IsForced c.kind ps (row_of parts c.output))
        (sym (same_inputs c parts cell.output x (λ b read e2. let r = below c (get_or gates.order j 0) at_c b read in let f = ap (rank_in gates) e2 in omega (arith, less, mine, its, r, f))))
        (known.each j h c at_c))

    each : (j : ℕ) → j < i + 1 → (c : FlatCell) → slice_get gates.flat.cells (get_or gates.order j 0) ≡ Some c → (j ≡ i) ⊎ ((j < i) ⊎ (i < j))
        → IsForced c.kind (cell_parts (row_of (set parts cell.output x)) c) (row_of (set parts cell.output x) c.output)
    each j h c at_c (inl e) = here c (same_at gates.flat.cells (get_or gates.order i 0) c cell (subst (λ k. slice_get gates.flat.cells (get_or gates.order k 0) ≡ Some c) e at_c) at)
    each j h c at_c (inr (inl lower)) = earlier j lower c at_c
    each j h c at_c (inr (inr higher)) = absurd (omega (arith, h, higher))

pub leaves_more : (flat : Flat) (old parts : List Part) (number : ℕ) (cell : FlatCell) (x : Part) → slice_get flat.cells number ≡ Some cell
    → AgreeOnLeaves flat old parts → AgreeOnLeaves flat old (set parts cell.output x)
leaves_more flat old parts number cell x at same b none =
    get_or-set_other parts cell.output b x Zero
    (λ e. none (cell_bit flat cell b (member_of_place flat.cells number cell at) (sym e))) ∙ same b none

-- all cells forced and leaves as given: the row is calm
pub calm_when_forced : (gates : Gates) (old now : Row) (first parts : List Part) → IsBuilt gates
    → ((b : ℕ) → row_of first b ≡ both (old b) (now b)) → AgreeOnLeaves gates.flat first parts
    → AreForcedTo gates (length gates.order) parts → IsCalm gates.flat old now (row_of parts)
calm_when_forced gates old now first parts built begins agrees forced = record {
  leaves = λ b none. agrees b none ∙ begins b;
  forced = record { cells = cells };
}
  where
    cells : (c : FlatCell) → Contains gates.flat.cells c → IsForced c.kind (cell_parts (row_of parts) c) (row_of parts c.output)
    cells c listed =
        let p = place_of_member gates.flat.cells c listed in
        let k = place_of_member gates.order p.place (built.order.all p.place (place_below gates.flat.cells p.place c p.at)) in
        forced.each k.place (place_below gates.order k.place p.place k.at) c
        (subst (λ n. slice_get gates.flat.cells n ≡ Some c) (sym (get_at gates.order k.place p.place 0 k.at)) p.at)
