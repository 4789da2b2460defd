-- Walks of the clauses about probes, which grow at the leaf's end, and those of the model, which grow at the probe's.
use Rattle.std.proofs.Common.{◌≡◌, ℕ, ◌-◌, ◌<◌, ◌≤◌, ◌⊎◌, inl, inr, true, false, List, [], length, reverse, get_or, refl, sym, ◌∙◌, ap, subst, arith}
use Rattle.std.specs.Prelude.{Contains, slice_get, Some}
use Rattle.std.proofs.lemmas.Bool.{cases_lt, and_parts, and_from}
use Rattle.std.proofs.lemmas.List.{get_or-map, get_or_past, get_or-reverse, length-reverse, reverse-reverse}
use Rattle.coco_base.specs.declared.netlist.Flat.{Flat}
use Rattle.coco_base.specs.declared.netlist.FlatCell.{FlatCell}
use Rattle.coco_base.specs.declared.netlist.Wire.{Wire}
use Rattle.coco_base.specs.declared.netlist.Wire.TheVariants.{Const, Bit}
use Rattle.coco_base.specs.declared.cell.Part.{Part}
use Rattle.coco_base.specs.declared.cell.Part.TheVariants.{Zero, One, Vary}
use Rattle.coco_model.specs.Netlist.{wires_of, IsCellBit}
use Rattle.coco_model.specs.Known.{Row, wire_part}
use Rattle.coco_model.specs.Reach.{IsLive, Reaches}
use Rattle.coco_model.specs.Reach.Reaches.{here as ends, through as goes}
use Rattle.model_laws.proofs.Lists.{member_of_place, place_of_member}
use Rattle.gate_graph.specs.Graphs.{IsBuilt}
use Rattle.gate_graph.proofs.Items.{get_at, item_of, place_below}
use Rattle.calm_reach.specs.CalmRows.{AreLiveInputs, calm_of, is_live}
use Rattle.calm_reach.specs.Walks.{IsLeafBit}
use Rattle.probe_clauses.specs.RunViews.{RunView}
use Rattle.probe_clauses.specs.Probings.{probing_of, output_of_cell, wires_of_cell, row_at, varies}
use Rattle.probe_laws.specs.Showing.{IsReachedFrom}
use Rattle.probe_laws.specs.Showing.IsReachedFrom.{here as starts, through as follows}

-- ---- parts, cells by number, and wires

pub vary_of : (part : Part) → varies part ≡ true → part ≡ Vary
vary_of Zero e = absurd cc
vary_of One e = absurd cc
vary_of Vary e = refl

output_at : (flat : Flat) (number : ℕ) (cell : FlatCell) → slice_get flat.cells number ≡ Some cell → output_of_cell flat number ≡ cell.output
output_at flat number cell at =
    get_or-map (λ (c : FlatCell). c.output) flat.cells number cell 0 (place_below flat.cells number cell at)
    ∙ ap (λ (c : FlatCell). c.output) (get_at flat.cells number cell cell at)

wires_at : (flat : Flat) (number : ℕ) (cell : FlatCell) → slice_get flat.cells number ≡ Some cell → wires_of_cell flat number ≡ wires_of cell
wires_at flat number cell at =
    get_or-map wires_of flat.cells number cell [] (place_below flat.cells number cell at)
    ∙ ap wires_of (get_at flat.cells number cell cell at)

reversed : (xs : List ℕ) (x : ℕ) → Contains xs x → Contains (reverse xs) x
reversed xs x (k, lt, is) = (
  length xs - 1 - k,
  (let long = length-reverse xs in omega (arith, lt, long)),
  get_or-reverse xs (length xs - 1 - k) x (omega (arith, lt))
      ∙ (ap (λ i. get_or xs i x) (let same : length xs - 1 - (length xs - 1 - k) ≡ k = omega (arith, lt) in same) ∙ is),
)

of_reversed : (xs : List ℕ) (x : ℕ) → Contains (reverse xs) x → Contains xs x
of_reversed xs x h = subst (λ ys. Contains ys x) (reverse-reverse xs) (reversed (reverse xs) x h)

-- a bit at a live input is not calm
live_varies : (calm : Row) (cell : FlatCell) (place bit : ℕ) → IsLive calm cell place → get_or (wires_of cell) place (Const false) ≡ Bit bit
    → calm bit ≡ Vary
live_varies calm cell place bit live wire = go (cases_lt place (length (wires_of cell)))
  where
    go : (place < length (wires_of cell)) ⊎ (length (wires_of cell) ≤ place) → calm bit ≡ Vary
    go (inl lt) =
        ap (wire_part calm) (sym wire) ∙ (sym (get_or-map (wire_part calm) (wires_of cell) place (Const false) Zero lt) ∙ live.varies)
    go (inr ge) = absurd (let f : Const false ≡ Bit bit = sym (get_or_past (wires_of cell) place (Const false) ge) ∙ wire in cc)

-- ---- walks in a cycle

module _ (view : RunView) (built : IsBuilt view.gates) (t : ℕ) (live : AreLiveInputs view.gates.flat (row_at view.rows t)) where
  -- what a walk comes to is not calm
  pub reached_varies : (probed bit : ℕ) → IsReachedFrom (probing_of view) t probed bit → calm_of (row_at view.rows t) bit ≡ Vary
  reached_varies probed bit (starts moves) = vary_of (calm_of (row_at view.rows t) bit) moves
  reached_varies probed bit (follows number place b listed opens wire before) =
      let c = item_of view.gates.flat.cells number (built.order.numbers number (of_reversed view.gates.order number listed)) in
      let parts = and_parts (varies (calm_of (row_at view.rows t) (output_of_cell view.gates.flat number))) (is_live (row_at view.rows t) number place) opens in
      live_varies (calm_of (row_at view.rows t)) c.item place bit ((live.each number c.item c.at place).0 parts.1)
      (ap (λ (ws : List Wire). get_or ws place (Const false)) (sym (wires_at view.gates.flat number c.item c.at)) ∙ wire)

  -- a walk to a bit, and one from it to a leaf
  to_reaches : (probed bit leaf : ℕ) → IsReachedFrom (probing_of view) t probed bit
      → Reaches view.gates.flat (calm_of (row_at view.rows t)) leaf bit → Reaches view.gates.flat (calm_of (row_at view.rows t)) leaf probed
  to_reaches probed bit leaf (starts moves) rest = rest
  to_reaches probed bit leaf (follows number place b listed opens wire before) rest =
      let c = item_of view.gates.flat.cells number (built.order.numbers number (of_reversed view.gates.order number listed)) in
      let parts = and_parts (varies (calm_of (row_at view.rows t) (output_of_cell view.gates.flat number))) (is_live (row_at view.rows t) number place) opens in
      to_reaches probed (output_of_cell view.gates.flat number) leaf before
      (goes (output_of_cell view.gates.flat number) c.item place bit (member_of_place view.gates.flat.cells number c.item c.at)
      (sym (output_at view.gates.flat number c.item c.at)) (vary_of (calm_of (row_at view.rows t) (output_of_cell view.gates.flat number)) parts.0)
      ((live.each number c.item c.at place).0 parts.1)
      (ap (λ (ws : List Wire). get_or ws place (Const false)) (sym (wires_at view.gates.flat number c.item c.at)) ∙ wire) rest)

  -- a leaf to which a walk comes is one that the bit reaches
  pub reaches_of : (probed leaf : ℕ) → (IsCellBit view.gates.flat leaf → ⊥) → IsReachedFrom (probing_of view) t probed leaf
      → Reaches view.gates.flat (calm_of (row_at view.rows t)) leaf probed
  reaches_of probed leaf none r = to_reaches probed leaf leaf r (ends none (reached_varies probed leaf r))

  -- what reaches a leaf is not calm
  start_varies : (leaf bit : ℕ) → Reaches view.gates.flat (calm_of (row_at view.rows t)) leaf bit → calm_of (row_at view.rows t) bit ≡ Vary
  start_varies leaf bit (ends none varying) = varying
  start_varies leaf bit (goes b cell place next listed drives varying is_live_at wire rest) = varying

  pub leaf_of : (leaf bit : ℕ) → Reaches view.gates.flat (calm_of (row_at view.rows t)) leaf bit → IsLeafBit view.gates.flat (row_at view.rows t) leaf
  leaf_of leaf bit (ends none varying) = record { no_cell = none; varies = varying }
  leaf_of leaf bit (goes b cell place next listed drives varying is_live_at wire rest) = leaf_of leaf next rest

  from_reaches : (probed leaf bit : ℕ) → Reaches view.gates.flat (calm_of (row_at view.rows t)) leaf bit
      → IsReachedFrom (probing_of view) t probed bit → IsReachedFrom (probing_of view) t probed leaf
  from_reaches probed leaf bit (ends none varying) before = before
  from_reaches probed leaf bit (goes b cell place next listed drives varying is_live_at wire rest) before =
      let p = place_of_member view.gates.flat.cells cell listed in
      let out : output_of_cell view.gates.flat p.place ≡ bit = output_at view.gates.flat p.place cell p.at ∙ drives in
      from_reaches probed leaf next rest
      (follows p.place place next
      (reversed view.gates.order p.place (built.order.all p.place (place_below view.gates.flat.cells p.place cell p.at)))
      (and_from (varies (calm_of (row_at view.rows t) (output_of_cell view.gates.flat p.place))) (is_live (row_at view.rows t) p.place place)
      (ap varies (ap (calm_of (row_at view.rows t)) out ∙ varying)) ((live.each p.place cell p.at place).1 is_live_at))
      (ap (λ (ws : List Wire). get_or ws place (Const false)) (wires_at view.gates.flat p.place cell p.at) ∙ wire)
      (subst (IsReachedFrom (probing_of view) t probed) (sym out) before))

  -- a walk comes to a leaf that the bit reaches
  pub reached_of : (probed leaf : ℕ) → Reaches view.gates.flat (calm_of (row_at view.rows t)) leaf probed
      → IsReachedFrom (probing_of view) t probed leaf
  reached_of probed leaf r = from_reaches probed leaf probed r (starts (ap varies (start_varies leaf probed r)))
