-- The cells of a built graph, those of higher rank first, stand in order.
use Rattle.std.proofs.Common.{◌≡◌, ℕ, false, ◌-◌, ◌<◌, ◌≤◌, List, [], ◌∷◌, length, get_or, map, reverse, Contains, refl, sym, ap, ◌∙◌, subst, arith, inl, inr}
use Rattle.std.proofs.lemmas.Bool.{cases_eq, cases_lt}
use Rattle.std.proofs.lemmas.List.{get_or-map, get_or-reverse, length-reverse, get_or_past, length-map}
use Rattle.std.proofs.lemmas.List.Elements.{Contains-get_or}
use Rattle.coco_base.specs.declared.netlist.FlatCell.{FlatCell}
use Rattle.coco_base.specs.declared.netlist.Wire.{Wire}
use Rattle.coco_base.specs.declared.netlist.Wire.TheVariants.{Const, Bit}
use Rattle.coco_model.specs.Netlist.{wires_of}
use Rattle.gate_graph.specs.Graphs.{Gates, IsBuilt, rank_in}
use Rattle.gate_graph.specs.Ranks.{output_rank}
use Rattle.probe_clauses.specs.RunViews.{RunView}
use Rattle.probe_clauses.specs.Probings.{wires_of_cell, output_of_cell}
use Rattle.probe_laws.specs.Laws.{OrderlyLaw}

const_no_bit : {P : Type 0} (bit : ℕ) → ◌≡◌ {A = Wire} (Const false) (Bit bit) → P
const_no_bit bit e = absurd (cc)

wire_in : (wires : List Wire) (place bit : ℕ) → get_or wires place (Const false) ≡ Bit bit → Contains wires (Bit bit)
wire_in wires place bit e = elim (cases_lt place (length wires)) [
  | inl lt ↦ subst (Contains wires) e (Contains-get_or wires place (Const false) lt)
  | inr ge ↦ const_no_bit bit (sym (get_or_past wires place (Const false) ge) ∙ e)
]

-- what reads a bit is a cell of the netlist
record IsReader (gates : Gates) (number bit : ℕ) : Type 0 where
  pub cell : FlatCell
  pub has : Contains gates.flat.cells cell
  pub reads : Contains (wires_of cell) (Bit bit)
  pub output : output_of_cell gates.flat number ≡ cell.output

reader : (gates : Gates) (number place bit : ℕ) → get_or (wires_of_cell gates.flat number) place (Const false) ≡ Bit bit → IsReader gates number bit
reader gates number place bit e = go gates.flat.cells refl
  where
    go : (cells : List FlatCell) → gates.flat.cells ≡ cells → IsReader gates number bit
    go [] none = const_no_bit bit (subst (λ (cs : List FlatCell). get_or (get_or (map wires_of cs) number []) place (Const false) ≡ Bit bit) none e)
    go (c ∷ cs) is = elim (cases_lt number (length gates.flat.cells)) [
      | inl lt ↦
          let wires : wires_of_cell gates.flat number ≡ wires_of (get_or gates.flat.cells number c) = get_or-map wires_of gates.flat.cells number c [] lt in
          record {
            cell = get_or gates.flat.cells number c;
            has = Contains-get_or gates.flat.cells number c lt;
            reads = wire_in (wires_of (get_or gates.flat.cells number c)) place bit (ap (λ (ws : List Wire). get_or ws place (Const false)) (sym wires) ∙ e);
            output = get_or-map (λ (x : FlatCell). x.output) gates.flat.cells number c 0 lt;
          }
      | inr ge ↦
          let past : wires_of_cell gates.flat number ≡ [] = get_or_past (map wires_of gates.flat.cells) number [] (let long = length-map gates.flat.cells wires_of in omega arith) in
          const_no_bit bit (ap (λ (ws : List Wire). get_or ws place (Const false)) (sym past) ∙ e)
    ]

module _ (view : RunView) (built : IsBuilt view.gates) where
  inputs : (cell place bit : ℕ) → get_or (wires_of_cell view.gates.flat cell) place (Const false) ≡ Bit bit → bit < view.gates.flat.bits
  inputs cell place bit e = (let r = reader view.gates cell place bit e in built.range.inputs r.cell r.has (Bit bit) r.reads)

  order_at : (j : ℕ) → j < length view.gates.order → get_or (reverse view.gates.order) j 0 ≡ get_or view.gates.order (length view.gates.order - 1 - j) 0
  order_at j lt = get_or-reverse view.gates.order j 0 lt

  -- a reader has the higher rank
  falling : (i j place : ℕ) → i ≤ j → j < length (reverse view.gates.order)
      → get_or (wires_of_cell view.gates.flat (get_or (reverse view.gates.order) j 0)) place (Const false)
      ≡ Bit (output_of_cell view.gates.flat (get_or (reverse view.gates.order) i 0)) → ⊥
  falling i j place le lt e =
      let n = length view.gates.order in
      let long : length (reverse view.gates.order) ≡ n = length-reverse view.gates.order in
      let later = get_or (reverse view.gates.order) j 0 in
      let sooner = get_or (reverse view.gates.order) i 0 in
      let r = reader view.gates later place (output_of_cell view.gates.flat sooner) e in
      let less : rank_in view.gates (output_of_cell view.gates.flat sooner) < rank_in view.gates r.cell.output = built.ranked.cells r.cell r.has (output_of_cell view.gates.flat sooner) r.reads in
      let own : rank_in view.gates (output_of_cell view.gates.flat later) ≡ rank_in view.gates r.cell.output = ap (rank_in view.gates) r.output in
      elim (cases_eq i j) [
        | inl same ↦
            let here : rank_in view.gates (output_of_cell view.gates.flat sooner) ≡ rank_in view.gates (output_of_cell view.gates.flat later) =
            ap (λ k. rank_in view.gates (output_of_cell view.gates.flat (get_or (reverse view.gates.order) k 0))) same in
            omega arith
        | inr other ↦
            let up = built.order.ascending (n - 1 - j) (n - 1 - i) (omega (arith, le, lt, long, other)) (omega (arith, le, lt, long)) in
            let a : rank_in view.gates (output_of_cell view.gates.flat later) ≡ output_rank view.gates.flat view.gates.ranks (get_or view.gates.order (n - 1 - j) 0) =
            ap (output_rank view.gates.flat view.gates.ranks) (order_at j (omega arith)) in
            let b : rank_in view.gates (output_of_cell view.gates.flat sooner) ≡ output_rank view.gates.flat view.gates.ranks (get_or view.gates.order (n - 1 - i) 0) =
            ap (output_rank view.gates.flat view.gates.ranks) (order_at i (omega arith)) in
            omega arith
      ]

pub are_orderly : OrderlyLaw
are_orderly view built = record {
  inputs = λ cell place bit has e. inputs view built cell place bit e;
  falling = falling view built;
}
