-- A run of a built graph has the sizes that bounds go by.
use Rattle.std.proofs.Common.{◌≡◌, ℕ, zero, suc, ◌+◌, ◌-◌, ◌*◌, ◌<◌, ◌≤◌, ◌^◌, List, [], ◌∷◌, length, map, get_or, Contains, ap, ◌∙◌, inl, inr, arith, length-append}
use Rattle.std.proofs.lemmas.Bool.{cases_lt}
use Rattle.std.proofs.lemmas.List.{length-reverse, length-take, get_or-map}
use Rattle.std.proofs.lemmas.List.Elements.{Contains-get_or}
use Rattle.coco_base.specs.declared.cell.Kind.{Kind}
use Rattle.coco_base.specs.declared.cell.Kind.TheVariants.{Buf, Not, And, Nand, Or, Nor, Xor, Xnor, AndNot, OrNot, Mux, Nmux, Aoi3, Oai3, Aoi4, Oai4}
use Rattle.coco_base.specs.declared.netlist.FlatCell.{FlatCell}
use Rattle.circuit_clauses.specs.Steps.{clauses_of_steps}
use Rattle.circuit_clauses.specs.Formulas.{Formula, Fits}
use Rattle.clause_builds.specs.Builds.{after}
use Rattle.coco_model.specs.Cells.{input_count}
use Rattle.coco_model.specs.Netlist.{wires_of}
use Rattle.gate_graph.specs.Graphs.{Gates, IsBuilt}
use Rattle.gate_graph.specs.Ranks.{output_rank}
use Rattle.probe_clauses.specs.RunViews.{RunView}
use Rattle.probe_clauses.specs.Probings.{probing_of}
use Rattle.probe_clauses.specs.Parts.{probe_part}
use Rattle.probe_clauses.specs.Laws.{IsWithin, most_variables, most_clauses}
use Rattle.probe_clauses.proofs.Sizes.{IsSized}
use Rattle.probe_clauses.proofs.Totals.{takes-probe_part}

four_inputs : (kind : Kind) → input_count kind ≤ 4
four_inputs Buf = omega arith
four_inputs Not = omega arith
four_inputs And = omega arith
four_inputs Nand = omega arith
four_inputs Or = omega arith
four_inputs Nor = omega arith
four_inputs Xor = omega arith
four_inputs Xnor = omega arith
four_inputs AndNot = omega arith
four_inputs OrNot = omega arith
four_inputs Mux = omega arith
four_inputs Nmux = omega arith
four_inputs Aoi3 = omega arith
four_inputs Oai3 = omega arith
four_inputs Aoi4 = omega arith
four_inputs Oai4 = omega arith

four_wires : (cells : List FlatCell) (number : ℕ) → length (get_or (map wires_of cells) number []) ≤ 4
four_wires [] number = omega arith
four_wires (cell ∷ cells) zero =
    let e = length-take (input_count cell.kind) cell.inputs in
    let few = four_inputs cell.kind in
    omega arith
four_wires (cell ∷ cells) (suc number) = four_wires cells number

-- an output of a cell is a bit
output_below : (cells : List FlatCell) (bits number : ℕ) → ((c : FlatCell) → Contains cells c → c.output < bits) → number < length cells
    → get_or (map (λ (c : FlatCell). c.output) cells) number 0 < bits
output_below [] bits number h lt = absurd (omega arith)
output_below (cell ∷ cells) bits number h lt =
    let at = get_or (cell ∷ cells) number cell in
    let e : get_or (map (λ (c : FlatCell). c.output) (cell ∷ cells)) number 0 ≡ at.output = get_or-map (λ (c : FlatCell). c.output) (cell ∷ cells) number cell 0 lt in
    let below : at.output < bits = h at (Contains-get_or (cell ∷ cells) number cell lt) in
    omega arith

-- numbers that rise are no fewer than their places
rises : (rank : ℕ → ℕ) (n : ℕ) → ((j k : ℕ) → j < k → k < n → rank j < rank k) → (k : ℕ) → k < n → k ≤ rank k
rises rank n h zero lt = omega arith
rises rank n h (suc k) lt =
    let before : k ≤ rank k = rises rank n h k (omega arith) in
    let step : rank k < rank (suc k) = h k (suc k) (omega arith) lt in
    omega arith

few_cells : (gates : Gates) → IsBuilt gates → length gates.order ≤ gates.flat.bits
few_cells gates built =
    let n = length gates.order in
    elim (cases_lt 0 n) [
      | inl some ↦
          let k = n - 1 in
          let rank = λ (j : ℕ). output_rank gates.flat gates.ranks (get_or gates.order j 0) in
          let low : k ≤ rank k = rises rank n built.order.ascending k (omega arith) in
          let number = get_or gates.order k 0 in
          let within : number < length gates.flat.cells = built.order.numbers number (Contains-get_or gates.order k 0 (omega arith)) in
          let high : rank k < gates.flat.bits = built.ranks.below (get_or (map (λ (c : FlatCell). c.output) gates.flat.cells) number 0) (output_below gates.flat.cells gates.flat.bits number built.range.outputs within) in
          omega arith
      | inr none ↦ omega arith
    ]

pub sized : (view : RunView) → IsBuilt view.gates → 1 ≤ view.order → IsSized (probing_of view)
sized view built le =
    let few = few_cells view.gates built in
    let e = length-reverse view.gates.order in
    record { wires = four_wires view.gates.flat.cells; cells = omega arith; order = le }

pub within : (view : RunView) (var : ℕ) → IsBuilt view.gates → 1 ≤ view.order → IsWithin view var
within view var built le =
    let t = takes-probe_part (probing_of view) (sized view built le) in
    record { vars = t.vars var; clauses = t.clauses var }

pub part_fits : (f : Formula) (view : RunView) → IsBuilt view.gates → 1 ≤ view.order
    → f.vars + most_variables view.gates.flat.bits (length view.rows) view.order ≤ 2 ^ 30
    → length f.clauses + most_clauses view.gates.flat.bits (length view.rows) view.order ≤ 2 ^ 31
    → Fits (after f (probe_part (probing_of view)))
part_fits f view built le lv lc =
    let w = within view f.vars built le in
    let v = w.vars in
    let c = w.clauses in
    let e = length-append f.clauses (clauses_of_steps f.vars (probe_part (probing_of view) f.vars).steps) in
    record { vars = omega arith; clauses = omega arith }

-- the same, from the numbers as they are computed
pub room_fits : (f : Formula) (view : RunView) (bits cycles order places v1 v2 c1 c2 : ℕ) → IsBuilt view.gates
    → bits ≡ view.gates.flat.bits → cycles ≡ length view.rows → order ≡ view.order → 1 ≤ order → places ≡ bits * cycles
    → v1 ≡ bits * (3 * order + 4) → v2 ≡ places * (6 * order + 7) → c1 ≡ bits * (12 * order + 13) → c2 ≡ places * (24 * order + 24)
    → f.vars + (v1 + v2 + 3 * cycles) ≤ 2 ^ 30 → length f.clauses + (c1 + c2 + 12 * cycles + 1) ≤ 2 ^ 31
    → Fits (after f (probe_part (probing_of view)))
room_fits f view bits cycles order places v1 v2 c1 c2 built eb ec eo le ep ev1 ev2 ec1 ec2 hv hc =
    let w2 : v2 ≡ (bits * cycles) * (6 * order + 7) = ev2 ∙ ap (λ p. p * (6 * order + 7)) ep in
    let d2 : c2 ≡ (bits * cycles) * (24 * order + 24) = ec2 ∙ ap (λ p. p * (24 * order + 24)) ep in
    let vars : f.vars + most_variables bits cycles order ≤ 2 ^ 30 = omega arith in
    let clauses : length f.clauses + most_clauses bits cycles order ≤ 2 ^ 31 = omega arith in
    part_fits f view built (rw eo at le) (rw (eb, ec, eo) at vars) (rw (eb, ec, eo) at clauses)
