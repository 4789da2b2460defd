-- The part about probes, by bits times cycles times one more than the order.
use Rattle.std.proofs.Common.{◌≡◌, ℕ, zero, suc, ◌+◌, ◌*◌, ◌≤◌, length, refl, arith}
use Rattle.clause_builds.proofs.Sizing.{Takes, takes_more}
use Rattle.gate_graph.specs.Graphs.{IsBuilt}
use Rattle.probe_clauses.specs.RunViews.{RunView}
use Rattle.probe_clauses.specs.Probings.{Probing, probing_of}
use Rattle.probe_clauses.specs.Parts.{probe_part}
use Rattle.probe_clauses.specs.Laws.{most_variables, most_clauses}
use Rattle.probe_clauses.proofs.Sized.{sized}
use Rattle.probe_clauses.proofs.Sizes.{IsSized}
use Rattle.probe_clauses.proofs.Totals.{takes-probe_part}
use Rattle.formula_laws.proofs.NoProbes.{no_bits, no_cycles}

few_variables : (b c d : ℕ) → most_variables (suc b) (suc c) (suc d) ≤ 12 * (suc b * suc c * (suc d + 1))
few_variables b c d = omega arith

few_clauses : (b c d : ℕ) → most_clauses (suc b) (suc c) (suc d) ≤ 43 * (suc b * suc c * (suc d + 1)) + 1
few_clauses b c d = omega arith

by_sizes : (run : Probing) → IsSized run → (b c d : ℕ) → run.bits ≡ b → run.cycles ≡ c → run.order ≡ d
    → Takes (probe_part run) (12 * (b * c * (d + 1))) (43 * (b * c * (d + 1)) + 1)
by_sizes run s zero c d eb ec ed = takes_more (probe_part run) 0 1 _ _ (no_bits run s eb) (omega arith) (omega arith)
by_sizes run s (suc b) zero d eb ec ed = takes_more (probe_part run) 0 1 _ _ (no_cycles run s ec) (omega arith) (omega arith)
by_sizes run s (suc b) (suc c) zero eb ec ed = absurd (let le = s.order in omega (arith, le, ed))
by_sizes run s (suc b) (suc c) (suc d) eb ec ed =
    let v = few_variables b c d in
    let k = few_clauses b c d in
    takes_more (probe_part run) (most_variables run.bits run.cycles run.order) (most_clauses run.bits run.cycles run.order) _ _
    (takes-probe_part run s) (rw (eb, ec, ed) v) (rw (eb, ec, ed) k)

pub probe_size : (view : RunView) → IsBuilt view.gates → 1 ≤ view.order
    → (let area = view.gates.flat.bits * length view.rows * (view.order + 1) in Takes (probe_part (probing_of view)) (12 * area) (43 * area + 1))
probe_size view built le = by_sizes (probing_of view) (sized view built le) view.gates.flat.bits (length view.rows) view.order refl refl refl
