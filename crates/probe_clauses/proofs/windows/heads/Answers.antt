use Rattle.std.proofs.Common.{◌<◌, ℕ, List, [], ◌∷◌, ◌++◌, length, drop, ap, arith}
use Rattle.std.specs.List.{range_with_len}
use Rattle.std.proofs.lemmas.List.FromFn.{length-range_with_len}
use Rattle.circuit_clauses.specs.declared.signal.Signal.{Signal}
use Rattle.circuit_clauses.specs.Formulas.{Formula, Fits}
use Rattle.clause_builds.specs.Builds.{through, after}
use Rattle.clause_builds.proofs.Leaving.{IsLeft, all_left, first_fits}
use Rattle.clause_builds.proofs.Lists.{through_fits, through_turn, through_ended}
use Rattle.probe_clauses.specs.Windows.{Lasting, lasting, next_lasting, heads}
use Rattle.probe_clauses.proofs.Lasting.{over_fits, over_turn}
use Rattle.probe_clauses.proofs.Ranges.{range_item}
use Rattle.probe_clauses.proofs.windows.heads.Goals as goal

pub cycles-init : goal.cycles-init
cycles-init c = rw c.new-list.ensures (all_left c.args.form.now (heads c.args.window c.args.row.now c.args.tails.now))

turn_fits : (g f : Formula) (window u : ℕ) (row tails list : List Signal) (head : Signal)
    → IsLeft f (heads window row tails) g (through (next_lasting window row tails) (drop u (range_with_len 0 (length row))) (lasting head list))
    → u < length row → Fits (after f (heads window row tails)) → Fits (after g (next_lasting window row tails u (lasting head list)))
turn_fits g f window u row tails list head left lt fits =
    let n = length row in
    through_fits (next_lasting window row tails) (range_with_len 0 n) (lasting head list) u u left (omega (arith, length-range_with_len 0 n)) (range_item n u lt) fits

pub from_block_start-requires-clause-fits : goal.from_block_start-requires-clause-fits
from_block_start-requires-clause-fits c =
    first_fits _ _ (all_left c.cycles.form (next_lasting c.args.window c.args.row.now c.args.tails.now c.cycles.cycle (lasting c.cycles.head c.cycles.list)))
    (turn_fits c.cycles.form c.args.form.now c.args.window c.cycles.cycle c.args.row.now c.args.tails.now c.cycles.list c.cycles.head c.cycles.invariant c.cycles-test.true c.requires.fits)

pub over_window-requires-clause-fits : goal.over_window-requires-clause-fits
over_window-requires-clause-fits c =
    over_fits c.cycles.form c.from_block_start.new.form c.args.window c.args.row.now c.args.tails.now c.cycles.list c.cycles.cycle c.cycles.head c.in_ok-head.head c.in_ok-head.ensures.formula c.in_ok-head.ensures.signal
    (turn_fits c.cycles.form c.args.form.now c.args.window c.cycles.cycle c.args.row.now c.args.tails.now c.cycles.list c.cycles.head c.cycles.invariant c.cycles-test.true c.requires.fits)

pub cycles-preserved : goal.cycles-preserved
cycles-preserved c =
    let row = c.args.row.now in
    let n = length row in
    let t = over_turn c.cycles.form c.from_block_start.new.form c.over_window.new.form c.args.window row c.args.tails.now c.cycles.list c.cycles.cycle c.cycles.head c.in_ok-head.head c.in_ok-over.over c.in_ok-head.ensures.formula c.in_ok-head.ensures.signal c.in_ok-over.ensures.formula c.in_ok-over.ensures.signal in
    rw c.in_ok-push.ensures.ok (through_turn (next_lasting c.args.window row c.args.tails.now) (range_with_len 0 n) (lasting c.cycles.head c.cycles.list) c.cycles.cycle c.cycles.cycle c.over_window.new.form (lasting c.in_ok-head.head (c.cycles.list ++ c.in_ok-over.over ∷ [])) c.cycles.invariant (omega (arith, length-range_with_len 0 n)) (range_item n c.cycles.cycle c.cycles-test.true) t.1 t.0)

pub returns-clause-row : goal.returns-clause-row
returns-clause-row c =
    let n = length c.args.row.now in
    ap (λ (l : Lasting). l.row) (through_ended (next_lasting c.args.window c.args.row.now c.args.tails.now) (range_with_len 0 n) (lasting c.cycles.head c.cycles.list) c.cycles.cycle c.cycles.invariant (omega (arith, length-range_with_len 0 n))).0

pub returns-clause-formula : goal.returns-clause-formula
returns-clause-formula c =
    let n = length c.args.row.now in
    (through_ended (next_lasting c.args.window c.args.row.now c.args.tails.now) (range_with_len 0 n) (lasting c.cycles.head c.cycles.list) c.cycles.cycle c.cycles.invariant (omega (arith, length-range_with_len 0 n))).1
