use Rattle.std.proofs.Common.{◌≡◌, ◌-◌, length, reverse, get_or, ap, arith, ◌<◌}
use Rattle.std.proofs.lemmas.List.{length-reverse}
use Rattle.std.proofs.lemmas.List.Elements.{Contains-get_or}
use Rattle.clause_builds.proofs.Leaving.{all_left}
use Rattle.clause_builds.proofs.Lists.{through_fits, through_turn, through_ended}
use Rattle.probe_clauses.specs.Probings.{probing_of}
use Rattle.probe_clauses.specs.Times.{times_of}
use Rattle.probe_clauses.specs.Walks.{pass_on, walk_down}
use Rattle.probe_clauses.proofs.Ranges.{reversed_item}
use Rattle.probe_clauses.proofs.walks.walk_down.Goals as goal

pub cells-init : goal.cells-init
cells-init c = all_left c.args.form.now (walk_down (probing_of c.args.run.now) (times_of c.args.times) c.args.row.now)

pub pass_on-requires-clause-cell : goal.pass_on-requires-clause-cell
pass_on-requires-clause-cell c =
    let xs = c.args.run.now.gates.order in
    let en : length c.cells-cells.result.now ≡ length xs = ap length c.cells-cells.ensures.numbers in
    let lt : length xs - 1 - c.cells.i < length xs = omega (arith, en, c.cells-test.true) in
    rw c.cells-cells.ensures.numbers (c.cells-cells.ensures.built.order.numbers (get_or xs (length xs - 1 - c.cells.i) 0) (Contains-get_or xs (length xs - 1 - c.cells.i) 0 lt))

pub pass_on-requires-clause-fits : goal.pass_on-requires-clause-fits
pass_on-requires-clause-fits c =
    let run = probing_of c.args.run.now in
    let xs = c.args.run.now.gates.order in
    let i = c.cells.i in
    let en : length c.cells-cells.result.now ≡ length xs = ap length c.cells-cells.ensures.numbers in
    let lt : i < length xs = omega (arith, en, c.cells-test.true) in
    rw c.cells-cells.ensures.numbers (through_fits (pass_on run (times_of c.args.times)) (reverse xs) c.cells.row i (get_or xs (length xs - 1 - i) 0)
    c.cells.invariant (omega (arith, lt, length-reverse xs)) (reversed_item xs i 0 lt) c.requires.fits)

pub cells-preserved : goal.cells-preserved
cells-preserved c =
    let run = probing_of c.args.run.now in
    let xs = c.args.run.now.gates.order in
    let i = c.cells.i in
    let en : length c.cells-cells.result.now ≡ length xs = ap length c.cells-cells.ensures.numbers in
    let lt : i < length xs = omega (arith, en, c.cells-test.true) in
    through_turn (pass_on run (times_of c.args.times)) (reverse xs) c.cells.row i (get_or xs (length xs - 1 - i) 0) c.pass_on.new.form c.pass_on.new.row
    c.cells.invariant (omega (arith, lt, length-reverse xs)) (reversed_item xs i 0 lt)
    (rw c.cells-cells.ensures.numbers at c.in_ok-pass_on.ensures.formula) (rw c.cells-cells.ensures.numbers at c.in_ok-pass_on.ensures.row)

pub returns-clause-row : goal.returns-clause-row
returns-clause-row c =
    let xs = c.args.run.now.gates.order in
    let en : length c.cells-cells.result.now ≡ length xs = ap length c.cells-cells.ensures.numbers in
    (through_ended (pass_on (probing_of c.args.run.now) (times_of c.args.times)) (reverse xs) c.cells.row c.cells.i c.cells.invariant (omega (arith, en, c.cells-test.false, length-reverse xs))).0

pub returns-clause-formula : goal.returns-clause-formula
returns-clause-formula c =
    let xs = c.args.run.now.gates.order in
    let en : length c.cells-cells.result.now ≡ length xs = ap length c.cells-cells.ensures.numbers in
    (through_ended (pass_on (probing_of c.args.run.now) (times_of c.args.times)) (reverse xs) c.cells.row c.cells.i c.cells.invariant (omega (arith, en, c.cells-test.false, length-reverse xs))).1
