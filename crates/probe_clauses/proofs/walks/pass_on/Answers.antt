use Rattle.std.proofs.Common.{◌≡◌, ◌∙◌, length, ap, arith, ◌<◌}
use Rattle.std.specs.List.{range_with_len}
use Rattle.std.proofs.lemmas.List.FromFn.{length-range_with_len}
use Rattle.clause_builds.proofs.Leaving.{all_left}
use Rattle.clause_builds.proofs.Lists.{through_fits, through_turn, through_ended}
use Rattle.probe_clauses.specs.Probings.{probing_of}
use Rattle.probe_clauses.specs.Times.{times_of}
use Rattle.probe_clauses.specs.Walks.{pass_at, pass_on}
use Rattle.probe_clauses.proofs.Ranges.{range_item}
use Rattle.probe_clauses.proofs.walks.pass_on.Goals as goal

pub places-init : goal.places-init
places-init c = all_left c.args.form.now (pass_on (probing_of c.args.run.now) (times_of c.args.times) c.args.cell c.args.row.now)

pub pass_to-requires : goal.pass_to-requires
pass_to-requires c =
    let run = probing_of c.args.run.now in
    let n = length (run.wires c.args.cell) in
    let place = c.places.place in
    let en : length c.wires_of-place-end.result.now ≡ n = ap length (c.wires_of-place-end.ensures.wires ∙ c.cell-gate.ensures.wires) in
    let lt : place < n = omega (arith, en, c.places-test.true) in
    rw (c.open_wire-wire.ensures, c.cell-gate.ensures.output) (through_fits (pass_at run (times_of c.args.times) c.args.cell) (range_with_len 0 n) c.places.row place place
    c.places.invariant (omega (arith, length-range_with_len 0 n)) (range_item n place lt) c.requires.fits)

pub places-preserved : goal.places-preserved
places-preserved c =
    let run = probing_of c.args.run.now in
    let n = length (run.wires c.args.cell) in
    let place = c.places.place in
    let en : length c.wires_of-place-end.result.now ≡ n = ap length (c.wires_of-place-end.ensures.wires ∙ c.cell-gate.ensures.wires) in
    let lt : place < n = omega (arith, en, c.places-test.true) in
    through_turn (pass_at run (times_of c.args.times) c.args.cell) (range_with_len 0 n) c.places.row place place c.pass_to.new.form c.pass_to.new.row
    c.places.invariant (omega (arith, length-range_with_len 0 n)) (range_item n place lt)
    (rw (c.open_wire-wire.ensures, c.cell-gate.ensures.output) at c.in_ok-pass_to.ensures.formula)
    (rw (c.open_wire-wire.ensures, c.cell-gate.ensures.output) at c.in_ok-pass_to.ensures.row)

pub returns-clause-row : goal.returns-clause-row
returns-clause-row c =
    let run = probing_of c.args.run.now in
    let n = length (run.wires c.args.cell) in
    let en : length c.wires_of-place-end.result.now ≡ n = ap length (c.wires_of-place-end.ensures.wires ∙ c.cell-gate.ensures.wires) in
    (through_ended (pass_at run (times_of c.args.times) c.args.cell) (range_with_len 0 n) c.places.row c.places.place c.places.invariant (omega (arith, en, c.places-test.false, length-range_with_len 0 n))).0

pub returns-clause-formula : goal.returns-clause-formula
returns-clause-formula c =
    let run = probing_of c.args.run.now in
    let n = length (run.wires c.args.cell) in
    let en : length c.wires_of-place-end.result.now ≡ n = ap length (c.wires_of-place-end.ensures.wires ∙ c.cell-gate.ensures.wires) in
    (through_ended (pass_at run (times_of c.args.times) c.args.cell) (range_with_len 0 n) c.places.row c.places.place c.places.invariant (omega (arith, en, c.places-test.false, length-range_with_len 0 n))).1
