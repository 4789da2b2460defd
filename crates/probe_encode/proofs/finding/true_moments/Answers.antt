use Rattle.std.proofs.Common.{◌≡◌, ◌<◌, ◌∙◌, ◌++◌, [], length, get_or, sym, ap, arith}
use Rattle.std.proofs.lemmas.List.{append-nil, drop_all, get_or_default}
use Rattle.probe_encode.specs.Readings.{true_moments}
use Rattle.probe_encode.specs.Readable.{values_of}
use Rattle.probe_encode.proofs.Read.{next_moments}
use Rattle.probe_encode.proofs.finding.true_moments.Goals as goal

pub cycles-preserved : goal.cycles-preserved
cycles-preserved c =
    let values = values_of c.args.model.now in
    let rows = c.args.rows.now in
    let t = c.cycles.cycle in
    let lt : t < length rows = omega (arith, c.cycles-test.true) in
    let row : c.index-rows-cycle.result ≡ get_or rows t [] = c.index-rows-cycle.is ∙ get_or_default rows t c.index-rows-cycle.result [] lt in
    rw (c.in_ok-add_moments.ensures, c.as_slice.ensures, row) (next_moments values rows t c.cycles.moments (true_moments values 0 rows) lt c.cycles.invariant)

pub returns : goal.returns
returns c =
    let values = values_of c.args.model.now in
    let rows = c.args.rows.now in
    let e = drop_all c.cycles.cycle rows (omega (arith, c.cycles-test.false)) in
    sym (append-nil c.cycles.moments) ∙ sym (ap (λ rs. c.cycles.moments ++ true_moments values c.cycles.cycle rs) e) ∙ c.cycles.invariant
