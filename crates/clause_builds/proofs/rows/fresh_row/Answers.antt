use Rattle.std.proofs.Common.{false, get_or, arith}
use Rattle.clause_builds.specs.Rows.{fresh_row, fresh_if}
use Rattle.clause_builds.proofs.Leaving.{all_left}
use Rattle.clause_builds.proofs.Lists.{each_start, each_fits, each_turn, each_ended, item}
use Rattle.clause_builds.proofs.rows.fresh_row.Goals as goal

pub places-init : goal.places-init
places-init c =
    rw c.new-row.ensures (each_start fresh_if c.args.wanted.now (all_left c.args.form.now (fresh_row c.args.wanted.now)))

pub fresh_if-signal-requires : goal.fresh_if-signal-requires
fresh_if-signal-requires c =
    each_fits fresh_if c.args.wanted.now c.places.row c.places.is_wanted-index (get_or c.args.wanted.now c.places.is_wanted-index false) c.places.invariant (omega arith) (item c.args.wanted.now c.places.is_wanted-index false (omega arith)) c.requires

pub places-preserved : goal.places-preserved
places-preserved c =
    let wanted = c.args.wanted.now in
    let i = c.places.is_wanted-index in
    rw c.in_ok-push.ensures.ok (each_turn fresh_if wanted c.places.row i (get_or wanted i false) c.fresh_if-signal.new.form c.fresh_if-signal.result c.places.invariant (omega arith) (item wanted i false (omega arith)) c.fresh_if-signal.ensures.formula c.fresh_if-signal.ensures.signal)

pub returns-clause-signals : goal.returns-clause-signals
returns-clause-signals c = (each_ended fresh_if c.args.wanted.now c.places.row c.places.is_wanted-index c.places.invariant (omega arith)).0

pub returns-clause-formula : goal.returns-clause-formula
returns-clause-formula c = (each_ended fresh_if c.args.wanted.now c.places.row c.places.is_wanted-index c.places.invariant (omega arith)).1
