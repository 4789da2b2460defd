use Rattle.std.proofs.Common.{◌-◌, ◌<◌, length, reverse, slice_set, ◌∙◌, arith, false}
use Rattle.std.specs.List.{range_with_len}
use Rattle.std.proofs.lemmas.List.{length-set, length-replicate}
use Rattle.circuit_clauses.specs.declared.signal.Signal.{Signal}
use Rattle.circuit_clauses.specs.declared.signal.Signal.TheVariants.{Constant}
use Rattle.clause_builds.specs.Builds.{done}
use Rattle.clause_builds.proofs.Leaving.{all_left, first_fits, then_done}
use Rattle.clause_builds.proofs.Lists.{through_fits, through_turn, through_ended}
use Rattle.probe_clauses.specs.Windows.{next_tail, to_block_end, tails}
use Rattle.probe_clauses.proofs.Ranges.{back_item, length-backwards}
use Rattle.probe_clauses.proofs.windows.tails.Goals as goal

pub cycles-init : goal.cycles-init
cycles-init c =
    let n = length c.args.row.now in
    let e = c.in_ok-tails.ensures.items_if_clones_equal (λ y same. same) in
    rw e (record { left = all_left c.args.form.now (tails c.args.window c.args.row.now); as_long = length-replicate n (Constant false) })

pub to_block_end-requires-clause-fits : goal.to_block_end-requires-clause-fits
to_block_end-requires-clause-fits c =
    let row = c.args.row.now in
    let n = length row in
    let i = c.cycles.i in
    let items = c.cycles.tails.items in
    let lt : i < length (reverse (range_with_len 0 n)) = omega (arith, length-backwards n) in
    rw c.as_slice.ensures.value (first_fits (to_block_end c.args.window row (n - 1 - i) items) (λ (s : Signal). done (slice_set items (n - 1 - i) s))
    (all_left c.cycles.form (next_tail c.args.window row (n - 1 - i) items))
    (through_fits (next_tail c.args.window row) (reverse (range_with_len 0 n)) items i (n - 1 - i) c.cycles.invariant.left lt (back_item n i (omega arith)) c.requires.fits))

pub cycles-preserved : goal.cycles-preserved
cycles-preserved c =
    let row = c.args.row.now in
    let n = length row in
    let i = c.cycles.i in
    let items = c.cycles.tails.items in
    let s = c.in_ok-tails-2.field-0 in
    let lt : i < length (reverse (range_with_len 0 n)) = omega (arith, length-backwards n) in
    let t = then_done c.cycles.form (to_block_end c.args.window row (n - 1 - i) items) (slice_set items (n - 1 - i)) c.to_block_end.new.form s
    (rw c.as_slice.ensures.value at c.in_ok-tails-2.ensures.formula) (rw c.as_slice.ensures.value at c.in_ok-tails-2.ensures.signal) in
    record {
      left = through_turn (next_tail c.args.window row) (reverse (range_with_len 0 n)) items i (n - 1 - i) c.to_block_end.new.form (slice_set items (n - 1 - i) s)
          c.cycles.invariant.left lt (back_item n i (omega arith)) t.1 t.0;
      as_long = length-set items (n - 1 - i) s ∙ c.cycles.invariant.as_long;
    }

pub returns-clause-row : goal.returns-clause-row
returns-clause-row c =
    let n = length c.args.row.now in
    (through_ended (next_tail c.args.window c.args.row.now) (reverse (range_with_len 0 n)) c.cycles.tails.items c.cycles.i c.cycles.invariant.left (omega (arith, length-backwards n))).0

pub returns-clause-formula : goal.returns-clause-formula
returns-clause-formula c =
    let n = length c.args.row.now in
    (through_ended (next_tail c.args.window c.args.row.now) (reverse (range_with_len 0 n)) c.cycles.tails.items c.cycles.i c.cycles.invariant.left (omega (arith, length-backwards n))).1
