use Rattle.std.proofs.Common.{◌∙◌}
use Rattle.probe_clauses.proofs.Choices.{done_made, done_after, in_last_block, at_block_end, at_block_start}
use Rattle.probe_clauses.proofs.windows.to_block_end.Goals as goal

pub returns-then-row-cycle-clause-signal : goal.returns-then-row-cycle-clause-signal
returns-then-row-cycle-clause-signal c =
    done_made c.args.form.now _ _ (in_last_block c.args.window c.args.row.now c.args.cycle c.args.tails.now c.if-row-cycle.true)

pub returns-then-row-cycle-clause-formula : goal.returns-then-row-cycle-clause-formula
returns-then-row-cycle-clause-formula c =
    done_after c.args.form.now _ _ (in_last_block c.args.window c.args.row.now c.args.cycle c.args.tails.now c.if-row-cycle.true)

pub returns-then-cycle-window-clause-signal : goal.returns-then-cycle-window-clause-signal
returns-then-cycle-window-clause-signal c =
    c.signal_at.ensures ∙ done_made c.args.form.now _ _ (at_block_end c.args.window c.args.row.now c.args.cycle c.args.tails.now c.if-row-cycle.false c.if-cycle-window.true)

pub returns-then-cycle-window-clause-formula : goal.returns-then-cycle-window-clause-formula
returns-then-cycle-window-clause-formula c =
    done_after c.args.form.now _ _ (at_block_end c.args.window c.args.row.now c.args.cycle c.args.tails.now c.if-row-cycle.false c.if-cycle-window.true)

pub returns-then-cycle-window-eq0-clause-signal : goal.returns-then-cycle-window-eq0-clause-signal
returns-then-cycle-window-eq0-clause-signal c =
    done_made c.args.form.now _ _ (at_block_start c.args.window c.args.row.now c.args.cycle c.args.tails.now c.if-row-cycle.false c.if-cycle-window.false c.if-cycle-window-eq0.true)

pub returns-then-cycle-window-eq0-clause-formula : goal.returns-then-cycle-window-eq0-clause-formula
returns-then-cycle-window-eq0-clause-formula c =
    done_after c.args.form.now _ _ (at_block_start c.args.window c.args.row.now c.args.cycle c.args.tails.now c.if-row-cycle.false c.if-cycle-window.false c.if-cycle-window-eq0.true)
