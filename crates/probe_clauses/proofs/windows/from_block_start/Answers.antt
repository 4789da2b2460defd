use Rattle.std.proofs.Common.{◌∙◌}
use Rattle.probe_clauses.proofs.Choices.{done_made, done_after, starts_block}
use Rattle.probe_clauses.proofs.windows.from_block_start.Goals as goal

pub returns-then-cycle-window-eq0-clause-signal : goal.returns-then-cycle-window-eq0-clause-signal
returns-then-cycle-window-eq0-clause-signal c =
    c.signal_at.ensures ∙ done_made c.args.form.now _ _ (starts_block c.args.window c.args.row.now c.args.cycle c.args.head c.if-cycle-window-eq0.true)

pub returns-then-cycle-window-eq0-clause-formula : goal.returns-then-cycle-window-eq0-clause-formula
returns-then-cycle-window-eq0-clause-formula c =
    done_after c.args.form.now _ _ (starts_block c.args.window c.args.row.now c.args.cycle c.args.head c.if-cycle-window-eq0.true)
