use Rattle.std.proofs.Common.{◌≡◌}
use Rattle.clause_builds.specs.Builds.{done}
use Rattle.probe_clauses.specs.Windows.{over_window}
use Rattle.probe_clauses.proofs.Choices.{done_made, done_after, ends_block, in_first_block}
use Rattle.probe_clauses.proofs.windows.over_window.Goals as goal
use Rattle.probe_clauses.proofs.windows.over_window.Goals.{Joined-then-cycle-window, then-cycle-window-via-then-cycle-window, then-cycle-window-via-else-cycle-window+then-cycle-window-2}

whole : (c : Joined-then-cycle-window) → over_window c.args.window c.args.tails.now c.args.cycle c.args.head ≡ done c.args.head
whole c =
    elim c.then-cycle-window.branch [
      | then-cycle-window-via-then-cycle-window w ↦ ends_block c.args.window c.args.tails.now c.args.cycle c.args.head w.if-cycle-window.true
      | then-cycle-window-via-else-cycle-window+then-cycle-window-2 w ↦ in_first_block c.args.window c.args.tails.now c.args.cycle c.args.head w.if-cycle-window-2.true
    ]

pub returns-then-cycle-window-clause-signal : goal.returns-then-cycle-window-clause-signal
returns-then-cycle-window-clause-signal c = done_made c.args.form.now _ _ (whole c)

pub returns-then-cycle-window-clause-formula : goal.returns-then-cycle-window-clause-formula
returns-then-cycle-window-clause-formula c = done_after c.args.form.now _ _ (whole c)
