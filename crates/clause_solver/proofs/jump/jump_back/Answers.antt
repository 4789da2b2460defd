use Rattle.std.proofs.Common.{◌≡◌, ◌≢◌, ◌≤◌, [], Some, length, ap, ◌∙◌, arith}
use Rattle.std.specs.Prelude.{slice_index}
use Rattle.std.proofs.lemmas.List.{length-take-le}
use Rattle.clause_solver.specs.Trails.{History, IsCoherent, pushed, undone}
use Rattle.clause_solver.specs.Propagation.{IsUnitOpen}
use Rattle.clause_solver.specs.Watches.{watched_by}
use Rattle.clause_solver.proofs.PropagationFacts.{held_range}
use Rattle.clause_solver.proofs.WatchFacts.{code_less}
use Rattle.clause_solver.proofs.WatchJumps.{IsJump, jump_unit, last_range, unit_not_met, unit_not_loose, unit_not_broken, watched_jump}
use Rattle.clause_solver.proofs.jump.jump_back.Goals as goal

pub undo-requires-clause-place : goal.undo-requires-clause-place
undo-requires-clause-place c =
    omega (arith, c.requires.bounded c.kept_level-level.result c.kept_level-level.ensures.below_last)

pub watch-requires-clause-lit : goal.watch-requires-clause-lit
watch-requires-clause-lit c =
    let lt = held_range _ _ _ _ c.requires.range c.in-Unit.ensures.unit.holds in
    omega (arith, code_less c.in-Unit.lit c.args.trail.now.vars lt, c.requires.lists)

pub watch-requires-clause-other : goal.watch-requires-clause-other
watch-requires-clause-other c =
    last_range _ _ _ _ c.kept_places-kept.result _ _ c.last_of-last.result c.kept_places-kept.ensures c.last_of-last.ensures c.requires.range c.requires.lists

pub push-requires-clause-range : goal.push-requires-clause-range
push-requires-clause-range c =
    rw c.undo.ensures (held_range _ _ _ _ c.requires.range c.in-Unit.ensures.unit.holds)

pub returns-in_ok-push-in-Unit-clause-watched : goal.returns-in_ok-push-in-Unit-clause-watched
returns-in_ok-push-in-Unit-clause-watched c =
    let some : c.args.trail.now.starts ≢ [] = λ e. omega (arith, ap length e, c.requires.levels) in
    let jump : IsJump c.args.trail.now c.args.clause.now c.kept_places-kept.result c.kept_level-level.result = record { learnt = c.requires.analyzed.learnt some; places = c.kept_places-kept.ensures; at_level = c.kept_level-level.ensures } in
    let back : c.undo.new.self ≡ undone c.args.trail.now c.kept_level-level.result = c.undo.ensures in
    let new : c.push.new.self ≡ pushed (undone c.args.trail.now c.kept_level-level.result) c.in-Unit.lit (Some c.args.id) = (c.in_ok-push-in-Unit).ensures.ok ∙ ap (λ (h : History). pushed h c.in-Unit.lit (Some c.args.id)) back in
    let coherent : IsCoherent c.push.new.self = (c.in_ok-push-in-Unit).ensures.coherent in
    let within : slice_index c.args.trail.now.starts c.kept_level-level.result ≤ length c.args.trail.now.lits = omega (arith, c.requires.bounded c.kept_level-level.result c.kept_level-level.ensures.below_last) in
    let head : c.len-head.result ≡ slice_index c.args.trail.now.starts c.kept_level-level.result = c.len-head.ensures.len ∙ ap (λ (h : History). length h.lits) back ∙ length-take-le _ _ within in
    let u : IsUnitOpen (undone c.args.trail.now c.kept_level-level.result).lits c.args.clause.now c.in-Unit.lit = rw back at c.in-Unit.ensures in
    let watches : c.watch.new.watches ≡ watched_by c.args.watches.now c.in-Unit.lit c.last_of-last.result c.args.id = (c.in_ok-watch-in-Unit).ensures in
    λ clauses len g. rw (new, head, watches) (watched_jump clauses c.args.trail.now c.args.watches.now c.args.clause.now c.kept_places-kept.result c.kept_level-level.result c.args.id c.in-Unit.lit c.last_of-last.result g c.requires.range jump len u c.last_of-last.ensures (rw new at coherent))

pub returns-in-Met-clause-watched : goal.returns-in-Met-clause-watched
returns-in-Met-clause-watched c =
    let some : c.args.trail.now.starts ≢ [] = λ e. omega (arith, ap length e, c.requires.levels) in
    let jump : IsJump c.args.trail.now c.args.clause.now c.kept_places-kept.result c.kept_level-level.result = record { learnt = c.requires.analyzed.learnt some; places = c.kept_places-kept.ensures; at_level = c.kept_level-level.ensures } in
    λ clauses len g. absurd (unit_not_met _ _ _ (jump_unit clauses c.args.trail.now c.args.clause.now c.kept_places-kept.result c.kept_level-level.result g.explained jump) (rw c.undo.ensures at c.in-Met.ensures))

pub returns-in-Loose-clause-watched : goal.returns-in-Loose-clause-watched
returns-in-Loose-clause-watched c =
    let some : c.args.trail.now.starts ≢ [] = λ e. omega (arith, ap length e, c.requires.levels) in
    let jump : IsJump c.args.trail.now c.args.clause.now c.kept_places-kept.result c.kept_level-level.result = record { learnt = c.requires.analyzed.learnt some; places = c.kept_places-kept.ensures; at_level = c.kept_level-level.ensures } in
    λ clauses len g. absurd (unit_not_loose _ _ _ (jump_unit clauses c.args.trail.now c.args.clause.now c.kept_places-kept.result c.kept_level-level.result g.explained jump) (rw c.undo.ensures at c.in-Loose.ensures))

pub returns-in-Broken-clause-watched : goal.returns-in-Broken-clause-watched
returns-in-Broken-clause-watched c =
    let some : c.args.trail.now.starts ≢ [] = λ e. omega (arith, ap length e, c.requires.levels) in
    let jump : IsJump c.args.trail.now c.args.clause.now c.kept_places-kept.result c.kept_level-level.result = record { learnt = c.requires.analyzed.learnt some; places = c.kept_places-kept.ensures; at_level = c.kept_level-level.ensures } in
    λ clauses len g. absurd (unit_not_broken _ _ _ (jump_unit clauses c.args.trail.now c.args.clause.now c.kept_places-kept.result c.kept_level-level.result g.explained jump) (rw c.undo.ensures at c.in-Broken.ensures))
