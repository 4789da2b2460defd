use Rattle.std.proofs.Common.{◌≡◌, ◌≢◌, ◌+◌, ◌++◌, ◌∷◌, [], length, map, take, drop, sym, ◌∙◌, ap, subst, arith, length-append}
use Rattle.std.proofs.lemmas.Bool.{iff_false}
use Rattle.std.proofs.lemmas.List.{take_at, length_push, length-map}
use Rattle.clause_store.specs.Derivations.{clauses_of, IsValidLine}
use Rattle.clause_solver.specs.Watches.{IsWatched}
use Rattle.clause_solver.proofs.OutcomeFacts.{clause_of, clauses_push, ready_more, refuted}
use Rattle.clause_solver.proofs.turn.learn.Goals as goal

pub returns-then-is_empty-clause-turned : goal.returns-then-is_empty-clause-turned
returns-then-is_empty-clause-turned g c =
    let push : c.push.new.self ≡ c.args.state.now.lines ++ c.in_ok-line.line ∷ [] = c.in_ok-push.ensures.ok in
    let valid : IsValidLine (clauses_of c.args.store.now c.args.state.now.lines) c.in_ok-line.line = rw c.as_slice-lines.ensures at c.in_ok-line.ensures.valid in
    record {
      refutation = rw push (refuted _ _ _ _ _ c.requires.ready valid (c.is_empty.ensures.0 c.if-is_empty.true));
      count = ap length push ∙ length_push _ _;
    }

pub returns-clause-turned : goal.returns-clause-turned
returns-clause-turned g c =
    let push : c.push-2.new.self ≡ c.args.state.now.lines ++ c.in_ok-line.line ∷ [] = c.in_ok-push-2.ensures.ok in
    let valid : IsValidLine (clauses_of c.args.store.now c.args.state.now.lines) c.in_ok-line.line = rw c.as_slice-lines.ensures at c.in_ok-line.ensures.valid in
    let filled : c.in_ok-line.line.clause ≢ [] = iff_false c.is_empty.ensures c.if-is_empty.false in
    let count : length (clauses_of c.args.store.now c.args.state.now.lines) ≡ c.count.result + length c.as_slice-lines.result.now = omega (arith, length-append c.args.store.now (map clause_of c.args.state.now.lines), length-map c.args.state.now.lines clause_of, c.count.ensures.count, ap length c.as_slice-lines.ensures) in
    let watched : IsWatched (clauses_of c.args.store.now c.args.state.now.lines ++ c.as_slice-clause.result.now ∷ []) c.jump_back.new.trail c.jump_back.new.watches c.in_ok-state.field-0 = c.in_ok-state.ensures.watched (clauses_of c.args.store.now c.args.state.now.lines) count c.requires.guarded in
    let x : IsWatched (clauses_of c.args.store.now c.args.state.now.lines ++ c.in_ok-line.line.clause ∷ []) c.jump_back.new.trail c.jump_back.new.watches c.in_ok-state.field-0 = rw c.as_slice-clause.ensures at watched in
    let same : length c.analyze.new.marks ≡ length c.args.state.now.marks.items = omega (arith, c.analyze.ensures.len, ap length c.deref_mut.ensures.value) in
    let len : length c.analyze.new.marks ≡ c.jump_back.new.trail.vars = same ∙ c.requires.ready.len ∙ sym c.in_ok-state.ensures.vars in
    let whole : take c.args.state.now.marks.len (c.analyze.new.marks ++ drop (length c.analyze.new.marks) c.args.state.now.marks.items) ≡ c.analyze.new.marks = take_at c.analyze.new.marks (drop (length c.analyze.new.marks) c.args.state.now.marks.items) c.args.state.now.marks.len (omega (arith, same, c.args.state.now.marks.ok.0)) in
    record {
      going = record {
        ready = rw (push, whole) (ready_more _ _ _ _ _ _ _ c.requires.ready valid c.in_ok-line.ensures.analyzed filled x.guarded.explained len c.in_ok-line.ensures.clear);
        watched = rw push (subst (λ cs. IsWatched cs c.jump_back.new.trail c.jump_back.new.watches c.in_ok-state.field-0) (sym (clauses_push c.args.store.now c.args.state.now.lines c.in_ok-line.line)) x);
      };
      count = ap length push ∙ length_push _ _;
    }
