use Rattle.std.proofs.Common.{◌≡◌, ◌+◌, ◌-◌, ◌<◌, ◌^◌, length, refl, sym, ap, subst, ◌∙◌, arith}
use Rattle.clause_solver.specs.Trails.{History}
use Rattle.clause_solver.specs.Restarts.{AreLeft, IsCurrent, restarts_of}
use Rattle.clause_solver.specs.Watches.{IsWatched}
use Rattle.clause_solver.specs.Turns.{IsMetBy, IsRefuted, HasLearnt}
use Rattle.clause_solver.proofs.LineCount.{few_lines}
use Rattle.clause_solver.proofs.OutcomeFacts.{solution}
use Rattle.clause_solver.proofs.RestartFacts.{no_restarts, going_on, going_restarts, planned_restarts}
use Rattle.clause_solver.proofs.TakenFacts.{left_none, length_left, left_since, left_front}
use Rattle.clause_solver.proofs.TurnFacts.{IsPosed, untouched_explained, begun_ready, begun_watched}
use Rattle.clause_solver.proofs.solver.search_lines.Goals as goal

pub watch_store-requires-clause-explained : goal.watch_store-requires-clause-explained
watch_store-requires-clause-explained g c =
    let posed : IsPosed c.args.store.now c.args.vars = record { ascends = c.has_empty.ensures.ascending; over = c.requires.range; small = c.requires.vars; filled = c.if-has_empty.ensures.found } in
    untouched_explained c.args.store.now c.args.vars c.in_ok-state.state posed c.in_ok-state.ensures

pub returns-in-Met-clause-outcome : goal.returns-in-Met-clause-outcome
returns-in-Met-clause-outcome g c =
    let met : IsMetBy c.args.store.now c.take_turn.new.state = rw c.in-Met.is at c.in_ok-take_turn.ensures.turned in
    let vars : c.take_turn.new.state.trail.vars ≡ c.args.vars = c.in_ok-take_turn.ensures.vars ∙ c.restart_where_due.ensures.vars ∙ c.stepping.invariant.vars in
    rw (← vars) (solution _ _ _ _ met.explained met.model (c.in_ok-values_of-in-Met).ensures.len (c.in_ok-values_of-in-Met).ensures.values)

pub returns-clause-spent : goal.returns-clause-spent
returns-clause-spent g c =
    let few : length c.stepping.state.lines < 3 ^ c.args.vars = few_lines c.args.store.now c.stepping.state.lines c.args.vars c.has_empty.ensures.ascending c.requires.range c.stepping.invariant.going.ready.progress in
    (omega (arith, c.stepping.invariant.count), c.if-has_empty.ensures.found)

pub returns-then-has_empty-clause-taken : goal.returns-then-has_empty-clause-taken
returns-then-has_empty-clause-taken g c =
    let none : length c.new.result ≡ 0 = ap length c.new.ensures in
    let restarts : restarts_of c.args.every (length c.new.result) ≡ 0 = ap (restarts_of c.args.every) none ∙ no_restarts c.args.every 0 (omega arith) in
    omega arith

pub returns-in-Some-clause-taken : goal.returns-in-Some-clause-taken
returns-in-Some-clause-taken g c =
    let one : length c.refute.new.state.lines ≡ 1 = (c.in_ok-refute-in-Some).ensures.count ∙ ap (λ xs. length xs + 1) c.in_ok-state.ensures.lines in
    let restarts : restarts_of c.args.every (length c.refute.new.state.lines) ≡ 0 = ap (restarts_of c.args.every) one ∙ no_restarts c.args.every 1 c.requires.every in
    omega arith

pub stepping-init : goal.stepping-init
stepping-init g c =
    let posed : IsPosed c.args.store.now c.args.vars = record { ascends = c.has_empty.ensures.ascending; over = c.requires.range; small = c.requires.vars; filled = c.if-has_empty.ensures.found } in
    let u = c.in_ok-state.ensures in
    let begun : IsWatched c.args.store.now c.watch_store.new.trail c.watch_store.new.watches 0 = rw c.in-None.is at c.in_ok-id.ensures.begun in
    let vars : c.watch_store.new.trail.vars ≡ c.args.vars = c.in_ok-id.ensures.vars ∙ ap (λ (h : History). h.vars) u.trail in
    let restarts : c.new-plan.result.restarts ≡ 0 = c.new-plan.ensures.planned.began refl in
    record {
      going = record {
        ready = begun_ready c.args.store.now c.args.vars c.in_ok-state.state c.watch_store.new.trail posed u begun.guarded.explained vars;
        watched = begun_watched c.args.store.now c.args.vars c.in_ok-state.state c.watch_store.new.trail c.watch_store.new.watches u begun;
      };
      count = ap length u.lines;
      vars = vars;
      every = c.new-plan.ensures.every;
      planned = c.new-plan.ensures.planned;
      others = subst (λ n. AreLeft c.args.others.now.items n c.args.others.now.items) (sym restarts) (left_none c.args.others.now.items);
    }

pub returns-in_err-take_turn-clause-left : goal.returns-in_err-take_turn-clause-left
returns-in_err-take_turn-clause-left g c =
    let after : AreLeft c.args.others.now.items c.restart_where_due.new.plan.restarts c.restart_where_due.new.others.items = left_since _ _ _ c.stepping.plan.restarts _ c.restart_where_due.ensures.grows c.stepping.invariant.others c.restart_where_due.ensures.left in
    left_front _ _ c.restart_where_due.new.plan.restarts after

pub returns-in_err-values_of-in-Met-clause-left : goal.returns-in_err-values_of-in-Met-clause-left
returns-in_err-values_of-in-Met-clause-left g c =
    let after : AreLeft c.args.others.now.items c.restart_where_due.new.plan.restarts c.restart_where_due.new.others.items = left_since _ _ _ c.stepping.plan.restarts _ c.restart_where_due.ensures.grows c.stepping.invariant.others c.restart_where_due.ensures.left in
    left_front _ _ c.restart_where_due.new.plan.restarts after

pub returns-in-Met-clause-left : goal.returns-in-Met-clause-left
returns-in-Met-clause-left g c =
    let after : AreLeft c.args.others.now.items c.restart_where_due.new.plan.restarts c.restart_where_due.new.others.items = left_since _ _ _ c.stepping.plan.restarts _ c.restart_where_due.ensures.grows c.stepping.invariant.others c.restart_where_due.ensures.left in
    left_front _ _ c.restart_where_due.new.plan.restarts after

pub returns-in-Refuted-clause-left : goal.returns-in-Refuted-clause-left
returns-in-Refuted-clause-left g c =
    let after : AreLeft c.args.others.now.items c.restart_where_due.new.plan.restarts c.restart_where_due.new.others.items = left_since _ _ _ c.stepping.plan.restarts _ c.restart_where_due.ensures.grows c.stepping.invariant.others c.restart_where_due.ensures.left in
    left_front _ _ c.restart_where_due.new.plan.restarts after

pub returns-in-Met-clause-taken : goal.returns-in-Met-clause-taken
returns-in-Met-clause-taken g c =
    let after : AreLeft c.args.others.now.items c.restart_where_due.new.plan.restarts c.restart_where_due.new.others.items = left_since _ _ _ c.stepping.plan.restarts _ c.restart_where_due.ensures.grows c.stepping.invariant.others c.restart_where_due.ensures.left in
    omega (arith, length_left _ _ c.restart_where_due.new.plan.restarts after)

pub returns-in-Refuted-clause-taken : goal.returns-in-Refuted-clause-taken
returns-in-Refuted-clause-taken g c =
    let after : AreLeft c.args.others.now.items c.restart_where_due.new.plan.restarts c.restart_where_due.new.others.items = left_since _ _ _ c.stepping.plan.restarts _ c.restart_where_due.ensures.grows c.stepping.invariant.others c.restart_where_due.ensures.left in
    let current : IsCurrent c.args.every c.restart_where_due.new.plan.restarts c.restart_where_due.new.plan.next c.stepping.count = subst (λ e. IsCurrent e c.restart_where_due.new.plan.restarts c.restart_where_due.new.plan.next c.stepping.count) c.stepping.invariant.every c.restart_where_due.ensures.current in
    let refuted : IsRefuted c.args.store.now (length c.restart_where_due.new.state.lines) c.take_turn.new.state = rw c.in-Refuted.is at c.in_ok-take_turn.ensures.turned in
    let lines : length c.take_turn.new.state.lines ≡ c.stepping.count + 1 = refuted.count ∙ ap (λ xs. length xs + 1) c.restart_where_due.ensures.lines ∙ ap (λ n. n + 1) c.stepping.invariant.count in
    let restarts : restarts_of c.args.every (length c.take_turn.new.state.lines) ≡ c.restart_where_due.new.plan.restarts = ap (restarts_of c.args.every) lines ∙ going_restarts c.args.every _ c.restart_where_due.new.plan.next c.stepping.count c.requires.every current in
    length_left _ _ c.restart_where_due.new.plan.restarts after ∙ ap (λ n. length c.args.others.now.items - n) (sym restarts)

pub stepping-preserved : goal.stepping-preserved
stepping-preserved g c =
    let after : AreLeft c.args.others.now.items c.restart_where_due.new.plan.restarts c.restart_where_due.new.others.items = left_since _ _ _ c.stepping.plan.restarts _ c.restart_where_due.ensures.grows c.stepping.invariant.others c.restart_where_due.ensures.left in
    let current : IsCurrent c.args.every c.restart_where_due.new.plan.restarts c.restart_where_due.new.plan.next c.stepping.count = subst (λ e. IsCurrent e c.restart_where_due.new.plan.restarts c.restart_where_due.new.plan.next c.stepping.count) c.stepping.invariant.every c.restart_where_due.ensures.current in
    let learnt : HasLearnt c.args.store.now (length c.restart_where_due.new.state.lines) c.take_turn.new.state = rw c.in-Learnt.is at c.in_ok-take_turn.ensures.turned in
    record {
      going = learnt.going;
      count = learnt.count ∙ ap (λ xs. length xs + 1) c.restart_where_due.ensures.lines ∙ ap (λ n. n + 1) c.stepping.invariant.count;
      vars = c.in_ok-take_turn.ensures.vars ∙ c.restart_where_due.ensures.vars ∙ c.stepping.invariant.vars;
      every = c.restart_where_due.ensures.every ∙ c.stepping.invariant.every;
      planned = going_on c.args.every _ c.restart_where_due.new.plan.next c.stepping.count current;
      others = after;
    }

pub returns-clause-taken : goal.returns-clause-taken
returns-clause-taken g c =
    let end : c.stepping.count ≡ c.args.steps = omega arith in
    let restarts : restarts_of c.args.every (length c.stepping.state.lines) ≡ c.stepping.plan.restarts = ap (restarts_of c.args.every) c.stepping.invariant.count ∙ planned_restarts c.args.every _ c.stepping.plan.next c.stepping.count c.requires.every (omega arith) c.stepping.invariant.planned in
    length_left _ _ c.stepping.plan.restarts c.stepping.invariant.others ∙ ap (λ n. length c.args.others.now.items - n) (sym restarts)
