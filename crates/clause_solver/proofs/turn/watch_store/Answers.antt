use Rattle.std.proofs.Common.{◌≡◌, ◌<◌, ◌∷◌, [], Some, get_or, false, refl, sym, arith}
use Rattle.std.specs.Prelude.{slice_get}
use Rattle.std.proofs.lemmas.List.{append-nil}
use Rattle.std.proofs.lemmas.Option.{slice_get-get_or}
use Rattle.clause_store.specs.declared.lit.Lit.{Lit}
use Rattle.clause_solver.specs.Trails.{IsCoherent, pushed}
use Rattle.clause_solver.specs.Propagation.{IsExplained}
use Rattle.clause_solver.proofs.PropagationFacts.{explained_push, range_at, held_range}
use Rattle.clause_solver.proofs.StandingFacts.{ascends_sign}
use Rattle.clause_solver.proofs.WatchFacts.{code_less}
use Rattle.clause_solver.proofs.GuardFacts.{unit_true}
use Rattle.clause_solver.proofs.BeginFacts.{begin_none, begin_pair, first_two, short_not_loose}
use Rattle.clause_solver.proofs.turn.watch_store.Goals as goal
use Rattle.clause_solver.proofs.turn.watch_store.Goals.{then-clause-lt2+in_ok-add_none+in-Unit+in_ok-push-in-Unit, then-clause-lt2+in_ok-add_none+in-Met, then-clause-lt2+in_ok-add_none+in-Loose, else-clause-lt2+in_ok-add_pair}

abbrev some_lit : Lit
some_lit = record { var = 0; positive = false }

pub judged-requires : goal.judged-requires
judged-requires c = range_at _ _ c.beginning.invariant.beginning.explained.in_range _ _ c.get-clause.ensures.clause

pub push-requires-clause-range : goal.push-requires-clause-range
push-requires-clause-range c = held_range _ _ _ _ (range_at _ _ c.beginning.invariant.beginning.explained.in_range _ _ c.get-clause.ensures.clause) c.in-Unit.ensures.unit.holds

pub add_pair-requires-clause-one : goal.add_pair-requires-clause-one
add_pair-requires-clause-one c =
    let range = range_at _ _ c.beginning.invariant.beginning.explained.in_range _ _ c.get-clause.ensures.clause in
    let here = slice_get-get_or c.get-clause.result.now 0 some_lit (omega arith) in
    let lt : (get_or c.get-clause.result.now 0 some_lit).var < c.beginning.trail.vars = held_range _ _ _ _ range (ascends_sign _ c.get-clause.ensures.ascending 0 _ here) in
    omega (arith, code_less (get_or c.get-clause.result.now 0 some_lit) c.beginning.trail.vars lt, c.beginning.invariant.beginning.watching.lists_len)

pub add_pair-requires-clause-other : goal.add_pair-requires-clause-other
add_pair-requires-clause-other c =
    let range = range_at _ _ c.beginning.invariant.beginning.explained.in_range _ _ c.get-clause.ensures.clause in
    let here = slice_get-get_or c.get-clause.result.now 1 some_lit (omega arith) in
    let lt : (get_or c.get-clause.result.now 1 some_lit).var < c.beginning.trail.vars = held_range _ _ _ _ range (ascends_sign _ c.get-clause.ensures.ascending 1 _ here) in
    omega (arith, code_less (get_or c.get-clause.result.now 1 some_lit) c.beginning.trail.vars lt, c.beginning.invariant.beginning.watching.lists_len)

pub beginning-preserved : goal.beginning-preserved
beginning-preserved c =
    let b = c.beginning.invariant.beginning in
    let named : slice_get c.args.store.now c.beginning.id ≡ Some c.get-clause.result.now = c.get-clause.ensures.clause in
    let range = range_at _ _ b.explained.in_range _ _ named in
    elim c.if-clause-lt2.branch [
      | then-clause-lt2+in_ok-add_none+in-Unit+in_ok-push-in-Unit w ↦
          let new : w.push.new.self ≡ pushed c.beginning.trail w.in-Unit.lit (Some c.beginning.id) = (w.in_ok-push-in-Unit).ensures.ok in
          let coherent : IsCoherent w.push.new.self = (w.in_ok-push-in-Unit).ensures.coherent in
          let x : IsExplained c.args.store.now (pushed c.beginning.trail w.in-Unit.lit (Some c.beginning.id)) = explained_push _ _ _ w.in-Unit.lit c.beginning.id b.explained named w.in-Unit.ensures (rw new at coherent) in
          rw (w.trail-is, w.watches-is, new, w.in_ok-add_none.ensures) (record {
            beginning = begin_none c.args.store.now c.beginning.trail (pushed c.beginning.trail w.in-Unit.lit (Some c.beginning.id)) c.beginning.watches c.beginning.id c.get-clause.result.now (w.in-Unit.lit ∷ []) b named x b.level refl refl (unit_true _ _ w.in-Unit.lit w.in-Unit.ensures);
            vars = c.beginning.invariant.vars;
          })
      | then-clause-lt2+in_ok-add_none+in-Met w ↦
          rw (w.trail-is, w.watches-is, w.in_ok-add_none.ensures) (record {
            beginning = begin_none c.args.store.now c.beginning.trail c.beginning.trail c.beginning.watches c.beginning.id c.get-clause.result.now [] b named b.explained b.level refl (sym (append-nil c.beginning.trail.lits)) w.in-Met.ensures;
            vars = c.beginning.invariant.vars;
          })
      | then-clause-lt2+in_ok-add_none+in-Loose w ↦ absurd (short_not_loose _ c.get-clause.result.now w.if-clause-lt2.true w.in-Loose.ensures)
      | else-clause-lt2+in_ok-add_pair w ↦
          let one = slice_get-get_or c.get-clause.result.now 0 some_lit (omega (arith, w.if-clause-lt2.false)) in
          let two = slice_get-get_or c.get-clause.result.now 1 some_lit (omega (arith, w.if-clause-lt2.false)) in
          rw (w.trail-is, w.watches-is, w.in_ok-add_pair.ensures) (record {
            beginning = begin_pair c.args.store.now c.beginning.trail c.beginning.watches c.beginning.id c.get-clause.result.now _ _ b named range (first_two c.get-clause.result.now c.get-clause.ensures.ascending w.if-clause-lt2.false _ _ one two);
            vars = c.beginning.invariant.vars;
          })
    ]
