use Rattle.std.proofs.Common.{◌≡◌, ◌≢◌, ◌-◌, ◌<◌, ◌++◌, ◌∷◌, [], Some, length, refl, sym, ap, subst, ◌∙◌, arith}
use Rattle.std.specs.Prelude.{slice_get}
use Rattle.std.proofs.lemmas.Option.{none-some, same_Some, slice_get_within}
use Rattle.clause_store.specs.Assignments.{HasTrue}
use Rattle.clause_store.specs.Derivations.{clauses_of}
use Rattle.clause_solver.specs.declared.watches.Pair.{Pair}
use Rattle.clause_solver.specs.Trails.{IsCoherent, pushed}
use Rattle.clause_solver.specs.Propagation.{IsUnitOpen}
use Rattle.clause_solver.specs.Watches.{code_of, pair_lits, listed_under, pair_of, rewatched, IsIn, IsPartner, IsPending}
use Rattle.clause_solver.proofs.PropagationFacts.{range_at, held_range}
use Rattle.clause_solver.proofs.WatchFacts.{code_less, listed_other, pair_there}
use Rattle.clause_solver.proofs.SettleFacts.{pending_next, pending_removed, pending_rewatched, pending_push}
use Rattle.clause_solver.proofs.GuardFacts.{IsWatchedBy, partner_is, guarded_removed, guarded_rewatched, guarded_push, alive_other, rewatched_lacks, entry_kept, removed_count, unit_open, unit_true, broken_is, holds_true}
use Rattle.clause_solver.proofs.propagate.look_at.Goals as goal

pub is_true-requires : goal.is_true-requires
is_true-requires c =
    let named : slice_get (clauses_of c.args.store.now c.args.lines.now) c.id-id.result ≡ Some c.in-Some-clause_at.clause.now = sym c.in-Some-clause_at.ensures in
    let partner : IsPartner (pair_of c.args.watches.now c.id-id.result) c.args.spot.lit (Some c.in-Some.other) = subst (λ q. IsPartner q c.args.spot.lit (Some c.in-Some.other)) c.pair.ensures c.in-Some.ensures in
    let by : IsWatchedBy c.in-Some-clause_at.clause.now (pair_of c.args.watches.now c.id-id.result) c.args.spot.lit c.in-Some.other = partner_is _ _ _ _ _ _ _ c.requires.guarded.watching named partner in
    held_range _ _ _ _ (range_at _ _ c.requires.guarded.explained.in_range _ _ named) by.holds

pub returns-then-is_true-clause-visited : goal.returns-then-is_true-clause-visited
returns-then-is_true-clause-visited c =
    let named : slice_get (clauses_of c.args.store.now c.args.lines.now) c.id-id.result ≡ Some c.in-Some-clause_at.clause.now = sym c.in-Some-clause_at.ensures in
    let partner : IsPartner (pair_of c.args.watches.now c.id-id.result) c.args.spot.lit (Some c.in-Some.other) = subst (λ q. IsPartner q c.args.spot.lit (Some c.in-Some.other)) c.pair.ensures c.in-Some.ensures in
    let by : IsWatchedBy c.in-Some-clause_at.clause.now (pair_of c.args.watches.now c.id-id.result) c.args.spot.lit c.in-Some.other = partner_is _ _ _ _ _ _ _ c.requires.guarded.watching named partner in
    let met : HasTrue c.args.trail.now.lits c.in-Some-clause_at.clause.now = holds_true _ _ c.in-Some.other by.holds c.if-is_true.ensures in
    record {
      pending = pending_next (clauses_of c.args.store.now c.args.lines.now) c.args.trail.now c.args.watches.now c.args.spot.lit c.args.spot.place c.args.spot.entry c.id-id.result c.id-id.ensures (λ d e. subst (HasTrue c.args.trail.now.lits) (same_Some _ d (sym named ∙ e)) met) c.requires.pending;
      count = refl;
    }

pub returns-in-None-clause_at-clause-visited : goal.returns-in-None-clause_at-clause-visited
returns-in-None-clause_at-clause-visited c =
    record {
      pending = pending_next (clauses_of c.args.store.now c.args.lines.now) c.args.trail.now c.args.watches.now c.args.spot.lit c.args.spot.place c.args.spot.entry c.id-id.result c.id-id.ensures (λ d e. absurd (none-some d (c.in-None-clause_at.ensures ∙ e))) c.requires.pending;
      count = refl;
    }

pub find_awake-requires : goal.find_awake-requires
find_awake-requires c =
    let named : slice_get (clauses_of c.args.store.now c.args.lines.now) c.id-id.result ≡ Some c.in-Some-clause_at.clause.now = sym c.in-Some-clause_at.ensures in
    range_at _ _ c.requires.guarded.explained.in_range _ _ named

pub rewatch-requires-clause-one : goal.rewatch-requires-clause-one
rewatch-requires-clause-one c =
    let named : slice_get (clauses_of c.args.store.now c.args.lines.now) c.id-id.result ≡ Some c.in-Some-clause_at.clause.now = sym c.in-Some-clause_at.ensures in
    let lt : c.in-Some-find_awake.new.var < c.args.trail.now.vars = held_range _ _ _ _ (range_at _ _ c.requires.guarded.explained.in_range _ _ named) (c.in-Some-find_awake).ensures.held in
    omega (arith, code_less c.in-Some-find_awake.new c.args.trail.now.vars lt, c.requires.guarded.watching.lists_len)

pub rewatch-requires-clause-id : goal.rewatch-requires-clause-id
rewatch-requires-clause-id c =
    let named : slice_get (clauses_of c.args.store.now c.args.lines.now) c.id-id.result ≡ Some c.in-Some-clause_at.clause.now = sym c.in-Some-clause_at.ensures in
    let partner : IsPartner (pair_of c.args.watches.now c.id-id.result) c.args.spot.lit (Some c.in-Some.other) = subst (λ q. IsPartner q c.args.spot.lit (Some c.in-Some.other)) c.pair.ensures c.in-Some.ensures in
    let by : IsWatchedBy c.in-Some-clause_at.clause.now (pair_of c.args.watches.now c.id-id.result) c.args.spot.lit c.in-Some.other = partner_is _ _ _ _ _ _ _ c.requires.guarded.watching named partner in
    pair_there c.args.watches.now c.id-id.result by.lits by.is

pub is_false-requires : goal.is_false-requires
is_false-requires c =
    let named : slice_get (clauses_of c.args.store.now c.args.lines.now) c.id-id.result ≡ Some c.in-Some-clause_at.clause.now = sym c.in-Some-clause_at.ensures in
    let partner : IsPartner (pair_of c.args.watches.now c.id-id.result) c.args.spot.lit (Some c.in-Some.other) = subst (λ q. IsPartner q c.args.spot.lit (Some c.in-Some.other)) c.pair.ensures c.in-Some.ensures in
    let by : IsWatchedBy c.in-Some-clause_at.clause.now (pair_of c.args.watches.now c.id-id.result) c.args.spot.lit c.in-Some.other = partner_is _ _ _ _ _ _ _ c.requires.guarded.watching named partner in
    held_range _ _ _ _ (range_at _ _ c.requires.guarded.explained.in_range _ _ named) by.holds

pub returns-then-is_false-clause-visited : goal.returns-then-is_false-clause-visited
returns-then-is_false-clause-visited c =
    let named : slice_get (clauses_of c.args.store.now c.args.lines.now) c.id-id.result ≡ Some c.in-Some-clause_at.clause.now = sym c.in-Some-clause_at.ensures in
    let partner : IsPartner (pair_of c.args.watches.now c.id-id.result) c.args.spot.lit (Some c.in-Some.other) = subst (λ q. IsPartner q c.args.spot.lit (Some c.in-Some.other)) c.pair.ensures c.in-Some.ensures in
    let by : IsWatchedBy c.in-Some-clause_at.clause.now (pair_of c.args.watches.now c.id-id.result) c.args.spot.lit c.in-Some.other = partner_is _ _ _ _ _ _ _ c.requires.guarded.watching named partner in
    record {
      clause = c.in-Some-clause_at.clause.now;
      named = named;
      falsified = broken_is _ _ c.in-Some.other by.holds (c.in-None-find_awake).ensures.none c.if-is_false.ensures;
    }

pub push-requires-clause-range : goal.push-requires-clause-range
push-requires-clause-range c =
    let named : slice_get (clauses_of c.args.store.now c.args.lines.now) c.id-id.result ≡ Some c.in-Some-clause_at.clause.now = sym c.in-Some-clause_at.ensures in
    let partner : IsPartner (pair_of c.args.watches.now c.id-id.result) c.args.spot.lit (Some c.in-Some.other) = subst (λ q. IsPartner q c.args.spot.lit (Some c.in-Some.other)) c.pair.ensures c.in-Some.ensures in
    let by : IsWatchedBy c.in-Some-clause_at.clause.now (pair_of c.args.watches.now c.id-id.result) c.args.spot.lit c.in-Some.other = partner_is _ _ _ _ _ _ _ c.requires.guarded.watching named partner in
    held_range _ _ _ _ (range_at _ _ c.requires.guarded.explained.in_range _ _ named) by.holds

pub push-requires-clause-unset : goal.push-requires-clause-unset
push-requires-clause-unset c =
    let named : slice_get (clauses_of c.args.store.now c.args.lines.now) c.id-id.result ≡ Some c.in-Some-clause_at.clause.now = sym c.in-Some-clause_at.ensures in
    let partner : IsPartner (pair_of c.args.watches.now c.id-id.result) c.args.spot.lit (Some c.in-Some.other) = subst (λ q. IsPartner q c.args.spot.lit (Some c.in-Some.other)) c.pair.ensures c.in-Some.ensures in
    let by : IsWatchedBy c.in-Some-clause_at.clause.now (pair_of c.args.watches.now c.id-id.result) c.args.spot.lit c.in-Some.other = partner_is _ _ _ _ _ _ _ c.requires.guarded.watching named partner in
    let u : IsUnitOpen c.args.trail.now.lits c.in-Some-clause_at.clause.now c.in-Some.other = unit_open _ _ _ by.holds (c.in-None-find_awake).ensures.none c.if-is_true.ensures c.if-is_false.ensures in
    u.is_open

pub returns-in-None-clause-guarded : goal.returns-in-None-clause-guarded
returns-in-None-clause-guarded c =
    let lacks : (p : Pair) → pair_of c.args.watches.now c.id-id.result ≡ Some p → IsIn c.args.spot.lit p → ⊥ = λ p e. c.in-None.ensures p (c.pair.ensures ∙ e) in
    rw c.remove.ensures (guarded_removed (clauses_of c.args.store.now c.args.lines.now) c.args.trail.now c.args.watches.now c.args.spot.lit c.args.spot.entry c.id-id.result c.requires.guarded c.id-id.ensures lacks)

pub returns-in-None-clause-visited : goal.returns-in-None-clause-visited
returns-in-None-clause-visited c =
    let lacks : (p : Pair) → pair_of c.args.watches.now c.id-id.result ≡ Some p → IsIn c.args.spot.lit p → ⊥ = λ p e. c.in-None.ensures p (c.pair.ensures ∙ e) in
    rw c.remove.ensures (record {
      pending = pending_removed (clauses_of c.args.store.now c.args.lines.now) c.args.trail.now c.args.watches.now c.args.spot.lit c.args.spot.place c.args.spot.entry c.id-id.result c.requires.guarded.explained.coherent.fresh c.requires.place c.id-id.ensures lacks c.requires.pending;
      count = removed_count c.args.watches.now c.args.spot.lit c.args.spot.entry c.requires.entry;
    })

pub returns-in_ok-rewatch-in-Some-find_awake-clause-guarded : goal.returns-in_ok-rewatch-in-Some-find_awake-clause-guarded
returns-in_ok-rewatch-in-Some-find_awake-clause-guarded c =
    let named : slice_get (clauses_of c.args.store.now c.args.lines.now) c.id-id.result ≡ Some c.in-Some-clause_at.clause.now = sym c.in-Some-clause_at.ensures in
    let partner : IsPartner (pair_of c.args.watches.now c.id-id.result) c.args.spot.lit (Some c.in-Some.other) = subst (λ q. IsPartner q c.args.spot.lit (Some c.in-Some.other)) c.pair.ensures c.in-Some.ensures in
    let by : IsWatchedBy c.in-Some-clause_at.clause.now (pair_of c.args.watches.now c.id-id.result) c.args.spot.lit c.in-Some.other = partner_is _ _ _ _ _ _ _ c.requires.guarded.watching named partner in
    let fresh = c.requires.guarded.explained.coherent.fresh in
    let new_l : c.in-Some-find_awake.new ≢ c.args.spot.lit = alive_other _ _ _ _ fresh c.requires.place (c.in-Some-find_awake).ensures.awake in
    let now : c.rewatch.new.self ≡ rewatched c.args.watches.now (pair_lits c.in-Some-find_awake.new c.in-Some.other) c.id-id.result = (c.in_ok-rewatch-in-Some-find_awake).ensures in
    let at : slice_get (listed_under (rewatched c.args.watches.now (pair_lits c.in-Some-find_awake.new c.in-Some.other) c.id-id.result) c.args.spot.lit) c.args.spot.entry ≡ Some c.id-id.result = entry_kept c.args.watches.now (pair_lits c.in-Some-find_awake.new c.in-Some.other) c.args.spot.lit c.args.spot.entry c.id-id.result new_l c.id-id.ensures in
    let lacks = rewatched_lacks c.args.watches.now by.lits c.in-Some-find_awake.new c.in-Some.other c.args.spot.lit c.id-id.result by.is new_l by.apart in
    let lt : c.in-Some-find_awake.new.var < c.args.trail.now.vars = held_range _ _ _ _ (range_at _ _ c.requires.guarded.explained.in_range _ _ named) (c.in-Some-find_awake).ensures.held in
    let code : code_of c.in-Some-find_awake.new < length c.args.watches.now.lists = omega (arith, code_less c.in-Some-find_awake.new c.args.trail.now.vars lt, c.requires.guarded.watching.lists_len) in
    let g = guarded_rewatched _ _ _ _ by.lits c.in-Some-find_awake.new c.in-Some.other c.id-id.result c.requires.guarded named by.is by.there (c.in-Some-find_awake).ensures.held (c.in-Some-find_awake).ensures.other code (c.in-Some-find_awake).ensures.awake in
    rw (c.remove-in-Some-find_awake.ensures, now) (guarded_removed _ _ _ _ _ _ g at lacks)

pub returns-in_ok-rewatch-in-Some-find_awake-clause-visited : goal.returns-in_ok-rewatch-in-Some-find_awake-clause-visited
returns-in_ok-rewatch-in-Some-find_awake-clause-visited c =
    let named : slice_get (clauses_of c.args.store.now c.args.lines.now) c.id-id.result ≡ Some c.in-Some-clause_at.clause.now = sym c.in-Some-clause_at.ensures in
    let partner : IsPartner (pair_of c.args.watches.now c.id-id.result) c.args.spot.lit (Some c.in-Some.other) = subst (λ q. IsPartner q c.args.spot.lit (Some c.in-Some.other)) c.pair.ensures c.in-Some.ensures in
    let by : IsWatchedBy c.in-Some-clause_at.clause.now (pair_of c.args.watches.now c.id-id.result) c.args.spot.lit c.in-Some.other = partner_is _ _ _ _ _ _ _ c.requires.guarded.watching named partner in
    let fresh = c.requires.guarded.explained.coherent.fresh in
    let new_l : c.in-Some-find_awake.new ≢ c.args.spot.lit = alive_other _ _ _ _ fresh c.requires.place (c.in-Some-find_awake).ensures.awake in
    let now : c.rewatch.new.self ≡ rewatched c.args.watches.now (pair_lits c.in-Some-find_awake.new c.in-Some.other) c.id-id.result = (c.in_ok-rewatch-in-Some-find_awake).ensures in
    let at : slice_get (listed_under (rewatched c.args.watches.now (pair_lits c.in-Some-find_awake.new c.in-Some.other) c.id-id.result) c.args.spot.lit) c.args.spot.entry ≡ Some c.id-id.result = entry_kept c.args.watches.now (pair_lits c.in-Some-find_awake.new c.in-Some.other) c.args.spot.lit c.args.spot.entry c.id-id.result new_l c.id-id.ensures in
    let lacks = rewatched_lacks c.args.watches.now by.lits c.in-Some-find_awake.new c.in-Some.other c.args.spot.lit c.id-id.result by.is new_l by.apart in
    let pending : IsPending (clauses_of c.args.store.now c.args.lines.now) c.args.trail.now (rewatched c.args.watches.now (pair_lits c.in-Some-find_awake.new c.in-Some.other) c.id-id.result) c.args.spot.lit c.args.spot.place c.args.spot.entry = pending_rewatched (clauses_of c.args.store.now c.args.lines.now) c.args.trail.now c.args.watches.now c.args.spot.lit c.args.spot.place c.args.spot.entry by.lits c.in-Some-find_awake.new c.in-Some.other c.id-id.result fresh c.requires.place by.is by.there by.apart new_l (c.in-Some-find_awake).ensures.awake c.requires.pending in
    let same : listed_under (rewatched c.args.watches.now (pair_lits c.in-Some-find_awake.new c.in-Some.other) c.id-id.result) c.args.spot.lit ≡ listed_under c.args.watches.now c.args.spot.lit = listed_other c.args.watches.now c.in-Some-find_awake.new c.args.spot.lit c.id-id.result (λ e. new_l (sym e)) in
    rw (c.remove-in-Some-find_awake.ensures, now) (record {
      pending = pending_removed (clauses_of c.args.store.now c.args.lines.now) c.args.trail.now (rewatched c.args.watches.now (pair_lits c.in-Some-find_awake.new c.in-Some.other) c.id-id.result) c.args.spot.lit c.args.spot.place c.args.spot.entry c.id-id.result fresh c.requires.place at lacks pending;
      count = removed_count (rewatched c.args.watches.now (pair_lits c.in-Some-find_awake.new c.in-Some.other) c.id-id.result) c.args.spot.lit c.args.spot.entry (slice_get_within _ _ _ at) ∙ ap (λ xs. length xs - 1) same;
    })

pub returns-in_ok-push-in-None-find_awake-clause-guarded : goal.returns-in_ok-push-in-None-find_awake-clause-guarded
returns-in_ok-push-in-None-find_awake-clause-guarded c =
    let named : slice_get (clauses_of c.args.store.now c.args.lines.now) c.id-id.result ≡ Some c.in-Some-clause_at.clause.now = sym c.in-Some-clause_at.ensures in
    let partner : IsPartner (pair_of c.args.watches.now c.id-id.result) c.args.spot.lit (Some c.in-Some.other) = subst (λ q. IsPartner q c.args.spot.lit (Some c.in-Some.other)) c.pair.ensures c.in-Some.ensures in
    let by : IsWatchedBy c.in-Some-clause_at.clause.now (pair_of c.args.watches.now c.id-id.result) c.args.spot.lit c.in-Some.other = partner_is _ _ _ _ _ _ _ c.requires.guarded.watching named partner in
    let u : IsUnitOpen c.args.trail.now.lits c.in-Some-clause_at.clause.now c.in-Some.other = unit_open _ _ _ by.holds (c.in-None-find_awake).ensures.none c.if-is_true.ensures c.if-is_false.ensures in
    let new : c.push.new.self ≡ pushed c.args.trail.now c.in-Some.other (Some c.id-id.result) = (c.in_ok-push-in-None-find_awake).ensures.ok in
    let coherent : IsCoherent c.push.new.self = (c.in_ok-push-in-None-find_awake).ensures.coherent in
    rw new (guarded_push _ _ _ _ c.in-Some.other c.id-id.result c.requires.guarded named u (rw new at coherent))

pub returns-in_ok-push-in-None-find_awake-clause-visited : goal.returns-in_ok-push-in-None-find_awake-clause-visited
returns-in_ok-push-in-None-find_awake-clause-visited c =
    let named : slice_get (clauses_of c.args.store.now c.args.lines.now) c.id-id.result ≡ Some c.in-Some-clause_at.clause.now = sym c.in-Some-clause_at.ensures in
    let partner : IsPartner (pair_of c.args.watches.now c.id-id.result) c.args.spot.lit (Some c.in-Some.other) = subst (λ q. IsPartner q c.args.spot.lit (Some c.in-Some.other)) c.pair.ensures c.in-Some.ensures in
    let by : IsWatchedBy c.in-Some-clause_at.clause.now (pair_of c.args.watches.now c.id-id.result) c.args.spot.lit c.in-Some.other = partner_is _ _ _ _ _ _ _ c.requires.guarded.watching named partner in
    let u : IsUnitOpen c.args.trail.now.lits c.in-Some-clause_at.clause.now c.in-Some.other = unit_open _ _ _ by.holds (c.in-None-find_awake).ensures.none c.if-is_true.ensures c.if-is_false.ensures in
    let new : c.push.new.self ≡ pushed c.args.trail.now c.in-Some.other (Some c.id-id.result) = (c.in_ok-push-in-None-find_awake).ensures.ok in
    let place : c.args.spot.place < length c.args.trail.now.lits = slice_get_within _ _ _ c.requires.place in
    let pending : IsPending (clauses_of c.args.store.now c.args.lines.now) (pushed c.args.trail.now c.in-Some.other (Some c.id-id.result)) c.args.watches.now c.args.spot.lit c.args.spot.place c.args.spot.entry = pending_push (clauses_of c.args.store.now c.args.lines.now) c.args.trail.now c.args.watches.now c.args.spot.lit c.in-Some.other (Some c.id-id.result) c.args.spot.place c.args.spot.entry place c.requires.pending in
    let met : HasTrue (c.args.trail.now.lits ++ c.in-Some.other ∷ []) c.in-Some-clause_at.clause.now = unit_true _ _ c.in-Some.other u in
    record {
      pending = rw new (pending_next (clauses_of c.args.store.now c.args.lines.now) (pushed c.args.trail.now c.in-Some.other (Some c.id-id.result)) c.args.watches.now c.args.spot.lit c.args.spot.place c.args.spot.entry c.id-id.result c.id-id.ensures (λ d e. subst (HasTrue (c.args.trail.now.lits ++ c.in-Some.other ∷ [])) (same_Some _ d (sym named ∙ e)) met) pending);
      count = refl;
    }
