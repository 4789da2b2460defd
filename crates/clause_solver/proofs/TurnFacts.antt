-- What a search has before its first line.
use Rattle.std.proofs.Common.{◌≡◌, ◌≢◌, ℕ, ◌*◌, ◌<◌, ◌≤◌, ◌^◌, false, List, [], length, refl, sym, ap, subst}
use Rattle.std.specs.Prelude.{All, slice_index}
use Rattle.std.proofs.Math.ListN.{replicate}
use Rattle.std.proofs.lemmas.List.{append-nil}
use Rattle.clause_store.specs.declared.lit.Lit.{Lit}
use Rattle.clause_store.specs.Signs.{Ascends}
use Rattle.clause_store.specs.Derivations.{clauses_of}
use Rattle.clause_solver.specs.Trails.{History, untouched, undone}
use Rattle.clause_solver.specs.Propagation.{IsOver, IsExplained, IsBrokenAt}
use Rattle.clause_solver.specs.Watches.{Watching, IsWatching, IsWatched}
use Rattle.clause_solver.specs.Outcomes.{IsReady}
use Rattle.clause_solver.specs.Turns.{IsUntouched, IsGoing}
use Rattle.clause_solver.specs.declared.turn.State.{State}
use Rattle.clause_solver.proofs.OutcomeFacts.{ready_new, ready_searched}
use Rattle.clause_solver.proofs.BeginFacts.{watching_none}
use Rattle.clause_solver.proofs.WatchJumps.{watched_undo}

-- what is asked of a store and its variables
pub record IsPosed (store : List (List Lit)) (vars : ℕ) : Type 0 where
  pub ascends : All Ascends store
  pub over : All (IsOver vars) store
  pub small : vars ≤ 2 ^ 30
  pub filled : All (λ c. c ≢ []) store

no_lines : (store : List (List Lit)) → clauses_of store [] ≡ store
no_lines store = append-nil store

pub untouched_explained : (store : List (List Lit)) (vars : ℕ) (s : State) → IsPosed store vars → IsUntouched vars s → IsExplained store s.trail
untouched_explained store vars s p u =
    let r : IsReady store [] (untouched vars) (replicate vars false) = ready_new store vars p.ascends p.over p.small p.filled in
    subst (IsExplained store) (sym u.trail) (subst (λ cs. IsExplained cs (untouched vars)) (no_lines store) r.explained)

pub untouched_watching : (vars : ℕ) (s : State) → IsUntouched vars s → IsWatching [] s.trail.vars s.watches
untouched_watching vars s u =
    let n : vars ≡ s.trail.vars = sym (ap (λ (h : History). h.vars) u.trail) in
    subst (IsWatching [] s.trail.vars) (sym u.watches) (subst (λ m. IsWatching [] m (record { lists = replicate (2 * vars) []; pairs = [] })) n (watching_none vars))

-- after the clauses of the store were looked at
pub begun_ready : (store : List (List Lit)) (vars : ℕ) (s : State) (h : History) → IsPosed store vars → IsUntouched vars s → IsExplained store h → h.vars ≡ vars → IsReady store s.lines h s.marks.items
begun_ready store vars s h p u x same =
    let r : IsReady store [] (untouched vars) (replicate vars false) = ready_new store vars p.ascends p.over p.small p.filled in
    let all : IsExplained (clauses_of store []) h = subst (λ cs. IsExplained cs h) (sym (no_lines store)) x in
    let ready : IsReady store [] h (replicate vars false) = ready_searched store [] (untouched vars) h (replicate vars false) r all same in
    subst (λ m. IsReady store s.lines h m) (sym u.marks) (subst (λ ls. IsReady store ls h (replicate vars false)) (sym u.lines) ready)

pub begun_watched : (store : List (List Lit)) (vars : ℕ) (s : State) (h : History) (w : Watching) → IsUntouched vars s → IsWatched store h w 0 → IsWatched (clauses_of store s.lines) h w s.head
begun_watched store vars s h w u x =
    subst (λ n. IsWatched (clauses_of store s.lines) h w n) (sym u.head) (subst (λ ls. IsWatched (clauses_of store ls) h w 0) (sym u.lines) (subst (λ cs. IsWatched cs h w 0) (sym (no_lines store)) x))

pub begun_broken : (store : List (List Lit)) (vars : ℕ) (s : State) (lits : List Lit) (id : ℕ) → IsUntouched vars s → IsBrokenAt store lits id → IsBrokenAt (clauses_of store s.lines) lits id
begun_broken store vars s lits id u b =
    subst (λ ls. IsBrokenAt (clauses_of store ls) lits id) (sym u.lines) (subst (λ cs. IsBrokenAt cs lits id) (sym (no_lines store)) b)

-- all decisions are taken back
pub going_undone : (store : List (List Lit)) (s after : State) → IsGoing store s → 0 < length s.trail.starts → after.trail ≡ undone s.trail 0 → after.watches ≡ s.watches → after.head ≡ slice_index s.trail.starts 0 → after.marks ≡ s.marks → after.lines ≡ s.lines → IsGoing store after
going_undone store s after g some trail watches head marks lines =
    let back : IsWatched (clauses_of store s.lines) (undone s.trail 0) s.watches (slice_index s.trail.starts 0) = watched_undo (clauses_of store s.lines) s.trail s.watches 0 g.watched.guarded some in
    let ready : IsReady store s.lines (undone s.trail 0) s.marks.items = ready_searched store s.lines s.trail (undone s.trail 0) s.marks.items g.ready back.guarded.explained refl in
    record {
      ready = rw (lines, trail, marks) ready;
      watched = rw (lines, trail, watches, head) back;
    }
