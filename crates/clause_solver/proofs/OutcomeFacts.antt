-- Lines that are added one by one, and what a solver answers.
use Rattle.std.proofs.Common.{◌≡◌, ◌≢◌, ℕ, ◌-◌, ◌<◌, ◌≤◌, ◌^◌, Bool, true, false, List, [], ◌∷◌, ◌++◌, Some, None, is_some, length, get_or, take, map, refl, sym, ap, subst, ◌∙◌, inl, inr, arith, append_assoc}
use Rattle.std.specs.Prelude.{slice_get, All, unwrap_or, slice_index_or}
use Rattle.std.proofs.Math.ListN.{replicate}
use Rattle.std.proofs.lemmas.List.{take-append-le, take_at, map_push, append-nil, length-replicate}
use Rattle.std.proofs.lemmas.List.Elements.{All-push, All-replicate}
use Rattle.std.proofs.lemmas.Option.{slice_get_within, slice_get-get_or}
use Rattle.clause_store.specs.declared.lit.Lit.{Lit}
use Rattle.clause_store.specs.declared.line.Line.{Line}
use Rattle.clause_store.specs.Signs.{Ascends, sign_of}
use Rattle.clause_store.specs.Assignments.{IsAssignment, IsClosedFor, IsMet}
use Rattle.clause_store.specs.Derivations.{clauses_of, earlier, IsValidLine, IsNew, AllValid, AllNew}
use Rattle.clause_solver.specs.Trails.{History, untouched, level_start_of}
use Rattle.clause_solver.specs.Propagation.{IsOver, IsInRange, IsExplained, IsModel}
use Rattle.clause_solver.specs.Analysis.{IsLearnt, IsAnalyzed}
use Rattle.clause_solver.specs.Outcomes.{IsSolution, IsRefutation, IsReady}
use Rattle.clause_solver.proofs.SignFacts.{slice_get-take, slice_get-left, slice_get-push}
use Rattle.clause_solver.proofs.PropagationFacts.{at_all, all_at, held_range}
use Rattle.clause_solver.proofs.CountFacts.{IsFresh}
use Rattle.clause_solver.proofs.MarkFacts.{fresh_apart}

abbrev pub clause_of : Line → List Lit
clause_of line = line.clause

pub clauses_push : (store : List (List Lit)) (lines : List Line) (line : Line) → clauses_of store (lines ++ line ∷ []) ≡ clauses_of store lines ++ line.clause ∷ []
clauses_push store lines line = ap (λ x. store ++ x) (map_push clause_of lines line) ∙ sym (append_assoc store (map clause_of lines) (line.clause ∷ []))

-- what holds of each line with the clauses before it
abbrev pub EachLine : (List (List Lit) → Line → Type 0) → List (List Lit) → List Line → Type 0
EachLine P store lines = (k : ℕ) (line : Line) → slice_get lines k ≡ Some line → P (earlier store lines k) line

pub each_push : (P : List (List Lit) → Line → Type 0) (store : List (List Lit)) (lines : List Line) (line : Line) → EachLine P store lines → P (clauses_of store lines) line → EachLine P store (lines ++ line ∷ [])
each_push P store lines line old now k l e =
    elim (slice_get-push lines line k l e) [
      | inl before ↦
          let le : k < length lines = slice_get_within lines k l before in
          let same : take k (lines ++ line ∷ []) ≡ take k lines = take-append-le k lines (line ∷ []) (omega arith) in
          subst (λ x. P (clauses_of store x) l) (sym same) (old k l before)
      | inr last ↦
          let same : take (length lines) (lines ++ line ∷ []) ≡ lines = take_at lines (line ∷ []) (length lines) refl in
          let here : P (clauses_of store (take (length lines) (lines ++ line ∷ []))) line = subst (λ x. P (clauses_of store x) line) (sym same) now in
          subst (λ x. P (earlier store (lines ++ line ∷ []) k) x) last.1 (subst (λ q. P (clauses_of store (take q (lines ++ line ∷ []))) line) (sym last.0) here)
    ]

abbrev pub IsNewLine : List (List Lit) → Line → Type 0
IsNewLine clauses line = IsNew clauses line.clause

pub valid_push : (store : List (List Lit)) (lines : List Line) (line : Line) → AllValid store lines → IsValidLine (clauses_of store lines) line → AllValid store (lines ++ line ∷ [])
valid_push store lines line = each_push IsValidLine store lines line

pub new_push : (store : List (List Lit)) (lines : List Line) (line : Line) → AllNew store lines → IsNew (clauses_of store lines) line.clause → AllNew store (lines ++ line ∷ [])
new_push store lines line = each_push IsNewLine store lines line

assignment_is : (lits : List Lit) (n : ℕ) → IsFresh lits → IsAssignment (take n lits)
assignment_is lits n fresh i j d i<j j<n = λ same.
    let one : slice_get (take n lits) i ≡ Some (get_or (take n lits) i d) = slice_get-get_or (take n lits) i d (omega arith) in
    let two : slice_get (take n lits) j ≡ Some (get_or (take n lits) j d) = slice_get-get_or (take n lits) j d j<n in
    let a : (i < n) × (slice_get lits i ≡ Some (get_or (take n lits) i d)) = slice_get-take n lits i _ one in
    let b : (j < n) × (slice_get lits j ≡ Some (get_or (take n lits) j d)) = slice_get-take n lits j _ two in
    let e : i ≡ j = fresh_apart lits fresh i j _ _ a.1 b.1 same in
    absurd (omega arith)

-- a learnt clause that is not empty is new
pub new_learnt : (clauses : List (List Lit)) (h : History) (c : List Lit) → IsExplained clauses h → IsAnalyzed h c → c ≢ [] → IsNew clauses c
new_learnt clauses h [] x a filled = absurd (filled refl)
new_learnt clauses h (l ∷ c) x a filled =
    let some : h.starts ≢ [] = λ none. filled (a.empty none) in
    let u : IsLearnt h.lits (level_start_of h) (l ∷ c) = a.learnt some in
    let levels : 0 < length h.starts = not_none h.starts some in
    record {
      assignment = take (level_start_of h) h.lits;
      consistent = assignment_is h.lits (level_start_of h) x.coherent.fresh;
      closed = x.closed (length h.starts - 1) (omega arith);
      var = u.var;
      sign = u.sign;
      unit = u.unit;
      is_open = u.is_open;
    }
  where
    not_none : (xs : List ℕ) → xs ≢ [] → 0 < length xs
    not_none [] ne = absurd (ne refl)
    not_none (y ∷ ys) ne = omega arith

-- where a clause is not empty something was decided
pub levels_some : (h : History) (c : List Lit) → IsAnalyzed h c → c ≢ [] → 0 < length h.starts
levels_some h c a filled = some h.starts (λ none. filled (a.empty none))
  where
    some : (xs : List ℕ) → xs ≢ [] → 0 < length xs
    some [] ne = absurd (ne refl)
    some (y ∷ ys) ne = omega arith

pub ready_more : (store : List (List Lit)) (lines : List Line) (h after : History) (marks cleared : List Bool) (line : Line) → IsReady store lines h marks → IsValidLine (clauses_of store lines) line → IsAnalyzed h line.clause → line.clause ≢ [] → IsExplained (clauses_of store lines ++ line.clause ∷ []) after → length cleared ≡ after.vars → All (λ b. b ≡ false) cleared → IsReady store (lines ++ line ∷ []) after cleared
ready_more store lines h after marks cleared line r valid a filled x len clear = record {
  explained = subst (λ cs. IsExplained cs after) (sym (clauses_push store lines line)) x;
  progress = record {
    valid = valid_push store lines line r.progress.valid valid;
    fresh = new_push store lines line r.progress.fresh (new_learnt (clauses_of store lines) h line.clause r.explained a filled);
    filled = All-push (λ (l : Line). l.clause ≢ []) lines line r.progress.filled filled;
  };
  no_empty = subst (All (λ c. c ≢ [])) (sym (clauses_push store lines line)) (All-push (λ c. c ≢ []) (clauses_of store lines) line.clause r.no_empty filled);
  len = len;
  clear = clear;
}

-- the empty clause ends a derivation
pub refuted : (store : List (List Lit)) (lines : List Line) (h : History) (marks : List Bool) (line : Line) → IsReady store lines h marks → IsValidLine (clauses_of store lines) line → line.clause ≡ [] → IsRefutation store (lines ++ line ∷ [])
refuted store lines h marks line r valid empty = record {
  valid = valid_push store lines line r.progress.valid valid;
  fresh = new_push store lines line r.progress.fresh (subst (IsNew (clauses_of store lines)) (sym empty) r.no_empty);
  before = lines;
  last = line;
  ends = refl;
  empty = empty;
}

-- the values of a trail that nothing is left to do for
pub solution : (store : List (List Lit)) (lines : List Line) (h : History) (values : List Bool) → IsExplained (clauses_of store lines) h → IsModel (clauses_of store lines) h → length values ≡ h.vars → ((v : ℕ) → v < h.vars → slice_index_or values v false ≡ unwrap_or (sign_of h.lits v) false) → IsSolution store h.vars values
solution store lines h values x model len is = record {
  len = len;
  met = all_at (IsMet (λ v. slice_index_or values v false)) store (λ k c e.
      let there : slice_get (clauses_of store lines) k ≡ Some c = slice_get-left store (map clause_of lines) k c e in
      let range : IsInRange h.vars c = at_all (IsInRange h.vars) (clauses_of store lines) x.in_range k c there in
      met_by c range (at_all (IsClosedFor h.lits) (clauses_of store lines) model.closed k c there));
}
  where
    met_by : (c : List Lit) → IsInRange h.vars c → IsClosedFor h.lits c → IsMet (λ v. slice_index_or values v false) c
    met_by c range (inl true_one) =
        let value : slice_index_or values true_one.var false ≡ true_one.sign = is true_one.var (held_range h.vars c true_one.var true_one.sign range true_one.holds) ∙ ap (λ o. unwrap_or o false) true_one.is_true in
        record { var = true_one.var; holds = true_one.holds ∙ ap (λ b. Some b) (sym value) }
    met_by c range (inr two) =
        let full : is_some (sign_of h.lits two.one) ≡ true = model.full two.one (held_range h.vars c two.one two.one_sign range two.holds_one) in
        let none : sign_of h.lits two.one ≡ None = two.one_open in
        absurd (cc)

-- a store before the first line
pub ready_new : (store : List (List Lit)) (vars : ℕ) → All Ascends store → All (IsOver vars) store → vars ≤ 2 ^ 30 → All (λ c. c ≢ []) store → IsReady store [] (untouched vars) (replicate vars false)
ready_new store vars ascends over small filled =
    let same : clauses_of store [] ≡ store = append-nil store in
    record {
      explained = record {
        coherent = record {
          fresh = λ p l e. absurd (cc);
          in_range = λ v s e. absurd (cc);
          bound = omega arith;
          small = small;
          reasons_len = refl;
        };
        reasoned = λ p id e. absurd (cc);
        decided = λ p e. absurd (cc);
        ordered = λ j k a b. absurd (omega arith);
        bounded = λ k lt. absurd (omega arith);
        closed = λ k lt. absurd (omega arith);
        in_range = subst (All (IsInRange vars)) (sym same) (λ k d lt. record { ascends = ascends k d lt; below = over k d lt });
      };
      progress = record {
        valid = λ k line e. absurd (cc);
        fresh = λ k line e. absurd (cc);
        filled = λ k d lt. absurd (omega arith);
      };
      no_empty = subst (All (λ c. c ≢ [])) (sym same) filled;
      len = length-replicate vars false;
      clear = All-replicate (λ b. b ≡ false) vars false refl;
    }

-- after a search
pub ready_searched : (store : List (List Lit)) (lines : List Line) (h after : History) (marks : List Bool) → IsReady store lines h marks → IsExplained (clauses_of store lines) after → after.vars ≡ h.vars → IsReady store lines after marks
ready_searched store lines h after marks r x same = record {
  explained = x;
  progress = r.progress;
  no_empty = r.no_empty;
  len = r.len ∙ sym same;
  clear = r.clear;
}
