-- What is watched after a jump goes back and a learnt clause is added.
use Rattle.std.proofs.Common.{◌≡◌, ◌≢◌, ℕ, ◌+◌, ◌-◌, ◌*◌, ◌<◌, ◌≤◌, Bool, true, false, not, List, [], ◌∷◌, ◌++◌, Option, Some, None, is_some, length, get_or, take, refl, sym, ap, subst, ◌∙◌, ◌⊎◌, inl, inr, arith}
use Rattle.std.specs.Prelude.{slice_get, slice_index, IfSome}
use Rattle.std.proofs.lemmas.Bool.{cases_eq}
use Rattle.std.proofs.lemmas.List.{length_push, take-take, take-append-le, length-take-le, get_or-take, get_or_append_left, get_or_push}
use Rattle.std.proofs.lemmas.Option.{same_Some, slice_get_within}
use Rattle.clause_store.specs.declared.lit.Lit.{Lit}
use Rattle.clause_store.specs.Signs.{sign_of}
use Rattle.clause_store.specs.Assignments.{HasTrue, HasTwoOpen, IsFalsified}
use Rattle.clause_solver.specs.declared.watches.Pair.{Pair}
use Rattle.clause_solver.specs.Trails.{History, IsCoherent, pushed, undone, level_start_of}
use Rattle.clause_solver.specs.Propagation.{IsInRange, IsUnitOpen, IsExplained}
use Rattle.clause_solver.specs.Analysis.{IsLearnt}
use Rattle.clause_solver.specs.Jumps.{EndsAt, IsKept, IsKeptLevel, IsLastOf}
use Rattle.clause_solver.specs.Watches.{code_of, opposite_of, pair_lits, Watching, pair_of, paired, unpaired, watched_by, IsIn, Holds, IsFalse, IsPairOf, IsWatching, IsAwake, IsSettledFor, IsSettled, IsGuarded, IsWatched}
use Rattle.clause_solver.proofs.SignFacts.{present, is_present, sign_at, sign_of-front_le, sign_of-front_le_none, slice_get-front, slice_get-last, slice_get-push}
use Rattle.clause_solver.proofs.PropagationFacts.{explained_push, held_range}
use Rattle.clause_solver.proofs.JumpFacts.{front_undone, explained_undo, explained_jump}
use Rattle.clause_solver.proofs.WatchFacts.{code_less, watching_paired, watching_unpaired}
use Rattle.clause_solver.proofs.SettleFacts.{settled_more}
use Rattle.clause_solver.proofs.GuardFacts.{unit_true, opposite_twice}

-- one clause more, which is settled too
pub settled_new : (clauses : List (List Lit)) (c : List Lit) (w after : Watching) (pair : Option Pair) (front lits : List Lit) → after.pairs ≡ w.pairs ++ pair ∷ [] → length w.pairs ≡ length clauses → IsSettled clauses w front lits → IsSettledFor front lits c pair → IsSettled (clauses ++ c ∷ []) after front lits
settled_new clauses c w after pair front lits pairs len old new id d e =
    elim (slice_get-push clauses c id d e) [
      | inl before ↦
          let lt : id < length clauses = slice_get_within clauses id d before in
          let same : pair_of after id ≡ pair_of w id = ap (λ xs. get_or xs id None) pairs ∙ get_or_append_left w.pairs (pair ∷ []) None id (omega arith) in
          subst (IsSettledFor front lits d) (sym same) (old id d before)
      | inr now ↦
          let at : length w.pairs ≡ id = len ∙ sym now.0 in
          let same : pair_of after id ≡ pair = ap (λ xs. get_or xs id None) pairs ∙ get_or_push w.pairs pair None id at in
          subst (IsSettledFor front lits d) (sym same) (subst (λ x. IsSettledFor front lits x pair) now.1 new)
    ]

-- back to before the decision of a level
pub watched_undo : (clauses : List (List Lit)) (h : History) (w : Watching) (level : ℕ) → IsGuarded clauses h w → level < length h.starts → IsWatched clauses (undone h level) w (slice_index h.starts level)
watched_undo clauses h w level g lt =
    let n : slice_index h.starts level < length h.lits = g.explained.bounded level lt in
    let len : length (take (slice_index h.starts level) h.lits) ≡ slice_index h.starts level = length-take-le (slice_index h.starts level) h.lits (omega arith) in
    let whole : take (slice_index h.starts level) (take (slice_index h.starts level) h.lits) ≡ take (slice_index h.starts level) h.lits = take-take (slice_index h.starts level) (slice_index h.starts level) h.lits (omega arith) in
    let len_s : length (take level h.starts) ≡ level = length-take-le level h.starts (omega arith) in
    record {
      guarded = record {
        explained = explained_undo clauses h level g.explained lt;
        watching = g.watching;
        fronts = λ k less. subst (λ a. IsSettled clauses w a a) (sym (front_undone clauses h level k g.explained lt (omega arith))) (g.fronts k (omega arith));
      };
      within = omega arith;
      settled = subst (λ a. IsSettled clauses w a (take (slice_index h.starts level) h.lits)) (sym whole) (g.fronts level lt);
    }

pub unit_not_met : (lits c : List Lit) (l : Lit) → IsUnitOpen lits c l → HasTrue lits c → ⊥
unit_not_met lits c l u t =
    elim (cases_eq t.var l.var) [
      | inl same ↦ let none : sign_of lits t.var ≡ None = ap (sign_of lits) same ∙ u.is_open in let some : sign_of lits t.var ≡ Some t.sign = t.is_true in absurd (cc)
      | inr ne ↦ not_itself t.sign (same_Some t.sign (not t.sign) (sym t.is_true ∙ u.unit.others_false t.var t.sign ne t.holds))
    ]
  where
    not_itself : (b : Bool) → b ≡ not b → ⊥
    not_itself true e = absurd (cc)
    not_itself false e = absurd (cc)

pub unit_not_loose : (lits c : List Lit) (l : Lit) → IsUnitOpen lits c l → HasTwoOpen lits c → ⊥
unit_not_loose lits c l u t =
    elim (cases_eq t.one l.var) [
      | inl same ↦
          let f : sign_of lits t.other ≡ Some (not t.other_sign) = u.unit.others_false t.other t.other_sign (λ e. t.differ (same ∙ sym e)) t.holds_other in
          let none : sign_of lits t.other ≡ None = t.other_open in
          absurd (cc)
      | inr ne ↦
          let f : sign_of lits t.one ≡ Some (not t.one_sign) = u.unit.others_false t.one t.one_sign ne t.holds_one in
          let none : sign_of lits t.one ≡ None = t.one_open in
          absurd (cc)
    ]

pub unit_not_broken : (lits c : List Lit) (l : Lit) → IsUnitOpen lits c l → IsFalsified lits c → ⊥
unit_not_broken lits c l u f =
    let none : sign_of lits l.var ≡ None = u.is_open in
    let some : sign_of lits l.var ≡ Some (not l.positive) = f l.var l.positive u.unit.holds in
    absurd (cc)

-- what is known where a jump is made
pub record IsJump (h : History) (c : List Lit) (kept level : ℕ) : Type 0 where
  pub learnt : IsLearnt h.lits (level_start_of h) c
  pub places : IsKept h.lits c c (level_start_of h) kept
  pub at_level : IsKeptLevel h.starts kept level

start_le : (clauses : List (List Lit)) (h : History) (level : ℕ) → IsExplained clauses h → level < length h.starts → slice_index h.starts level ≤ level_start_of h
start_le clauses h level x lt =
    elim (cases_eq level (length h.starts - 1)) [
      | inl last ↦ let same : slice_index h.starts level ≡ level_start_of h = ap (slice_index h.starts) last in omega arith
      | inr ne ↦ let o : slice_index h.starts level < level_start_of h = x.ordered level (length h.starts - 1) (before level (length h.starts) lt ne) (omega arith) in omega arith
    ]
  where
    before : (a n : ℕ) → a < n → (a ≡ n - 1 → ⊥) → a < n - 1
    before a n lt ne = elim (cases_eq a (n - 1)) [ inl e ↦ absurd (ne e) | inr other ↦ omega arith ]

-- after the jump the learnt clause forces a literal
pub jump_unit : (clauses : List (List Lit)) (h : History) (c : List Lit) (kept level : ℕ) → IsExplained clauses h → (j : IsJump h c kept level) → IsUnitOpen (take (slice_index h.starts level) h.lits) c (record { var = j.learnt.var; positive = j.learnt.sign })
jump_unit clauses h c kept level x j =
    let enough : kept ≤ slice_index h.starts level = j.at_level.enough in
    record {
      unit = record {
        holds = j.learnt.unit.holds;
        others_false = λ w t ne e.
            let f : sign_of (take (level_start_of h) h.lits) w ≡ Some (not t) = j.learnt.unit.others_false w t ne e in
            let kept_w : is_some (sign_of (take kept h.lits) w) ≡ true = j.places.enough w (is_present _ t e) (is_present _ (not t) f) in
            let s : (b : Bool) × (sign_of (take kept h.lits) w ≡ Some b) = present _ kept_w in
            let far : sign_of (take (level_start_of h) h.lits) w ≡ Some s.0 = sign_of-front_le kept (level_start_of h) h.lits w s.0 j.places.within s.1 in
            let same : s.0 ≡ not t = same_Some s.0 (not t) (sym far ∙ f) in
            sign_of-front_le kept (slice_index h.starts level) h.lits w (not t) enough (s.1 ∙ ap (λ b. Some b) same);
      };
      is_open = sign_of-front_le_none (slice_index h.starts level) (level_start_of h) h.lits j.learnt.var (start_le clauses h level x j.at_level.below_last) j.learnt.is_open;
    }

-- the literal that a learnt clause is watched by besides the one that it forces
pub record IsSecond (h : History) (c : List Lit) (kept level : ℕ) (lit other : Lit) : Type 0 where
  pub pair : IsPairOf c (pair_lits lit other)
  pub place : ℕ
  pub kept_is : kept ≡ place + 1
  pub at_place : slice_get h.lits place ≡ Some (opposite_of other)

pub jump_second : (clauses : List (List Lit)) (h : History) (c : List Lit) (kept level : ℕ) (lit other : Lit) → IsExplained clauses h → IsJump h c kept level → IsUnitOpen (take (slice_index h.starts level) h.lits) c lit → IsLastOf h.lits kept (Some other) → IsSecond h c kept level lit other
jump_second clauses h c kept level lit other x j u last = by j.places.ends
  where
    twice : (b : Bool) → not (not b) ≡ b
    twice true = refl
    twice false = refl

    by : (kept ≡ 0) ⊎ EndsAt h.lits c kept → IsSecond h c kept level lit other
    by (inl none) = let some : 0 < kept = last.1 in absurd (omega arith)
    by (inr ends) =
        let some : 0 < kept = last.1 in
        let at_kept : kept ≡ ends.place + 1 = ends.is_last in
        let at : kept - 1 ≡ ends.place = omega arith in
        let m_is : last.0 ≡ ends.lit = same_Some last.0 ends.lit (sym last.2 ∙ ap (slice_get h.lits) at ∙ ends.at_place) in
        let enough : kept ≤ slice_index h.starts level = j.at_level.enough in
        let n : ends.place < slice_index h.starts level = omega arith in
        let front_at : slice_get (take (slice_index h.starts level) h.lits) ends.place ≡ Some ends.lit = slice_get-front (slice_index h.starts level) h.lits ends.place ends.lit n ends.at_place in
        let fresh : sign_of (take ends.place (take (slice_index h.starts level) h.lits)) ends.lit.var ≡ None = ap (λ a. sign_of a ends.lit.var) (take-take ends.place (slice_index h.starts level) h.lits (omega arith)) ∙ x.coherent.fresh ends.place ends.lit ends.at_place in
        let sign : sign_of (take (slice_index h.starts level) h.lits) ends.lit.var ≡ Some ends.lit.positive = sign_at (take (slice_index h.starts level) h.lits) ends.place ends.lit front_at fresh in
        let apart : ends.lit.var ≢ lit.var = λ same. let none : sign_of (take (slice_index h.starts level) h.lits) ends.lit.var ≡ None = ap (sign_of (take (slice_index h.starts level) h.lits)) same ∙ u.is_open in cc in
        let f : sign_of (take (slice_index h.starts level) h.lits) ends.lit.var ≡ Some (not ends.sign) = u.unit.others_false ends.lit.var ends.sign apart ends.holds in
        let flipped : ends.lit.positive ≡ not ends.sign = same_Some ends.lit.positive (not ends.sign) (sym sign ∙ f) in
        let other_is : other ≡ opposite_of ends.lit = last.3 ∙ ap opposite_of m_is in
        let holds : Holds c (opposite_of ends.lit) = ends.holds ∙ ap (λ b. Some b) (sym (ap not flipped ∙ twice ends.sign)) in
        record {
          pair = record { one = u.unit.holds; other = subst (Holds c) (sym other_is) holds; differ = λ same. apart (sym (same ∙ ap (λ (l : Lit). l.var) other_is)) };
          place = ends.place;
          kept_is = at_kept;
          at_place = ends.at_place ∙ ap (λ (l : Lit). Some l) (sym (ap opposite_of other_is ∙ opposite_twice ends.lit));
        }

-- before each decision that is kept neither of the two is false
second_awake : (clauses : List (List Lit)) (h : History) (c : List Lit) (kept level front : ℕ) (lit other : Lit) → IsExplained clauses h → IsUnitOpen (take (slice_index h.starts level) h.lits) c lit → IsSecond h c kept level lit other → front < kept → kept ≤ slice_index h.starts level → IsAwake (take front h.lits) (Some (pair_lits lit other))
second_awake clauses h c kept level front lit other x u s lt le = record {
  lits = pair_lits lit other;
  is = refl;
  awake = λ l. by l;
}
  where
    by : (l : Lit) → IsIn l (pair_lits lit other) → IsFalse (take front h.lits) l → ⊥
    by l (inl e) f =
        let none : sign_of (take front h.lits) lit.var ≡ None = sign_of-front_le_none front (slice_index h.starts level) h.lits lit.var (omega arith) u.is_open in
        let some : sign_of (take front h.lits) lit.var ≡ Some (not lit.positive) = subst (IsFalse (take front h.lits)) e f in
        absurd (cc)
    by l (inr e) f =
        let at_kept : kept ≡ s.place + 1 = s.kept_is in
        let none : sign_of (take front h.lits) other.var ≡ None = sign_of-front_le_none front s.place h.lits other.var (omega arith) (x.coherent.fresh s.place (opposite_of other) s.at_place) in
        let some : sign_of (take front h.lits) other.var ≡ Some (not other.positive) = subst (IsFalse (take front h.lits)) e f in
        absurd (cc)

-- the front of a kept level ends before the places that are kept
front_less : (clauses : List (List Lit)) (h : History) (kept level k : ℕ) → IsExplained clauses h → IsKeptLevel h.starts kept level → k < level → slice_index h.starts k < kept
front_less clauses h kept level k x at lt = by at.keeps
  where
    less : (a n : ℕ) → a < n → (a ≡ n - 1 → ⊥) → a < n - 1
    less a n lt ne = elim (cases_eq a (n - 1)) [ inl e ↦ absurd (ne e) | inr other ↦ omega arith ]

    by : (level ≡ 0) ⊎ (slice_index h.starts (level - 1) < kept) → slice_index h.starts k < kept
    by (inl none) = absurd (omega arith)
    by (inr last) =
        elim (cases_eq k (level - 1)) [
          | inl same ↦ let e : slice_index h.starts k ≡ slice_index h.starts (level - 1) = ap (slice_index h.starts) same in omega arith
          | inr ne ↦ let below : level < length h.starts = at.below_last in let o : slice_index h.starts k < slice_index h.starts (level - 1) = x.ordered k (level - 1) (less k level lt ne) (omega arith) in omega arith
        ]

-- the clause is watched by a pair that is awake before each decision, and its literal is set
pub watched_learnt : (clauses : List (List Lit)) (h : History) (w after : Watching) (pair : Option Pair) (c : List Lit) (kept level id : ℕ) (lit : Lit) → IsGuarded clauses h w → IsInRange h.vars c → IsJump h c kept level → length clauses ≡ id → IsUnitOpen (take (slice_index h.starts level) h.lits) c lit → IsCoherent (pushed (undone h level) lit (Some id)) → after.pairs ≡ w.pairs ++ pair ∷ [] → IsWatching (clauses ++ c ∷ []) h.vars after → ((k : ℕ) → k < level → IsAwake (take (slice_index h.starts k) h.lits) pair) → IsWatched (clauses ++ c ∷ []) (pushed (undone h level) lit (Some id)) after (slice_index h.starts level)
watched_learnt clauses h w after pair c kept level id lit g range j len u coherent pairs watching awake =
    let lt : level < length h.starts = j.at_level.below_last in
    let n : slice_index h.starts level < length h.lits = g.explained.bounded level lt in
    let x : IsExplained (clauses ++ c ∷ []) (undone h level) = explained_jump clauses h c kept level g.explained range j.learnt j.places j.at_level in
    let named : slice_get (clauses ++ c ∷ []) id ≡ Some c = ap (slice_get (clauses ++ c ∷ [])) (sym len) ∙ slice_get-last clauses c in
    let old : IsWatched clauses (undone h level) w (slice_index h.starts level) = watched_undo clauses h w level g lt in
    let len_t : length (take (slice_index h.starts level) h.lits) ≡ slice_index h.starts level = length-take-le (slice_index h.starts level) h.lits (omega arith) in
    let len_s : length (take level h.starts) ≡ level = length-take-le level h.starts (omega arith) in
    let front : take (slice_index h.starts level) (take (slice_index h.starts level) h.lits ++ lit ∷ []) ≡ take (slice_index h.starts level) (take (slice_index h.starts level) h.lits) = take-append-le (slice_index h.starts level) (take (slice_index h.starts level) h.lits) (lit ∷ []) (omega arith) in
    let met : HasTrue (take (slice_index h.starts level) h.lits ++ lit ∷ []) c = unit_true (take (slice_index h.starts level) h.lits) c lit u in
    record {
      guarded = record {
        explained = explained_push (clauses ++ c ∷ []) (undone h level) c lit id x named u coherent;
        watching = watching;
        fronts = λ k less. fronts k (omega arith) (old.guarded.fronts k less) (omega arith);
      };
      within = omega (arith, length_push (take (slice_index h.starts level) h.lits) lit);
      settled = settled_new clauses c w after pair _ _ pairs g.watching.pairs_len (subst (λ a. IsSettled clauses w a (take (slice_index h.starts level) h.lits ++ lit ∷ [])) (sym front) (settled_more clauses w _ _ (lit ∷ []) old.settled)) (inl met);
    }
  where
    fronts : (k : ℕ) → k < level → IsSettled clauses w (take (slice_index (take level h.starts) k) (take (slice_index h.starts level) h.lits)) (take (slice_index (take level h.starts) k) (take (slice_index h.starts level) h.lits)) → level < length h.starts → IsSettled (clauses ++ c ∷ []) after (take (slice_index (take level h.starts) k) (take (slice_index h.starts level) h.lits ++ lit ∷ [])) (take (slice_index (take level h.starts) k) (take (slice_index h.starts level) h.lits ++ lit ∷ []))
    fronts k less was lt =
        let n : slice_index h.starts level < length h.lits = g.explained.bounded level lt in
        let len_t : length (take (slice_index h.starts level) h.lits) ≡ slice_index h.starts level = length-take-le (slice_index h.starts level) h.lits (omega arith) in
        let same : take (slice_index (take level h.starts) k) (take (slice_index h.starts level) h.lits) ≡ take (slice_index h.starts k) h.lits = front_undone clauses h level k g.explained lt less in
        let start_is : slice_index (take level h.starts) k ≡ slice_index h.starts k = get_or-take level h.starts k 0 less in
        let o : slice_index h.starts k < slice_index h.starts level = g.explained.ordered k level less lt in
        let longer : take (slice_index (take level h.starts) k) (take (slice_index h.starts level) h.lits ++ lit ∷ []) ≡ take (slice_index (take level h.starts) k) (take (slice_index h.starts level) h.lits) = take-append-le (slice_index (take level h.starts) k) (take (slice_index h.starts level) h.lits) (lit ∷ []) (omega arith) in
        let old : IsSettled clauses w (take (slice_index h.starts k) h.lits) (take (slice_index h.starts k) h.lits) = subst (λ a. IsSettled clauses w a a) same was in
        let new : IsSettled (clauses ++ c ∷ []) after (take (slice_index h.starts k) h.lits) (take (slice_index h.starts k) h.lits) = settled_new clauses c w after pair _ _ pairs g.watching.pairs_len old (inr (awake k less)) in
        subst (λ a. IsSettled (clauses ++ c ∷ []) after a a) (sym (longer ∙ same)) new

-- the same, watched by the literal and the last one of those that are kept
pub watched_jump : (clauses : List (List Lit)) (h : History) (w : Watching) (c : List Lit) (kept level id : ℕ) (lit : Lit) (last : Option Lit) → IsGuarded clauses h w → IsInRange h.vars c → IsJump h c kept level → length clauses ≡ id → IsUnitOpen (take (slice_index h.starts level) h.lits) c lit → IsLastOf h.lits kept last → IsCoherent (pushed (undone h level) lit (Some id)) → IsWatched (clauses ++ c ∷ []) (pushed (undone h level) lit (Some id)) (watched_by w lit last id) (slice_index h.starts level)
watched_jump clauses h w c kept level id lit None g range j len u last coherent =
    watched_learnt clauses h w (unpaired w) None c kept level id lit g range j len u coherent refl (watching_unpaired clauses h.vars w c g.watching) (λ k lt. let less : slice_index h.starts k < kept = front_less clauses h kept level k g.explained j.at_level lt in let none : kept ≡ 0 = last in absurd (omega arith))
watched_jump clauses h w c kept level id lit (Some other) g range j len u last coherent =
    let s : IsSecond h c kept level lit other = jump_second clauses h c kept level lit other g.explained j u last in
    let one : code_of lit < 2 * h.vars = code_less lit h.vars (held_range h.vars c lit.var lit.positive range s.pair.one) in
    let two : code_of other < 2 * h.vars = code_less other h.vars (held_range h.vars c other.var other.positive range s.pair.other) in
    let lists_len : length w.lists ≡ 2 * h.vars = g.watching.lists_len in
    watched_learnt clauses h w (paired w (pair_lits lit other) id) (Some (pair_lits lit other)) c kept level id lit g range j len u coherent refl (watching_paired clauses h.vars w c (pair_lits lit other) id g.watching len s.pair (omega arith) (omega arith)) (λ k lt. second_awake clauses h c kept level (slice_index h.starts k) lit other g.explained u s (front_less clauses h kept level k g.explained j.at_level lt) j.at_level.enough)

-- the variable of the last one is one of the clause
pub last_range : (lits c seen : List Lit) (start kept vars n : ℕ) (last : Option Lit) → IsKept lits c seen start kept → IsLastOf lits kept last → IsInRange vars c → n ≡ 2 * vars → IfSome last (λ l. code_of l < n)
last_range lits c seen start kept vars n None k last range len = tt
last_range lits c seen start kept vars n (Some other) k last range len = by k.ends
  where
    by : (kept ≡ 0) ⊎ EndsAt lits c kept → code_of other < n
    by (inl none) = let some : 0 < kept = last.1 in absurd (omega arith)
    by (inr ends) =
        let at_kept : kept ≡ ends.place + 1 = ends.is_last in
        let at : kept - 1 ≡ ends.place = omega arith in
        let m_is : last.0 ≡ ends.lit = same_Some last.0 ends.lit (sym last.2 ∙ ap (slice_get lits) at ∙ ends.at_place) in
        let lt : ends.lit.var < vars = held_range vars c ends.lit.var ends.sign range ends.holds in
        let var : other.var ≡ ends.lit.var = ap (λ (l : Lit). l.var) (last.3 ∙ ap opposite_of m_is) in
        omega (arith, code_less other vars (omega arith))
