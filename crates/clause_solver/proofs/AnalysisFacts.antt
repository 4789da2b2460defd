-- The chain of resolvents that an analysis makes, and the clause that is left at its end.
use Rattle.std.proofs.Common.{◌≡◌, ◌≢◌, ℕ, ◌+◌, ◌-◌, ◌<◌, ◌≤◌, Bool, true, false, not, eqb, cond, ◌||◌, List, [], ◌∷◌, ◌++◌, Option, Some, None, is_some, length, get_or, take, drop, refl, sym, ap, subst, ◌∙◌, inl, inr, arith}
use Rattle.std.specs.Prelude.{slice_get, slice_index, All, option_map}
use Rattle.std.specs.Option.{option_or}
use Rattle.std.proofs.Math.Path.{fun_ext}
use Rattle.std.proofs.Math.ListN.{set}
use Rattle.std.proofs.lemmas.Grind.{common_steps}
use Rattle.std.proofs.lemmas.Bool.{cases_eq, cases_lt, or_cases}
use Rattle.std.proofs.lemmas.List.{get_or-drop, get_or-set_same, get_or-set_other, get_or_past, take_all, nil_from_length}
use Rattle.std.proofs.lemmas.Option.{same_Some, slice_get-get_or}
use Rattle.clause_store.specs.declared.lit.Lit.{Lit}
use Rattle.clause_store.specs.declared.line.Cut.{Cut}
use Rattle.clause_store.specs.declared.line.Line.{Line}
use Rattle.clause_store.specs.Signs.{Signs, sign_of}
use Rattle.clause_store.specs.Assignments.{IsClosedFor, IsFalsified, IsUnit}
use Rattle.clause_store.specs.Resolvents.{opposite, IsResolvent, LeadsTo}
use Rattle.clause_store.specs.Derivations.{IsValidLine}
use Rattle.clause_solver.specs.Trails.{History, level_start_of}
use Rattle.clause_solver.specs.Propagation.{IsInRange, IsReason, IsExplained, IsBrokenAt}
use Rattle.clause_solver.specs.Analysis.{is_marked, marked_signs, flags, marked_from, Covers, IsWalked, IsLearnt, IsAnalyzed, least_of, IsChained}
use Rattle.clause_solver.proofs.SignFacts.{cases_option, present, is_present, sign_at, sign_present, sign_push_other, sign_same, sign_of-front, sign_of-front_le_none, front_more, slice_get-front, IsFirstAt, sign_found}
use Rattle.clause_solver.proofs.PropagationFacts.{at_all}
use Rattle.clause_solver.proofs.CountFacts.{IsFresh, flag_at, length-flags, some_true, none_true, is_counted, second_true, only_true}
use Rattle.clause_solver.proofs.MarkFacts.{count_less}

-- one more cut at the end of a chain
pub leads_more : (clauses : List (List Lit)) (start : Signs) (cuts : List Cut) (now : Signs) (cut : Cut) (clause : List Lit) (after : Signs) → LeadsTo clauses start cuts now → slice_get clauses cut.id ≡ Some clause → IsResolvent cut.var now (sign_of clause) after → LeadsTo clauses start (cuts ++ cut ∷ []) after
leads_more clauses start [] now cut clause after leads named r =
    let same : start ≡ now = fun_ext leads in
    (clause, after, named, subst (λ (s : Signs). IsResolvent cut.var s (sign_of clause) after) (sym same) r, λ v. refl)
leads_more clauses start (k ∷ cuts) now cut clause after leads named r =
    (leads.0, leads.1, leads.2, leads.3, leads_more clauses leads.1 cuts now cut clause after leads.4 named r)

clash_is : (b : Bool) → opposite (Some (not b)) (Some b) ≡ true
clash_is true = refl
clash_is false = refl

none_clashes : (o : Option Bool) → opposite o None ≡ false
none_clashes None = refl
none_clashes (Some b) = refl

same_clashes : (m t : Bool) → opposite (cond m (option_map not (Some (not t))) None) (Some t) ≡ false
same_clashes true true = refl
same_clashes true false = refl
same_clashes false t = refl

rest_none : (m : Bool) (o : Option Bool) → cond (m || false) o None ≡ option_or (cond m o None) None
rest_none true None = refl
rest_none true (Some b) = refl
rest_none false o = refl

rest_some : (m t : Bool) → cond (m || true) (option_map not (Some (not t))) None ≡ option_or (cond m (option_map not (Some (not t))) None) (Some t)
rest_some true true = refl
rest_some true false = refl
rest_some false true = refl
rest_some false false = refl

-- the marks after a cut stand for the resolvent
pub resolvent_marks : (lits c : List Lit) (before after : List Bool) (l : Lit) → sign_of lits l.var ≡ Some l.positive → is_marked before l.var ≡ true → sign_of c l.var ≡ Some l.positive → ((w : ℕ) (t : Bool) → w ≢ l.var → sign_of c w ≡ Some t → sign_of lits w ≡ Some (not t)) → is_marked after l.var ≡ false → ((w : ℕ) → w ≢ l.var → is_marked after w ≡ (is_marked before w || is_some (sign_of c w))) → IsResolvent l.var (marked_signs lits before) (sign_of c) (marked_signs lits after)
resolvent_marks lits c before after l at marked holds others gone rest = record {
  clash =
      let a : marked_signs lits before l.var ≡ Some (not l.positive) = ap (λ b. cond b (option_map not (sign_of lits l.var)) None) marked ∙ ap (option_map not) at in
      ap (λ o. opposite o (sign_of c l.var)) a ∙ ap (opposite (Some (not l.positive))) holds ∙ clash_is l.positive;
  only = λ w ne.
      elim (cases_option (sign_of c w)) [
        | inl none ↦ ap (opposite (marked_signs lits before w)) none ∙ none_clashes (marked_signs lits before w)
        | inr some ↦
            let a : marked_signs lits before w ≡ cond (is_marked before w) (option_map not (Some (not some.0))) None = ap (λ o. cond (is_marked before w) (option_map not o) None) (others w some.0 ne some.1) in
            ap (λ o. opposite o (sign_of c w)) a ∙ ap (opposite (cond (is_marked before w) (option_map not (Some (not some.0))) None)) some.1 ∙ same_clashes (is_marked before w) some.0
      ];
  gone = ap (λ b. cond b (option_map not (sign_of lits l.var)) None) gone;
  rest = λ w ne.
      let marks : marked_signs lits after w ≡ cond (is_marked before w || is_some (sign_of c w)) (option_map not (sign_of lits w)) None = ap (λ b. cond b (option_map not (sign_of lits w)) None) (rest w ne) in
      elim (cases_option (sign_of c w)) [
        | inl none ↦
            let a : cond (is_marked before w || is_some (sign_of c w)) (option_map not (sign_of lits w)) None ≡ cond (is_marked before w || false) (option_map not (sign_of lits w)) None = ap (λ o. cond (is_marked before w || is_some o) (option_map not (sign_of lits w)) None) none in
            marks ∙ a ∙ rest_none (is_marked before w) (option_map not (sign_of lits w)) ∙ ap (option_or (marked_signs lits before w)) (sym none)
        | inr some ↦
            let o : sign_of lits w ≡ Some (not some.0) = others w some.0 ne some.1 in
            let a : cond (is_marked before w || is_some (sign_of c w)) (option_map not (sign_of lits w)) None ≡ cond (is_marked before w || true) (option_map not (Some (not some.0))) None = ap (λ x. cond (is_marked before w || is_some x) (option_map not (sign_of lits w)) None) some.1 ∙ ap (λ x. cond (is_marked before w || true) (option_map not x) None) o in
            let b : option_or (cond (is_marked before w) (option_map not (Some (not some.0))) None) (Some some.0) ≡ option_or (marked_signs lits before w) (sign_of c w) = ap (λ x. option_or (cond (is_marked before w) (option_map not x) None) (Some some.0)) (sym o) ∙ ap (option_or (marked_signs lits before w)) (sym some.1) in
            marks ∙ a ∙ rest_some (is_marked before w) some.0 ∙ b
      ];
}

-- a place whose variable has no mark
pub walk_skip : (clauses : List (List Lit)) (lits conflict : List Lit) (cuts : List Cut) (marks : List Bool) (start p n : ℕ) (l : Lit) → IsWalked clauses lits conflict cuts marks start (p + 1) n → slice_get lits p ≡ Some l → is_marked marks l.var ≡ false → IsWalked clauses lits conflict cuts marks start p n
walk_skip clauses lits conflict cuts marks start p n l x e unmarked = record {
  within = let h : p + 1 ≤ length lits = x.within in omega arith;
  below = λ v marked.
      let ne : l.var ≢ v = λ same. let m : is_marked marks l.var ≡ true = ap (is_marked marks) same ∙ marked in cc in
      ap is_some (sym (sign_push_other (take p lits) l v ne) ∙ ap (λ a. sign_of a v) (sym (front_more lits p l e))) ∙ x.below v marked;
  counted = x.counted;
  leads = x.leads;
}

-- a place whose literal was cut out
pub walk_cut : (clauses : List (List Lit)) (lits conflict c : List Lit) (cuts : List Cut) (before after : List Bool) (start p n m : ℕ) (l : Lit) (cut : Cut) → IsWalked clauses lits conflict cuts before start (p + 1) n → IsFresh lits → slice_get lits p ≡ Some l → is_marked before l.var ≡ true → cut.var ≡ l.var → slice_get clauses cut.id ≡ Some c → IsUnit (take p lits) c l.var l.positive → is_marked after l.var ≡ false → ((w : ℕ) → w ≢ l.var → is_marked after w ≡ (is_marked before w || is_some (sign_of c w))) → m ≡ marked_from after lits start → IsWalked clauses lits conflict (cuts ++ cut ∷ []) after start p m
walk_cut clauses lits conflict c cuts before after start p n m l cut x fresh e marked cut_var named u gone rest counted =
    let at : sign_of lits l.var ≡ Some l.positive = sign_at lits p l e (fresh p l e) in
    let others : (w : ℕ) (t : Bool) → w ≢ l.var → sign_of c w ≡ Some t → sign_of lits w ≡ Some (not t) =
    λ w t ne s. sign_of-front p lits w (not t) (u.others_false w t ne s) in
    let r : IsResolvent l.var (marked_signs lits before) (sign_of c) (marked_signs lits after) = resolvent_marks lits c before after l at marked u.holds others gone rest in
    record {
      within = let h : p + 1 ≤ length lits = x.within in omega arith;
      below = λ v now.
          let ne : v ≢ l.var = λ same. let g : is_marked after v ≡ false = ap (is_marked after) same ∙ gone in cc in
          elim (or_cases (is_marked before v) (is_some (sign_of c v)) (sym (rest v ne) ∙ now)) [
            | inl old ↦ ap is_some (sym (sign_push_other (take p lits) l v (λ same. ne (sym same))) ∙ ap (λ a. sign_of a v) (sym (front_more lits p l e))) ∙ x.below v old
            | inr held ↦
                let s : (t : Bool) × (sign_of c v ≡ Some t) = present _ held in
                is_present _ (not s.0) (u.others_false v s.0 ne s.1)
          ];
      counted = counted;
      leads = leads_more clauses (sign_of conflict) cuts (marked_signs lits before) cut c (marked_signs lits after) x.leads named (subst (λ v. IsResolvent v (marked_signs lits before) (sign_of c) (marked_signs lits after)) (sym cut_var) r);
    }

-- a variable that is set before a place stands before it
pub place_before : (lits : List Lit) (q t : ℕ) (m : Lit) → IsFresh lits → slice_get lits q ≡ Some m → is_some (sign_of (take t lits) m.var) ≡ true → q < t
place_before lits q t m fresh e some =
    elim (cases_lt q t) [
      | inl lt ↦ lt
      | inr ge ↦
          let none : sign_of (take t lits) m.var ≡ None = sign_of-front_le_none t q lits m.var ge (fresh q m e) in
          absurd (cc)
    ]

-- the flag of a place at or past the start, counted from there
pub flag_from : (marks : List Bool) (lits : List Lit) (start j : ℕ) → get_or (drop start (flags marks lits)) j false ≡ get_or (flags marks lits) (start + j) false
flag_from marks lits start j = get_or-drop start (flags marks lits) j false

-- the literal of a place whose flag is true
pub marked_place : (marks : List Bool) (lits : List Lit) (q : ℕ) → get_or (flags marks lits) q false ≡ true → (m : Lit) × (slice_get lits q ≡ Some m) × (is_marked marks m.var ≡ true)
marked_place marks lits q flag =
    elim (cases_option (slice_get lits q)) [
      | inl none ↦
          elim (cases_lt q (length lits)) [
            | inl lt ↦ let h : slice_get lits q ≡ Some (get_or lits q (record { var = 0; positive = false })) = slice_get-get_or lits q (record { var = 0; positive = false }) lt in absurd (cc)
            | inr ge ↦ let h : get_or (flags marks lits) q false ≡ false = get_or_past (flags marks lits) q false (omega (arith, length-flags marks lits)) in absurd (cc)
          ]
      | inr some ↦ (some.0, some.1, sym (flag_at marks lits q some.0 some.1) ∙ flag)
    ]

-- where more marks are left than at the end, a marked place at the top is past the last decision
pub goes_on : (clauses : List (List Lit)) (h : History) (conflict : List Lit) (cuts : List Cut) (marks : List Bool) (p n : ℕ) (l : Lit) → IsExplained clauses h → IsWalked clauses h.lits conflict cuts marks (level_start_of h) (p + 1) n → least_of h < n → slice_get h.lits p ≡ Some l → is_marked marks l.var ≡ true → (level_start_of h ≤ p) × (slice_get h.reasons p ≢ Some None)
goes_on clauses h conflict cuts marks p n l x w more e marked =
    elim (cases_eq (length h.starts) 0) [
      | inl zero_levels ↦
          let nil : h.starts ≡ [] = nil_from_length h.starts zero_levels in
          let start : level_start_of h ≡ 0 = get_or_past h.starts (length h.starts - 1) 0 (omega arith) in
          (omega arith, λ none. let d : (k : ℕ) × (k < length h.starts) × (slice_index h.starts k ≡ p) = x.decided p none in let lt : d.0 < length h.starts = d.1 in omega arith)
      | inr some_levels ↦
          let t : eqb (length h.starts) 0 ≡ false = grind (arith, common_steps) in
          let one : least_of h ≡ 1 = ap (λ b. cond b 0 1) t in
          let count : n ≡ marked_from marks h.lits (level_start_of h) = w.counted in
          let second : (j : ℕ) × (j < length (drop (level_start_of h) (flags marks h.lits))) × (get_or (drop (level_start_of h) (flags marks h.lits)) j false ≡ true) × (j ≢ p - level_start_of h) = second_true (drop (level_start_of h) (flags marks h.lits)) (p - level_start_of h) (omega arith) in
          let flag : get_or (flags marks h.lits) (level_start_of h + second.0) false ≡ true = sym (flag_from marks h.lits (level_start_of h) second.0) ∙ second.2 in
          let m : (m : Lit) × (slice_get h.lits (level_start_of h + second.0) ≡ Some m) × (is_marked marks m.var ≡ true) = marked_place marks h.lits (level_start_of h + second.0) flag in
          let below : level_start_of h + second.0 < p + 1 = place_before h.lits (level_start_of h + second.0) (p + 1) m.0 x.coherent.fresh m.1 (w.below m.0.var m.2) in
          let ne : second.0 ≢ p - level_start_of h = second.3 in
          let past : level_start_of h < p = past_start (level_start_of h) p second.0 below ne in
          (omega arith, λ none. not_decided x p past none)
    ]
  where
    past_start : (s p j : ℕ) → s + j < p + 1 → j ≢ p - s → s < p
    past_start s p j lt ne =
        elim (cases_eq j (p - s)) [
          | inl eq ↦ absurd (ne eq)
          | inr apart ↦ elim (cases_lt s p) [ inl less ↦ less | inr ge ↦ absurd (ne (omega arith)) ]
        ]

    not_decided : IsExplained clauses h → (p : ℕ) → level_start_of h < p → slice_get h.reasons p ≡ Some None → ⊥
    not_decided x p past none =
        let d : (k : ℕ) × (k < length h.starts) × (slice_index h.starts k ≡ p) = x.decided p none in
        elim (cases_lt d.0 (length h.starts - 1)) [
          | inl lt ↦
              let o : slice_index h.starts d.0 < level_start_of h = x.ordered d.0 (length h.starts - 1) lt (let k : d.0 < length h.starts = d.1 in omega arith) in
              let at : slice_index h.starts d.0 ≡ p = d.2 in
              omega arith
          | inr ge ↦
              let k : d.0 < length h.starts = d.1 in
              let last : d.0 ≡ length h.starts - 1 = omega arith in
              let at : level_start_of h ≡ p = ap (slice_index h.starts) (sym last) ∙ d.2 in
              omega arith
        ]

-- where a literal was decided or comes from a clause that is not there, nothing is left to cut
pub covered_reason : (lits c : List Lit) (p : ℕ) (l : Lit) → sign_of lits l.var ≡ Some l.positive → IsUnit (take p lits) c l.var l.positive → Covers lits c
covered_reason lits c p l at u v s e =
    elim (cases_eq v l.var) [
      | inl eq ↦ is_present _ l.positive (ap (sign_of lits) eq ∙ at)
      | inr ne ↦ is_present _ (not s) (sign_of-front p lits v (not s) (u.others_false v s ne e))
    ]

pub reason_at : (clauses : List (List Lit)) (lits : List Lit) (p id : ℕ) (l : Lit) (c : List Lit) → IsReason clauses lits p id → slice_get lits p ≡ Some l → slice_get clauses id ≡ Some c → IsUnit (take p lits) c l.var l.positive
reason_at clauses lits p id l c r e named =
    let lit : r.lit ≡ l = same_Some r.lit l (sym r.at_place ∙ e) in
    let clause : r.clause ≡ c = same_Some r.clause c (sym r.named ∙ named) in
    subst (λ x. IsUnit (take p lits) x l.var l.positive) clause (subst (λ (x : Lit). IsUnit (take p lits) r.clause x.var x.positive) lit r.unit)

pub chained_skip : (clauses : List (List Lit)) (h : History) (first : ℕ) (cuts : List Cut) (marks : List Bool) (p n : ℕ) (l : Lit) → IsChained clauses h first cuts marks (p + 1) n → slice_get h.lits p ≡ Some l → is_marked marks l.var ≡ false → IsChained clauses h first cuts marks p n
chained_skip clauses h first cuts marks p n l x e unmarked = record {
  conflict = x.conflict;
  named = x.named;
  walked = walk_skip clauses h.lits x.conflict cuts marks (level_start_of h) p n l x.walked e unmarked;
  least = x.least;
}

-- a marked place is no decision
pub chained_forced : (clauses : List (List Lit)) (h : History) (first : ℕ) (cuts : List Cut) (marks : List Bool) (p n : ℕ) (l : Lit) → IsExplained clauses h → IsChained clauses h first cuts marks (p + 1) n → least_of h < n → slice_get h.lits p ≡ Some l → is_marked marks l.var ≡ true → slice_get h.reasons p ≡ Some None → ⊥
chained_forced clauses h first cuts marks p n l e x more at marked = (goes_on clauses h x.conflict cuts marks p n l e x.walked more at marked).1

pub chained_cut : (clauses : List (List Lit)) (h : History) (first : ℕ) (cuts : List Cut) (marks all : List Bool) (p n total id : ℕ) (l : Lit) (c : List Lit) (cut : Cut) → IsExplained clauses h → IsChained clauses h first cuts marks (p + 1) n → least_of h < n → slice_get h.lits p ≡ Some l → is_marked marks l.var ≡ true → slice_get h.reasons p ≡ Some (Some id) → slice_get clauses id ≡ Some c → cut.var ≡ l.var → cut.id ≡ id → ((v : ℕ) → is_marked all v ≡ (is_marked marks v || is_some (sign_of c v))) → length all ≡ h.vars → total ≡ marked_from all h.lits (level_start_of h) → n ≤ total → IsChained clauses h first (cuts ++ cut ∷ []) (set all l.var false) p (total - 1)
chained_cut clauses h first cuts marks all p n total id l c cut e x more at marked reason named cut_var cut_id marks_all len counted grows =
    let on : (level_start_of h ≤ p) × (slice_get h.reasons p ≢ Some None) = goes_on clauses h x.conflict cuts marks p n l e x.walked more at marked in
    let start : level_start_of h ≤ p = on.0 in
    let r : IsReason clauses h.lits p id = e.reasoned p id reason in
    let u : IsUnit (take p h.lits) c l.var l.positive = reason_at clauses h.lits p id l c r at named in
    let sign : sign_of h.lits l.var ≡ Some l.positive = sign_at h.lits p l at (e.coherent.fresh p l at) in
    let lt : l.var < length all = rw len (e.coherent.in_range l.var l.positive sign) in
    let still : is_marked all l.var ≡ true = marks_all l.var ∙ or_true_left _ _ marked in
    let less : marked_from (set all l.var false) h.lits (level_start_of h) + 1 ≡ marked_from all h.lits (level_start_of h) = count_less all h.lits p (level_start_of h) l e.coherent.fresh at lt still start in
    let gone : is_marked (set all l.var false) l.var ≡ false = get_or-set_same all l.var false false lt in
    let rest : (w : ℕ) → w ≢ l.var → is_marked (set all l.var false) w ≡ (is_marked marks w || is_some (sign_of c w)) = λ w ne. get_or-set_other all l.var w false false ne ∙ marks_all w in
    record {
      conflict = x.conflict;
      named = x.named;
      walked = walk_cut clauses h.lits x.conflict c cuts marks (set all l.var false) (level_start_of h) p n (total - 1) l cut x.walked e.coherent.fresh at marked cut_var (ap (slice_get clauses) cut_id ∙ named) u gone rest (omega arith);
      least = omega arith;
    }
  where
    or_true_left : (a b : Bool) → a ≡ true → (a || b) ≡ true
    or_true_left a b t = rw t refl

-- no variable is marked
pub clear_unmarked : (marks : List Bool) → All (λ b. b ≡ false) marks → (v : ℕ) → is_marked marks v ≡ false
clear_unmarked marks clear v =
    elim (cases_lt v (length marks)) [
      | inl lt ↦ clear v false lt
      | inr ge ↦ get_or_past marks v false ge
    ]

pub clear_count : (marks : List Bool) (lits : List Lit) (start : ℕ) → All (λ b. b ≡ false) marks → 0 ≡ marked_from marks lits start
clear_count marks lits start clear =
    elim (cases_lt 0 (marked_from marks lits start)) [
      | inl some ↦
          let j : (j : ℕ) × (j < length (drop start (flags marks lits))) × (get_or (drop start (flags marks lits)) j false ≡ true) = some_true (drop start (flags marks lits)) some in
          let m : (m : Lit) × (slice_get lits (start + j.0) ≡ Some m) × (is_marked marks m.var ≡ true) = marked_place marks lits (start + j.0) (sym (flag_from marks lits start j.0) ∙ j.2) in
          let c : is_marked marks m.0.var ≡ false = clear_unmarked marks clear m.0.var in
          let t : is_marked marks m.0.var ≡ true = m.2 in
          absurd (cc)
      | inr none ↦ omega arith
    ]

pub broken_at : (clauses : List (List Lit)) (lits : List Lit) (id : ℕ) (c : List Lit) → IsBrokenAt clauses lits id → slice_get clauses id ≡ Some c → IsFalsified lits c
broken_at clauses lits id c b named = subst (IsFalsified lits) (same_Some b.clause c (sym b.named ∙ named)) b.falsified

pub broken_covers : (lits c : List Lit) → IsFalsified lits c → Covers lits c
broken_covers lits c f = λ v s e. is_present _ (not s) (f v s e)

not_not : (b : Bool) → not (not b) ≡ b
not_not true = refl
not_not false = refl

not_itself : (b : Bool) → b ≡ not b → ⊥
not_itself true e = absurd (cc)
not_itself false e = absurd (cc)

-- marks that are those of a clause which is false stand for it
begun_signs : (lits c : List Lit) (marks : List Bool) → IsFalsified lits c → ((v : ℕ) → is_marked marks v ≡ is_some (sign_of c v)) → (v : ℕ) → sign_of c v ≡ marked_signs lits marks v
begun_signs lits c marks f is v =
    elim (cases_option (sign_of c v)) [
      | inl none ↦
          let m : is_marked marks v ≡ false = is v ∙ ap is_some none in
          none ∙ sym (ap (λ b. cond b (option_map not (sign_of lits v)) None) m)
      | inr some ↦
          let m : is_marked marks v ≡ true = is v ∙ ap is_some some.1 in
          some.1 ∙ sym (ap (λ b. cond b (option_map not (sign_of lits v)) None) m ∙ ap (option_map not) (f v some.0 some.1) ∙ ap (λ b. Some b) (not_not some.0))
    ]

-- some variable of a false clause was set since the last decision, before which nothing was left to do
begun_some : (lits c : List Lit) (marks : List Bool) (start : ℕ) → IsFresh lits → IsFalsified lits c → IsClosedFor (take start lits) c → ((v : ℕ) → is_marked marks v ≡ is_some (sign_of c v)) → 0 < marked_from marks lits start
begun_some lits c marks start fresh f (inl true_one) is =
    let a : sign_of lits true_one.var ≡ Some (not true_one.sign) = f true_one.var true_one.sign true_one.holds in
    let b : sign_of lits true_one.var ≡ Some true_one.sign = sign_of-front start lits true_one.var true_one.sign true_one.is_true in
    absurd (not_itself true_one.sign (same_Some _ _ (sym b ∙ a)))
begun_some lits c marks start fresh f (inr two) is =
    let a : sign_of lits two.one ≡ Some (not two.one_sign) = f two.one two.one_sign two.holds_one in
    let at : IsFirstAt lits two.one (not two.one_sign) = sign_found lits two.one (not two.one_sign) a in
    let past : start ≤ at.place = not_before start at two.one_open in
    let m : is_marked marks at.lit.var ≡ true = ap (is_marked marks) at.var ∙ is two.one ∙ is_present _ two.one_sign two.holds_one in
    let flag : get_or (drop start (flags marks lits)) (at.place - start) false ≡ true = flag_from marks lits start (at.place - start) ∙ ap (λ q. get_or (flags marks lits) q false) (let s : start + (at.place - start) ≡ at.place = omega arith in s) ∙ flag_at marks lits at.place at.lit at.at_place ∙ m in
    is_counted (drop start (flags marks lits)) (at.place - start) flag
  where
    not_before : (start : ℕ) (at : IsFirstAt lits two.one (not two.one_sign)) → sign_of (take start lits) two.one ≡ None → start ≤ at.place
    not_before start at none =
        elim (cases_lt at.place start) [
          | inl lt ↦
              let there : is_some (sign_of (take start lits) at.lit.var) ≡ true = sign_present (take start lits) at.place at.lit (slice_get-front start lits at.place at.lit lt at.at_place) in
              let n : sign_of (take start lits) at.lit.var ≡ None = ap (sign_of (take start lits)) at.var ∙ none in
              absurd (cc)
          | inr ge ↦ ge
        ]

pub chained_begin : (clauses : List (List Lit)) (h : History) (id : ℕ) (c : List Lit) (clear marks : List Bool) (n : ℕ) → IsExplained clauses h → IsBrokenAt clauses h.lits id → slice_get clauses id ≡ Some c → All (λ b. b ≡ false) clear → ((v : ℕ) → is_marked marks v ≡ (is_marked clear v || is_some (sign_of c v))) → n ≡ marked_from marks h.lits (level_start_of h) → IsChained clauses h id [] marks (length h.lits) n
chained_begin clauses h id c clear marks n x b named none all counted =
    let f : IsFalsified h.lits c = broken_at clauses h.lits id c b named in
    let is : (v : ℕ) → is_marked marks v ≡ is_some (sign_of c v) = λ v. all v ∙ ap (λ m. m || is_some (sign_of c v)) (clear_unmarked clear none v) in
    record {
      conflict = c;
      named = named;
      walked = record {
        within = omega arith;
        below = λ v marked.
            let s : (t : Bool) × (sign_of c v ≡ Some t) = present _ (sym (is v) ∙ marked) in
            ap (λ a. is_some (sign_of a v)) (take_all (length h.lits) h.lits (omega arith)) ∙ is_present _ (not s.0) (f v s.0 s.1);
        counted = counted;
        leads = begun_signs h.lits c marks f is;
      };
      least =
          elim (cases_eq (length h.starts) 0) [
            | inl zero_levels ↦
                let t : eqb (length h.starts) 0 ≡ true = grind (arith, common_steps) in
                let least : least_of h ≡ 0 = ap (λ b. cond b 0 1) t in
                omega arith
            | inr some_levels ↦
                let t : eqb (length h.starts) 0 ≡ false = grind (arith, common_steps) in
                let least : least_of h ≡ 1 = ap (λ b. cond b 0 1) t in
                let closed : IsClosedFor (take (level_start_of h) h.lits) c = at_all (IsClosedFor (take (level_start_of h) h.lits)) clauses (x.closed (length h.starts - 1) (omega arith)) id c named in
                let some : 0 < marked_from marks h.lits (level_start_of h) = begun_some h.lits c marks (level_start_of h) x.coherent.fresh f closed is in
                omega arith
          ];
    }

-- where marks are left past the start, the top is above 0
pub chained_top : (clauses : List (List Lit)) (h : History) (first : ℕ) (cuts : List Cut) (marks : List Bool) (top n : ℕ) → IsChained clauses h first cuts marks top n → least_of h < n → 0 < top
chained_top clauses h first cuts marks top n x more =
    let count : n ≡ marked_from marks h.lits (level_start_of h) = x.walked.counted in
    let j : (j : ℕ) × (j < length (drop (level_start_of h) (flags marks h.lits))) × (get_or (drop (level_start_of h) (flags marks h.lits)) j false ≡ true) = some_true (drop (level_start_of h) (flags marks h.lits)) (omega arith) in
    let m : (m : Lit) × (slice_get h.lits (level_start_of h + j.0) ≡ Some m) × (is_marked marks m.var ≡ true) = marked_place marks h.lits (level_start_of h + j.0) (sym (flag_from marks h.lits (level_start_of h) j.0) ∙ j.2) in
    let below : is_some (sign_of (take top h.lits) m.0.var) ≡ true = x.walked.below m.0.var m.2 in
    elim (cases_lt 0 top) [
      | inl some ↦ some
      | inr none ↦
          let zero_top : top ≡ 0 = omega arith in
          let gone : is_some (sign_of (take top h.lits) m.0.var) ≡ false = ap (λ t. is_some (sign_of (take t h.lits) m.0.var)) zero_top in
          absurd (cc)
    ]

-- what a marked variable is: set, with the opposite sign
pub marked_is : (lits : List Lit) (marks : List Bool) (v : ℕ) (s : Bool) → marked_signs lits marks v ≡ Some s → (is_marked marks v ≡ true) × (sign_of lits v ≡ Some (not s))
marked_is lits marks v s e = (cond_true (is_marked marks v) _ e, opposite_sign (is_marked marks v) (sign_of lits v) s e)
  where
    cond_true : (b : Bool) (o : Option Bool) → cond b o None ≡ Some s → b ≡ true
    cond_true true o e = refl
    cond_true false o e = absurd (cc)

    opposite_sign : (b : Bool) (o : Option Bool) (s : Bool) → cond b (option_map not o) None ≡ Some s → o ≡ Some (not s)
    opposite_sign true None s e = absurd (cc)
    opposite_sign true (Some x) s e = let h : not x ≡ s = same_Some (not x) s e in ap (λ b. Some b) (sym (not_not x) ∙ ap not h)
    opposite_sign false o s e = absurd (cc)

sign_front_at : (lits : List Lit) (w : ℕ) (s : Bool) (n : ℕ) (at : IsFirstAt lits w s) → IsFresh lits → at.place < n → sign_of (take n lits) w ≡ Some s
sign_front_at lits w s n at fresh lt =
    let there : is_some (sign_of (take n lits) at.lit.var) ≡ true = sign_present (take n lits) at.place at.lit (slice_get-front n lits at.place at.lit lt at.at_place) in
    let x : (t : Bool) × (sign_of (take n lits) at.lit.var ≡ Some t) = present _ there in
    let whole : sign_of lits at.lit.var ≡ Some x.0 = sign_of-front n lits at.lit.var x.0 x.1 in
    let is : sign_of lits at.lit.var ≡ Some at.lit.positive = sign_at lits at.place at.lit at.at_place (fresh at.place at.lit at.at_place) in
    let same : x.0 ≡ s = same_Some _ _ (sym whole ∙ is) ∙ at.sign in
    ap (sign_of (take n lits)) (sym at.var) ∙ x.1 ∙ ap (λ b. Some b) same

-- the place of a marked variable has a true flag
flag_of : (lits : List Lit) (marks : List Bool) (start w : ℕ) (s : Bool) (at : IsFirstAt lits w s) → is_marked marks w ≡ true → start ≤ at.place → get_or (drop start (flags marks lits)) (at.place - start) false ≡ true
flag_of lits marks start w s at marked le =
    flag_from marks lits start (at.place - start) ∙ ap (λ q. get_or (flags marks lits) q false) (let s : start + (at.place - start) ≡ at.place = omega arith in s) ∙ flag_at marks lits at.place at.lit at.at_place ∙ ap (is_marked marks) at.var ∙ marked

-- one mark is left past the start: its literal is the one that is open before the last decision
pub learnt_is : (lits c : List Lit) (marks : List Bool) (start : ℕ) → IsFresh lits → ((v : ℕ) → sign_of c v ≡ marked_signs lits marks v) → marked_from marks lits start ≡ 1 → IsLearnt lits start c
learnt_is lits c marks start fresh signs one =
    let j : (j : ℕ) × (j < length (drop start (flags marks lits))) × (get_or (drop start (flags marks lits)) j false ≡ true) = some_true (drop start (flags marks lits)) (omega arith) in
    let m : (m : Lit) × (slice_get lits (start + j.0) ≡ Some m) × (is_marked marks m.var ≡ true) = marked_place marks lits (start + j.0) (sym (flag_from marks lits start j.0) ∙ j.2) in
    let is : sign_of lits m.0.var ≡ Some m.0.positive = sign_at lits (start + j.0) m.0 m.1 (fresh (start + j.0) m.0 m.1) in
    record {
      var = m.0.var;
      sign = not m.0.positive;
      unit = record {
        holds = signs m.0.var ∙ ap (λ b. cond b (option_map not (sign_of lits m.0.var)) None) m.2 ∙ ap (option_map not) is;
        others_false = λ w t ne e. before j.0 m.0 m.1 j.2 w t ne e;
      };
      is_open = sign_of-front_le_none start (start + j.0) lits m.0.var (omega arith) (fresh (start + j.0) m.0 m.1);
    }
  where
    before : (j : ℕ) (m : Lit) → slice_get lits (start + j) ≡ Some m → get_or (drop start (flags marks lits)) j false ≡ true → (w : ℕ) (t : Bool) → w ≢ m.var → sign_of c w ≡ Some t → sign_of (take start lits) w ≡ Some (not t)
    before j m em flag w t ne e =
        let mw : (is_marked marks w ≡ true) × (sign_of lits w ≡ Some (not t)) = marked_is lits marks w t (sym (signs w) ∙ e) in
        let at : IsFirstAt lits w (not t) = sign_found lits w (not t) mw.1 in
        elim (cases_lt at.place start) [
          | inl lt ↦ sign_front_at lits w (not t) start at fresh lt
          | inr ge ↦
              let same : at.place - start ≡ j = only_true (drop start (flags marks lits)) (at.place - start) j (omega arith) (flag_of lits marks start w (not t) at mw.0 ge) flag in
              let place : at.place ≡ start + j = omega arith in
              let lit : at.lit ≡ m = same_Some at.lit m (sym at.at_place ∙ ap (slice_get lits) place ∙ em) in
              absurd (ne (sym at.var ∙ ap (λ (x : Lit). x.var) lit))
        ]

pub empty_from_signs : (c : List Lit) → ((v : ℕ) → sign_of c v ≡ None) → c ≡ []
empty_from_signs [] h = refl
empty_from_signs (l ∷ c) h =
    let a : sign_of (l ∷ c) l.var ≡ Some l.positive = sign_same l c l.var refl in
    let b : sign_of (l ∷ c) l.var ≡ None = h l.var in
    absurd (cc)

no_marks : (lits c : List Lit) (marks : List Bool) → ((v : ℕ) → sign_of c v ≡ marked_signs lits marks v) → marked_from marks lits 0 ≡ 0 → c ≡ []
no_marks lits c marks signs none =
    empty_from_signs c (λ v.
    elim (cases_option (sign_of c v)) [
      | inl e ↦ e
      | inr some ↦
          let m : (is_marked marks v ≡ true) × (sign_of lits v ≡ Some (not some.0)) = marked_is lits marks v some.0 (sym (signs v) ∙ some.1) in
          let at : IsFirstAt lits v (not some.0) = sign_found lits v (not some.0) m.1 in
          let flag : get_or (drop 0 (flags marks lits)) (at.place - 0) false ≡ true = flag_of lits marks 0 v (not some.0) at m.0 (omega arith) in
          let n : get_or (drop 0 (flags marks lits)) (at.place - 0) false ≡ false = none_true (drop 0 (flags marks lits)) none (at.place - 0) in
          absurd (cc)
    ])

-- at the end of an analysis
pub analyzed_is : (clauses : List (List Lit)) (h : History) (first : ℕ) (cuts : List Cut) (marks : List Bool) (top n : ℕ) (c : List Lit) → IsExplained clauses h → IsChained clauses h first cuts marks top n → n ≤ least_of h → IsInRange h.vars c → ((v : ℕ) → sign_of c v ≡ marked_signs h.lits marks v) → IsAnalyzed h c
analyzed_is clauses h first cuts marks top n c e x few range signs = record {
  below = range.below;
  covered = λ v s at. is_present _ (not s) ((marked_is h.lits marks v s (sym (signs v) ∙ at)).1);
  empty = λ none.
      let counted : n ≡ marked_from marks h.lits (level_start_of h) = x.walked.counted in
      let least : least_of h ≡ 0 = ap (λ xs. cond (eqb (length xs) 0) 0 1) none in
      let start : level_start_of h ≡ 0 = ap (λ (xs : List ℕ). slice_index xs (length xs - 1)) none in
      let zero_marks : marked_from marks h.lits 0 ≡ 0 = ap (marked_from marks h.lits) (sym start) ∙ (let z : marked_from marks h.lits (level_start_of h) ≡ 0 = omega arith in z) in
      no_marks h.lits c marks signs zero_marks;
  learnt = λ some.
      let counted : n ≡ marked_from marks h.lits (level_start_of h) = x.walked.counted in
      let low : least_of h ≤ n = x.least in
      let one : least_of h ≡ 1 = least_one some in
      learnt_is h.lits c marks (level_start_of h) e.coherent.fresh signs (omega arith);
}
  where
    least_one : h.starts ≢ [] → least_of h ≡ 1
    least_one some =
        elim (cases_eq (length h.starts) 0) [
          | inl none ↦ absurd (some (nil_from_length h.starts none))
          | inr more ↦ let t : eqb (length h.starts) 0 ≡ false = grind (arith, common_steps) in ap (λ b. cond b 0 1) t
        ]

abbrev pub line_of : List Lit → ℕ → List Cut → Line
line_of c first cuts = record { clause = c; first = first; cuts = cuts }

pub valid_is : (clauses : List (List Lit)) (h : History) (first : ℕ) (cuts : List Cut) (marks : List Bool) (top n : ℕ) (c : List Lit) → IsChained clauses h first cuts marks top n → IsInRange h.vars c → ((v : ℕ) → sign_of c v ≡ marked_signs h.lits marks v) → IsValidLine clauses (line_of c first cuts)
valid_is clauses h first cuts marks top n c x range signs =
    let same : sign_of c ≡ marked_signs h.lits marks = fun_ext signs in
    record {
      ascending = range.ascends;
      start = x.conflict;
      first = x.named;
      leads = subst (LeadsTo clauses (sign_of x.conflict) cuts) (sym same) x.walked.leads;
    }
