-- What is guarded at every time of a search, as clauses are looked at, literals are set and decisions are made.
use Rattle.std.proofs.Common.{◌≡◌, ◌≢◌, ℕ, ◌-◌, ◌<◌, ◌≤◌, Bool, true, false, not, List, [], ◌∷◌, ◌++◌, Option, Some, None, length, take, refl, sym, ap, subst, ◌∙◌, ◌⊎◌, inl, inr, arith}
use Rattle.std.specs.Prelude.{slice_get, slice_index}
use Rattle.std.proofs.lemmas.Bool.{cases_eq}
use Rattle.std.proofs.lemmas.List.{length_push, take-append-le, take_at, take_all}
use Rattle.std.proofs.lemmas.Option.{same_Some}
use Rattle.clause_store.specs.declared.lit.Lit.{Lit}
use Rattle.clause_store.specs.Signs.{sign_of}
use Rattle.clause_store.specs.Assignments.{HasTrue, IsClosedFor, IsClosed, IsFalsified}
use Rattle.clause_solver.specs.declared.watches.Pair.{Pair}
use Rattle.clause_solver.specs.Trails.{History, IsCoherent, pushed, opened}
use Rattle.clause_solver.specs.Propagation.{Extends, IsUnitOpen}
use Rattle.clause_solver.specs.Watches.{code_of, opposite_of, pair_lits, Watching, listed_under, pair_of, rewatched, removed, IsIn, IsPartner, Holds, IsFalse, IsPairOf, IsWatching, IsSettledFor, IsSettled, IsGuarded, IsWatched}
use Rattle.clause_solver.proofs.SignFacts.{slice_get-take, cases_option, sign_at, sign_push_same}
use Rattle.clause_solver.proofs.PropagationFacts.{all_at, explained_push, explained_decide, start_old, start_new, level_cases}
use Rattle.clause_solver.proofs.CountFacts.{IsFresh}
use Rattle.clause_solver.proofs.WatchFacts.{lit_same, length-removed, listed_other, removed_same, watching_removed, watching_rewatched}
use Rattle.clause_solver.proofs.SettleFacts.{pair_rewatched, settled_rewatched, settled_more}

either_sign : (a b : Bool) → (a ≡ b) ⊎ (a ≡ not b)
either_sign true true = inl refl
either_sign true false = inr refl
either_sign false true = inr refl
either_sign false false = inl refl

-- a clause that is watched by two literals
pub record IsWatchedBy (c : List Lit) (pair : Option Pair) (l other : Lit) : Type 0 where
  pub lits : Pair
  pub is : pair ≡ Some lits
  pub here : IsIn l lits
  pub there : IsIn other lits
  pub apart : other ≢ l
  pub holds : Holds c other

pub partner_is : (clauses : List (List Lit)) (vars : ℕ) (w : Watching) (id : ℕ) (c : List Lit) (l other : Lit) → IsWatching clauses vars w → slice_get clauses id ≡ Some c → IsPartner (pair_of w id) l (Some other) → IsWatchedBy c (pair_of w id) l other
partner_is clauses vars w id c l other g named (inl e) =
    let h : IsPairOf c (pair_lits l other) = g.held id c (pair_lits l other) named e in
    record { lits = pair_lits l other; is = e; here = inl refl; there = inr refl; apart = λ same. h.differ (ap (λ (x : Lit). x.var) (sym same)); holds = h.other }
partner_is clauses vars w id c l other g named (inr e) =
    let h : IsPairOf c (pair_lits other l) = g.held id c (pair_lits other l) named e in
    record { lits = pair_lits other l; is = e; here = inr refl; there = inl refl; apart = λ same. h.differ (ap (λ (x : Lit). x.var) same); holds = h.one }

pub guarded_removed : (clauses : List (List Lit)) (h : History) (w : Watching) (l : Lit) (entry x : ℕ) → IsGuarded clauses h w → slice_get (listed_under w l) entry ≡ Some x → ((p : Pair) → pair_of w x ≡ Some p → IsIn l p → ⊥) → IsGuarded clauses h (removed w l entry)
guarded_removed clauses h w l entry x g at lacks = record {
  explained = g.explained;
  watching = watching_removed clauses h.vars w l entry x g.watching at lacks;
  fronts = g.fronts;
}

pub guarded_rewatched : (clauses : List (List Lit)) (h : History) (w : Watching) (c : List Lit) (was : Pair) (new other : Lit) (x : ℕ) → IsGuarded clauses h w → slice_get clauses x ≡ Some c → pair_of w x ≡ Some was → IsIn other was → Holds c new → new.var ≢ other.var → code_of new < length w.lists → (IsFalse h.lits new → ⊥) → IsGuarded clauses h (rewatched w (pair_lits new other) x)
guarded_rewatched clauses h w c was new other x g named is within holds apart lt alive = record {
  explained = g.explained;
  watching = watching_rewatched clauses h.vars w c was new other x g.watching named is within holds apart lt;
  fronts = λ k less. settled_rewatched clauses w h.lits (take (slice_index h.starts k) h.lits) (slice_index h.starts k) was new other x is within alive (g.fronts k less);
}

-- the literal whose opposite stands at a place is false
pub false_at : (lits : List Lit) (place : ℕ) (l : Lit) → IsFresh lits → slice_get lits place ≡ Some (opposite_of l) → IsFalse lits l
false_at lits place l fresh at = sign_at lits place (opposite_of l) at (fresh place (opposite_of l) at)

-- no other literal that is not false is that one
pub alive_other : (lits : List Lit) (place : ℕ) (l new : Lit) → IsFresh lits → slice_get lits place ≡ Some (opposite_of l) → (IsFalse lits new → ⊥) → new ≢ l
alive_other lits place l new fresh at alive same = alive (subst (IsFalse lits) (sym same) (false_at lits place l fresh at))

pub rewatched_lacks : (w : Watching) (was : Pair) (new other l : Lit) (x : ℕ) → pair_of w x ≡ Some was → new ≢ l → other ≢ l → (p : Pair) → pair_of (rewatched w (pair_lits new other) x) x ≡ Some p → IsIn l p → ⊥
rewatched_lacks w was new other l x is new_l other_l p e within = by (subst (IsIn l) (sym (same_Some (pair_lits new other) p (sym (pair_rewatched w (pair_lits new other) was x is) ∙ e))) within)
  where
    by : IsIn l (pair_lits new other) → ⊥
    by (inl e) = new_l (sym e)
    by (inr e) = other_l (sym e)

pub entry_kept : (w : Watching) (p : Pair) (l : Lit) (entry x : ℕ) → p.one ≢ l → slice_get (listed_under w l) entry ≡ Some x → slice_get (listed_under (rewatched w p x) l) entry ≡ Some x
entry_kept w p l entry x ne at = ap (λ xs. slice_get xs entry) (listed_other w p.one l x (λ same. ne (sym same))) ∙ at

-- the last literal of a clause is set by it
pub guarded_push : (clauses : List (List Lit)) (h : History) (w : Watching) (c : List Lit) (l : Lit) (id : ℕ) → IsGuarded clauses h w → slice_get clauses id ≡ Some c → IsUnitOpen h.lits c l → IsCoherent (pushed h l (Some id)) → IsGuarded clauses (pushed h l (Some id)) w
guarded_push clauses h w c l id g named u coherent = record {
  explained = explained_push clauses h c l id g.explained named u coherent;
  watching = g.watching;
  fronts = λ k lt.
      let b : slice_index h.starts k < length h.lits = g.explained.bounded k lt in
      let same : take (slice_index h.starts k) (h.lits ++ l ∷ []) ≡ take (slice_index h.starts k) h.lits = take-append-le (slice_index h.starts k) h.lits (l ∷ []) (omega arith) in
      subst (λ a. IsSettled clauses w a a) (sym same) (g.fronts k lt);
}

-- all literals but one are false, and that one is neither false nor true
pub unit_open : (lits c : List Lit) (l : Lit) → Holds c l → ((w : ℕ) (t : Bool) → w ≢ l.var → sign_of c w ≡ Some t → sign_of lits w ≡ Some (not t)) → sign_of lits l.var ≢ Some l.positive → (IsFalse lits l → ⊥) → IsUnitOpen lits c l
unit_open lits c l holds others not_true not_false = record {
  unit = record { holds = holds; others_false = others };
  is_open =
      elim (cases_option (sign_of lits l.var)) [
        | inl none ↦ none
        | inr some ↦
            elim (either_sign some.0 l.positive) [
              | inl same ↦ absurd (not_true (some.1 ∙ ap (λ b. Some b) same))
              | inr other ↦ absurd (not_false (some.1 ∙ ap (λ b. Some b) other))
            ]
      ];
}

pub unit_true : (lits c : List Lit) (l : Lit) → IsUnitOpen lits c l → HasTrue (lits ++ l ∷ []) c
unit_true lits c l u = record { var = l.var; sign = l.positive; holds = u.unit.holds; is_true = sign_push_same lits l u.is_open }

pub broken_is : (lits c : List Lit) (l : Lit) → Holds c l → ((w : ℕ) (t : Bool) → w ≢ l.var → sign_of c w ≡ Some t → sign_of lits w ≡ Some (not t)) → IsFalse lits l → IsFalsified lits c
broken_is lits c l holds others f = λ v s e.
    elim (cases_eq v l.var) [
      | inl same ↦
          let sign : s ≡ l.positive = same_Some s l.positive (sym e ∙ ap (sign_of c) same ∙ holds) in
          ap (sign_of lits) same ∙ f ∙ ap (λ b. Some (not b)) (sym sign)
      | inr ne ↦ others v s ne e
    ]

pub holds_true : (lits c : List Lit) (l : Lit) → Holds c l → sign_of lits l.var ≡ Some l.positive → HasTrue lits c
holds_true lits c l holds e = record { var = l.var; sign = l.positive; holds = holds; is_true = e }

pub removed_count : (w : Watching) (l : Lit) (entry : ℕ) → entry < length (listed_under w l) → length (listed_under (removed w l entry) l) ≡ length (listed_under w l) - 1
removed_count w l entry lt = ap length (removed_same w l entry lt) ∙ length-removed (listed_under w l) entry lt

-- what a literal is that is not false: true or open
not_false : (lits : List Lit) (l : Lit) → (IsFalse lits l → ⊥) → (sign_of lits l.var ≡ Some l.positive) ⊎ (sign_of lits l.var ≡ None)
not_false lits l alive =
    elim (cases_option (sign_of lits l.var)) [
      | inl none ↦ inr none
      | inr some ↦
          elim (either_sign some.0 l.positive) [
            | inl same ↦ inl (some.1 ∙ ap (λ b. Some b) same)
            | inr other ↦ absurd (alive (some.1 ∙ ap (λ b. Some b) other))
          ]
    ]

-- a clause with two literals that are not false is closed
two_awake : (lits c : List Lit) (p : Pair) → IsPairOf c p → (IsFalse lits p.one → ⊥) → (IsFalse lits p.other → ⊥) → IsClosedFor lits c
two_awake lits c p h one other =
    elim (not_false lits p.one one) [
      | inl t ↦ inl (holds_true lits c p.one h.one t)
      | inr one_open ↦
          elim (not_false lits p.other other) [
            | inl t ↦ inl (holds_true lits c p.other h.other t)
            | inr other_open ↦
                inr (record {
                  one = p.one.var;
                  other = p.other.var;
                  differ = h.differ;
                  one_sign = p.one.positive;
                  holds_one = h.one;
                  other_sign = p.other.positive;
                  holds_other = h.other;
                  one_open = one_open;
                  other_open = other_open;
                })
          ]
    ]

-- where all is propagated nothing is left to do
pub settled_closed : (clauses : List (List Lit)) (h : History) (w : Watching) → IsGuarded clauses h w → IsSettled clauses w (take (length h.lits) h.lits) h.lits → IsClosed h.lits clauses
settled_closed clauses h w g s = all_at (IsClosedFor h.lits) clauses (λ id c e. by id c e (s id c e))
  where
    whole : take (length h.lits) h.lits ≡ h.lits
    whole = take_all (length h.lits) h.lits (omega arith)

    by : (id : ℕ) (c : List Lit) → slice_get clauses id ≡ Some c → IsSettledFor (take (length h.lits) h.lits) h.lits c (pair_of w id) → IsClosedFor h.lits c
    by id c e (inl t) = inl t
    by id c e (inr a) =
        two_awake h.lits c a.lits (g.watching.held id c a.lits e a.is) (λ f. a.awake a.lits.one (inl refl) (subst (λ x. IsFalse x a.lits.one) (sym whole) f)) (λ f. a.awake a.lits.other (inr refl) (subst (λ x. IsFalse x a.lits.other) (sym whole) f))

front_kept : (clauses : List (List Lit)) (w : Watching) (lits more : List Lit) (n : ℕ) → n ≤ length lits → IsSettled clauses w (take n lits) (take n lits) → IsSettled clauses w (take n (lits ++ more)) (take n (lits ++ more))
front_kept clauses w lits more n le s = subst (λ a. IsSettled clauses w a a) (sym (take-append-le n lits more le)) s

-- a literal that was decided, where nothing was left to do
pub watched_decide : (clauses : List (List Lit)) (h : History) (w : Watching) (l : Lit) → IsGuarded clauses h w → IsSettled clauses w (take (length h.lits) h.lits) h.lits → IsCoherent (pushed (opened h) l None) → IsWatched clauses (pushed (opened h) l None) w (length h.lits)
watched_decide clauses h w l g s coherent =
    let whole : take (length h.lits) h.lits ≡ h.lits = take_all (length h.lits) h.lits (omega arith) in
    let front : take (length h.lits) (h.lits ++ l ∷ []) ≡ h.lits = take_at h.lits (l ∷ []) (length h.lits) refl in
    let here : IsSettled clauses w h.lits h.lits = subst (λ a. IsSettled clauses w a h.lits) whole s in
    record {
      guarded = record {
        explained = explained_decide clauses h l g.explained (settled_closed clauses h w g s) coherent;
        watching = g.watching;
        fronts = λ k lt.
            elim (level_cases h.starts (length h.lits) k lt) [
              | inl old ↦
                  let a : slice_index (h.starts ++ length h.lits ∷ []) k ≡ slice_index h.starts k = start_old h.starts (length h.lits) k old in
                  let o : slice_index h.starts k < length h.lits = g.explained.bounded k old in
                  subst (λ n. IsSettled clauses w (take n (h.lits ++ l ∷ [])) (take n (h.lits ++ l ∷ []))) (sym a) (front_kept clauses w h.lits (l ∷ []) (slice_index h.starts k) (omega arith) (g.fronts k old))
              | inr new ↦
                  let b : slice_index (h.starts ++ length h.lits ∷ []) k ≡ length h.lits = ap (slice_index (h.starts ++ length h.lits ∷ [])) new ∙ start_new h.starts (length h.lits) in
                  subst (λ n. IsSettled clauses w (take n (h.lits ++ l ∷ [])) (take n (h.lits ++ l ∷ []))) (sym b) (subst (λ a. IsSettled clauses w a a) (sym front) here)
            ];
      };
      within = omega (arith, length_push h.lits l);
      settled = subst (λ a. IsSettled clauses w a (h.lits ++ l ∷ [])) (sym front) (settled_more clauses w h.lits h.lits (l ∷ []) here);
    }

pub opposite_twice : (l : Lit) → opposite_of (opposite_of l) ≡ l
opposite_twice l = lit_same (opposite_of (opposite_of l)) l refl (twice l.positive)
  where
    twice : (b : Bool) → not (not b) ≡ b
    twice true = refl
    twice false = refl

-- a place before the end keeps its literal
pub extends_at : (old new : History) (place : ℕ) (l : Lit) → Extends old new → slice_get old.lits place ≡ Some l → slice_get new.lits place ≡ Some l
extends_at old new place l x e = (slice_get-take (length old.lits) new.lits place l (ap (λ a. slice_get a place) x.front ∙ e)).1
