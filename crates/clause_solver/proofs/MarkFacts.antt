-- Marks of variables: what they count, and the clause that is collected from them.
use Rattle.std.proofs.Common.{◌≡◌, ◌≢◌, ℕ, ◌+◌, ◌-◌, ◌<◌, ◌≤◌, Bool, true, false, not, cond, ◌||◌, List, [], ◌∷◌, ◌++◌, Option, Some, None, is_some, length, get_or, take, drop, refl, sym, ap, ◌∙◌, inl, inr, arith}
use Rattle.std.specs.Prelude.{slice_get, All, option_map}
use Rattle.std.specs.Option.{IsSomeAnd}
use Rattle.std.proofs.Math.ListN.{set}
use Rattle.std.proofs.lemmas.Bool.{cases_eq, cases_lt, cases_order}
use Rattle.std.proofs.lemmas.List.{length-set, length-drop, same_lists, get_or-map, get_or-drop, get_or-set_same, get_or-set_other, get_or_past, get_or_default, drop-set-add, drop-set-lt}
use Rattle.std.proofs.lemmas.List.Elements.{All-push}
use Rattle.std.proofs.lemmas.List.Quantifiers.{all_pairs_push}
use Rattle.std.proofs.lemmas.Option.{slice_get_within, get_or_from_slice_get, slice_get-get_or}
use Rattle.clause_store.specs.declared.lit.Lit.{Lit}
use Rattle.clause_store.specs.Signs.{Ascends, sign_of}
use Rattle.clause_solver.specs.Analysis.{is_marked, marked_signs, flags, trues, marked_from, Covers}
use Rattle.clause_solver.proofs.SignFacts.{cases_option, is_present, sign_present, sign_push_same, sign_push_other, front_more, slice_get-front}
use Rattle.clause_solver.proofs.StandingFacts.{ascends_fresh, ascends_sign}
use Rattle.clause_solver.proofs.PropagationFacts.{held_range}
use Rattle.clause_solver.proofs.CountFacts.{IsFresh, flag_at, length-flags, trues_set_true, trues_set_false}

pub some_and : {X : Type 0} (o : Option X) (P : X → Type 0) → IsSomeAnd o P → (x : X) × (o ≡ Some x) × P x
some_and None P h = absurd h
some_and (Some x) P h = (x, refl, h)

pub fresh_apart : (lits : List Lit) → IsFresh lits → (p q : ℕ) (l m : Lit) → slice_get lits p ≡ Some l → slice_get lits q ≡ Some m → l.var ≡ m.var → p ≡ q
fresh_apart lits fresh p q l m el em same =
    elim (cases_order p q) [
      | inl eq ↦ eq
      | inr (inl lt) ↦
          let there : is_some (sign_of (take q lits) l.var) ≡ true = sign_present (take q lits) p l (slice_get-front q lits p l lt el) in
          let none : sign_of (take q lits) l.var ≡ None = ap (sign_of (take q lits)) same ∙ fresh q m em in
          absurd (cc)
      | inr (inr gt) ↦
          let there : is_some (sign_of (take p lits) m.var) ≡ true = sign_present (take p lits) q m (slice_get-front p lits q m gt em) in
          let none : sign_of (take p lits) m.var ≡ None = ap (sign_of (take p lits)) (sym same) ∙ fresh p l el in
          absurd (cc)
    ]

pub flags_set : (marks : List Bool) (lits : List Lit) (p : ℕ) (l : Lit) (b : Bool) → IsFresh lits → slice_get lits p ≡ Some l → l.var < length marks → flags (set marks l.var b) lits ≡ set (flags marks lits) p b
flags_set marks lits p l b fresh e lt =
    same_lists _ _ (length-flags (set marks l.var b) lits ∙ sym (length-flags marks lits) ∙ sym (length-set (flags marks lits) p b)) (λ k d k<n.
    let n : length (flags (set marks l.var b) lits) ≡ length lits = length-flags (set marks l.var b) lits in
    let m : length (flags marks lits) ≡ length lits = length-flags marks lits in
    let here : slice_get lits k ≡ Some (get_or lits k l) = slice_get-get_or lits k l (omega arith) in
    let left : get_or (flags (set marks l.var b) lits) k d ≡ is_marked (set marks l.var b) (get_or lits k l).var = get_or-map (λ (x : Lit). is_marked (set marks l.var b) x.var) lits k l d (omega arith) in
    elim (cases_eq k p) [
      | inl eq ↦
          let at : get_or lits k l ≡ l = get_or_from_slice_get lits k l l (ap (slice_get lits) eq ∙ e) in
          let a : is_marked (set marks l.var b) (get_or lits k l).var ≡ b = ap (λ (x : Lit). is_marked (set marks l.var b) x.var) at ∙ get_or-set_same marks l.var b false lt in
          let c : get_or (set (flags marks lits) p b) p d ≡ b = get_or-set_same (flags marks lits) p b d (omega arith) in
          let c' : get_or (set (flags marks lits) p b) k d ≡ b = ap (λ x. get_or (set (flags marks lits) p b) x d) eq ∙ c in
          left ∙ a ∙ sym c'
      | inr ne ↦
          let other : (get_or lits k l).var ≢ l.var = λ same. ne (fresh_apart lits fresh k p _ l here e same) in
          let a : is_marked (set marks l.var b) (get_or lits k l).var ≡ is_marked marks (get_or lits k l).var = get_or-set_other marks l.var (get_or lits k l).var b false other in
          let c : get_or (set (flags marks lits) p b) k d ≡ get_or (flags marks lits) k d = get_or-set_other (flags marks lits) p k b d ne in
          let f : get_or (flags marks lits) k d ≡ is_marked marks (get_or lits k l).var = get_or-map (λ (x : Lit). is_marked marks x.var) lits k l d (omega arith) in
          left ∙ a ∙ sym f ∙ sym c
    ])

drop_set_from : (xs : List Bool) (start p : ℕ) (b : Bool) → start ≤ p → drop start (set xs p b) ≡ set (drop start xs) (p - start) b
drop_set_from xs start p b le =
    let e : p ≡ start + (p - start) = omega arith in
    ap (λ q. drop start (set xs q b)) e ∙ drop-set-add start xs (p - start) b

pub count_more : (marks : List Bool) (lits : List Lit) (p start : ℕ) (l : Lit) → IsFresh lits → slice_get lits p ≡ Some l → l.var < length marks → is_marked marks l.var ≡ false → start ≤ p → marked_from (set marks l.var true) lits start ≡ marked_from marks lits start + 1
count_more marks lits p start l fresh e lt unmarked le =
    let within : p < length lits = slice_get_within lits p l e in
    let at : get_or (drop start (flags marks lits)) (p - start) false ≡ false = get_or-drop start (flags marks lits) (p - start) false ∙ ap (λ q. get_or (flags marks lits) q false) (let s : start + (p - start) ≡ p = omega arith in s) ∙ flag_at marks lits p l e ∙ unmarked in
    ap (λ xs. trues (drop start xs)) (flags_set marks lits p l true fresh e lt) ∙ ap trues (drop_set_from (flags marks lits) start p true le) ∙ trues_set_true (drop start (flags marks lits)) (p - start) (omega (arith, length-drop start (flags marks lits), length-flags marks lits)) at

pub count_less : (marks : List Bool) (lits : List Lit) (p start : ℕ) (l : Lit) → IsFresh lits → slice_get lits p ≡ Some l → l.var < length marks → is_marked marks l.var ≡ true → start ≤ p → marked_from (set marks l.var false) lits start + 1 ≡ marked_from marks lits start
count_less marks lits p start l fresh e lt marked le =
    let within : p < length lits = slice_get_within lits p l e in
    let at : get_or (drop start (flags marks lits)) (p - start) false ≡ true = get_or-drop start (flags marks lits) (p - start) false ∙ ap (λ q. get_or (flags marks lits) q false) (let s : start + (p - start) ≡ p = omega arith in s) ∙ flag_at marks lits p l e ∙ marked in
    let set_is : marked_from (set marks l.var false) lits start ≡ trues (set (drop start (flags marks lits)) (p - start) false) = ap (λ xs. trues (drop start xs)) (flags_set marks lits p l false fresh e lt) ∙ ap trues (drop_set_from (flags marks lits) start p false le) in
    let less : trues (set (drop start (flags marks lits)) (p - start) false) + 1 ≡ marked_from marks lits start = trues_set_false (drop start (flags marks lits)) (p - start) (omega (arith, length-drop start (flags marks lits), length-flags marks lits)) at in
    omega arith

pub count_same : (marks : List Bool) (lits : List Lit) (p start : ℕ) (l : Lit) → IsFresh lits → slice_get lits p ≡ Some l → l.var < length marks → p < start → marked_from (set marks l.var true) lits start ≡ marked_from marks lits start
count_same marks lits p start l fresh e lt less =
    ap (λ xs. trues (drop start xs)) (flags_set marks lits p l true fresh e lt) ∙ ap trues (drop-set-lt start (flags marks lits) p true less)

-- a literal of a clause, at a place
pub or_some : (a : Bool) (o : Option Bool) → is_some o ≡ true → (a || is_some o) ≡ true
or_some true o h = refl
or_some false o h = h

pub marked_more : (first before after : List Bool) (c : List Lit) (i : ℕ) (l : Lit) → Ascends c → slice_get c i ≡ Some l → ((v : ℕ) → is_marked before v ≡ (is_marked first v || is_some (sign_of (take i c) v))) → is_marked after l.var ≡ true → ((v : ℕ) → (v ≡ l.var → ⊥) → is_marked after v ≡ is_marked before v) → (v : ℕ) → is_marked after v ≡ (is_marked first v || is_some (sign_of (take (i + 1) c) v))
marked_more first before after c i l h e old now others v =
    elim (cases_eq v l.var) [
      | inl eq ↦
          let s : sign_of (take (i + 1) c) l.var ≡ Some l.positive = ap (λ x. sign_of x l.var) (front_more c i l e) ∙ sign_push_same (take i c) l (ascends_fresh c h i l e) in
          let t : is_some (sign_of (take (i + 1) c) v) ≡ true = is_present _ l.positive (ap (sign_of (take (i + 1) c)) eq ∙ s) in
          ap (is_marked after) eq ∙ now ∙ sym (or_some (is_marked first v) _ t)
      | inr ne ↦
          let s : sign_of (take (i + 1) c) v ≡ sign_of (take i c) v = ap (λ x. sign_of x v) (front_more c i l e) ∙ sign_push_other (take i c) l v (λ same. ne (sym same)) in
          others v ne ∙ old v ∙ ap (λ o. is_marked first v || is_some o) (sym s)
    ]

pub covered_at : (lits c : List Lit) (i : ℕ) (l : Lit) → Ascends c → slice_get c i ≡ Some l → Covers lits c → is_some (sign_of lits l.var) ≡ true
covered_at lits c i l h e covers = covers l.var l.positive (ascends_sign c h i l e)

-- a clause collected so far, from the marks of the variables below a number
pub record IsCollected (lits : List Lit) (first : List Bool) (n : ℕ) (clause : List Lit) (marks : List Bool) : Type 0 where
  pub ascends : Ascends clause
  pub below : All (λ l. l.var < n) clause
  pub signs : (v : ℕ) → v < n → sign_of clause v ≡ marked_signs lits first v
  pub cleared : (v : ℕ) → v < n → is_marked marks v ≡ false
  pub kept : (v : ℕ) → n ≤ v → is_marked marks v ≡ is_marked first v
  pub len : length marks ≡ length first

pub collected_none : (lits : List Lit) (first : List Bool) → IsCollected lits first 0 [] first
collected_none lits first = record {
  ascends = λ i j d a b. absurd (omega arith);
  below = λ k d lt. absurd (omega arith);
  signs = λ v lt. absurd (omega arith);
  cleared = λ v lt. absurd (omega arith);
  kept = λ v le. refl;
  len = refl;
}

above_none : (n : ℕ) (c : List Lit) (v : ℕ) → Ascends c → All (λ l. l.var < n) c → n ≤ v → sign_of c v ≡ None
above_none n c v h below le =
    elim (cases_option (sign_of c v)) [
      | inl none ↦ none
      | inr some ↦ let lt : v < n = held_range n c v some.0 (record { ascends = h; below = below }) some.1 in absurd (omega arith)
    ]

-- the variable of the number has no mark, or no sign
pub collected_same : (lits : List Lit) (first : List Bool) (n : ℕ) (clause : List Lit) (marks after : List Bool) → IsCollected lits first n clause marks → marked_signs lits first n ≡ None → is_marked after n ≡ false → ((v : ℕ) → v ≢ n → is_marked after v ≡ is_marked marks v) → length after ≡ length marks → IsCollected lits first (n + 1) clause after
collected_same lits first n clause marks after x none gone others len = record {
  ascends = x.ascends;
  below = λ k d lt. let h : (get_or clause k d).var < n = x.below k d lt in omega arith;
  signs = λ v lt.
      elim (cases_eq v n) [
        | inl eq ↦ ap (sign_of clause) eq ∙ above_none n clause n x.ascends x.below (omega arith) ∙ sym none ∙ ap (marked_signs lits first) (sym eq)
        | inr ne ↦ x.signs v (omega arith)
      ];
  cleared = λ v lt.
      elim (cases_eq v n) [
        | inl eq ↦ ap (is_marked after) eq ∙ gone
        | inr ne ↦ others v ne ∙ x.cleared v (omega arith)
      ];
  kept = λ v le. others v (λ same. omega arith) ∙ x.kept v (omega arith);
  len = len ∙ x.len;
}

pub collected_push : (lits : List Lit) (first : List Bool) (clause : List Lit) (marks after : List Bool) (l : Lit) → IsCollected lits first l.var clause marks → marked_signs lits first l.var ≡ Some l.positive → is_marked after l.var ≡ false → ((v : ℕ) → v ≢ l.var → is_marked after v ≡ is_marked marks v) → length after ≡ length marks → IsCollected lits first (l.var + 1) (clause ++ l ∷ []) after
collected_push lits first clause marks after l x some gone others len = record {
  ascends = all_pairs_push (λ a b. a.var < b.var) clause l x.ascends (λ k d lt. x.below k d lt);
  below = All-push (λ m. m.var < l.var + 1) clause l (λ k d lt. let h : (get_or clause k d).var < l.var = x.below k d lt in omega arith) (omega arith);
  signs = λ v lt.
      elim (cases_eq v l.var) [
        | inl eq ↦ ap (sign_of (clause ++ l ∷ [])) eq ∙ sign_push_same clause l (above_none l.var clause l.var x.ascends x.below (omega arith)) ∙ sym some ∙ ap (marked_signs lits first) (sym eq)
        | inr ne ↦ sign_push_other clause l v (λ same. ne (sym same)) ∙ x.signs v (omega arith)
      ];
  cleared = λ v lt.
      elim (cases_eq v l.var) [
        | inl eq ↦ ap (is_marked after) eq ∙ gone
        | inr ne ↦ others v ne ∙ x.cleared v (omega arith)
      ];
  kept = λ v le. others v (λ same. omega arith) ∙ x.kept v (omega arith);
  len = len ∙ x.len;
}

pub collected_signs : (lits : List Lit) (first : List Bool) (n : ℕ) (clause : List Lit) (marks : List Bool) → IsCollected lits first n clause marks → length first ≤ n → (v : ℕ) → sign_of clause v ≡ marked_signs lits first v
collected_signs lits first n clause marks x le v =
    elim (cases_lt v n) [
      | inl lt ↦ x.signs v lt
      | inr ge ↦
          let past : is_marked first v ≡ false = get_or_past first v false (omega arith) in
          let none : marked_signs lits first v ≡ None = rw past refl in
          above_none n clause v x.ascends x.below ge ∙ sym none
    ]

pub collected_clear : (lits : List Lit) (first : List Bool) (n : ℕ) (clause : List Lit) (marks : List Bool) → IsCollected lits first n clause marks → length first ≤ n → All (λ b. b ≡ false) marks
collected_clear lits first n clause marks x le = λ k d lt. get_or_default marks k d false lt ∙ x.cleared k (let m : length marks ≡ length first = x.len in omega arith)

abbrev pub false_lit : ℕ → Bool → Lit
false_lit v s = record { var = v; positive = not s }

-- the variable of the number: without a mark, with one but unset, and with one and set
pub collected_skip : (lits : List Lit) (first : List Bool) (n : ℕ) (clause : List Lit) (marks : List Bool) → IsCollected lits first n clause marks → is_marked marks n ≡ false → IsCollected lits first (n + 1) clause marks
collected_skip lits first n clause marks x unmarked =
    let was : is_marked first n ≡ false = sym (x.kept n (omega arith)) ∙ unmarked in
    let none : marked_signs lits first n ≡ None = ap (λ b. cond b (option_map not (sign_of lits n)) None) was in
    collected_same lits first n clause marks marks x none unmarked (λ v ne. refl) refl

pub collected_unset : (lits : List Lit) (first : List Bool) (n : ℕ) (clause : List Lit) (marks : List Bool) → IsCollected lits first n clause marks → n < length marks → sign_of lits n ≡ None → IsCollected lits first (n + 1) clause (set marks n false)
collected_unset lits first n clause marks x lt unset =
    let none : marked_signs lits first n ≡ None = either (is_marked first n) (sign_of lits n) unset in
    collected_same lits first n clause marks (set marks n false) x none (get_or-set_same marks n false false lt) (λ v ne. get_or-set_other marks n v false false ne) (length-set marks n false)
  where
    either : (b : Bool) (o : Option Bool) → o ≡ None → cond b (option_map not o) None ≡ None
    either true o e = ap (option_map not) e
    either false o e = refl

pub collected_cut : (lits : List Lit) (first : List Bool) (n : ℕ) (clause : List Lit) (marks : List Bool) (s : Bool) → IsCollected lits first n clause marks → n < length marks → is_marked marks n ≡ true → sign_of lits n ≡ Some s → IsCollected lits first (n + 1) (clause ++ false_lit n s ∷ []) (set marks n false)
collected_cut lits first n clause marks s x lt marked is =
    let was : is_marked first n ≡ true = sym (x.kept n (omega arith)) ∙ marked in
    let some : marked_signs lits first n ≡ Some (not s) = ap (λ b. cond b (option_map not (sign_of lits n)) None) was ∙ ap (option_map not) is in
    collected_push lits first clause marks (set marks n false) (false_lit n s) x some (get_or-set_same marks n false false lt) (λ v ne. get_or-set_other marks n v false false ne) (length-set marks n false)
