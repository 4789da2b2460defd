-- Over n variables there are fewer than 3 to the power n valid and new lines that are not empty: what each says of
-- the variables is a number below that, and no two of them say the same.
use Rattle.std.proofs.Common.{◌≡◌, ◌≢◌, ℕ, suc, zero, ◌+◌, ◌*◌, ◌<◌, ◌≤◌, ◌^◌, Bool, true, false, not, eqb, List, [], ◌∷◌, ◌++◌, Option, Some, None, length, get_or, take, map, refl, sym, ap, subst, ◌∙◌, ◌⊎◌, inl, inr, arith}
use Rattle.std.specs.Prelude.{slice_get, All, option_map}
use Rattle.std.specs.List.{list_any, AllPairs}
use Rattle.std.specs.Option.{option_or}
use Rattle.std.proofs.lemmas.Grind.{common_steps}
use Rattle.std.proofs.lemmas.Bool.{cases_eq, cases_lt}
use Rattle.std.proofs.lemmas.Bool.Decides.{Decides-eqb}
use Rattle.std.proofs.lemmas.List.{length-map, get_or-map}
use Rattle.std.proofs.lemmas.Option.{same_Some, slice_get-get_or, slice_get-map}
use Rattle.std.proofs.lemmas.Map.Steps.{length-le_from_distinct_below}
use Rattle.std.proofs.lemmas.Map.Made.{IsDistinct-from_AllPairs}
use Rattle.clause_store.specs.declared.lit.Lit.{Lit}
use Rattle.clause_store.specs.declared.line.Line.{Line}
use Rattle.clause_store.specs.declared.line.Cut.{Cut}
use Rattle.clause_store.specs.Signs.{Ascends, Signs, sign_of}
use Rattle.clause_store.specs.Assignments.{IsClosedFor}
use Rattle.clause_store.specs.Resolvents.{IsResolvent, LeadsTo}
use Rattle.clause_store.specs.Derivations.{earlier, IsValidLine, IsNewUnder, IsNew, AllValid}
use Rattle.clause_solver.specs.Propagation.{IsOver}
use Rattle.clause_solver.specs.Outcomes.{IsProgress}
use Rattle.clause_solver.specs.Laws.{FewLines, NoneAfterEmpty}
use Rattle.clause_solver.proofs.SignFacts.{cases_option, slice_get-left, slice_get-front, slice_get-take}
use Rattle.clause_solver.proofs.PropagationFacts.{at_all, held_range}
use Rattle.clause_solver.proofs.AnalysisFacts.{empty_from_signs}
use Rattle.clause_solver.proofs.OutcomeFacts.{clause_of}

-- what is said of one variable, as a digit; nothing is 0
digit : Option Bool → ℕ
digit None = 0
digit (Some false) = 1
digit (Some true) = 2

digit_less : (o : Option Bool) → digit o < 3
unfolding digit
digit_less None = omega arith
digit_less (Some false) = omega arith
digit_less (Some true) = omega arith

digit_tells : (o p : Option Bool) → digit o ≡ digit p → o ≡ p
unfolding digit
digit_tells None None e = refl
digit_tells None (Some false) e = absurd (omega arith)
digit_tells None (Some true) e = absurd (omega arith)
digit_tells (Some false) None e = absurd (omega arith)
digit_tells (Some false) (Some false) e = refl
digit_tells (Some false) (Some true) e = absurd (omega arith)
digit_tells (Some true) None e = absurd (omega arith)
digit_tells (Some true) (Some false) e = absurd (omega arith)
digit_tells (Some true) (Some true) e = refl

-- what is said of the variables below a number, as one number to the base 3
abbrev code : Signs → ℕ → ℕ
code f zero = 0
code f (suc n) = digit (f n) + 3 * code f n

code_less : (f : Signs) (n : ℕ) → code f n < 3 ^ n
code_less f zero = omega arith
code_less f (suc n) =
    let h : code f n < 3 ^ n = code_less f n in
    let d : digit (f n) < 3 = digit_less (f n) in
    let p : 3 ^ suc n ≡ 3 * 3 ^ n = omega arith in
    omega arith

code_tells : (f g : Signs) (n : ℕ) → code f n ≡ code g n → (v : ℕ) → v < n → f v ≡ g v
code_tells f g zero e v lt = absurd (omega arith)
code_tells f g (suc n) e v lt =
    let a : digit (f n) < 3 = digit_less (f n) in
    let b : digit (g n) < 3 = digit_less (g n) in
    let same : digit (f n) + 3 * code f n ≡ digit (g n) + 3 * code g n = e in
    let d : digit (f n) ≡ digit (g n) = omega arith in
    let r : code f n ≡ code g n = omega arith in
    elim (cases_eq v n) [
      | inl eq ↦ ap f eq ∙ digit_tells (f n) (g n) d ∙ ap g (sym eq)
      | inr ne ↦ code_tells f g n r v (omega arith)
    ]

zero_code : (n : ℕ) → code (λ x. None) n ≡ 0
unfolding digit
zero_code zero = refl
zero_code (suc n) = let h : code (λ x. None) n ≡ 0 = zero_code n in omega arith

-- variables of all clauses are below the number
abbrev Within : ℕ → Signs → Type 0
Within n f = (v : ℕ) (s : Bool) → f v ≡ Some s → v < n

within_same : (n : ℕ) (f g : Signs) → ((v : ℕ) → f v ≡ g v) → Within n f → Within n g
within_same n f g same h v s e = h v s (same v ∙ e)

or_from : (o p : Option Bool) (s : Bool) → option_or o p ≡ Some s → (o ≡ Some s) ⊎ (p ≡ Some s)
or_from None p s e = inr e
or_from (Some x) p s e = inl e

within_resolvent : (n v : ℕ) (c d r : Signs) → IsResolvent v c d r → Within n c → Within n d → Within n r
within_resolvent n v c d r x hc hd w s e =
    elim (cases_eq w v) [
      | inl eq ↦ let gone : r w ≡ None = ap r eq ∙ x.gone in absurd (cc)
      | inr ne ↦
          elim (or_from (c w) (d w) s (sym (x.rest w ne) ∙ e)) [
            | inl a ↦ hc w s a
            | inr b ↦ hd w s b
          ]
    ]

within_chain : (n : ℕ) (clauses : List (List Lit)) → ((k : ℕ) (c : List Lit) → slice_get clauses k ≡ Some c → Within n (sign_of c)) → (f : Signs) (cuts : List Cut) (r : Signs) → LeadsTo clauses f cuts r → Within n f → Within n r
within_chain n clauses all f [] r leads h = within_same n f r leads h
within_chain n clauses all f (k ∷ cuts) r leads h =
    within_chain n clauses all leads.1 cuts r leads.4 (within_resolvent n k.var f (sign_of leads.0) leads.1 leads.3 h (all k.id leads.0 leads.2))

-- a clause by its number: one of the store, or that of a line
named_cases : (store : List (List Lit)) (lines : List Line) (id : ℕ) (c : List Lit) → slice_get (store ++ map clause_of lines) id ≡ Some c → (slice_get store id ≡ Some c) ⊎ ((k : ℕ) × (line : Line) × (slice_get lines k ≡ Some line) × (line.clause ≡ c))
named_cases [] [] id c e = absurd (cc)
named_cases [] (l ∷ lines) zero c e = inr (0, l, refl, same_Some l.clause c e)
named_cases [] (l ∷ lines) (suc id) c e =
    elim (named_cases [] lines id c e) [
      | inl none ↦ absurd (cc)
      | inr h ↦ inr (suc h.0, h.1, h.2, h.3)
    ]
named_cases (x ∷ store) lines zero c e = inl e
named_cases (x ∷ store) lines (suc id) c e =
    elim (named_cases store lines id c e) [
      | inl h ↦ inl h
      | inr h ↦ inr h
    ]

-- all lines below a number keep to the variables
within_lines : (store : List (List Lit)) (lines : List Line) (n : ℕ) → ((k : ℕ) (c : List Lit) → slice_get store k ≡ Some c → Within n (sign_of c)) → AllValid store lines → (m k : ℕ) (line : Line) → k < m → slice_get lines k ≡ Some line → Within n (sign_of line.clause)
within_lines store lines n hs valid zero k line lt e = absurd (omega arith)
within_lines store lines n hs valid (suc m) k line lt e =
    let x : IsValidLine (earlier store lines k) line = valid k line e in
    let all : (id : ℕ) (c : List Lit) → slice_get (earlier store lines k) id ≡ Some c → Within n (sign_of c) =
    λ id c named. from (λ j l less at. within_lines store lines n hs valid m j l less at) id c named (named_cases store (take k lines) id c named) in
    within_chain n (earlier store lines k) all (sign_of x.start) line.cuts (sign_of line.clause) x.leads (all line.first x.start x.first)
  where
    from : ((j : ℕ) (l : Line) → j < m → slice_get lines j ≡ Some l → Within n (sign_of l.clause)) → (id : ℕ) (c : List Lit) → slice_get (earlier store lines k) id ≡ Some c → (slice_get store id ≡ Some c) ⊎ ((j : ℕ) × (l : Line) × (slice_get (take k lines) j ≡ Some l) × (l.clause ≡ c)) → Within n (sign_of c)
    from rest id c named (inl old) = hs id c old
    from rest id c named (inr h) =
        let old : (h.0 < k) × (slice_get lines h.0 ≡ Some h.1) = slice_get-take k lines h.0 h.1 h.2 in
        subst (λ x. Within n (sign_of x)) h.3 (rest h.0 h.1 (let a : h.0 < k = old.0 in omega arith) old.1)

-- a clause that is new says something else than each earlier one
new_differs : (clauses : List (List Lit)) (c d : List Lit) (id : ℕ) → IsNewUnder clauses c → slice_get clauses id ≡ Some d → ((v : ℕ) → sign_of d v ≡ sign_of c v) → ⊥
new_differs clauses c d id x named same = by (at_all (IsClosedFor x.assignment) clauses x.closed id d named)
  where
    not_same : (b : Bool) → b ≡ not b → ⊥
    not_same true e = absurd (cc)
    not_same false e = absurd (cc)

    by : IsClosedFor x.assignment d → ⊥
    by (inl t) =
        elim (cases_eq t.var x.var) [
          | inl eq ↦ let o : sign_of x.assignment t.var ≡ None = ap (sign_of x.assignment) eq ∙ x.is_open in let s : sign_of x.assignment t.var ≡ Some t.sign = t.is_true in absurd (cc)
          | inr ne ↦
              let f : sign_of x.assignment t.var ≡ Some (not t.sign) = x.unit.others_false t.var t.sign ne (sym (same t.var) ∙ t.holds) in
              not_same t.sign (same_Some _ _ (sym t.is_true ∙ f))
        ]
    by (inr t) =
        elim (cases_eq t.one x.var) [
          | inl eq ↦
              let ne : t.other ≢ x.var = λ e. t.differ (eq ∙ sym e) in
              let f : sign_of x.assignment t.other ≡ Some (not t.other_sign) = x.unit.others_false t.other t.other_sign ne (sym (same t.other) ∙ t.holds_other) in
              let o : sign_of x.assignment t.other ≡ None = t.other_open in
              absurd (cc)
          | inr ne ↦
              let f : sign_of x.assignment t.one ≡ Some (not t.one_sign) = x.unit.others_false t.one t.one_sign ne (sym (same t.one) ∙ t.holds_one) in
              let o : sign_of x.assignment t.one ≡ None = t.one_open in
              absurd (cc)
        ]

filled_new : (clauses : List (List Lit)) (c : List Lit) → c ≢ [] → IsNew clauses c → IsNewUnder clauses c
filled_new clauses [] ne h = absurd (ne refl)
filled_new clauses (l ∷ c) ne h = h

-- some number names the clause of a line
line_named : (store : List (List Lit)) (lines : List Line) (k : ℕ) (line : Line) → slice_get lines k ≡ Some line → (id : ℕ) × (slice_get (store ++ map clause_of lines) id ≡ Some line.clause)
line_named [] lines k line e = (k, slice_get-map clause_of lines k ∙ ap (option_map clause_of) e)
line_named (x ∷ store) lines k line e =
    let rest : (id : ℕ) × (slice_get (store ++ map clause_of lines) id ≡ Some line.clause) = line_named store lines k line e in
    (suc rest.0, rest.1)

any_less : (xs : List ℕ) (m : ℕ) → ((k : ℕ) (d : ℕ) → k < length xs → get_or xs k d < m) → (q : ℕ) → list_any (eqb q) xs ≡ true → q < m
any_less [] m h q e = absurd (cc)
any_less (x ∷ xs) m h q e =
    elim (cases_eq q x) [
      | inl eq ↦ let a : x < m = h 0 0 (omega arith) in omega arith
      | inr ne ↦
          let t : eqb q x ≡ false = grind (arith, common_steps) in
          any_less xs m (λ k d lt. h (suc k) d (omega arith)) q (rw t at e)
    ]

abbrev code_of : ℕ → Line → ℕ
code_of n line = code (sign_of line.clause) n

-- two clauses over the variables with one number say the same of every variable
same_signs : (n : ℕ) (f g : Signs) → Within n f → Within n g → code f n ≡ code g n → (v : ℕ) → f v ≡ g v
same_signs n f g hf hg e v =
    elim (cases_lt v n) [
      | inl lt ↦ code_tells f g n e v lt
      | inr ge ↦ none_past n f v hf ge ∙ sym (none_past n g v hg ge)
    ]
  where
    none_past : (n : ℕ) (f : Signs) (v : ℕ) → Within n f → n ≤ v → f v ≡ None
    none_past n f v h ge =
        elim (cases_option (f v)) [
          | inl none ↦ none
          | inr some ↦ let lt : v < n = h v some.0 some.1 in absurd (omega arith)
        ]

store_within : (store : List (List Lit)) (n : ℕ) → All Ascends store → All (IsOver n) store → (k : ℕ) (c : List Lit) → slice_get store k ≡ Some c → Within n (sign_of c)
store_within store n ascends over k c e = λ v s h. held_range n c v s (record { ascends = at_all Ascends store ascends k c e; below = at_all (IsOver n) store over k c e }) h

lines_apart : (store : List (List Lit)) (lines : List Line) (n : ℕ) → All Ascends store → All (IsOver n) store → IsProgress store lines → AllPairs (λ x y. x ≢ y) (0 ∷ map (code_of n) lines)
lines_apart store lines n ascends over p i zero d i<j j<n = absurd (omega arith)
lines_apart store lines n ascends over p zero (suc j) d i<j j<n = λ same.
    let some : Line = record { clause = []; first = 0; cuts = [] } in
    let lt : j < length lines = omega (arith, length-map lines (code_of n)) in
    let line : slice_get lines j ≡ Some (get_or lines j some) = slice_get-get_or lines j some lt in
    let is : get_or (map (code_of n) lines) j d ≡ code_of n (get_or lines j some) = get_or-map (code_of n) lines j some d lt in
    let none_code : code (λ x. None) n ≡ 0 = zero_code n in
    let h : Within n (sign_of (get_or lines j some).clause) = within_lines store lines n (store_within store n ascends over) p.valid (suc j) j (get_or lines j some) (omega arith) line in
    let empty : Within n (λ x. None) = λ v s e. absurd (cc) in
    p.filled j some lt (empty_from_signs (get_or lines j some).clause (same_signs n (sign_of (get_or lines j some).clause) (λ x. None) h empty (sym is ∙ sym same ∙ sym none_code)))
lines_apart store lines n ascends over p (suc i) (suc j) d i<j j<n = λ same.
    let some : Line = record { clause = []; first = 0; cuts = [] } in
    let ltj : j < length lines = omega (arith, length-map lines (code_of n)) in
    let lti : i < length lines = omega arith in
    let li : slice_get lines i ≡ Some (get_or lines i some) = slice_get-get_or lines i some lti in
    let lj : slice_get lines j ≡ Some (get_or lines j some) = slice_get-get_or lines j some ltj in
    let ci : get_or (map (code_of n) lines) i d ≡ code_of n (get_or lines i some) = get_or-map (code_of n) lines i some d lti in
    let cj : get_or (map (code_of n) lines) j d ≡ code_of n (get_or lines j some) = get_or-map (code_of n) lines j some d ltj in
    let hi : Within n (sign_of (get_or lines i some).clause) = within_lines store lines n (store_within store n ascends over) p.valid (suc i) i (get_or lines i some) (omega arith) li in
    let hj : Within n (sign_of (get_or lines j some).clause) = within_lines store lines n (store_within store n ascends over) p.valid (suc j) j (get_or lines j some) (omega arith) lj in
    let signs : (v : ℕ) → sign_of (get_or lines i some).clause v ≡ sign_of (get_or lines j some).clause v = same_signs n _ _ hi hj (sym ci ∙ same ∙ cj) in
    let new : IsNewUnder (earlier store lines j) (get_or lines j some).clause = filled_new (earlier store lines j) (get_or lines j some).clause (p.filled j some ltj) (p.fresh j (get_or lines j some) lj) in
    let named : (id : ℕ) × (slice_get (earlier store lines j) id ≡ Some (get_or lines i some).clause) = line_named store (take j lines) i (get_or lines i some) (slice_get-front j lines i (get_or lines i some) (omega arith) li) in
    new_differs (earlier store lines j) (get_or lines j some).clause (get_or lines i some).clause named.0 new named.1 signs

codes_less : (n : ℕ) (lines : List Line) (k : ℕ) (d : ℕ) → k < length (0 ∷ map (code_of n) lines) → get_or (0 ∷ map (code_of n) lines) k d < 3 ^ n
codes_less n lines zero d lt = let h : code (λ x. None) n < 3 ^ n = code_less (λ x. None) n in omega arith
codes_less n lines (suc k) d lt =
    let some : Line = record { clause = []; first = 0; cuts = [] } in
    let in_lines : k < length lines = omega (arith, length-map lines (code_of n)) in
    let is : get_or (map (code_of n) lines) k d ≡ code_of n (get_or lines k some) = get_or-map (code_of n) lines k some d in_lines in
    let h : code_of n (get_or lines k some) < 3 ^ n = code_less (sign_of (get_or lines k some).clause) n in
    omega arith

pub few_lines : FewLines
few_lines store lines n ascends over p =
    let le : length (0 ∷ map (code_of n) lines) ≤ 3 ^ n = length-le_from_distinct_below (0 ∷ map (code_of n) lines) (3 ^ n) (IsDistinct-from_AllPairs Decides-eqb _ (lines_apart store lines n ascends over p)) (any_less (0 ∷ map (code_of n) lines) (3 ^ n) (codes_less n lines)) in
    omega (arith, length-map lines (code_of n))

pub none_after_empty : NoneAfterEmpty
none_after_empty store [] has p = refl
none_after_empty store (line ∷ lines) has p =
    let some : List Lit = [] in
    let new : IsNewUnder (store ++ []) line.clause = filled_new (store ++ []) line.clause (p.filled 0 line (omega arith)) (p.fresh 0 line refl) in
    let named : slice_get store has.0 ≡ Some [] = slice_get-get_or store has.0 some has.1 ∙ ap (λ c. Some c) has.2 in
    let there : slice_get (store ++ []) has.0 ≡ Some [] = slice_get-left store [] has.0 [] named in
    absurd (not_closed new.assignment (at_all (IsClosedFor new.assignment) (store ++ []) new.closed has.0 [] there))
  where
    not_closed : (a : List Lit) → IsClosedFor a [] → ⊥
    not_closed a (inl t) = let h : None ≡ Some t.sign = t.holds in cc
    not_closed a (inr t) = let h : None ≡ Some t.one_sign = t.holds_one in cc
