-- Lines of derivations: which variables they have, when they are valid, and what comes after one more.
use Rattle.std.proofs.Common.{◌≡◌, ◌≢◌, ◌↔◌, ℕ, ◌+◌, ◌-◌, ◌<◌, ◌≤◌, Bool, true, false, eqb, List, [], ◌∷◌, ◌++◌, length, get_or, take, map, Option, Some, None, MatchBool, slice_get, refl, sym, ◌∙◌, ap, subst, inl, inr, arith}
use Rattle.std.specs.List.{All, Contains}
use Rattle.std.proofs.Math.Path.{fun_ext}
use Rattle.std.proofs.lemmas.List.{get_or_past, take_more, map-append, append-nil, append_assoc}
use Rattle.std.proofs.lemmas.List.Elements.{All-append, Contains-append_right}
use Rattle.std.proofs.lemmas.Option.{slice_get-get_or, get_or_from_slice_get, slice_get_within}
use Rattle.std.proofs.lemmas.Bool.{cases_eq, eqb-true}
use Rattle.clause_store.specs.declared.lit.Lit.{Lit}
use Rattle.clause_store.specs.declared.line.Line.{Line}
use Rattle.clause_store.specs.Signs.{Ascends, Signs, sign_of}
use Rattle.clause_store.specs.Resolvents.{LeadsTo}
use Rattle.clause_store.specs.Derivations.{clauses_of, earlier, IsValidLine}
use Rattle.derivation_check.specs.Marked.{signs_in, IsClear, IsWithin}
use Rattle.derivation_check.proofs.Clauses.{sign_absent}

pub all_at : {X : Type 0} (P : X → Type 0) (xs : List X) → ((k : ℕ) (x : X) → k < length xs → slice_get xs k ≡ Some x → P x) → All P xs
all_at P xs h = λ k d lt. h k (get_or xs k d) lt (slice_get-get_or xs k d lt)

pub contains_at : {X : Type 0} (xs : List X) (k : ℕ) (x : X) → slice_get xs k ≡ Some x → Contains xs x
contains_at xs k x e = (k, slice_get_within xs k x e, get_or_from_slice_get xs k x x e)

-- no variable of a clause is greater than its last one
pub within_last : (clause : List Lit) (l : Lit) → Ascends clause → slice_get clause (length clause - 1) ≡ Some l → IsWithin (l.var + 1) clause
within_last clause l ascends last = λ v le.
    sign_absent clause v (λ j d lt.
    let e : get_or clause (length clause - 1) d ≡ l = get_or_from_slice_get clause (length clause - 1) l d last in
    let ev : (get_or clause (length clause - 1) d).var ≡ l.var = ap (λ (x : Lit). x.var) e in
    elim (cases_eq j (length clause - 1)) [
      | inl it ↦ λ same. let jv : (get_or clause j d).var ≡ l.var = rw it ev in absurd (omega arith)
      | inr other ↦ λ same.
          let less : (get_or clause j d).var < (get_or clause (length clause - 1) d).var = ascends j (length clause - 1) d (omega arith) (omega arith) in
          absurd (omega arith)
    ])

pub within_more : (size more : ℕ) (clause : List Lit) → size ≤ more → IsWithin size clause → IsWithin more clause
within_more size more clause le within = λ v h. within v (omega arith)

-- the chain of a line ended in these marks
pub valid_answer : (clauses : List (List Lit)) (line : Line) (start : List Lit) (loaded led left : List (Option Bool)) (size : ℕ) (b : Bool) → Ascends line.clause → slice_get clauses line.first ≡ Some start → ((v : ℕ) → signs_in loaded v ≡ sign_of start v) → ((r : Signs) → LeadsTo clauses (signs_in loaded) line.cuts r ↔ ((v : ℕ) → signs_in led v ≡ r v)) → length led ≡ size → MatchBool b (((v : ℕ) → signs_in led v ≡ sign_of line.clause v) × IsClear left) (((v : ℕ) → signs_in led v ≡ sign_of line.clause v) → ⊥) → MatchBool b (IsValidLine clauses line × IsClear left × IsWithin size line.clause) (IsValidLine clauses line → ⊥)
valid_answer clauses line start loaded led left size true ascends first load leads n answer =
    let e : signs_in loaded ≡ sign_of start = fun_ext load in
    let P : Signs → Type 0 = λ s. LeadsTo clauses s line.cuts (sign_of line.clause) in (
      record {
        ascending = ascends;
        start = start;
        first = first;
        leads = subst P e ((leads (sign_of line.clause)).1 answer.0);
      },
      answer.1,
      λ v le. sym (answer.0 v) ∙ get_or_past led v None (omega arith),
    )
valid_answer clauses line start loaded led left size false ascends first load leads n answer = λ valid.
    let f : slice_get clauses line.first ≡ Some valid.start = valid.first in
    let same : valid.start ≡ start = cc in
    let e : sign_of valid.start ≡ signs_in loaded = rw same (sym (fun_ext load)) in
    let P : Signs → Type 0 = λ s. LeadsTo clauses s line.cuts (sign_of line.clause) in
    answer ((leads (sign_of line.clause)).0 (subst P e valid.leads))

-- a chain that stops makes no line valid
pub valid_stop : (clauses : List (List Lit)) (line : Line) (start : List Lit) (loaded : List (Option Bool)) → slice_get clauses line.first ≡ Some start → ((v : ℕ) → signs_in loaded v ≡ sign_of start v) → ((r : Signs) → LeadsTo clauses (signs_in loaded) line.cuts r → ⊥) → IsValidLine clauses line → ⊥
valid_stop clauses line start loaded first load stops valid =
    let f : slice_get clauses line.first ≡ Some valid.start = valid.first in
    let same : valid.start ≡ start = cc in
    let e : sign_of valid.start ≡ signs_in loaded = rw same (sym (fun_ext load)) in
    let P : Signs → Type 0 = λ s. LeadsTo clauses s line.cuts (sign_of line.clause) in
    stops (sign_of line.clause) (subst P e valid.leads)

pub earlier_none : (store : List (List Lit)) → clauses_of store [] ≡ store
earlier_none store = append-nil store

pub earlier_more : (store : List (List Lit)) (lines : List Line) (k : ℕ) (line : Line) → slice_get lines k ≡ Some line → earlier store lines (k + 1) ≡ earlier store lines k ++ line.clause ∷ []
earlier_more store lines k line at =
    let lt : k < length lines = slice_get_within lines k line at in
    let e : get_or lines k line ≡ line = get_or_from_slice_get lines k line line at in
    let t : take (k + 1) lines ≡ take k lines ++ line ∷ [] = take_more lines k line lt ∙ ap (λ l. take k lines ++ l ∷ []) e in
    let m : map (λ l. l.clause) (take k lines ++ line ∷ []) ≡ map (λ l. l.clause) (take k lines) ++ line.clause ∷ [] = map-append (λ l. l.clause) (take k lines) (line ∷ []) in
    rw (t, m) (sym (append_assoc store (map (λ l. l.clause) (take k lines)) (line.clause ∷ [])))

pub valid_more : (store : List (List Lit)) (lines : List Line) (k : ℕ) (line : Line) → slice_get lines k ≡ Some line → IsValidLine (earlier store lines k) line → ((j : ℕ) (l : Line) → j < k → slice_get lines j ≡ Some l → IsValidLine (earlier store lines j) l) → (j : ℕ) (l : Line) → j < k + 1 → slice_get lines j ≡ Some l → IsValidLine (earlier store lines j) l
valid_more store lines k line at valid before j l lt got =
    elim (cases_eq j k) [
      | inl it ↦
          let here : slice_get lines k ≡ Some l = rw (← it) got in
          let same : l ≡ line = cc in
          rw (it, same) valid
      | inr other ↦ before j l (omega arith) got
    ]

pub empty_answer : (store lines : List (List Lit)) (b : Bool) → All (λ c. c ≢ []) store → MatchBool b (Contains lines []) (All (λ c. c ≢ []) lines) → MatchBool b (Contains (store ++ lines) []) (All (λ c. c ≢ []) (store ++ lines))
empty_answer store lines true none answer = Contains-append_right store lines [] answer
empty_answer store lines false none answer = All-append (λ c. c ≢ []) store lines none answer

pub no_items : {X : Type 0} (xs : List X) → eqb (length xs) 0 ≡ true → xs ≡ []
no_items [] e = refl
no_items (x ∷ xs) e = absurd (omega (arith, eqb-true (length (x ∷ xs)) 0 e))
