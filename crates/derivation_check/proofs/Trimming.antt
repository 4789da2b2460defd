-- Lines that were picked are valid, and new, where the derivation's are.
use Rattle.std.proofs.Common.{◌≡◌, ◌≢◌, ℕ, suc, zero, ◌+◌, ◌-◌, ◌<◌, ◌≤◌, min, List, [], ◌∷◌, length, get_or, take, map, Some, slice_get, refl, sym, ◌∙◌, ap, subst, inl, inr, arith}
use Rattle.std.specs.List.{All, AllPairs}
use Rattle.std.specs.Option.{option_map}
use Rattle.std.proofs.lemmas.List.{length-append, length-map, length-take}
use Rattle.std.proofs.lemmas.List.Elements.{All-weaker, All-head, All-tail, All-cons, All-nil}
use Rattle.std.proofs.lemmas.Option.{slice_get_within, slice_get-get_or, slice_get-map, get_or_from_slice_get}
use Rattle.std.proofs.lemmas.Bool.{cases_lt}
use Rattle.clause_store.specs.declared.lit.Lit.{Lit}
use Rattle.clause_store.specs.declared.line.Cut.{Cut}
use Rattle.clause_store.specs.declared.line.Line.{Line}
use Rattle.clause_store.specs.Signs.{Signs, sign_of}
use Rattle.clause_store.specs.Assignments.{IsClosedFor}
use Rattle.clause_store.specs.Resolvents.{LeadsTo}
use Rattle.clause_store.specs.Derivations.{earlier, IsValidLine, IsNew, AllValid, AllNew}
use Rattle.derivation_check.specs.Trimmed.{numbers_of, moved_number, moved_cut, moved_line, IsPicked}
use Rattle.derivation_check.specs.Used.{AllEarlier}
use Rattle.derivation_check.proofs.Gets.{get-append_left, get-append_right, get-take}
use Rattle.derivation_check.proofs.Lines.{all_at}
use Rattle.derivation_check.proofs.Moving.{moved_store, moved_place}

earlier_few : (store : List (List Lit)) (lines : List Line) (k : ℕ) → length (earlier store lines k) ≤ length store + k
earlier_few store lines k =
    let a : length (earlier store lines k) ≡ length store + length (map (λ l. l.clause) (take k lines)) = length-append store (map (λ l. l.clause) (take k lines)) in
    let m : length (map (λ l. l.clause) (take k lines)) ≡ length (take k lines) = length-map (take k lines) (λ l. l.clause) in
    let t : length (take k lines) ≡ min k (length lines) = length-take k lines in
    omega arith

earlier_line : (store : List (List Lit)) (lines : List Line) (k i : ℕ) (line : Line) → i < k → slice_get lines i ≡ Some line → slice_get (earlier store lines k) (length store + i) ≡ Some line.clause
earlier_line store lines k i line lt at =
    get-append_right store (map (λ l. l.clause) (take k lines)) (length store + i) i refl
    ∙ slice_get-map (λ (l : Line). l.clause) (take k lines) i
    ∙ ap (option_map (λ (l : Line). l.clause)) (get-take k lines i lt ∙ at)

-- the numbers of a picked line stand for the clauses for which they stood before
earlier_moved : (store : List (List Lit)) (lines picked : List Line) (part : IsPicked (length store) lines picked) (j : ℕ) (line : Line) → slice_get picked j ≡ Some line → (n : ℕ) → n < length store + j → slice_get (earlier store lines (get_or part.places j 0)) (moved_number (length store) part.places n) ≡ slice_get (earlier store picked j) n
earlier_moved store lines picked part j line got n lt =
    let p : ℕ = get_or part.places j 0 in
    let inside : j < length picked = slice_get_within picked j line got in
    let len : length part.places ≡ length picked = part.len in
    elim (cases_lt n (length store)) [
      | inl low ↦
          ap (λ m. slice_get (earlier store lines p) m) (moved_store (length store) part.places n low)
          ∙ get-append_left store (map (λ l. l.clause) (take p lines)) n low
          ∙ sym (get-append_left store (map (λ l. l.clause) (take j picked)) n low)
      | inr ge ↦
          let i : ℕ = n - length store in
          let e : n ≡ length store + i = omega arith in
          let other : Line = get_or picked i line in
          let at : slice_get picked i ≡ Some other = slice_get-get_or picked i line (omega arith) in
          let q : ℕ = get_or part.places i 0 in
          let before : q < p = part.ascending i j 0 (omega arith) (omega arith) in
          let moved : moved_number (length store) part.places n ≡ length store + q =
          ap (moved_number (length store) part.places) e ∙ moved_place (length store) part.places i in
          ap (λ m. slice_get (earlier store lines p) m) moved
          ∙ earlier_line store lines p q (moved_line (moved_number (length store) part.places) other) before (part.stood i other at)
          ∙ sym (earlier_line store picked j i other (omega arith) at)
          ∙ ap (λ m. slice_get (earlier store picked j) m) (sym e)
    ]

chain_moved : (old new : List (List Lit)) (f : ℕ → ℕ) (cuts : List Cut) (c r : Signs) → All (λ n. slice_get old (f n) ≡ slice_get new n) (map (λ cut. cut.id) cuts) → LeadsTo old c (map (moved_cut f) cuts) r → LeadsTo new c cuts r
chain_moved old new f [] c r same leads = leads
chain_moved old new f (cut ∷ cuts) c r same leads =
    let here : slice_get old (f cut.id) ≡ slice_get new cut.id = All-head (λ n. slice_get old (f n) ≡ slice_get new n) cut.id (map (λ cut. cut.id) cuts) same in (
      leads.0,
      leads.1,
      sym here ∙ leads.2,
      leads.3,
      chain_moved old new f cuts leads.1 r (All-tail (λ n. slice_get old (f n) ≡ slice_get new n) cut.id (map (λ cut. cut.id) cuts) same) leads.4,
    )

valid_moved : (old new : List (List Lit)) (f : ℕ → ℕ) (line : Line) → All (λ n. slice_get old (f n) ≡ slice_get new n) (numbers_of line) → IsValidLine old (moved_line f line) → IsValidLine new line
valid_moved old new f line same valid =
    let here : slice_get old (f line.first) ≡ slice_get new line.first = All-head (λ n. slice_get old (f n) ≡ slice_get new n) line.first (map (λ cut. cut.id) line.cuts) same in
    record {
      ascending = valid.ascending;
      start = valid.start;
      first = sym here ∙ valid.first;
      leads = chain_moved old new f line.cuts (sign_of valid.start) (sign_of line.clause) (All-tail (λ n. slice_get old (f n) ≡ slice_get new n) line.first (map (λ cut. cut.id) line.cuts) same) valid.leads;
    }

pub picked_valid : (store : List (List Lit)) (lines picked : List Line) → IsPicked (length store) lines picked → AllEarlier (length store) picked → AllValid store lines → AllValid store picked
picked_valid store lines picked part low valid j line got =
    let p : ℕ = get_or part.places j 0 in
    let f : ℕ → ℕ = moved_number (length store) part.places in
    valid_moved (earlier store lines p) (earlier store picked j) f line
    (All-weaker (λ n. n < length store + j) (λ n. slice_get (earlier store lines p) (f n) ≡ slice_get (earlier store picked j) n)
    (λ n lt. earlier_moved store lines picked part j line got n lt) (numbers_of line) (low j line got))
    (valid p (moved_line f line) (part.stood j line got))

-- what holds of all clauses holds of some of them
All_fewer : (P : List Lit → Type 0) (old new : List (List Lit)) → ((n : ℕ) (x : List Lit) → slice_get new n ≡ Some x → (m : ℕ) × (slice_get old m ≡ Some x)) → All P old → All P new
All_fewer P old new fewer all =
    all_at P new (λ k x lt got.
    let m = fewer k x got in
    let h : P (get_or old m.0 x) = all m.0 x (slice_get_within old m.0 x m.1) in
    subst P (get_or_from_slice_get old m.0 x x m.1) h)

new_fewer : (old new : List (List Lit)) (clause : List Lit) → ((n : ℕ) (x : List Lit) → slice_get new n ≡ Some x → (m : ℕ) × (slice_get old m ≡ Some x)) → IsNew old clause → IsNew new clause
new_fewer old new [] fewer fresh = All_fewer (λ c. c ≢ []) old new fewer fresh
new_fewer old new (l ∷ lits) fewer fresh = record {
  assignment = fresh.assignment;
  consistent = fresh.consistent;
  closed = All_fewer (IsClosedFor fresh.assignment) old new fewer fresh.closed;
  var = fresh.var;
  sign = fresh.sign;
  unit = fresh.unit;
  is_open = fresh.is_open;
}

pub picked_fresh : (store : List (List Lit)) (lines picked : List Line) → IsPicked (length store) lines picked → AllNew store lines → AllNew store picked
picked_fresh store lines picked part fresh j line got =
    let p : ℕ = get_or part.places j 0 in
    let f : ℕ → ℕ = moved_number (length store) part.places in
    new_fewer (earlier store lines p) (earlier store picked j) line.clause
    (λ n x at.
    let within : n < length (earlier store picked j) = slice_get_within (earlier store picked j) n x at in
    let few : length (earlier store picked j) ≤ length store + j = earlier_few store picked j in
    (f n, earlier_moved store lines picked part j line got n (omega arith) ∙ at))
    (fresh p (moved_line f line) (part.stood j line got))

-- places that ascend are at least their index
places_up : (places : List ℕ) (j : ℕ) → AllPairs (λ p q. p < q) places → j < length places → j ≤ get_or places j 0
places_up places zero ascending lt = omega arith
places_up places (suc j) ascending lt =
    let before : j ≤ get_or places j 0 = places_up places j ascending (omega arith) in
    let less : get_or places j 0 < get_or places (suc j) 0 = ascending j (suc j) 0 (omega arith) lt in
    omega arith

pub picked_fewer : (count : ℕ) (lines picked : List Line) → IsPicked count lines picked → length picked ≤ length lines
picked_fewer count lines picked part =
    let len : length part.places ≡ length picked = part.len in
    elim (cases_lt 0 (length picked)) [
      | inr none ↦ omega arith
      | inl some ↦
          let j : ℕ = length picked - 1 in
          let no_line : Line = record { clause = []; first = 0; cuts = [] } in
          let line : Line = get_or picked j no_line in
          let at : slice_get picked j ≡ Some line = slice_get-get_or picked j no_line (omega arith) in
          let within : get_or part.places j 0 < length lines = slice_get_within lines (get_or part.places j 0) (moved_line (moved_number count part.places) line) (part.stood j line at) in
          let up : j ≤ get_or part.places j 0 = places_up part.places j part.ascending (omega arith) in
          omega arith
    ]

chain_named : (clauses : List (List Lit)) (cuts : List Cut) (c r : Signs) → LeadsTo clauses c cuts r → All (λ n. n < length clauses) (map (λ cut. cut.id) cuts)
chain_named clauses [] c r leads = All-nil (λ n. n < length clauses)
chain_named clauses (cut ∷ cuts) c r leads =
    All-cons (λ n. n < length clauses) cut.id (map (λ cut. cut.id) cuts) (slice_get_within clauses cut.id leads.0 leads.2) (chain_named clauses cuts leads.1 r leads.4)

-- a valid line names earlier clauses alone
pub valid_earlier : (store : List (List Lit)) (lines : List Line) → AllValid store lines → AllEarlier (length store) lines
valid_earlier store lines valid k line at =
    let v = valid k line at in
    let few : length (earlier store lines k) ≤ length store + k = earlier_few store lines k in
    All-weaker (λ n. n < length (earlier store lines k)) (λ n. n < length store + k) (λ n lt. omega arith) (numbers_of line)
    (All-cons (λ n. n < length (earlier store lines k)) line.first (map (λ cut. cut.id) line.cuts) (slice_get_within (earlier store lines k) line.first v.start v.first)
    (chain_named (earlier store lines k) line.cuts (sign_of v.start) (sign_of line.clause) v.leads))
