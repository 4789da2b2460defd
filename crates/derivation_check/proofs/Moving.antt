-- Lines with the numbers that they name changed.
use Rattle.std.proofs.Common.{◌≡◌, ℕ, ◌+◌, ◌-◌, ◌<◌, ◌≤◌, true, false, List, [], ◌∷◌, length, get_or, map, ltb, inl, inr, refl, sym, ◌∙◌, ap, subst, arith}
use Rattle.std.specs.List.{All, Contains}
use Rattle.std.proofs.lemmas.Bool.{lt-ltb, ltb-true, cases_Bool}
use Rattle.std.proofs.lemmas.List.{get_or-map, length-map}
use Rattle.std.proofs.lemmas.List.Elements.{All-head, All-tail, Contains-get_or}
use Rattle.clause_store.specs.declared.line.Cut.{Cut}
use Rattle.clause_store.specs.declared.line.Line.{Line}
use Rattle.derivation_check.specs.Trimmed.{numbers_of, moved_number, moved_cut, moved_line}

-- the clauses of the store keep their numbers
pub moved_store : (count : ℕ) (places : List ℕ) (n : ℕ) → n < count → moved_number count places n ≡ n
moved_store count places n lt = let t : ltb n count ≡ true = lt-ltb n count lt in rw t refl

ltb_no : (a b : ℕ) → b ≤ a → ltb a b ≡ false
ltb_no a b le =
    elim (cases_Bool (ltb a b)) [
      | inl is_less ↦ let lt : a < b = ltb-true a b is_less in absurd (omega arith)
      | inr is_not ↦ is_not
    ]

-- lines go where the list says
pub moved_place : (count : ℕ) (places : List ℕ) (k : ℕ) → moved_number count places (count + k) ≡ count + get_or places k 0
moved_place count places k =
    let f : ltb (count + k) count ≡ false = ltb_no (count + k) count (omega arith) in
    let e : (count + k) - count ≡ k = omega arith in
    rw (f, e) refl

cuts_same : (f g : ℕ → ℕ) (cuts : List Cut) → All (λ n. f n ≡ g n) (map (λ cut. cut.id) cuts) → map (moved_cut f) cuts ≡ map (moved_cut g) cuts
cuts_same f g [] same = refl
cuts_same f g (cut ∷ cuts) same =
    let here : f cut.id ≡ g cut.id = All-head (λ n. f n ≡ g n) cut.id (map (λ cut. cut.id) cuts) same in
    let rest : map (moved_cut f) cuts ≡ map (moved_cut g) cuts = cuts_same f g cuts (All-tail (λ n. f n ≡ g n) cut.id (map (λ cut. cut.id) cuts) same) in
    rw (here, rest) refl

pub line_same : (f g : ℕ → ℕ) (line : Line) → All (λ n. f n ≡ g n) (numbers_of line) → moved_line f line ≡ moved_line g line
line_same f g line same =
    let here : f line.first ≡ g line.first = All-head (λ n. f n ≡ g n) line.first (map (λ cut. cut.id) line.cuts) same in
    let rest : map (moved_cut f) line.cuts ≡ map (moved_cut g) line.cuts = cuts_same f g line.cuts (All-tail (λ n. f n ≡ g n) line.first (map (λ cut. cut.id) line.cuts) same) in
    rw (here, rest) refl

cuts_back : (f g : ℕ → ℕ) (cuts : List Cut) → All (λ n. f (g n) ≡ n) (map (λ cut. cut.id) cuts) → map (moved_cut f) (map (moved_cut g) cuts) ≡ cuts
cuts_back f g [] back = refl
cuts_back f g (cut ∷ cuts) back =
    let here : f (g cut.id) ≡ cut.id = All-head (λ n. f (g n) ≡ n) cut.id (map (λ cut. cut.id) cuts) back in
    let rest : map (moved_cut f) (map (moved_cut g) cuts) ≡ cuts = cuts_back f g cuts (All-tail (λ n. f (g n) ≡ n) cut.id (map (λ cut. cut.id) cuts) back) in
    rw (here, rest) refl

-- moved there and back
pub line_back : (f g : ℕ → ℕ) (line : Line) → All (λ n. f (g n) ≡ n) (numbers_of line) → moved_line f (moved_line g line) ≡ line
line_back f g line back =
    let here : f (g line.first) ≡ line.first = All-head (λ n. f (g n) ≡ n) line.first (map (λ cut. cut.id) line.cuts) back in
    let rest : map (moved_cut f) (map (moved_cut g) line.cuts) ≡ line.cuts = cuts_back f g line.cuts (All-tail (λ n. f (g n) ≡ n) line.first (map (λ cut. cut.id) line.cuts) back) in
    rw (here, rest) refl

cuts_numbers : (f : ℕ → ℕ) (cuts : List Cut) → map (λ cut. cut.id) (map (moved_cut f) cuts) ≡ map f (map (λ cut. cut.id) cuts)
cuts_numbers f [] = refl
cuts_numbers f (cut ∷ cuts) = ap (λ ns. f cut.id ∷ ns) (cuts_numbers f cuts)

pub numbers_of-moved : (f : ℕ → ℕ) (line : Line) → numbers_of (moved_line f line) ≡ map f (numbers_of line)
numbers_of-moved f line = ap (λ ns. f line.first ∷ ns) (cuts_numbers f line.cuts)

-- a number that a moved line names is that of one that the line names
pub named_moved : (f : ℕ → ℕ) (line : Line) (n : ℕ) → Contains (numbers_of (moved_line f line)) n → (m : ℕ) × Contains (numbers_of line) m × (f m ≡ n)
named_moved f line n named =
    let P : List ℕ → Type 0 = λ ns. Contains ns n in
    let there : Contains (map f (numbers_of line)) n = subst P (numbers_of-moved f line) named in
    let long : length (map f (numbers_of line)) ≡ length (numbers_of line) = length-map (numbers_of line) f in
    let inside : there.0 < length (map f (numbers_of line)) = there.1 in
    let lt : there.0 < length (numbers_of line) = omega arith in
    let m : ℕ = get_or (numbers_of line) there.0 n in
    (m, Contains-get_or (numbers_of line) there.0 n lt, sym (get_or-map f (numbers_of line) there.0 n n lt) ∙ there.2)
