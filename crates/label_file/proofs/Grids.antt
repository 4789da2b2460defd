-- The numbers of a range, and those of a grid of rows and columns.
use Rattle.std.proofs.Common.{◌≡◌, ◌+◌, ◌-◌, ◌*◌, ◌/◌, ◌%◌, ◌<◌, ◌≤◌, ◌⊎◌, inl, inr, ℕ, zero, suc, List, map, sym, ◌∙◌, ap, subst, arith}
use Rattle.std.specs.Prelude.{Contains, flat_map}
use Rattle.std.specs.List.{range_with_len}
use Rattle.std.proofs.Math.Nat.{div-lt_iff_lt-mul, mod-lt, mul_comm}
use Rattle.std.proofs.lemmas.Nat.{div-add-mod', div-mul-add, mod-mul-add, mul-add-lt}
use Rattle.std.proofs.lemmas.List.FromFn.{length-range_with_len, get_or-range_with_len}
use Rattle.coco_model.specs.Netlist.{HasNoRepeat}
use Rattle.coco_model.proofs.Basics.{Contains-cases, Contains-none}
use Rattle.label_file.proofs.Members.{joined, join-member, map-member, mapped, once_joined, once_mapped}

range_member : (a n l : ℕ) → Contains (range_with_len a n) l → (a ≤ l) × (l < a + n)
range_member a zero l h = absurd (Contains-none l h)
range_member a (suc n) l h = go (Contains-cases a l (range_with_len (a + 1) n) h) (range_member (a + 1) n l)
  where
    go : (a ≡ l) ⊎ Contains (range_with_len (a + 1) n) l → (Contains (range_with_len (a + 1) n) l → (a + 1 ≤ l) × (l < a + 1 + n))
        → (a ≤ l) × (l < a + suc n)
    go (inl e) rest = (omega (arith, e), omega (arith, e))
    go (inr i) rest = let r = rest i in let low = r.0 in let high = r.1 in (omega (arith, low), omega (arith, high))

range_below : (n l : ℕ) → Contains (range_with_len 0 n) l → l < n
range_below n l h = let r = range_member 0 n l h in let high = r.1 in omega (arith, high)

member_of_range : (a n l : ℕ) → a ≤ l → l < a + n → Contains (range_with_len a n) l
member_of_range a n l low high = (
  l - a,
  (let size = length-range_with_len a n in omega (arith, size, low, high)),
  get_or-range_with_len a n (l - a) l (omega (arith, low, high)) ∙ omega (arith, low),
)

range_once : (a n : ℕ) → HasNoRepeat (range_with_len a n)
range_once a zero = tt
range_once a (suc n) = ((λ h. let r = range_member (a + 1) n a h in let low = r.0 in omega (arith, low)), range_once (a + 1) n)

-- a list has n numbers from a on, each once
pub record AreFrom (ns : List ℕ) (a n : ℕ) : Type 0 where
  pub once : HasNoRepeat ns
  pub low : (l : ℕ) → Contains ns l → a ≤ l
  pub high : (l : ℕ) → Contains ns l → l < a + n
  pub member : (l : ℕ) → a ≤ l → l < a + n → Contains ns l

pub range_from : (a n : ℕ) → AreFrom (range_with_len a n) a n
range_from a n = record {
  once = range_once a n;
  low = λ l h. (range_member a n l h).0;
  high = λ l h. (range_member a n l h).1;
  member = member_of_range a n;
}

-- the column k of a grid with so many columns
abbrev pub column : ℕ → ℕ → ℕ → ℕ → List ℕ
column first width rows k = map (λ i. first + i * width + k) (range_with_len 0 rows)

abbrev pub grid : ℕ → ℕ → ℕ → List ℕ
grid first width rows = flat_map (column first width rows) (range_with_len 0 width)

record IsPlace (first width rows k l : ℕ) : Type 0 where
  row : ℕ
  below : row < rows
  is : l ≡ first + row * width + k

place_in : (first width rows k l : ℕ) → Contains (column first width rows k) l → IsPlace first width rows k l
place_in first width rows k l h =
    let r = mapped (λ i. first + i * width + k) (range_with_len 0 rows) l h in
    record { row = r.from; below = range_below rows r.from r.listed; is = r.is }

same_column : (first width i j k m l : ℕ) → k < width → m < width → l ≡ first + i * width + k → l ≡ first + j * width + m → k ≡ m
same_column first width i j k m l kw mw a b =
    let e : i * width + k ≡ j * width + m = omega (arith, a, b) in
    sym (mod-mul-add i width k kw) ∙ ap (λ n. n % width) e ∙ mod-mul-add j width m mw

same_row : (first width k i j : ℕ) → k < width → first + i * width + k ≡ first + j * width + k → i ≡ j
same_row first width k i j kw e =
    let f : i * width + k ≡ j * width + k = omega (arith, e) in
    sym (div-mul-add i width k kw) ∙ ap (λ n. n / width) f ∙ div-mul-add j width k kw

column_once : (first width rows k : ℕ) → k < width → HasNoRepeat (column first width rows k)
column_once first width rows k kw =
    once_mapped (λ i. first + i * width + k) (range_with_len 0 rows) (range_once 0 rows) (λ i j e. same_row first width k i j kw e)

grid_once : (first width rows : ℕ) → HasNoRepeat (grid first width rows)
grid_once first width rows =
    once_joined (column first width rows) (range_with_len 0 width) (range_once 0 width)
    (λ k i. column_once first width rows k (range_below width k i))
    (λ k m l i j p q.
    let a = place_in first width rows k l p in
    let b = place_in first width rows m l q in
    same_column first width a.row b.row k m l (range_below width k i) (range_below width m j) a.is b.is)

record IsInGrid (first width rows l : ℕ) : Type 0 where
  low : first ≤ l
  high : l < first + rows * width

place_inside : (first width rows k l : ℕ) → k < width → IsPlace first width rows k l → IsInGrid first width rows l
place_inside first width rows k l kw p =
    let e = p.is in
    let room : p.row * width + k < width * rows = mul-add-lt p.row width k rows p.below kw in
    let turned = mul_comm width rows in
    record { low = omega (arith, e); high = omega (arith, e, room, turned) }

grid_inside : (first width rows l : ℕ) → Contains (grid first width rows) l → IsInGrid first width rows l
grid_inside first width rows l h =
    let r = joined (column first width rows) (range_with_len 0 width) l h in
    place_inside first width rows r.from l (range_below width r.from r.listed) (place_in first width rows r.from l r.inside)

grid_member : (first width rows l : ℕ) → 0 < width → first ≤ l → l < first + rows * width → Contains (grid first width rows) l
grid_member first width rows l some low high = at (l - first) (omega (arith, low)) (omega (arith, low, high))
  where
    at : (x : ℕ) → first + x ≡ l → x < rows * width → Contains (grid first width rows) l
    at x back inside =
        let row_below : x / width < rows = (div-lt_iff_lt-mul {k = width} {x = x} {y = rows} some).1 inside in
        let k_below : x % width < width = mod-lt x some in
        let split : x / width * width + x % width ≡ x = div-add-mod' x width in
        let place : first + x / width * width + x % width ≡ l = omega (arith, split, back) in
        join-member (column first width rows) (range_with_len 0 width) (x % width) l
        (member_of_range 0 width (x % width) (omega arith) (omega (arith, k_below)))
        (subst (Contains (column first width rows (x % width))) place
        (map-member (λ i. first + i * width + x % width) (range_with_len 0 rows) (x / width) (member_of_range 0 rows (x / width) (omega arith) (omega (arith, row_below)))))

-- a grid has the numbers from its first one on, each once
pub grid_from : (first width rows : ℕ) → 0 < width → AreFrom (grid first width rows) first (rows * width)
grid_from first width rows some = record {
  once = grid_once first width rows;
  low = λ l h. (grid_inside first width rows l h).low;
  high = λ l h. (grid_inside first width rows l h).high;
  member = λ l low high. grid_member first width rows l some low high;
}
