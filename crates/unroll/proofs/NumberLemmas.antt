-- The numbers of nodes, and rows that are written at them.
use Rattle.std.proofs.Common.{◌≡◌, ◌≢◌, ℕ, suc, ◌+◌, ◌*◌, ◌<◌, ◌≤◌, ◌⊎◌, inl, inr, List, length, get_or, set, refl, sym, ◌∙◌, subst, arith}
use Rattle.std.proofs.lemmas.Bool.{cases_eq, cases_order}
use Rattle.std.proofs.lemmas.List.{get_or-set_same, get_or-set_other}
use Rattle.std.proofs.Math.ListN.{length-set}
use Rattle.model_laws.proofs.UnrolledValues.{number_apart}
use Rattle.gate_graph.specs.Graphs.{Gates, IsBuilt, rank_in}
use Rattle.unroll.specs.RootedRuns.{number_in}
use Rattle.unroll.specs.Walks.{IsNumbered, AreNumbered}

-- bits of one rank are one
pub ranks_apart : (g : Gates) → IsBuilt g → (a b : ℕ) → a < g.flat.bits → b < g.flat.bits → rank_in g a ≡ rank_in g b → a ≡ b
ranks_apart g built a b low high same = by_level (cases_order (built.level a) (built.level b)) (cases_order a b)
  where
    before : (a b : ℕ) → a < g.flat.bits → b < g.flat.bits → rank_in g a ≡ rank_in g b → rank_in g a < rank_in g b → ⊥
    before a b low high same less = omega arith

    by_level : (built.level a ≡ built.level b) ⊎ ((built.level a < built.level b) ⊎ (built.level b < built.level a))
        → (a ≡ b) ⊎ ((a < b) ⊎ (b < a)) → a ≡ b
    by_level level (inl e) = e
    by_level (inl e) (inr (inl less)) = absurd (before a b low high same (built.ranks.ordered a b low high (inr (e, less))))
    by_level (inl e) (inr (inr more)) = absurd (before b a high low (sym same) (built.ranks.ordered b a high low (inr (sym e, more))))
    by_level (inr (inl less)) (inr other) = absurd (before a b low high same (built.ranks.ordered a b low high (inl less)))
    by_level (inr (inr more)) (inr other) = absurd (before b a high low (sym same) (built.ranks.ordered b a high low (inl more)))

-- nodes of one number are of one bit in one cycle
pub numbers_apart : (g : Gates) → IsBuilt g → (t b s c : ℕ) → b < g.flat.bits → c < g.flat.bits
    → number_in g t b ≡ number_in g s c → (t ≡ s) × (b ≡ c)
numbers_apart g built t b s c low high same =
    let p = number_apart g.flat.bits t (rank_in g b) s (rank_in g c) (built.ranks.below b low) (built.ranks.below c high) same in
    (p.0, ranks_apart g built b c low high p.1)

product_more : (n t : ℕ) → n * suc t ≡ n * t + n
product_more n t = grind arith

product_swap : (n t : ℕ) → t * n ≡ n * t
product_swap n t = grind arith

product_least : (n s t : ℕ) → s ≤ t → n * s ≤ n * t
product_least n s t h = grind arith

-- the number of a node is one of its cycle
pub number_from : (g : Gates) (t b : ℕ) → g.flat.bits * t ≤ number_in g t b
number_from g t b = let e = product_swap g.flat.bits t in omega arith

pub number_below : (g : Gates) → IsBuilt g → (t b : ℕ) → b < g.flat.bits → number_in g t b < g.flat.bits * suc t
number_below g built t b low =
    let e = product_swap g.flat.bits t in let f = product_more g.flat.bits t in let r = built.ranks.below b low in omega arith

pub number_within : (g : Gates) → IsBuilt g → (s t b : ℕ) → b < g.flat.bits → s < t → number_in g s b < g.flat.bits * t
number_within g built s t b low h =
    let e = number_below g built s b low in let f = product_least g.flat.bits (suc s) t h in omega arith

pub numbered_none : {X : Type 0} (none : X) (g : Gates) (t : ℕ) (row old : List X) → AreNumbered none g t 0 row old old
numbered_none none g t row old = record {
  as_long = refl;
  placed = λ b h. absurd (omega arith);
  others = λ i. inl refl;
  earlier = λ i h. refl;
}

-- one more bit is written at its number
pub numbered_more : {X : Type 0} (none : X) (g : Gates) → IsBuilt g → (t count : ℕ) (row old mid : List X) (x : X)
    → x ≡ get_or row count none → count < g.flat.bits → g.flat.bits * suc t ≤ length old → AreNumbered none g t count row old mid
    → AreNumbered none g t (count + 1) row old (set mid (number_in g t count) x)
numbered_more {X} none g built t count row old mid x is inside room so_far = record {
  as_long = length-set mid (number_in g t count) x ∙ so_far.as_long;
  placed = λ b h. placed b h (cases_order b count);
  others = λ i. others i (cases_eq i (number_in g t count)) (so_far.others i);
  earlier = λ i h. other i (λ e. let f = number_from g t count in let same : i ≡ number_in g t count = e in omega arith) ∙ so_far.earlier i h;
}
  where
    long : number_in g t count < length mid
    long = let e = number_below g built t count inside in let f = so_far.as_long in omega arith

    here : get_or (set mid (number_in g t count) x) (number_in g t count) none ≡ get_or row count none
    here = get_or-set_same mid (number_in g t count) x none long ∙ is

    other : (i : ℕ) → i ≢ number_in g t count → get_or (set mid (number_in g t count) x) i none ≡ get_or mid i none
    other i n = get_or-set_other mid (number_in g t count) i x none n

    placed : (b : ℕ) → b < count + 1 → (b ≡ count) ⊎ ((b < count) ⊎ (count < b))
        → get_or (set mid (number_in g t count) x) (number_in g t b) none ≡ get_or row b none
    placed b h (inl e) = subst (λ c. get_or (set mid (number_in g t count) x) (number_in g t c) none ≡ get_or row c none) (sym e) here
    placed b h (inr (inl less)) =
        other (number_in g t b) (λ e. let f = (numbers_apart g built t b t count (omega arith) inside e).1 in omega arith) ∙ so_far.placed b less
    placed b h (inr (inr more)) = absurd (omega arith)

    others : (i : ℕ) → (i ≡ number_in g t count) ⊎ (i ≢ number_in g t count)
        → (get_or mid i none ≡ get_or old i none) ⊎ IsNumbered g (suc t) i
        → (get_or (set mid (number_in g t count) x) i none ≡ get_or old i none) ⊎ IsNumbered g (suc t) i
    others i (inl e) rest = inr (record { cycle = t; bit = count; earlier = omega arith; inside = inside; number = e })
    others i (inr n) (inl same) = inl (other i n ∙ same)
    others i (inr n) (inr is) = inr is
