-- Numbers for the bits of a netlist in each cycle, those that a cell reads before its output.
use Rattle.std.proofs.Common.{◌≡◌, ◌≢◌, ℕ, zero, suc, ◌+◌, ◌*◌, ◌/◌, ◌%◌, ◌<◌, ◌≤◌, ◌⊎◌, inl, inr, sym, ◌∙◌, ap, arith, mul_comm}
use Rattle.std.proofs.lemmas.Nat.{div-mul-add, mod-mul-add, mul-add-lt}
use Rattle.std.proofs.lemmas.Bool.{cases_eq, cases_lt}

-- a number above the ranks of the first n bits
abbrev pub ceiling : (ℕ → ℕ) → ℕ → ℕ
ceiling rank zero = zero
ceiling rank (suc n) = suc (rank n) + ceiling rank n

rank_below : (rank : ℕ → ℕ) (n b : ℕ) → b < n → rank b < ceiling rank n
rank_below rank zero b h = absurd (omega arith)
rank_below rank (suc n) b h = go (cases_eq b n) (rank_below rank n b)
  where
    go : (b ≡ n) ⊎ (b ≢ n) → (b < n → rank b < ceiling rank n) → rank b < suc (rank n) + ceiling rank n
    go (inl e) rest = let f : rank b ≡ rank n = ap rank e in omega arith
    go (inr k) rest = let f = rest (omega arith) in omega arith

-- the number of a bit in a cycle
abbrev pub number_of : ℕ → (ℕ → ℕ) → ℕ → ℕ → ℕ
number_of bits rank t b = (t * ceiling rank bits + rank b) * bits + b

-- the number behind all
abbrev pub number_count : ℕ → (ℕ → ℕ) → ℕ → ℕ
number_count bits rank cycles = bits * (ceiling rank bits * cycles)

row_before : (bits p q b c : ℕ) → p < q → b < bits → p * bits + b < q * bits + c
row_before bits p q b c h i = let e = mul-add-lt p bits b q h i in let f = mul_comm bits q in omega arith

pub number-inside : (bits : ℕ) (rank : ℕ → ℕ) (cycles t b : ℕ) → t < cycles → b < bits
    → number_of bits rank t b < number_count bits rank cycles
number-inside bits rank cycles t b below inside =
    mul-add-lt (t * ceiling rank bits + rank b) bits b (ceiling rank bits * cycles)
    (mul-add-lt t (ceiling rank bits) (rank b) cycles below (rank_below rank bits b inside)) inside

pub number-earlier : (bits : ℕ) (rank : ℕ → ℕ) (s t b c : ℕ) → s < t → c < bits → number_of bits rank s c < number_of bits rank t b
number-earlier bits rank s t b c h inside =
    row_before bits (s * ceiling rank bits + rank c) (t * ceiling rank bits + rank b) c b
    (let e = mul-add-lt s (ceiling rank bits) (rank c) t h (rank_below rank bits c inside) in let f = mul_comm (ceiling rank bits) t in
    omega arith) inside

pub number-lower : (bits : ℕ) (rank : ℕ → ℕ) (t b c : ℕ) → rank c < rank b → c < bits → number_of bits rank t c < number_of bits rank t b
number-lower bits rank t b c h inside = row_before bits (t * ceiling rank bits + rank c) (t * ceiling rank bits + rank b) c b (omega arith)
    inside

-- the bit and the cycle of a number
bit-number : (bits : ℕ) (rank : ℕ → ℕ) (t b : ℕ) → b < bits → number_of bits rank t b % bits ≡ b
bit-number bits rank t b inside = mod-mul-add (t * ceiling rank bits + rank b) bits b inside

cycle-number : (bits : ℕ) (rank : ℕ → ℕ) (t b : ℕ) → b < bits → number_of bits rank t b / bits / ceiling rank bits ≡ t
cycle-number bits rank t b inside =
    ap (λ q. q / ceiling rank bits) (div-mul-add (t * ceiling rank bits + rank b) bits b inside)
    ∙ div-mul-add t (ceiling rank bits) (rank b) (rank_below rank bits b inside)

pub number-apart : (bits : ℕ) (rank : ℕ → ℕ) (t b s c : ℕ) → b < bits → c < bits → number_of bits rank t b ≡ number_of bits rank s c
    → (t ≡ s) × (b ≡ c)
number-apart bits rank t b s c inside inside' e = (
  sym (cycle-number bits rank t b inside) ∙ ap (λ i. i / bits / ceiling rank bits) e ∙ cycle-number bits rank s c inside',
  sym (bit-number bits rank t b inside) ∙ ap (λ i. i % bits) e ∙ bit-number bits rank s c inside',
)

-- a number is that of a bit in a cycle of the run
pub record IsNumber (bits : ℕ) (rank : ℕ → ℕ) (cycles i : ℕ) : Type 0 where
  pub cycle : ℕ
  pub bit : ℕ
  pub below : cycle < cycles
  pub inside : bit < bits
  pub number : i ≡ number_of bits rank cycle bit

pub number_or_not : (bits : ℕ) (rank : ℕ → ℕ) (cycles i : ℕ) → IsNumber bits rank cycles i ⊎ (IsNumber bits rank cycles i → ⊥)
number_or_not bits rank cycles i = go (cases_lt t cycles) (cases_lt b bits) (cases_eq i (number_of bits rank t b))
  where
    t : ℕ
    t = i / bits / ceiling rank bits

    b : ℕ
    b = i % bits

    same_cycle : (p : IsNumber bits rank cycles i) → i / bits / ceiling rank bits ≡ p.cycle
    same_cycle p = ap (λ j. j / bits / ceiling rank bits) p.number ∙ cycle-number bits rank p.cycle p.bit p.inside

    same_bit : (p : IsNumber bits rank cycles i) → i % bits ≡ p.bit
    same_bit p = ap (λ j. j % bits) p.number ∙ bit-number bits rank p.cycle p.bit p.inside

    go : (i / bits / ceiling rank bits < cycles) ⊎ (cycles ≤ i / bits / ceiling rank bits) → (i % bits < bits) ⊎ (bits ≤ i % bits)
        → (i ≡ number_of bits rank (i / bits / ceiling rank bits) (i % bits))
        ⊎ (i ≢ number_of bits rank (i / bits / ceiling rank bits) (i % bits))
        → IsNumber bits rank cycles i ⊎ (IsNumber bits rank cycles i → ⊥)
    go (inr past) inside number = inr (λ p. let e = same_cycle p in let f = p.below in omega arith)
    go (inl below) (inr past) number = inr (λ p. let e = same_bit p in let f = p.inside in omega arith)
    go (inl below) (inl inside) (inr n) = inr (λ p. n (p.number ∙ ap (λ s. number_of bits rank s p.bit) (sym (same_cycle p))
        ∙ ap (number_of bits rank (i / bits / ceiling rank bits)) (sym (same_bit p))))
    go (inl below) (inl inside) (inl e) = inl
        (record { cycle = i / bits / ceiling rank bits; bit = i % bits; below = below; inside = inside; number = e })

-- what a bit in a cycle has, by its number
abbrev pub by_number : {X : Type 0} {bits : ℕ} {rank : ℕ → ℕ} {cycles i : ℕ} → (ℕ → ℕ → X) → X
    → IsNumber bits rank cycles i ⊎ (IsNumber bits rank cycles i → ⊥) → X
by_number f other (inl p) = f p.cycle p.bit
by_number f other (inr n) = other

abbrev pub at_number : {X : Type 0} → ℕ → (ℕ → ℕ) → ℕ → (ℕ → ℕ → X) → X → ℕ → X
at_number bits rank cycles f other i = by_number f other (number_or_not bits rank cycles i)

pub at_number-number : {X : Type 0} (bits : ℕ) (rank : ℕ → ℕ) (cycles : ℕ) (f : ℕ → ℕ → X) (other : X) (t b : ℕ) → t < cycles → b < bits
    → at_number bits rank cycles f other (number_of bits rank t b) ≡ f t b
at_number-number bits rank cycles f other t b below inside = go (number_or_not bits rank cycles (number_of bits rank t b))
  where
    go : (p : IsNumber bits rank cycles (number_of bits rank t b) ⊎ (IsNumber bits rank cycles (number_of bits rank t b) → ⊥))
        → by_number f other p ≡ f t b
    go (inl p) = let e = number-apart bits rank t b p.cycle p.bit inside p.inside p.number in ap (λ s. f s p.bit) (sym e.0)
        ∙ ap (f t) (sym e.1)
    go (inr n) = absurd (n (record { cycle = t; bit = b; below = below; inside = inside; number = refl_of }))
      where
        refl_of : number_of bits rank t b ≡ number_of bits rank t b
        refl_of = λ i. number_of bits rank t b
