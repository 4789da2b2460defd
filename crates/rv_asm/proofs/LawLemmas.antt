-- What the words of `li` and `la` do.
use Rattle.std.proofs.Common.{◌≡◌, ℕ, zero, suc, ◌+◌, ◌*◌, ◌/◌, ◌%◌, ◌^◌, ◌<◌, ◌≤◌, Bool, true, false, ◌&&◌, cond, ltb, List, [], ◌∷◌, length, map, get_or, ℤ, pos, neg_ℤ, ◌≤ℤ◌, Result, Ok, Err, refl, ap, sym, subst, ◌∙◌, arith, lit<}
use Rattle.std.specs.Prelude.{IsOkAnd, nat_lt, slice_index, slice_set, ◌==◌}
use Rattle.std.specs.Int.{cast_signed, cast_unsigned, w32}
use Rattle.std.proofs.lemmas.Int.{ints, of_z-to_z}
use Rattle.std.proofs.lemmas.Bool.{lt-ltb}
use Rattle.std.proofs.lemmas.Bool.Decides.{nat_tests}
use Rattle.std.proofs.lemmas.List.{get_or-set_same, length-set}
use Rattle.std.proofs.lemmas.List.Elements.{All-cons, All-nil}
use Rattle.std.specs.List.{All}
use Rattle.rv_isa.specs.declared.execution.IsaState.{IsaState}
use Rattle.rv_isa.specs.declared.instruction.Instr.{Instr}
use Rattle.rv_isa.specs.declared.instruction.Instr.TheVariants as instr
use Rattle.rv_isa.specs.declared.instruction.ImmOp.TheVariants.{Addi}
use Rattle.rv_isa.specs.Steps.{register}
use Rattle.rv_isa.specs.Words.{Fits, IsShortImm, word_of}
use Rattle.rv_asm.specs.declared.layout.cause.Cause.{Cause}
use Rattle.rv_asm.specs.declared.layout.cause.Cause.TheVariants.{Range}
use Rattle.rv_asm.specs.Causes.{◌>>=◌}
use Rattle.rv_asm.specs.Values.{high_half, low_half}
use Rattle.rv_asm.specs.Demands.{address_words, fit_word, is_fit, is_short, number_words, single}
use Rattle.rv_asm.specs.Laws.{NumbersArePut, PutsNumber, state_after}

-- ---- numbers

-- the two halves make the number
halves_make : (w : ℕ) → w < 2 ^ 32 → (high_half w * 2 ^ 12 + cast_unsigned w32 (low_half w)) % 2 ^ 32 ≡ w
halves_make w h = grind (arith, ints)

high_small : (w : ℕ) → high_half w < 2 ^ 20
high_small w = omega arith

low_short : (w : ℕ) → IsShortImm (low_half w)
low_short w = (grind (arith, ints), grind (arith, ints))

short_fits : (z : ℤ) → is_short z ≡ true → IsShortImm z
short_fits z h = (grind (arith, ints), grind (arith, ints))

fits_short : (z : ℤ) → IsShortImm z → is_short z ≡ true
fits_short z h = grind (arith, ints)

high_alone : (w : ℕ) → w < 2 ^ 32 → (w % 2 ^ 12 == 0) ≡ true → high_half w * 2 ^ 12 ≡ w
high_alone w h none = let low : w % 2 ^ 12 ≡ 0 = grind (arith, nat_tests) in omega arith

and_true : (a b : Bool) → a ≡ true → b ≡ true → (a && b) ≡ true
and_true true b e f = f
and_true false b e f = e

-- ---- registers

put_is : (x : List ℕ) (r v : ℕ) → suc r < length x → slice_index (slice_set x (suc r) v) (suc r) ≡ v
put_is x r v h = get_or-set_same x (suc r) v 0 h

-- ---- words

fit_is : (i : Instr) → is_fit i ≡ true → fit_word i ≡ Ok (word_of i)
fit_is i h = ap (λ b. cond b (Ok (word_of i)) (Err Range)) h

lui_fits : (rd w : ℕ) → rd < 32 → is_fit (instr.Lui rd (high_half w)) ≡ true
lui_fits rd w h = and_true (nat_lt rd 32) (nat_lt (high_half w) (2 ^ 20)) (lt-ltb rd 32 h) (lt-ltb (high_half w) (2 ^ 20) (high_small w))

addi_fits : (rd rs : ℕ) (z : ℤ) → rd < 32 → rs < 32 → IsShortImm z → is_fit (instr.Imm Addi rd rs z) ≡ true
addi_fits rd rs z hd hs hz =
    and_true (nat_lt rd 32 && nat_lt rs 32) (is_short z) (and_true (nat_lt rd 32) (nat_lt rs 32) (lt-ltb rd 32 hd) (lt-ltb rs 32 hs)) (fits_short z hz)

one_fits : (i : Instr) → Fits i → All Fits (i ∷ [])
one_fits i h = All-cons Fits i [] h (All-nil Fits)

two_ok : (r q : Result ℕ Cause) (a b : ℕ) → r ≡ Ok a → q ≡ Ok b → (r >>= λ u. q >>= λ l. Ok (u ∷ l ∷ [])) ≡ Ok (a ∷ b ∷ [])
two_ok r q a b e f = ap (λ o. o >>= λ u. q >>= λ l. Ok (u ∷ l ∷ [])) e ∙ ap (λ o. o >>= λ l. Ok (a ∷ l ∷ [])) f

one_ok : (r : Result ℕ Cause) (a : ℕ) → r ≡ Ok a → (r >>= single) ≡ Ok (a ∷ [])
one_ok r a e = ap (λ o. o >>= single) e

ok_and : (r : Result (List ℕ) Cause) (words : List ℕ) (P : List ℕ → Type 0) → r ≡ Ok words → P words → IsOkAnd r P
ok_and r words P e p = subst (λ (o : Result (List ℕ) Cause). IsOkAnd o P) (sym e) p

choose : (b : Bool) (r q : Result (List ℕ) Cause) (P : List ℕ → Type 0) → (b ≡ true → IsOkAnd r P) → (b ≡ false → IsOkAnd q P) → IsOkAnd (cond b r q) P
choose true r q P t f = t refl
choose false r q P t f = f refl

address_is : (rd w : ℕ) → rd < 32 → address_words rd w ≡ Ok (word_of (instr.Lui rd (high_half w)) ∷ word_of (instr.Imm Addi rd rd (low_half w)) ∷ [])
unfolding address_words
address_is rd w h =
    two_ok (fit_word (instr.Lui rd (high_half w))) (fit_word (instr.Imm Addi rd rd (low_half w))) _ _ (fit_is (instr.Lui rd (high_half w)) (lui_fits rd w h)) (fit_is (instr.Imm Addi rd rd (low_half w)) (addi_fits rd rd (low_half w) h h (low_short w)))

both_put : (r w : ℕ) → suc r < 32 → w < 2 ^ 32 → (state : IsaState) → length state.x ≡ 32 → register (state_after (instr.Lui (suc r) (high_half w) ∷ instr.Imm Addi (suc r) (suc r) (low_half w) ∷ []) state) (suc r) ≡ w
both_put r w hr hw state len =
    let first_x : List ℕ = slice_set state.x (suc r) (high_half w * 2 ^ 12) in
    let first : slice_index first_x (suc r) ≡ high_half w * 2 ^ 12 = put_is state.x r (high_half w * 2 ^ 12) (omega arith) in
    let room : suc r < length first_x = omega (arith, length-set state.x (suc r) (high_half w * 2 ^ 12)) in
    let value : ℕ = (slice_index first_x (suc r) + cast_unsigned w32 (low_half w)) % 2 ^ 32 in
    let second : slice_index (slice_set first_x (suc r) value) (suc r) ≡ value = put_is first_x r value room in
    second ∙ ap (λ a. (a + cast_unsigned w32 (low_half w)) % 2 ^ 32) first ∙ halves_make w hw

address_puts : (r w : ℕ) → suc r < 32 → w < 2 ^ 32 → IsOkAnd (address_words (suc r) w) (PutsNumber (suc r) w)
address_puts r w hr hw =
    ok_and (address_words (suc r) w) _ (PutsNumber (suc r) w) (address_is (suc r) w hr) (record {
      instrs = instr.Lui (suc r) (high_half w) ∷ instr.Imm Addi (suc r) (suc r) (low_half w) ∷ [];
      fit = All-cons Fits (instr.Lui (suc r) (high_half w)) (instr.Imm Addi (suc r) (suc r) (low_half w) ∷ []) (hr, high_small w) (one_fits (instr.Imm Addi (suc r) (suc r) (low_half w)) (hr, hr, low_short w));
      words_are = refl;
      puts = both_put r w hr hw;
    })

short_puts : (r w : ℕ) → suc r < 32 → w < 2 ^ 32 → is_short (cast_signed w32 w) ≡ true → IsOkAnd (fit_word (instr.Imm Addi (suc r) 0 (cast_signed w32 w)) >>= single) (PutsNumber (suc r) w)
short_puts r w hr hw short =
    let z = cast_signed w32 w in
    let fits = short_fits z short in
    let value : (0 + cast_unsigned w32 z) % 2 ^ 32 ≡ w = ap (λ n. (0 + n) % 2 ^ 32) (of_z-to_z w32 w hw) ∙ omega arith in
    ok_and _ _ (PutsNumber (suc r) w) (one_ok _ _ (fit_is (instr.Imm Addi (suc r) 0 z) (addi_fits (suc r) 0 z hr (lit< tt) fits))) (record {
      instrs = instr.Imm Addi (suc r) 0 z ∷ [];
      fit = one_fits (instr.Imm Addi (suc r) 0 z) (hr, lit< tt, fits);
      words_are = refl;
      puts = λ state len. put_is state.x r ((0 + cast_unsigned w32 z) % 2 ^ 32) (omega arith) ∙ value;
    })

high_puts : (r w : ℕ) → suc r < 32 → w < 2 ^ 32 → (w % 2 ^ 12 == 0) ≡ true → IsOkAnd (fit_word (instr.Lui (suc r) (high_half w)) >>= single) (PutsNumber (suc r) w)
high_puts r w hr hw none =
    ok_and _ _ (PutsNumber (suc r) w) (one_ok _ _ (fit_is (instr.Lui (suc r) (high_half w)) (lui_fits (suc r) w hr))) (record {
      instrs = instr.Lui (suc r) (high_half w) ∷ [];
      fit = one_fits (instr.Lui (suc r) (high_half w)) (hr, high_small w);
      words_are = refl;
      puts = λ state len. put_is state.x r (high_half w * 2 ^ 12) (omega arith) ∙ high_alone w hw none;
    })

number_puts : (r w : ℕ) → suc r < 32 → w < 2 ^ 32 → IsOkAnd (number_words (suc r) w) (PutsNumber (suc r) w)
unfolding number_words
number_puts r w hr hw =
    let P : List ℕ → Type 0 = PutsNumber (suc r) w in
    let short = fit_word (instr.Imm Addi (suc r) 0 (cast_signed w32 w)) >>= single in
    let high = fit_word (instr.Lui (suc r) (high_half w)) >>= single in
    let rest = cond (w % 2 ^ 12 == 0) high (address_words (suc r) w) in
    choose (is_short (cast_signed w32 w)) short rest P (short_puts r w hr hw) (λ _. choose (w % 2 ^ 12 == 0) high (address_words (suc r) w) P (high_puts r w hr hw) (λ _. address_puts r w hr hw))

pub numbers_put : NumbersArePut
numbers_put zero w some hr hw = absurd (omega arith)
numbers_put (suc r) w some hr hw = (number_puts r w hr hw, address_puts r w hr hw)
