-- Words of expressions, one after the other, and offsets that are too far.
use Rattle.std.proofs.Common.{◌≡◌, ℕ, ◌-◌, ◌^◌, Bool, true, false, cond, List, ◌++◌, Result, Ok, Err, ℤ, pos, neg_ℤ, refl, arith}
use mir.Syntax.{w128}
use mir.Val.{SFits}
use Rattle.std.proofs.lemmas.Int.{fits_signed_from_abs, ints}
use Rattle.rv_asm.specs.declared.layout.cause.Cause.{Cause}
use Rattle.rv_asm.specs.declared.layout.cause.Cause.TheVariants.{Range}
use Rattle.rv_asm.specs.Causes.{◌>>=◌}
use Rattle.rv_asm.specs.Demands.{is_from, signed_word}

-- words that were found, and then more
abbrev pub onto : List ℕ → Result (List ℕ) Cause → Result (List ℕ) Cause
onto found more = more >>= λ ws. Ok (found ++ ws)

-- ---- offsets

when_within : (b : Bool) (z : ℤ) → (b ≡ true → SFits w128 z) → (SFits w128 z → ⊥) → cond b (Ok z) (Err Range) ≡ Err Range
when_within true z fits none = absurd (none (fits refl))
when_within false z fits none = refl

word_fits : (z : ℤ) → is_from (neg_ℤ (pos (2 ^ 31))) (pos (2 ^ 31 - 1)) z ≡ true → SFits w128 z
word_fits z h = fits_signed_from_abs w128 z (grind (arith, ints))

-- a number that no machine number of 128 bits is has no word
pub signed_word-none : (z : ℤ) → (SFits w128 z → ⊥) → signed_word z ≡ Err Range
signed_word-none z none = when_within (is_from (neg_ℤ (pos (2 ^ 31))) (pos (2 ^ 31 - 1)) z) z (word_fits z) none
