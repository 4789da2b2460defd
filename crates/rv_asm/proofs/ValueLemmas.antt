-- Halves of values, one after the other from the innermost.
use Rattle.std.proofs.Common.{◌≡◌, ℕ, ◌+◌, ◌-◌, ◌≤◌, List, [], ◌∷◌, ◌++◌, length, take, get_or, ℤ, refl, ap, sym, ◌∙◌, arith}
use Rattle.std.proofs.lemmas.List.{take_more}
use Rattle.std.proofs.Math.Seq.{take-length}
use Rattle.rv_asm.specs.declared.line.expression.Half.{Half}
use Rattle.rv_asm.specs.declared.line.expression.Half.TheVariants.{High}
use Rattle.rv_asm.specs.Values.{half_of, halves_of}

halves_of-more : (front : List Half) (half : Half) (z : ℤ) → halves_of (front ++ half ∷ []) z ≡ halves_of front (half_of half z)
halves_of-more [] half z = refl
halves_of-more (h ∷ front) half z = ap (half_of h) (halves_of-more front half z)

-- the innermost half is taken
pub halves_of-step : (outer : List Half) (z r whole : ℤ) → 1 ≤ length outer → r ≡ half_of (get_or outer (length outer - 1) High) z → halves_of outer z ≡ whole → halves_of (take (length outer - 1) outer) r ≡ whole
halves_of-step outer z r whole some is so_far =
    let n : ℕ = length outer - 1 in
    let all : length outer ≡ n + 1 = omega arith in
    let split : outer ≡ take n outer ++ get_or outer n High ∷ [] = sym (take-length outer) ∙ ap (λ k. take k outer) all ∙ take_more outer n High (omega arith) in
    ap (halves_of (take n outer)) is ∙ sym (halves_of-more (take n outer) (get_or outer n High) z) ∙ ap (λ hs. halves_of hs z) (sym split) ∙ so_far
