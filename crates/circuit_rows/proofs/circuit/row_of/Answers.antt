-- a row has two words at least
use Rattle.std.proofs.Common.{◌≡◌, ◌<◌, ℕ, List, [], ◌∷◌, length, None, Bor, refl, arith}
use Rattle.std.proofs.lemmas.List.{length-map}
use Rattle.circuit_rows.specs.Circuits.{row_of}
use Rattle.circuit_rows.specs.Words.{shown}
use Rattle.circuit_rows.proofs.circuit.row_of.Goals as goal

row_few : (bits : List (List ℕ)) (line : ℕ) (words : List (List ℕ)) → length words < 2
    → None ≡ row_of bits line words
row_few bits line [] few = refl
row_few bits line (first ∷ []) few = refl
row_few bits line (first ∷ second ∷ more) few = absurd (omega (arith, few))

pub returns-in-len1 : goal.returns-in-len1
returns-in-len1 c =
    let size = length-map c.args.words.now (λ (p : Bor (List ℕ)). p.now) in
    row_few c.args.bits.now c.args.line (shown c.args.words.now) (omega (arith, size, c.in-len1.len_below))
