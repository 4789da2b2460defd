-- Files and texts piece by piece.
use Rattle.std.proofs.Common.{◌≡◌, ◌+◌, ◌≤◌, ℕ, List, ◌++◌, length, take, drop, Option, Some, None, IfSome, refl, ap, arith, append_assoc, length-append}
use Rattle.std.proofs.Math.Seq.{take-add}
use Rattle.std.proofs.lemmas.List.{length-take-le}
use Rattle.coco_base.specs.Outside.{after}
use Rattle.coco_engine.specs.Files.{IsFront}

-- a piece that was read after the front of a file makes a longer front
pub front_more : (told : Option (List ℕ)) (bytes piece : List ℕ) (n : ℕ) → n ≤ length piece → IsFront told bytes → IfSome told (λ file. take n piece ≡ take n (drop (length bytes) file)) → IsFront told (bytes ++ take n piece)
front_more None bytes piece n within front read = tt
front_more (Some file) bytes piece n within front read =
    let size : length (bytes ++ take n piece) ≡ length bytes + n = omega (arith, length-append bytes (take n piece), length-take-le n piece within) in
    let split = take-add (length bytes) n file in
    cc

-- what a sink has after two pieces
pub after_more : (told : Option (List ℕ)) (a b : List ℕ) → after (after told a) b ≡ after told (a ++ b)
after_more None a b = refl
after_more (Some had) a b = ap Some (append_assoc had a b)
