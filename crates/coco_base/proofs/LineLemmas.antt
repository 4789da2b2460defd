-- The first line of a file.
use Rattle.std.proofs.Common.{◌≡◌, ℕ, ◌+◌, ◌<◌, ◌≤◌, eqb, List, [], ◌∷◌, length, take, drop, cond, true, false, Bool, refl, ap, ◌∙◌, arith, not}
use Rattle.std.specs.List.{slice_split, position_or_len, onto_first}
use Rattle.std.specs.Str.Lines.{lines, lines_of_parts, strip_carriage_return}
use Rattle.std.proofs.lemmas.List.Splits.{slice_split_first, length-slice_split}
use Rattle.std.proofs.lemmas.Bool.Decides.{nat_tests}

abbrev is_feed : ℕ → Bool
is_feed b = eqb b 10

lines_of_parts-more : (x : List ℕ) (ys : List (List ℕ)) → 0 < length ys → lines_of_parts (x ∷ ys) ≡ strip_carriage_return x ∷ lines_of_parts ys
lines_of_parts-more x [] h = absurd (omega arith)
lines_of_parts-more x (y ∷ ys) h = refl

-- a line that ends
pub lines-fed : (bs : List ℕ) (end : ℕ) → end ≡ position_or_len is_feed bs → end < length bs → lines bs ≡ strip_carriage_return (take end bs) ∷ lines (drop (end + 1) bs)
lines-fed bs end e h =
    let first : slice_split is_feed bs ≡ take end bs ∷ slice_split is_feed (drop (end + 1) bs) = rw e (slice_split_first is_feed bs 0 (omega arith)) in
    let some : 0 < length (slice_split is_feed (drop (end + 1) bs)) = omega (arith, length-slice_split is_feed (drop (end + 1) bs)) in
    ap lines_of_parts first ∙ lines_of_parts-more (take end bs) _ some

uncut_cons : (p : ℕ → Bool) (b : ℕ) (bs : List ℕ) (t : Bool) → (length bs ≤ position_or_len p bs → slice_split p bs ≡ bs ∷ []) → length bs + 1 ≤ cond (not t) (1 + position_or_len p bs) 0 → cond t ([] ∷ slice_split p bs) (onto_first b (slice_split p bs)) ≡ (b ∷ bs) ∷ []
uncut_cons p b bs true onwards h = absurd (omega arith)
uncut_cons p b bs false onwards h = ap (onto_first b) (onwards (omega arith))

-- bytes with no place to cut are one part
pub slice_split-uncut : (p : ℕ → Bool) (bs : List ℕ) → length bs ≤ position_or_len p bs → slice_split p bs ≡ bs ∷ []
slice_split-uncut p [] e = refl
slice_split-uncut p (b ∷ bs) e = uncut_cons p b bs (p b) (slice_split-uncut p bs) (omega arith)

lone : (x : List ℕ) → 0 < length x → lines_of_parts (x ∷ []) ≡ x ∷ []
lone x h = grind (arith, nat_tests)

-- the last line, that does not end
pub lines-unfed : (bs : List ℕ) → length bs ≤ position_or_len is_feed bs → 0 < length bs → lines bs ≡ bs ∷ []
lines-unfed bs e h = ap lines_of_parts (slice_split-uncut is_feed bs e) ∙ lone bs h
