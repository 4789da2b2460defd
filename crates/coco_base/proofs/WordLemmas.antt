-- The words of a line, taken off one by one.
use Rattle.std.proofs.Common.{◌≡◌, ℕ, ◌+◌, ◌<◌, ◌≤◌, List, [], ◌∷◌, length, take, drop, get_or, true, refl, ap, sym, ◌∙◌, arith}
use Rattle.std.specs.List.{filter, slice_split, position_or_len, prefix_len}
use Rattle.std.specs.Str.{IsUtf8, IsCharBoundary}
use Rattle.std.proofs.Math.Seq.{drop-cons}
use Rattle.std.proofs.Math.Numerals.{add-one}
use Rattle.std.proofs.lemmas.List.{length-take}
use Rattle.std.proofs.lemmas.List.Splits.{slice_split_first, slice_split-cons_yes}
use Rattle.std.proofs.lemmas.List.Sums.{passes_at_first}
use Rattle.std.proofs.lemmas.Str.{IsCharBoundary-before_ascii, IsCharBoundary-after_ascii}
use Rattle.std.proofs.lemmas.Bool.Decides.{nat_tests}
use Rattle.coco_base.specs.Texts.{has_bytes, is_blank, words}
use Rattle.coco_base.proofs.LineLemmas.{slice_split-uncut}

-- a blank at the front is of no word
pub words-blank : (b : ℕ) (bs line : List ℕ) → line ≡ b ∷ bs → is_blank b ≡ true → words line ≡ words bs
words-blank b bs line split e = ap words split ∙ ap (filter has_bytes) (slice_split-cons_yes is_blank b bs e)

is_blank-ascii : (b : ℕ) → is_blank b ≡ true → b < 128
is_blank-ascii b e = grind (arith, nat_tests)

-- a text may be cut behind a blank at the front
pub boundary-past : (line : List ℕ) → IsUtf8 line → 0 < length line → is_blank (get_or line 0 0) ≡ true → IsCharBoundary line 1
boundary-past line text some e = IsCharBoundary-after_ascii line 0 text some (is_blank-ascii (get_or line 0 0) e)

blank-at : (line : List ℕ) (end : ℕ) → end ≡ position_or_len is_blank line → end < length line → is_blank (get_or line end 0) ≡ true
blank-at line end e h = rw e (passes_at_first is_blank line 0 (omega arith))

-- and before a blank
pub boundary-blank : (line : List ℕ) (end : ℕ) → end ≡ position_or_len is_blank line → end < length line → IsCharBoundary line end
boundary-blank line end e h = IsCharBoundary-before_ascii line end h (is_blank-ascii (get_or line end 0) (blank-at line end e h))

has_bytes-some : (bs : List ℕ) → 0 < length bs → has_bytes bs ≡ true
has_bytes-some [] h = absurd (omega arith)
has_bytes-some (b ∷ bs) h = refl

kept : (first : List ℕ) (parts : List (List ℕ)) → has_bytes first ≡ true → filter has_bytes (first ∷ parts) ≡ first ∷ filter has_bytes parts
kept first parts e = rw e refl

-- no blank stands at the front, so the first blank is not there
pub blank-later : (line : List ℕ) → 0 < length line → prefix_len is_blank line ≡ 0 → 0 < position_or_len is_blank line
blank-later [] some front = absurd (omega arith)
blank-later (b ∷ bs) some front = grind (arith, nat_tests)

-- a word that a blank ends
pub words-ended : (line : List ℕ) (end : ℕ) → prefix_len is_blank line ≡ 0 → end ≡ position_or_len is_blank line → end < length line → words line ≡ take end line ∷ words (drop end line)
words-ended line end front e h =
    let cut : slice_split is_blank line ≡ take end line ∷ slice_split is_blank (drop (end + 1) line) = rw e (slice_split_first is_blank line 0 (omega arith)) in
    let later : 0 < end = let l = blank-later line (omega arith) front in omega arith in
    let some : has_bytes (take end line) ≡ true = has_bytes-some (take end line) (simp length-take (omega arith)) in
    let after : words (drop end line) ≡ words (drop (end + 1) line) = words-blank (get_or line end 0) (drop (end + 1) line) (drop end line) (rw add-one (drop-cons line end 0 h)) (blank-at line end e h) in
    ap (filter has_bytes) cut ∙ kept (take end line) (slice_split is_blank (drop (end + 1) line)) some ∙ ap (λ ws. take end line ∷ ws) (sym after)

-- a word that the line ends
pub words-last : (line : List ℕ) → 0 < length line → length line ≤ position_or_len is_blank line → words line ≡ line ∷ []
words-last line some none = ap (filter has_bytes) (slice_split-uncut is_blank line none) ∙ kept line [] (has_bytes-some line some)
