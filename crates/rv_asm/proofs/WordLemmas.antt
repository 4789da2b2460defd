-- Words of lines, one line after the other.
use Rattle.std.proofs.Common.{◌≡◌, ℕ, ◌+◌, List, [], ◌∷◌, ◌++◌, length, map, min, refl, ap, sym, subst, ◌∙◌, arith, append_assoc, append-nil, length-append}
use Rattle.std.specs.List.{All}
use Rattle.std.proofs.lemmas.Grind.{common_steps}
use Rattle.std.proofs.lemmas.List.{length-map}
use Rattle.std.proofs.lemmas.List.Elements.{All-push}
use Rattle.rv_asm.specs.declared.image.Image.{Image}
use Rattle.rv_asm.specs.declared.fault.AsmFault.{AsmFault}
use Rattle.rv_asm.specs.declared.fault.AsmFault.TheVariants.{BadLine, Range, UnknownName, Twice, Memory}
use Rattle.rv_asm.specs.Lines.{last_line, number_after}
use Rattle.rv_asm.specs.Regions.{IsWithinRegions}
use Rattle.rv_asm.specs.WordFile.{HasWords, IsLineFault, IsRight, IsWordFault, places_from, TakesLine, word_line, words_of, words_on}

-- the lines before the rest are right, the image has their words, and n is the number of the last of them
pub record IsReading (all rest : List (List ℕ)) (image : Image) (n : ℕ) : Type 0 where
  pub before : List (List ℕ)
  pub whole : all ≡ before ++ rest
  pub number : n ≡ min (length before) last_line
  pub has : HasWords before image

words_of-append : (xs : List (List ℕ)) (line : List ℕ) → words_of (xs ++ line ∷ []) ≡ words_of xs ++ words_on line
words_of-append [] line = grind (arith, common_steps)
words_of-append (x ∷ xs) line = ap (λ w. words_on x ++ w) (words_of-append xs line) ∙ sym (append_assoc (words_on x) (words_of xs) (words_on line))

places_from-append : (n : ℕ) (xs : List (List ℕ)) (line : List ℕ) → places_from n (xs ++ line ∷ []) ≡ places_from n xs ++ map (λ _. number_after (n + length xs)) (words_on line)
places_from-append n [] line = grind (arith, common_steps)
places_from-append n (x ∷ xs) line =
    let more : places_from (n + 1) (xs ++ line ∷ []) ≡ places_from (n + 1) xs ++ map (λ _. number_after (n + 1 + length xs)) (words_on line) = places_from-append (n + 1) xs line in
    let same : n + 1 + length xs ≡ n + length (x ∷ xs) = omega arith in
    let there : places_from (n + 1) (xs ++ line ∷ []) ≡ places_from (n + 1) xs ++ map (λ _. number_after (n + length (x ∷ xs))) (words_on line) = rw same at more in
    ap (λ w. map (λ _. number_after n) (words_on x) ++ w) there ∙ sym (append_assoc (map (λ _. number_after n) (words_on x)) (places_from (n + 1) xs) (map (λ _. number_after (n + length (x ∷ xs))) (words_on line)))

All-one_more : (xs : List (List ℕ)) (line : List ℕ) → All (λ l. IsRight (word_line l)) xs → IsRight (word_line line) → All (λ l. IsRight (word_line l)) (xs ++ line ∷ [])
All-one_more xs line all one = All-push (λ l. IsRight (word_line l)) xs line all one

pub reading_starts : (all : List (List ℕ)) (image : Image) → image.text ≡ [] → image.values ≡ [] → image.lines ≡ [] → IsReading all all image 0
reading_starts all image t v l = record {
  before = [];
  whole = refl;
  number = omega arith;
  has = record { right = record { forms = grind (arith, common_steps); room = omega arith }; text = t; lines = l; values = v };
}

pub reading_goes_on : (all rest : List (List ℕ)) (line : List ℕ) (old new : Image) (n m : ℕ) → IsReading all (line ∷ rest) old n → m ≡ min (n + 1) last_line → TakesLine old new line m → IsReading all rest new m
reading_goes_on all rest line old new n m r e t =
    let text : new.text ≡ words_of (r.before ++ line ∷ []) = t.text ∙ ap (λ w. w ++ words_on line) r.has.text ∙ sym (words_of-append r.before line) in
    let number : m ≡ number_after (0 + length r.before) = omega (arith, r.number) in
    let lines : new.lines ≡ places_from 0 (r.before ++ line ∷ []) = t.lines ∙ ap (λ w. w ++ map (λ _. m) (words_on line)) r.has.lines ∙ ap (λ k. places_from 0 r.before ++ map (λ _. k) (words_on line)) number ∙ sym (places_from-append 0 r.before line) in
    record {
      before = r.before ++ line ∷ [];
      whole = r.whole ∙ sym (append_assoc r.before (line ∷ []) rest);
      number = omega (arith, length-append r.before (line ∷ []));
      has = record {
        right = record { forms = All-one_more r.before line r.has.right.forms t.right; room = omega (arith, t.room (omega (arith, r.has.right.room, ap length r.has.text)), ap length text) };
        text = text;
        lines = lines;
        values = t.values ∙ r.has.values;
      };
    }

pub reading_ends : (all : List (List ℕ)) (image : Image) (n : ℕ) → IsReading all [] image n → HasWords all image
reading_ends all image n r = let whole : r.before ≡ all = sym (r.whole ∙ append-nil r.before) in subst (λ (ls : List (List ℕ)). HasWords ls image) whole r.has

pub reading_fails : (all rest : List (List ℕ)) (line : List ℕ) (image : Image) (n m : ℕ) (fault : AsmFault) → IsReading all (line ∷ rest) image n → m ≡ min (n + 1) last_line → IsLineFault image line m fault → IsWordFault all fault
reading_fails all rest line image n m (BadLine k) r e f = record { before = r.before; line = line; after = rest; whole = r.whole; number = omega (arith, r.number); right = r.has.right; fails = f.1 }
reading_fails all rest line image n m (Range k) r e f = record { before = r.before; line = line; after = rest; whole = r.whole; number = omega (arith, r.number); right = r.has.right; fails = (omega (arith, r.has.right.room, ap length r.has.text), f.2) }
reading_fails all rest line image n m (UnknownName k) r e f = f
reading_fails all rest line image n m (Twice k) r e f = f
reading_fails all rest line image n m Memory r e f = tt

-- each word has its line
places_as_long : (n : ℕ) (ls : List (List ℕ)) → length (places_from n ls) ≡ length (words_of ls)
places_as_long n [] = refl
places_as_long n (line ∷ more) =
    length-append (map (λ _. number_after n) (words_on line)) (places_from (n + 1) more)
    ∙ ap (λ k. k + length (places_from (n + 1) more)) (length-map (words_on line) (λ _. number_after n))
    ∙ ap (λ k. length (words_on line) + k) (places_as_long (n + 1) more)
    ∙ sym (length-append (words_on line) (words_of more))

pub words_have_room : (ls : List (List ℕ)) (image : Image) → HasWords ls image → IsWithinRegions image
words_have_room ls image has = record {
  text = let e = ap length has.text in let r = has.right.room in omega arith;
  lines = ap length has.lines ∙ places_as_long 0 ls ∙ sym (ap length has.text);
  values = let e = ap length has.values in omega arith;
}
