-- Lines of a head, one by one.
use Rattle.std.proofs.Common.{◌≡◌, ◌≢◌, ℕ, suc, ◌+◌, ◌<◌, ◌≤◌, ◌==◌, ◌++◌, Bool, true, false, not, nat_lt, cond, List, [], ◌∷◌, length, take, drop, position, inl, inr, Some, None, refl, sym, subst, ◌∙◌, ap, arith, append_assoc, length-append}
use Rattle.std.specs.List.{All, concat, position_or_len}
use Rattle.std.proofs.lemmas.Bool.Decides.{nat_tests}
use Rattle.std.proofs.lemmas.List.{append-nil, append_cancel_left, take_all}
use Rattle.std.proofs.lemmas.List.Elements.{All-cons, All-nil, All-push}
use Rattle.proof_file.specs.Heads.{IsFirstOther, IsLine, IsUnbroken, IsWholeLine}

-- ---- the first line feed

abbrev is_feed : ℕ → Bool
is_feed b = b == 10

abbrev feed : List ℕ → ℕ
feed xs = position_or_len is_feed xs

unbroken_cons : (x : ℕ) (xs : List ℕ) (t : Bool) → (x == 10) ≡ t → IsUnbroken (take (feed xs) xs) → IsUnbroken (take (cond (not t) (1 + feed xs) 0) (x ∷ xs))
unbroken_cons x xs true e h = All-nil (λ b. b ≢ 10)
unbroken_cons x xs false e h =
    let one : suc (feed xs) ≡ 1 + feed xs = omega arith in
    subst (λ n. IsUnbroken (take n (x ∷ xs))) one (All-cons (λ b. b ≢ 10) x (take (feed xs) xs) (λ same. absurd (grind (arith, nat_tests, e, same))) h)

unbroken_front : (xs : List ℕ) → IsUnbroken (take (feed xs) xs)
unbroken_front [] = All-nil (λ b. b ≢ 10)
unbroken_front (x ∷ xs) = unbroken_cons x xs (x == 10) refl (unbroken_front xs)

fed_cons : (x : ℕ) (xs : List ℕ) (t : Bool) → (x == 10) ≡ t → (feed xs < length xs → take (feed xs + 1) xs ≡ take (feed xs) xs ++ 10 ∷ []) → cond (not t) (1 + feed xs) 0 < length (x ∷ xs)
    → take (cond (not t) (1 + feed xs) 0 + 1) (x ∷ xs) ≡ take (cond (not t) (1 + feed xs) 0) (x ∷ xs) ++ 10 ∷ []
fed_cons x xs true e h within = ap (λ b. b ∷ []) (grind (arith, nat_tests, e))
fed_cons x xs false e h within =
    let one : suc (feed xs) ≡ 1 + feed xs = omega arith in
    let more : feed xs + 1 ≡ suc (feed xs) = omega arith in
    let from : take (suc (feed xs)) xs ≡ take (feed xs) xs ++ 10 ∷ [] = subst (λ n. take n xs ≡ take (feed xs) xs ++ 10 ∷ []) more (h (omega (arith, within))) in
    let two : suc (suc (feed xs)) ≡ 1 + feed xs + 1 = omega arith in
    subst (λ n. take n (x ∷ xs) ≡ take (1 + feed xs) (x ∷ xs) ++ 10 ∷ []) two
    (subst (λ n. take (suc (suc (feed xs))) (x ∷ xs) ≡ take n (x ∷ xs) ++ 10 ∷ []) one (ap (λ l. x ∷ l) from))

fed_front : (xs : List ℕ) → feed xs < length xs → take (feed xs + 1) xs ≡ take (feed xs) xs ++ 10 ∷ []
fed_front [] within = absurd (omega (arith, within))
fed_front (x ∷ xs) within = fed_cons x xs (x == 10) refl (fed_front xs) within

-- ---- the first line of a text

found : (text : List ℕ) (place : ℕ) (b : Bool) → nat_lt (feed text) (length text) ≡ b → cond b (Some (feed text)) None ≡ Some place → (feed text ≡ place) × (feed text < length text)
found text place true e h = (cc, grind (arith, nat_tests, e))
found text place false e h = absurd (cc)

pub fed_line : (text : List ℕ) (place : ℕ) → position (λ b. b == 10) text ≡ Some place → IsLine (take (place + 1) text) (drop (place + 1) text)
fed_line text place h =
    let f = found text place (nat_lt (feed text) (length text)) refl h in
    inl (record {
      content = take place text;
      unbroken = subst (λ n. IsUnbroken (take n text)) f.0 (unbroken_front text);
      fed = subst (λ n. take (n + 1) text ≡ take n text ++ 10 ∷ []) f.0 (fed_front text f.1);
    })

lost : (text : List ℕ) (b : Bool) → nat_lt (feed text) (length text) ≡ b → cond b (Some (feed text)) None ≡ None → length text ≤ feed text
lost text true e h = absurd (cc)
lost text false e h = grind (arith, nat_tests, e)

some_bytes : (text : List ℕ) → 0 < length text → text ≢ []
some_bytes [] h = absurd (omega (arith, h))
some_bytes (x ∷ xs) h = λ e. absurd (cc)

pub last_line : (text : List ℕ) → 0 < length text → position (λ b. b == 10) text ≡ None → IsLine text []
last_line text some h =
    let l = lost text (nat_lt (feed text) (length text)) refl h in
    inr (some_bytes text some, subst IsUnbroken (take_all (feed text) text l) (unbroken_front text), refl)

-- ---- line after line

concat_more : (xs : List (List ℕ)) (x : List ℕ) → concat (xs ++ x ∷ []) ≡ concat xs ++ x
concat_more [] x = append-nil x
concat_more (y ∷ xs) x = ap (λ l. y ++ l) (concat_more xs x) ∙ sym (append_assoc y (concat xs) x)

-- the file has the lines of the head before what is left of it
pub record Compared (head file left rest : List ℕ) (number : ℕ) : Type 0 where
  pub before : List (List ℕ)
  pub whole : 0 < length left → All IsWholeLine before
  pub head_is : head ≡ concat before ++ left
  pub file_is : file ≡ concat before ++ rest
  pub numbered : number ≡ length before + 1
  pub room : number + length rest ≤ length file + 1

pub none_compared : (head file : List ℕ) → Compared head file head file 1
none_compared head file = record {
  before = [];
  whole = λ _. All-nil IsWholeLine;
  head_is = refl;
  file_is = refl;
  numbered = refl;
  room = omega arith;
}

whole_line : (line later : List ℕ) → IsLine line later → 0 < length later → IsWholeLine line
whole_line line later (inl whole) some = whole
whole_line line later (inr last) some = absurd (some_bytes later some last.2)

pub line_compared : (head file left line later rest more : List ℕ) (number : ℕ) → 0 < length line → IsLine line later → left ≡ line ++ later → rest ≡ line ++ more
    → Compared head file left rest number → Compared head file later more (number + 1)
line_compared head file left line later rest more number some is_line split same c =
    let left_is = ap length split in
    let rest_is = ap length same in
    record {
      before = c.before ++ line ∷ [];
      whole = λ more_left. All-push IsWholeLine c.before line (c.whole (omega (arith, left_is, length-append line later, more_left))) (whole_line line later is_line more_left);
      head_is = c.head_is ∙ ap (λ l. concat c.before ++ l) split ∙ sym (append_assoc (concat c.before) line later) ∙ ap (λ l. l ++ later) (sym (concat_more c.before line));
      file_is = c.file_is ∙ ap (λ l. concat c.before ++ l) same ∙ sym (append_assoc (concat c.before) line more) ∙ ap (λ l. l ++ more) (sym (concat_more c.before line));
      numbered = omega (arith, c.numbered, length-append c.before (line ∷ []));
      room = omega (arith, c.room, rest_is, length-append line more, some);
    }

pub line_other : (head file left line later rest : List ℕ) (number : ℕ) → 0 < length left → IsLine line later → left ≡ line ++ later → ((more : List ℕ) → rest ≢ line ++ more)
    → Compared head file left rest number → IsFirstOther head file number
line_other head file left line later rest number some is_line split other c = record {
  before = c.before;
  line = line;
  later = later;
  whole = c.whole some;
  is_line = is_line;
  head_is = c.head_is ∙ ap (λ l. concat c.before ++ l) split;
  rest = rest;
  file_is = c.file_is;
  other = other;
  numbered = c.numbered;
}

-- a file with the head has no other line in it
pub none_other : (head file : List ℕ) (number : ℕ) → IsFirstOther head file number → (rest : List ℕ) → file ≡ head ++ rest → ⊥
none_other head file number o rest is =
    let begun : file ≡ concat o.before ++ (o.line ++ (o.later ++ rest)) = is ∙ ap (λ l. l ++ rest) o.head_is ∙ append_assoc (concat o.before) (o.line ++ o.later) rest ∙ ap (λ l. concat o.before ++ l) (append_assoc o.line o.later rest) in
    o.other (o.later ++ rest) (append_cancel_left (concat o.before) o.rest (o.line ++ (o.later ++ rest)) (sym o.file_is ∙ begun))

-- all lines are compared
pub all_compared : (head file left rest : List ℕ) (number : ℕ) → left ≡ [] → Compared head file left rest number → file ≡ head ++ rest
all_compared head file left rest number none c =
    let whole : head ≡ concat c.before = c.head_is ∙ ap (λ l. concat c.before ++ l) none ∙ append-nil (concat c.before) in
    c.file_is ∙ ap (λ l. l ++ rest) (sym whole)
