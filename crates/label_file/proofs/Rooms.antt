-- The labels of each name are among those that are declared, and these are no more than the limit.
use Rattle.std.proofs.Common.{◌≡◌, ◌+◌, ◌*◌, ◌≤◌, ℕ, Bool, true, false, ◌&&◌, List, [], ◌∷◌, ◌++◌, cond, nat_le, Option, Some, None, Result, Ok, Err, refl, subst, arith, if◌then◌else◌}
use Rattle.std.specs.Str.{bytes_eq}
use Rattle.std.proofs.lemmas.Bool.Decides.{nat_tests}
use Rattle.label_file.specs.declared.cause.Cause.{Cause}
use Rattle.label_file.specs.declared.cause.Cause.TheVariants.{BadLine, TooMany}
use Rattle.label_file.specs.declared.form.Form.{Form}
use Rattle.label_file.specs.declared.line.LabelLine.{LabelLine}
use Rattle.label_file.specs.declared.line.LabelLine.TheVariants as line
use Rattle.label_file.specs.declared.names.Meaning.{Meaning}
use Rattle.label_file.specs.declared.names.Meaning.TheVariants.{Secret, Mask, Fresh}
use Rattle.label_file.specs.declared.reading.Reading.{Reading}
use Rattle.label_file.specs.Causes.{◌>>=◌, holds_or, or_cause}
use Rattle.label_file.specs.Files.{after_form, after_line, after_words, line_words, stands}
use Rattle.label_file.specs.Forms.{form_of, operands_of}
use Rattle.label_file.specs.Names.{Table, meaning_of}
use Rattle.label_file.specs.Operands.{fits}
use Rattle.label_file.specs.Readings.{added, empty, indexed, labels_after, with_line}
use Rattle.label_file.specs.Statements.{line_of}
use Rattle.label_file.specs.Values.{HasRoom, HaveRoom}

-- ---- steps that gave something

pub record Came {A B : Type 0} (o : Result A Cause) (f : A → Result B Cause) (y : B) : Type 0 where
  pub from : A
  pub was : o ≡ Ok from
  pub gives : f from ≡ Ok y

pub came : {A B : Type 0} (o : Result A Cause) (f : A → Result B Cause) (y : B) → (o >>= f) ≡ Ok y → Came o f y
came (Ok x) f y h = record { from = x; was = refl; gives = h }
came (Err e) f y h = absurd (cc)

abbrev pub ok : {A : Type 0} → A → Result A Cause
ok x = Ok x

pub ok_same : {A : Type 0} (x y : A) → ok x ≡ ok y → x ≡ y
ok_same x y h = cc

-- ---- names

-- what a name has after one more is what it had, or the new meaning
pub meaning_more : (names : Table) (name : List ℕ) (m : Meaning) (q : List ℕ) (P : Option Meaning → Type 0)
    → P (meaning_of names q) → P (Some m) → P (meaning_of (names ++ (name, m) ∷ []) q)
meaning_more [] name m q P old new = elim (bytes_eq q name) as (λ b. P (cond b (Some m) None)) [ true ↦ new | false ↦ old ]
meaning_more (e ∷ es) name m q P old new =
    (elim (bytes_eq q e.0) as (λ b. P (cond b (Some e.1) (meaning_of es q)) → P (cond b (Some e.1) (meaning_of (es ++ (name, m) ∷ []) q))) [
      | true ↦ λ was. was
      | false ↦ λ was. meaning_more es name m q P was new
    ]) old

pub wider : (small large : ℕ) (m : Option Meaning) → small ≤ large → HasRoom small m → HasRoom large m
wider small large (Some (Secret first width shares)) h room = omega (arith, h, room)
wider small large (Some (Mask first width)) h room = omega (arith, h, room)
wider small large (Some Fresh) h room = tt
wider small large None h room = tt

-- ---- what the lines so far keep

pub record IsRoomy (limit : ℕ) (r : Reading) : Type 0 where
  pub names : (name : List ℕ) → HasRoom r.table.declared (meaning_of r.names name)
  pub few : r.table.declared ≤ limit

pub roomy_names : (limit : ℕ) (r : Reading) → limit ≤ 4096 → IsRoomy limit r → HaveRoom r.names
roomy_names limit r small roomy name =
    let few = roomy.few in
    wider r.table.declared 4096 (meaning_of r.names name) (omega (arith, few)) (roomy.names name)

pub roomy_empty : (limit : ℕ) → IsRoomy limit empty
roomy_empty limit = record { names = λ name. tt; few = omega arith }

pub record IsCount (limit declared more n : ℕ) : Type 0 where
  pub is : n ≡ declared + more
  pub few : n ≤ limit

count_is : (limit declared more n : ℕ) (fits : Bool) → fits ≡ nat_le (declared + more) limit
    → (if fits then Ok (declared + more) else Err (TooMany (declared + more) limit)) ≡ Ok n → IsCount limit declared more n
count_is limit declared more n true e h = let same = ok_same (declared + more) n h in record { is = omega (arith, same); few = grind (arith, nat_tests, e, same) }
count_is limit declared more n false e h = absurd (cc)

pub labels_after-is : (limit declared more n : ℕ) → labels_after limit declared more ≡ Ok n → IsCount limit declared more n
unfolding labels_after
labels_after-is limit declared more n h = count_is limit declared more n (nat_le (declared + more) limit) refl h

-- one name more, with labels behind all labels so far
named_more : (r : Reading) (n : ℕ) (name : List ℕ) (m : Meaning) → r.table.declared ≤ n → HasRoom n (Some m)
    → ((q : List ℕ) → HasRoom r.table.declared (meaning_of r.names q))
    → (q : List ℕ) → HasRoom n (meaning_of (r.names ++ (name, m) ∷ []) q)
named_more r n name m more new old q = meaning_more r.names name m q (HasRoom n) (wider r.table.declared n (meaning_of r.names q) more (old q)) new

indexed_roomy : (limit : ℕ) (r n : Reading) (l : LabelLine) → IsRoomy limit r → indexed limit r l ≡ Ok n → IsRoomy limit n
indexed_roomy limit r n (line.Secret name width shares) roomy h =
    let c = came (labels_after limit r.table.declared (shares * width)) _ n h in
    let count = labels_after-is limit r.table.declared (shares * width) c.from c.was in
    let is = count.is in
    subst (IsRoomy limit) (ok_same _ n c.gives) (record {
      names = named_more r c.from name (Secret r.table.declared width shares) (omega (arith, is)) (omega (arith, is)) roomy.names;
      few = count.few;
    })
indexed_roomy limit r n (line.Mask name width) roomy h =
    let c = came (labels_after limit r.table.declared width) _ n h in
    let count = labels_after-is limit r.table.declared width c.from c.was in
    let is = count.is in
    subst (IsRoomy limit) (ok_same _ n c.gives) (record {
      names = named_more r c.from name (Mask r.table.declared width) (omega (arith, is)) (omega (arith, is)) roomy.names;
      few = count.few;
    })
indexed_roomy limit r n (line.Fresh net name) roomy h = subst (IsRoomy limit) (ok_same _ n h) (record {
  names = named_more r r.table.declared name Fresh (omega arith) tt roomy.names;
  few = roomy.few;
})
indexed_roomy limit r n (line.Mem address value) roomy h = subst (IsRoomy limit) (ok_same _ n h) (record { names = roomy.names; few = roomy.few })
indexed_roomy limit r n (line.Leaf address) roomy h = subst (IsRoomy limit) (ok_same _ n h) (record { names = roomy.names; few = roomy.few })
indexed_roomy limit r n l roomy h = subst (IsRoomy limit) (ok_same r n h) roomy

pub added_roomy : (limit : ℕ) (r n : Reading) (l : LabelLine) → IsRoomy limit r → added limit r l ≡ Ok n → IsRoomy limit n
unfolding added
added_roomy limit r n l roomy h =
    let c = came (indexed limit r l) (λ next. Ok (with_line l next)) n h in
    let before = indexed_roomy limit r c.from l roomy c.was in
    subst (IsRoomy limit) (ok_same _ n c.gives) (record { names = before.names; few = before.few })

form_roomy : (limit : ℕ) (r n : Reading) (f : Form) (operands : List (List ℕ)) → IsRoomy limit r → after_form limit r f operands ≡ Ok n → IsRoomy limit n
unfolding after_form
form_roomy limit r n f operands roomy h =
    let g = came (holds_or BadLine (fits (operands_of f) operands && stands r.lines f)) _ n h in
    let l = came (line_of r f operands) (added limit r) n g.gives in
    added_roomy limit r n l.from roomy l.gives

words_roomy : (limit : ℕ) (r n : Reading) (ws : List (List ℕ)) → IsRoomy limit r → after_words limit r ws ≡ Ok n → IsRoomy limit n
unfolding after_words
words_roomy limit r n [] roomy h = subst (IsRoomy limit) (ok_same r n h) roomy
words_roomy limit r n (word ∷ operands) roomy h =
    let f = came (or_cause BadLine (form_of word)) (λ f. after_form limit r f operands) n h in
    form_roomy limit r n f.from operands roomy f.gives

-- a line more keeps it
pub line_roomy : (limit : ℕ) (r n : Reading) (bytes : List ℕ) → IsRoomy limit r → after_line limit r bytes ≡ Ok n → IsRoomy limit n
unfolding after_line
line_roomy limit r n bytes roomy h =
    let c = came (line_words bytes) (after_words limit r) n h in
    words_roomy limit r n c.from roomy c.gives
