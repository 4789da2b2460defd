-- What values, counts and addresses of a line keep.
use Rattle.std.proofs.Common.{◌≡◌, ◌⊎◌, inl, inr, ◌+◌, ◌*◌, ◌/◌, ◌%◌, ◌<◌, ◌≤◌, ℕ, Bool, true, false, ◌==◌, ◌&&◌, ◌||◌, List, nat_le, nat_lt, Option, Some, None, Result, Ok, Err, refl, subst, arith, if◌then◌else◌}
use Rattle.std.specs.Prelude.{All, ◌∷◌, [], drop, length}
use Rattle.std.specs.List.{list_any}
use Rattle.std.proofs.lemmas.List.Elements.{All-cons, All-nil}
use Rattle.std.proofs.lemmas.Bool.{and_parts, or_cases}
use Rattle.std.proofs.lemmas.Bool.Decides.{nat_tests}
use Rattle.coco_base.specs.declared.number.NumberFault.{NumberFault}
use Rattle.coco_base.specs.declared.number.NumberFault.TheVariants.{NotDigits, TooLarge}
use Rattle.coco_base.specs.Numbers.{are_digits, number_of, within}
use Rattle.coco_model.specs.Controls.{IsInRegion}
use Rattle.label_file.specs.declared.cause.Cause.{Cause}
use Rattle.label_file.specs.declared.cause.Cause.TheVariants.{ShareRange, UnknownSecret}
use Rattle.label_file.specs.declared.operand.Operand.TheVariants.{Net, Values}
use Rattle.label_file.specs.Operands.{fits}
use Rattle.label_file.specs.Causes.{◌>>=◌}
use Rattle.label_file.specs.declared.line.LabelValue.{LabelValue}
use Rattle.label_file.specs.declared.line.LabelValue.TheVariants.{Number, Bits}
use Rattle.label_file.specs.declared.names.Meaning.{Meaning}
use Rattle.label_file.specs.declared.names.Meaning.TheVariants.{Secret, Mask, Fresh}
use Rattle.label_file.specs.Conditions.{IsAddress, IsValue}
use Rattle.label_file.specs.LabelWords.{LabelWord, label_word}
use Rattle.label_file.specs.Names.{Table, meaning_of}
use Rattle.label_file.specs.Numbers.{below, count_of, from_one, greatest, index_of, is_word_address, number_on}
use Rattle.label_file.specs.Values.{is_unknown, values_in, values_of, HasRoom, bits_of, labels_of, labelled, mask_bits, mask_of, numbered, share_bits, share_of, value_of}
use Rattle.label_file.specs.Operands.{fits}
use Rattle.label_file.specs.declared.operand.Operand.TheVariants.{Net, Values}
use Rattle.label_file.proofs.Rooms.{came, ok_same}
use Rattle.label_file.proofs.Rows.{rows_within}

-- a value that a test lets through
pub passed : {A E : Type 0} (b : Bool) (x : A) (e : E) (y : A) → (if b then Ok x else Err e) ≡ Ok y → (b ≡ true) × (x ≡ y)
passed true x e y h = (refl, cc)
passed false x e y h = absurd (cc)

-- ---- counts and indexes

number_of-few : (most n : ℕ) (word : List ℕ) (b : Bool) (k : ℕ) → (if b then within most k else Err NotDigits) ≡ Ok n → n ≤ most
number_of-few most n word true k h = let p = passed (nat_le k most) k TooLarge n h in let t = p.0 in let e = p.1 in grind (arith, nat_tests, t, e)
number_of-few most n word false k h = absurd (cc)

pub record IsCounted (most n : ℕ) : Type 0 where
  pub some : 0 < n
  pub few : n ≤ most

counted : (most n : ℕ) (o : Result ℕ NumberFault) → ((k : ℕ) → o ≡ Ok k → k ≤ most) → from_one o ≡ Ok n → IsCounted most n
counted most n (Ok k) few h =
    let p = passed (nat_lt 0 k) k ShareRange n h in
    let t = p.0 in
    let e = p.1 in
    let f = few k refl in
    record { some = grind (arith, nat_tests, t, e); few = omega (arith, e, f) }
counted most n (Err fault) few h = absurd (cc)

pub count_of-is : (most n : ℕ) (word : List ℕ) → count_of most word ≡ Ok n → IsCounted most n
unfolding count_of
count_of-is most n word h = counted most n (number_of 10 most word) (λ k e. number_of-few most k word (are_digits 10 word) _ e) h

indexed-below : (bound n : ℕ) (o : Result ℕ NumberFault) → below bound o ≡ Ok n → n < bound
indexed-below bound n (Ok k) h = let p = passed (nat_lt k bound) k ShareRange n h in let t = p.0 in let e = p.1 in grind (arith, nat_tests, t, e)
indexed-below bound n (Err fault) h = absurd (cc)

index_of-below : (bound n : ℕ) (word : List ℕ) → index_of bound word ≡ Ok n → n < bound
unfolding index_of
index_of-below bound n word h = indexed-below bound n (number_of 10 greatest word) h

-- ---- labels

-- a name's widths are from 1 to 32
abbrev pub IsWide : Option Meaning → Type 0
IsWide (Some (Secret first width shares)) = IsCounted 32 width
IsWide (Some (Mask first width)) = IsCounted 32 width
IsWide (Some Fresh) = Unit {0}
IsWide None = Unit {0}

bits_of-is : (declared first width : ℕ) (bit : Option (List ℕ)) (v : LabelValue) → IsCounted 32 width → first + width ≤ declared
    → bits_of first width bit ≡ Ok v → IsValue declared v
unfolding bits_of
bits_of-is declared first width None v wide room h =
    subst (IsValue declared) (ok_same (Bits first width) v h) (record { some = wide.some; few = wide.few; below = room })
bits_of-is declared first width (Some digits) v wide room h =
    let c = came (index_of width digits) (λ k. Ok (Bits (first + k) 1)) v h in
    let k = index_of-below width c.from digits c.was in
    subst (IsValue declared) (ok_same (Bits (first + c.from) 1) v c.gives) (record { some = omega arith; few = omega arith; below = omega (arith, room, k) })

share_bits-is : (declared first width shares : ℕ) (share bit : Option (List ℕ)) (v : LabelValue) → IsCounted 32 width
    → first + shares * width ≤ declared → share_bits first width shares share bit ≡ Ok v → IsValue declared v
share_bits-is declared first width shares None bit v wide room h = absurd (cc)
share_bits-is declared first width shares (Some digits) bit v wide room h =
    let c = came (index_of shares digits) (λ i. bits_of (first + i * width) width bit) v h in
    let i = index_of-below shares c.from digits c.was in
    let row = rows_within c.from width shares i in
    bits_of-is declared (first + c.from * width) width bit v wide (omega (arith, room, row)) c.gives

mask_bits-is : (declared first width : ℕ) (share bit : Option (List ℕ)) (v : LabelValue) → IsCounted 32 width
    → first + width ≤ declared → mask_bits first width share bit ≡ Ok v → IsValue declared v
mask_bits-is declared first width None bit v wide room h = bits_of-is declared first width bit v wide room h
mask_bits-is declared first width (Some digits) bit v wide room h = absurd (cc)

labels_of-is : (declared : ℕ) (m : Option Meaning) (w : LabelWord) (v : LabelValue) → IsWide m → HasRoom declared m
    → labels_of m w ≡ Ok v → IsValue declared v
unfolding share_of mask_of
labels_of-is declared (Some (Secret first width shares)) w v wide room h = share_bits-is declared first width shares w.share w.bit v wide room h
labels_of-is declared (Some (Mask first width)) w v wide room h = mask_bits-is declared first width w.share w.bit v wide room h
labels_of-is declared (Some Fresh) w v wide room h = absurd (cc)
labels_of-is declared None w v wide room h = absurd (cc)

-- the names of a table have widths from 1 to 32, and labels that are declared
pub record AreNames (declared : ℕ) (names : Table) : Type 0 where
  pub wide : (name : List ℕ) → IsWide (meaning_of names name)
  pub room : (name : List ℕ) → HasRoom declared (meaning_of names name)

labelled-is : (declared : ℕ) (names : Table) (o : Option LabelWord) (v : LabelValue) → AreNames declared names → labelled names o ≡ Ok v → IsValue declared v
labelled-is declared names None v are h = absurd (cc)
labelled-is declared names (Some w) v are h = labels_of-is declared (meaning_of names w.name) w v (are.wide w.name) (are.room w.name) h

numbered-is : (declared : ℕ) (names : Table) (word : List ℕ) (o : Option ℕ) (v : LabelValue) → AreNames declared names → numbered names word o ≡ Ok v → IsValue declared v
numbered-is declared names word (Some n) v are h = subst (IsValue declared) (ok_same (Number n) v h) tt
numbered-is declared names word None v are h = labelled-is declared names (label_word word) v are h

pub value_of-is : (declared : ℕ) (names : Table) (word : List ℕ) (v : LabelValue) → AreNames declared names → value_of names word ≡ Ok v → IsValue declared v
unfolding value_of
value_of-is declared names word v are h = numbered-is declared names word (number_on word) v are h

-- ---- values of an input

pub record HaveValues (declared : ℕ) (words : List (List ℕ)) (values : List LabelValue) : Type 0 where
  pub each : All (IsValue declared) values
  pub long : length values ≡ length words

values_in-are : (declared : ℕ) (names : Table) (words : List (List ℕ)) (vs : List LabelValue) → AreNames declared names → values_in names words ≡ Ok vs
    → HaveValues declared words vs
values_in-are declared names [] vs are h =
    subst (HaveValues declared []) (ok_same [] vs h) (record { each = All-nil (IsValue declared); long = refl })
values_in-are declared names (word ∷ words) vs are h =
    let a = came (value_of names word) (λ v. values_in names words >>= λ us. Ok (v ∷ us)) vs h in
    let b = came (values_in names words) (λ us. Ok (a.from ∷ us)) vs a.gives in
    let rest = values_in-are declared names words b.from are b.was in
    subst (HaveValues declared (word ∷ words)) (ok_same (a.from ∷ b.from) vs b.gives) (record {
      each = All-cons (IsValue declared) a.from b.from (value_of-is declared names word a.from are a.was) rest.each;
      long = let l = rest.long in omega arith;
    })

known : (t : Bool) (o : Result (List LabelValue) Cause) (vs : List LabelValue) → (if t then Err UnknownSecret else o) ≡ Ok vs → o ≡ Ok vs
known true o vs h = absurd (cc)
known false o vs h = h

pub values_of-are : (declared : ℕ) (names : Table) (words : List (List ℕ)) (vs : List LabelValue) → AreNames declared names → values_of names words ≡ Ok vs
    → HaveValues declared words vs
unfolding values_of
values_of-are declared names words vs are h =
    values_in-are declared names words vs are (known (list_any (is_unknown names) words) (values_in names words) vs h)

pub some_values : (words : List (List ℕ)) → fits (Net ∷ Values ∷ []) words ≡ true → 0 < length (drop 1 words)
some_values [] h = absurd (cc)
some_values (net ∷ []) h = absurd (cc)
some_values (net ∷ value ∷ values) h = omega arith

-- ---- addresses

word_aligned : (n : ℕ) → n % 4 ≡ 0 → n ≡ 4 * (n / 4)
word_aligned n e = omega (arith, e)

in_region : (n : ℕ) → (nat_lt n 0x4000 || (nat_le 0x10000 n && nat_lt n 0x11000)) ≡ true → IsInRegion n
in_region n h = go (or_cases (nat_lt n 0x4000) (nat_le 0x10000 n && nat_lt n 0x11000) h)
  where
    go : (nat_lt n 0x4000 ≡ true) ⊎ ((nat_le 0x10000 n && nat_lt n 0x11000) ≡ true) → IsInRegion n
    go (inl t) = inl (grind (arith, nat_tests, t))
    go (inr t) =
        let p = and_parts (nat_le 0x10000 n) (nat_lt n 0x11000) t in
        let a = p.0 in
        let b = p.1 in
        inr (grind (arith, nat_tests, a), grind (arith, nat_tests, b))

pub word_address-is : (n : ℕ) → is_word_address n ≡ true → IsAddress n
word_address-is n h =
    let p = and_parts (n % 4 == 0) (nat_lt n 0x4000 || (nat_le 0x10000 n && nat_lt n 0x11000)) h in
    let e = p.0 in
    let zero : n % 4 ≡ 0 = grind (arith, nat_tests, e) in
    record { word = n / 4; aligned = word_aligned n zero; inside = in_region n p.1 }
