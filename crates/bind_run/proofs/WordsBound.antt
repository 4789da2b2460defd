-- The memory words of a setup: each has 32 bits and an address of its own, and their values are numbers or those of lines.
use Rattle.std.proofs.Common.{◌≡◌, ℕ, zero, suc, ◌+◌, ◌*◌, ◌<◌, ◌≤◌, ◌⊎◌, inl, inr, Bool, true, false, cond, List, [], ◌∷◌, map, length, refl, sym, ◌∙◌, ap, subst, nat_eq, arith}
use Rattle.std.specs.Prelude.{Contains, flat_map, slice_get, Option, Some, None}
use Rattle.std.specs.List.{range_with_len}
use Rattle.std.proofs.lemmas.Bool.{eqb-true}
use Rattle.std.proofs.lemmas.List.{length-map, map-append}
use Rattle.std.proofs.lemmas.List.Elements.{Contains-append_cases}
use Rattle.std.proofs.lemmas.List.FromFn.{length-range_with_len}
use Rattle.coco_base.specs.declared.setup.Start.{Start}
use Rattle.coco_base.specs.declared.setup.WordPlan.{WordPlan}
use Rattle.coco_model.specs.Netlist.{HasNoRepeat}
use Rattle.coco_model.specs.Setups.{IsMemoryWord, IsWordAddress}
use Rattle.coco_model.proofs.Basics.{Contains-here, Contains-later, Contains-cases, Contains-none}
use Rattle.model_laws.proofs.Apart.{no_repeat-append}
use Rattle.model_laws.proofs.Lists.{image_of_map, joined_of_flat_map}
use Rattle.label_file.specs.declared.line.LabelLine.{LabelLine}
use Rattle.label_file.specs.declared.line.LabelLine.TheVariants as line
use Rattle.label_file.specs.declared.line.LabelValue.{LabelValue}
use Rattle.label_file.specs.declared.line.LabelValue.TheVariants.{Number}
use Rattle.rv_asm.specs.declared.image.Image.{Image}
use Rattle.bind_run.specs.Values.{value_start, word_bits}
use Rattle.bind_run.proofs.Ranges.{range_place}
use Rattle.bind_run.specs.WordPlans.{data_start, data_words, first_of, image_value, line_value, mem_value, number_value, plans_of, region_plans, text_words, words_of}

-- ---- values

line_is : (address : ℕ) (l : LabelLine) (v : LabelValue) → line_value address l ≡ Some v → l ≡ line.Mem address v
line_is address (line.Mem a value) v h = go (nat_eq address a) refl h
  where
    go : (t : Bool) → nat_eq address a ≡ t → cond t (Some value) None ≡ Some v → line.Mem a value ≡ line.Mem address v
    go true e f =
        let same : value ≡ v = cc in
        ap (λ n. line.Mem n value) (sym (eqb-true address a e)) ∙ ap (line.Mem address) same
    go false e f = absurd cc
line_is address l v h = absurd cc

pub mem_listed : (address : ℕ) (ls : List LabelLine) (v : LabelValue) → mem_value address ls ≡ Some v → Contains ls (line.Mem address v)
mem_listed address [] v e = absurd cc
mem_listed address (l ∷ ls) v e = go (line_value address l) refl (mem_listed address ls v)
  where
    go : (o : Option LabelValue) → line_value address l ≡ o → (mem_value address ls ≡ Some v → Contains ls (line.Mem address v))
        → Contains (l ∷ ls) (line.Mem address v)
    go (Some u) h rest =
        let f : first_of (Some u) (mem_value address ls) ≡ Some v = sym (ap (λ o. first_of o (mem_value address ls)) h) ∙ e in
        let same : u ≡ v = cc in
        subst (λ w. Contains (l ∷ ls) (line.Mem address w)) same (subst (Contains (l ∷ ls)) (line_is address l u h) (Contains-here l ls))
    go None h rest = Contains-later l (line.Mem address v) ls (rest (sym (ap (λ o. first_of o (mem_value address ls)) h) ∙ e))

-- a number, or the value of a `mem` line
abbrev pub IsGiven : List LabelLine → LabelValue → Type 0
IsGiven lines v = ((n : ℕ) × (v ≡ Number n)) ⊎ ((a : ℕ) × Contains lines (line.Mem a v))

number_is : (o : Option ℕ) (v : LabelValue) → number_value o ≡ Some v → (n : ℕ) × (v ≡ Number n)
number_is None v e = absurd cc
number_is (Some n) v e = (n, (let same : Number n ≡ v = cc in sym same))

first_cases : (o p : Option LabelValue) (v : LabelValue) → first_of o p ≡ Some v → (o ≡ Some v) ⊎ (p ≡ Some v)
first_cases (Some u) p v e = inl e
first_cases None p v e = inr e

given_is : (address : ℕ) (words : List ℕ) (k : ℕ) (fill : Option LabelValue) (lines : List LabelLine)
    → ((v : LabelValue) → fill ≡ Some v → (n : ℕ) × (v ≡ Number n)) → (v : LabelValue)
    → first_of (first_of (mem_value address lines) (image_value words k)) fill ≡ Some v → IsGiven lines v
given_is address words k fill lines fills v e =
    outer (first_cases (first_of (mem_value address lines) (image_value words k)) fill v e)
  where
    inner : (mem_value address lines ≡ Some v) ⊎ (image_value words k ≡ Some v) → IsGiven lines v
    inner (inl f) = inr (address, mem_listed address lines v f)
    inner (inr f) = inl (number_is (slice_get words k) v f)

    outer : (first_of (mem_value address lines) (image_value words k) ≡ Some v) ⊎ (fill ≡ Some v) → IsGiven lines v
    outer (inl f) = inner (first_cases (mem_value address lines) (image_value words k) v f)
    outer (inr f) = inl (fills v f)

-- ---- plans

-- the plan of a word at an address
pub record IsPlan (lines : List LabelLine) (address : ℕ) (w : WordPlan) : Type 0 where
  pub at : w.address ≡ address
  pub value : LabelValue
  pub bits : w.bits ≡ word_bits value
  pub given : IsGiven lines value

plan_is : (lines : List LabelLine) (address : ℕ) (o : Option LabelValue) (w : WordPlan) → ((v : LabelValue) → o ≡ Some v → IsGiven lines v)
    → Contains (plans_of address o) w → IsPlan lines address w
plan_is lines address None w given h = absurd (Contains-none w h)
plan_is lines address (Some v) w given h = go (Contains-cases _ w [] h)
  where
    plan : WordPlan
    plan = record { address = address; bits = word_bits v }

    go : (plan ≡ w) ⊎ Contains [] w → IsPlan lines address w
    go (inl e) = subst (IsPlan lines address) e (record { at = refl; value = v; bits = refl; given = given v refl })
    go (inr n) = absurd (Contains-none w n)

record IsRegionPlan (lines : List LabelLine) (start low high : ℕ) (w : WordPlan) : Type 0 where
  place : ℕ
  above : low ≤ place
  below : place < high
  plan : IsPlan lines (start + 4 * place) w

region_plan : (start : ℕ) (words : List ℕ) (fill : Option LabelValue) (lines : List LabelLine)
    → ((v : LabelValue) → fill ≡ Some v → (n : ℕ) × (v ≡ Number n)) → (a n : ℕ) (w : WordPlan)
    → Contains (flat_map (region_plans start words fill lines) (range_with_len a n)) w → IsRegionPlan lines start a (a + n) w
region_plan start words fill lines fills a n w h =
    let j = joined_of_flat_map (region_plans start words fill lines) (range_with_len a n) w h in
    let r = range_place a n j.source j.listed in
    record {
      place = j.source;
      above = r.0;
      below = r.1;
      plan = plan_is lines (start + 4 * j.source) _ w (given_is (start + 4 * j.source) words j.source fill lines fills) j.member;
    }

abbrev addresses : List WordPlan → List ℕ
addresses ws = map (λ (w : WordPlan). w.address) ws

one_plan : (address : ℕ) (o : Option LabelValue) → HasNoRepeat (addresses (plans_of address o))
one_plan address None = tt
one_plan address (Some v) = ((λ h. Contains-none address h), tt)

region_apart : (start : ℕ) (words : List ℕ) (fill : Option LabelValue) (lines : List LabelLine)
    → ((v : LabelValue) → fill ≡ Some v → (n : ℕ) × (v ≡ Number n)) → (a n : ℕ)
    → HasNoRepeat (addresses (flat_map (region_plans start words fill lines) (range_with_len a n)))
region_apart start words fill lines fills a zero = tt
region_apart start words fill lines fills a (suc n) =
    subst HasNoRepeat (sym (map-append (λ (w : WordPlan). w.address) (region_plans start words fill lines a) (flat_map (region_plans start words fill lines) (range_with_len (a + 1) n))))
    (no_repeat-append (addresses (region_plans start words fill lines a)) (addresses (flat_map (region_plans start words fill lines) (range_with_len (a + 1) n))) (record {
      left = one_plan (start + 4 * a) _;
      right = region_apart start words fill lines fills (a + 1) n;
      apart = λ x i j.
          let m = image_of_map (λ (w : WordPlan). w.address) (region_plans start words fill lines a) x i in
          let p = plan_is lines (start + 4 * a) _ m.source (given_is (start + 4 * a) words a fill lines fills) m.listed in
          let o = image_of_map (λ (w : WordPlan). w.address) (flat_map (region_plans start words fill lines) (range_with_len (a + 1) n)) x j in
          let q = region_plan start words fill lines fills (a + 1) n o.source o.listed in
          let e = m.image in let f = p.at in let g = o.image in let h = q.plan.at in let b = q.above in
          omega (arith, e, f, g, h, b);
    }))

no_fill : (v : LabelValue) → None ≡ Some v → (n : ℕ) × (v ≡ Number n)
no_fill v e = absurd cc

zero_fill : (v : LabelValue) → Some (Number 0) ≡ Some v → (n : ℕ) × (v ≡ Number n)
zero_fill v e = (0, (let same : Number 0 ≡ v = cc in sym same))

abbrev text_plans : Image → List LabelLine → List WordPlan
text_plans image lines = flat_map (region_plans 0 image.text None lines) (range_with_len 0 text_words)

abbrev data_plans : Image → List LabelLine → List WordPlan
data_plans image lines = flat_map (region_plans data_start image.values (Some (Number 0)) lines) (range_with_len 0 data_words)

text_plan : (image : Image) (lines : List LabelLine) (w : WordPlan) → Contains (text_plans image lines) w → IsRegionPlan lines 0 0 (0 + text_words) w
text_plan image lines w h = region_plan 0 image.text None lines no_fill 0 text_words w h

data_plan : (image : Image) (lines : List LabelLine) (w : WordPlan) → Contains (data_plans image lines) w
    → IsRegionPlan lines data_start 0 (0 + data_words) w
data_plan image lines w h = region_plan data_start image.values (Some (Number 0)) lines zero_fill 0 data_words w h

-- what a word of the setup is
pub record IsWordOf (lines : List LabelLine) (w : WordPlan) : Type 0 where
  pub address : IsWordAddress w.address
  pub plan : IsPlan lines w.address w

text_word : (lines : List LabelLine) (w : WordPlan) → IsRegionPlan lines 0 0 (0 + text_words) w → IsWordOf lines w
unfolding text_words
text_word lines w p =
    let e = p.plan.at in
    let b = p.below in
    record {
      address = record { word = p.place; aligned = omega (arith, e); inside = inl (omega (arith, e, b)) };
      plan = subst (λ a. IsPlan lines a w) (sym e) p.plan;
    }

data_word : (lines : List LabelLine) (w : WordPlan) → IsRegionPlan lines data_start 0 (0 + data_words) w → IsWordOf lines w
unfolding data_start data_words
data_word lines w p =
    let e = p.plan.at in
    let b = p.below in
    record {
      address = record { word = 16384 + p.place; aligned = omega (arith, e); inside = inr (omega (arith, e), omega (arith, e, b)) };
      plan = subst (λ a. IsPlan lines a w) (sym e) p.plan;
    }

pub word_is : (image : Image) (lines : List LabelLine) (w : WordPlan) → Contains (words_of image lines) w → IsWordOf lines w
word_is image lines w h = go (Contains-append_cases (text_plans image lines) (data_plans image lines) w h)
  where
    go : Contains (text_plans image lines) w ⊎ Contains (data_plans image lines) w → IsWordOf lines w
    go (inl i) = text_word lines w (text_plan image lines w i)
    go (inr i) = data_word lines w (data_plan image lines w i)

word_bits-length : (v : LabelValue) → length (word_bits v) ≡ 32
unfolding word_bits
word_bits-length v = length-map (range_with_len 0 32) (value_start v) ∙ length-range_with_len 0 32

pub memory_word : (lines : List LabelLine) (w : WordPlan) → IsWordOf lines w → IsMemoryWord w
memory_word lines w is = record { bits = ap length is.plan.bits ∙ word_bits-length is.plan.value; address = is.address }

-- the bits of a word start as bits of its value
pub word_bit : (v : LabelValue) (s : Start) → Contains (word_bits v) s → (k : ℕ) × (value_start v k ≡ s)
unfolding word_bits
word_bit v s h = let m = image_of_map (value_start v) (range_with_len 0 32) s h in (m.source, m.image)

regions_apart : (lines : List LabelLine) (x : ℕ) (v w : WordPlan) → IsRegionPlan lines 0 0 (0 + text_words) v
    → IsRegionPlan lines data_start 0 (0 + data_words) w → v.address ≡ x → w.address ≡ x → ⊥
unfolding text_words data_words data_start
regions_apart lines x v w p q f g = let a = p.plan.at in let b = p.below in let c = q.plan.at in omega (arith, a, b, c, f, g)

pub words_apart : (image : Image) (lines : List LabelLine) → HasNoRepeat (map (λ (w : WordPlan). w.address) (words_of image lines))
words_apart image lines =
    subst HasNoRepeat (sym (map-append (λ (w : WordPlan). w.address) (text_plans image lines) (data_plans image lines)))
    (no_repeat-append (addresses (text_plans image lines)) (addresses (data_plans image lines)) (record {
      left = region_apart 0 image.text None lines no_fill 0 text_words;
      right = region_apart data_start image.values (Some (Number 0)) lines zero_fill 0 data_words;
      apart = λ x i j.
          let m = image_of_map (λ (w : WordPlan). w.address) (text_plans image lines) x i in
          let o = image_of_map (λ (w : WordPlan). w.address) (data_plans image lines) x j in
          regions_apart lines x m.source o.source (text_plan image lines m.source m.listed) (data_plan image lines o.source o.listed) m.image o.image;
    }))
