-- The labels so far keep, line by line, what the labels of a file keep.
use Rattle.std.proofs.Common.{◌≡◌, ◌*◌, ◌<◌, ◌≤◌, ℕ, Bool, true, false, ◌&&◌, ◌==◌, List, [], ◌∷◌, ◌++◌, Some, Ok, refl, sym, ◌∙◌, ap, subst, arith, append-nil}
use Rattle.std.specs.Prelude.{All, Contains, flat_map, ◌↔◌}
use Rattle.std.proofs.lemmas.Bool.{and_parts, eq-eqb}
use Rattle.std.proofs.lemmas.Grind.{flat_map-append}
use Rattle.std.proofs.lemmas.List.Elements.{All-nil, All-push, All-weaker}
use Rattle.std.proofs.lemmas.List.Folds.{list_any-from_Any}
use Rattle.coco_base.specs.declared.labels.MaskPlan.{MaskPlan}
use Rattle.coco_base.specs.declared.labels.SecretPlan.{SecretPlan}
use Rattle.coco_model.specs.Labels.{IsLabelTable}
use Rattle.coco_model.specs.Netlist.{HasNoRepeat}
use Rattle.coco_model.proofs.Basics.{Contains-none, any_from_member}
use Rattle.label_file.specs.declared.cause.Cause.{Cause}
use Rattle.label_file.specs.declared.cause.Cause.TheVariants.{BadLine}
use Rattle.label_file.specs.declared.form.Form.{Form}
use Rattle.label_file.specs.declared.line.LabelLine.{LabelLine}
use Rattle.label_file.specs.declared.line.LabelLine.TheVariants as line
use Rattle.label_file.specs.declared.line.LabelValue.{LabelValue}
use Rattle.label_file.specs.declared.line.LabelValue.TheVariants.{Number, Bits}
use Rattle.label_file.specs.declared.names.Meaning.{Meaning}
use Rattle.label_file.specs.declared.names.Meaning.TheVariants.{Secret, Mask, Fresh}
use Rattle.label_file.specs.declared.reading.Reading.{Reading}
use Rattle.label_file.specs.Causes.{holds_or, or_cause}
use Rattle.label_file.specs.Conditions.{AreLabels, IsLine, IsValue, StandOnce, named_leaves, named_words}
use Rattle.label_file.specs.Files.{after_form, after_line, after_words, line_words, stands}
use Rattle.label_file.specs.Forms.{form_of, operands_of}
use Rattle.label_file.specs.Names.{meaning_of}
use Rattle.label_file.specs.Operands.{fits}
use Rattle.label_file.specs.Readings.{added, empty, has_address, indexed, labels_after, with_fresh, with_line, with_mask, with_secret}
use Rattle.label_file.specs.Statements.{line_of}
use Rattle.label_file.proofs.FormCounts.{once_counted}
use Rattle.label_file.proofs.Kept.{IsCounted, IsWide}
use Rattle.label_file.proofs.Members.{once_more}
use Rattle.label_file.proofs.NextLines.{IsNewAddress, IsNext, line_next}
use Rattle.label_file.proofs.Rooms.{IsRoomy, came, labels_after-is, meaning_more, ok_same}
use Rattle.label_file.proofs.Tables.{mask_more, secret_more}

-- what the lines so far keep
pub record AreKept (r : Reading) : Type 0 where
  pub wide : (name : List ℕ) → IsWide (meaning_of r.names name)
  pub table : IsLabelTable r.table
  pub fresh : r.table.fresh ≡ []
  pub per_cycle : r.table.per_cycle ≡ 0
  pub lines : All (IsLine r.table.declared) r.lines
  pub words : r.words ≡ flat_map named_words r.lines
  pub leaves : r.leaves ≡ flat_map named_leaves r.lines
  pub once : StandOnce r.lines

-- ---- before the first line

no_number : (l : ℕ) → Contains [] l ↔ (l < 0)
no_number l = ((λ h. absurd (Contains-none l h)), (λ h. absurd (omega (arith, h))))

pub kept_empty : AreKept empty
kept_empty = record {
  wide = λ name. tt;
  table = record {
    wide = λ s h. absurd (Contains-none s h);
    shared = λ s h. absurd (Contains-none s h);
    mask_wide = λ m h. absurd (Contains-none m h);
    few = omega arith;
    once = tt;
    each = no_number;
    fresh_once = tt;
    fresh_each = no_number;
  };
  fresh = refl;
  per_cycle = refl;
  lines = All-nil (IsLine 0);
  words = refl;
  leaves = refl;
  once = record {
    words = tt;
    leaves = tt;
    version = omega arith;
    clock = omega arith;
    imem = omega arith;
    dmem = omega arith;
    pc = omega arith;
  };
}

-- ---- the names, addresses and labels of a line

record IsIndexed (r n : Reading) (l : LabelLine) : Type 0 where
  wide : (name : List ℕ) → IsWide (meaning_of n.names name)
  table : IsLabelTable n.table
  fresh : n.table.fresh ≡ []
  per_cycle : n.table.per_cycle ≡ 0
  more : r.table.declared ≤ n.table.declared
  lines : n.lines ≡ r.lines
  words : n.words ≡ r.words ++ named_words l
  leaves : n.leaves ≡ r.leaves ++ named_leaves l

wide_more : (r : Reading) (name : List ℕ) (m : Meaning) → IsWide (Some m) → ((q : List ℕ) → IsWide (meaning_of r.names q))
    → (q : List ℕ) → IsWide (meaning_of (r.names ++ (name, m) ∷ []) q)
wide_more r name m new old q = meaning_more r.names name m q IsWide (old q) new

secret_indexed : (limit : ℕ) (r : Reading) (name : List ℕ) (width shares n : ℕ) → limit ≤ 4096 → AreKept r → IsCounted 32 width × IsCounted 16 shares
    → labels_after limit r.table.declared (shares * width) ≡ Ok n → IsIndexed r (with_secret r name width shares n) (line.Secret name width shares)
secret_indexed limit r name width shares n small kept counts h =
    let count = labels_after-is limit r.table.declared (shares * width) n h in
    let is = count.is in
    let few = count.few in
    let s : SecretPlan = record { name = name; width = width; shares = shares; first = r.table.declared } in
    record {
      wide = wide_more r name (Secret r.table.declared width shares) counts.0 kept.wide;
      table = subst (λ m. IsLabelTable (record r.table { secrets = r.table.secrets ++ s ∷ []; declared = m })) (sym is)
          (secret_more r.table s kept.table refl counts.0.some counts.1.some (omega arith));
      fresh = kept.fresh;
      per_cycle = kept.per_cycle;
      more = omega arith;
      lines = refl;
      words = sym (append-nil r.words);
      leaves = sym (append-nil r.leaves);
    }

mask_indexed : (limit : ℕ) (r : Reading) (name : List ℕ) (width n : ℕ) → limit ≤ 4096 → AreKept r → IsCounted 32 width
    → labels_after limit r.table.declared width ≡ Ok n → IsIndexed r (with_mask r name width n) (line.Mask name width)
mask_indexed limit r name width n small kept counts h =
    let count = labels_after-is limit r.table.declared width n h in
    let is = count.is in
    let few = count.few in
    let m : MaskPlan = record { name = name; width = width; first = r.table.declared } in
    record {
      wide = wide_more r name (Mask r.table.declared width) counts kept.wide;
      table = subst (λ k. IsLabelTable (record r.table { masks = r.table.masks ++ m ∷ []; declared = k })) (sym is)
          (mask_more r.table m kept.table refl counts.some (omega arith));
      fresh = kept.fresh;
      per_cycle = kept.per_cycle;
      more = omega arith;
      lines = refl;
      words = sym (append-nil r.words);
      leaves = sym (append-nil r.leaves);
    }

fresh_indexed : (r : Reading) (net name : List ℕ) → AreKept r → IsIndexed r (with_fresh r name) (line.Fresh net name)
fresh_indexed r net name kept = record {
  wide = wide_more r name Fresh tt kept.wide;
  table = kept.table;
  fresh = kept.fresh;
  per_cycle = kept.per_cycle;
  more = omega arith;
  lines = refl;
  words = sym (append-nil r.words);
  leaves = sym (append-nil r.leaves);
}

addresses_indexed : (r : Reading) (l : LabelLine) (words leaves : List ℕ) → AreKept r → words ≡ r.words ++ named_words l
    → leaves ≡ r.leaves ++ named_leaves l → IsIndexed r (record r { words = words; leaves = leaves }) l
addresses_indexed r l words leaves kept w f = record {
  wide = kept.wide;
  table = kept.table;
  fresh = kept.fresh;
  per_cycle = kept.per_cycle;
  more = omega arith;
  lines = refl;
  words = w;
  leaves = f;
}

indexed_is : (limit : ℕ) (r n : Reading) (l : LabelLine) → limit ≤ 4096 → AreKept r → IsNext r l → indexed limit r l ≡ Ok n → IsIndexed r n l
indexed_is limit r n (line.Secret name width shares) small kept next h =
    let c = came (labels_after limit r.table.declared (shares * width)) _ n h in
    subst (λ m. IsIndexed r m (line.Secret name width shares)) (ok_same _ n c.gives)
    (secret_indexed limit r name width shares c.from small kept next.counts c.was)
indexed_is limit r n (line.Mask name width) small kept next h =
    let c = came (labels_after limit r.table.declared width) _ n h in
    subst (λ m. IsIndexed r m (line.Mask name width)) (ok_same _ n c.gives) (mask_indexed limit r name width c.from small kept next.counts c.was)
indexed_is limit r n (line.Fresh net name) small kept next h =
    subst (λ m. IsIndexed r m (line.Fresh net name)) (ok_same _ n h) (fresh_indexed r net name kept)
indexed_is limit r n (line.Mem address value) small kept next h =
    subst (λ m. IsIndexed r m (line.Mem address value)) (ok_same _ n h)
    (addresses_indexed r (line.Mem address value) (r.words ++ address ∷ []) r.leaves kept refl (sym (append-nil r.leaves)))
indexed_is limit r n (line.Leaf address) small kept next h =
    subst (λ m. IsIndexed r m (line.Leaf address)) (ok_same _ n h)
    (addresses_indexed r (line.Leaf address) r.words (r.leaves ++ address ∷ []) kept (sym (append-nil r.words)) refl)
indexed_is limit r n l small kept next h =
    subst (λ m. IsIndexed r m l) (ok_same r n h)
    (addresses_indexed r l r.words r.leaves kept (sym (append-nil r.words)) (sym (append-nil r.leaves)))

-- ---- the line itself

value_more : (small large : ℕ) → small ≤ large → (v : LabelValue) → IsValue small v → IsValue large v
value_more small large h (Number n) is = tt
value_more small large h (Bits first width) is = record { some = is.some; few = is.few; below = let b = is.below in omega arith }

line_more : (small large : ℕ) → small ≤ large → (l : LabelLine) → IsLine small l → IsLine large l
line_more small large h (line.Reg net value) is = value_more small large h value is
line_more small large h (line.Input net values) is =
    record { some = is.some; each = All-weaker (IsValue small) (IsValue large) (value_more small large h) values is.each }
line_more small large h (line.Mem address value) is = record { place = is.place; given = value_more small large h value is.given }
line_more small large h (line.Leaf address) is = is
line_more small large h l is = tt

not_among : (addresses : List ℕ) (a : ℕ) → has_address addresses a ≡ false → Contains addresses a → ⊥
not_among addresses a absent i =
    let yes : has_address addresses a ≡ true =
    list_any-from_Any (λ x. a == x) addresses (any_from_member (λ x. (a == x) ≡ true) addresses a i (eq-eqb a a refl)) in
    absurd cc

words_once : (words : List ℕ) (r : Reading) (l : LabelLine) → r.words ≡ words → HasNoRepeat words → IsNewAddress r l → HasNoRepeat (words ++ named_words l)
words_once words r (line.Mem address value) same once new =
    once_more words address once (λ i. not_among r.words address new (subst (λ ws. Contains ws address) (sym same) i))
words_once words r l same once new = subst HasNoRepeat (sym (append-nil words)) once

leaves_once : (leaves : List ℕ) (r : Reading) (l : LabelLine) → r.leaves ≡ leaves → HasNoRepeat leaves → IsNewAddress r l → HasNoRepeat (leaves ++ named_leaves l)
leaves_once leaves r (line.Leaf address) same once new =
    once_more leaves address once (λ i. not_among r.leaves address new (subst (λ ws. Contains ws address) (sym same) i))
leaves_once leaves r l same once new = subst HasNoRepeat (sym (append-nil leaves)) once

joined_push : (f : LabelLine → List ℕ) (ls : List LabelLine) (l : LabelLine) → flat_map f (ls ++ l ∷ []) ≡ flat_map f ls ++ f l
joined_push f ls l = flat_map-append f ls (l ∷ []) ∙ ap (λ ns. flat_map f ls ++ ns) (append-nil (f l))

once_with : (r : Reading) (l : LabelLine) → AreKept r → IsNext r l → StandOnce (r.lines ++ l ∷ [])
once_with r l kept next = record {
  words = subst HasNoRepeat (sym (joined_push named_words r.lines l))
      (words_once (flat_map named_words r.lines) r l kept.words kept.once.words next.address);
  leaves = subst HasNoRepeat (sym (joined_push named_leaves r.lines l))
      (leaves_once (flat_map named_leaves r.lines) r l kept.leaves kept.once.leaves next.address);
  version = once_counted _ r.lines l kept.once.version next.first.version;
  clock = once_counted _ r.lines l kept.once.clock next.first.clock;
  imem = once_counted _ r.lines l kept.once.imem next.first.imem;
  dmem = once_counted _ r.lines l kept.once.dmem next.first.dmem;
  pc = once_counted _ r.lines l kept.once.pc next.first.pc;
}

line_kept_with : (r n : Reading) (l : LabelLine) → AreKept r → IsNext r l → IsIndexed r n l → AreKept (with_line l n)
line_kept_with r n l kept next is = record {
  wide = is.wide;
  table = is.table;
  fresh = is.fresh;
  per_cycle = is.per_cycle;
  lines =
      let before : All (IsLine n.table.declared) r.lines =
      All-weaker (IsLine r.table.declared) (IsLine n.table.declared) (line_more r.table.declared n.table.declared is.more) r.lines kept.lines in
      All-push (IsLine n.table.declared) n.lines l (subst (All (IsLine n.table.declared)) (sym is.lines) before)
      (line_more r.table.declared n.table.declared is.more l next.line);
  words = is.words ∙ ap (λ ws. ws ++ named_words l) kept.words ∙ sym (joined_push named_words r.lines l)
      ∙ ap (λ ls. flat_map named_words (ls ++ l ∷ [])) (sym is.lines);
  leaves = is.leaves ∙ ap (λ ws. ws ++ named_leaves l) kept.leaves ∙ sym (joined_push named_leaves r.lines l)
      ∙ ap (λ ls. flat_map named_leaves (ls ++ l ∷ [])) (sym is.lines);
  once = subst (λ ls. StandOnce (ls ++ l ∷ [])) (sym is.lines) (once_with r l kept next);
}

added_kept : (limit : ℕ) (r n : Reading) (l : LabelLine) → limit ≤ 4096 → AreKept r → IsNext r l → added limit r l ≡ Ok n → AreKept n
unfolding added
added_kept limit r n l small kept next h =
    let c = came (indexed limit r l) (λ m. Ok (with_line l m)) n h in
    subst AreKept (ok_same _ n c.gives) (line_kept_with r c.from l kept next (indexed_is limit r c.from l small kept next c.was))

held_both : (c : Cause) (a b : Bool) (u : Unit {0}) → holds_or c (a && b) ≡ Ok u → (a && b) ≡ true
held_both c true true u h = refl
held_both c true false u h = absurd (cc)
held_both c false b u h = absurd (cc)

form_kept : (limit : ℕ) (r n : Reading) (f : Form) (operands : List (List ℕ)) → limit ≤ 4096 → IsRoomy limit r → AreKept r
    → after_form limit r f operands ≡ Ok n → AreKept n
unfolding after_form
form_kept limit r n f operands small roomy kept h =
    let g = came (holds_or BadLine (fits (operands_of f) operands && stands r.lines f)) _ n h in
    let l = came (line_of r f operands) (added limit r) n g.gives in
    let t = and_parts (fits (operands_of f) operands) (stands r.lines f) (held_both BadLine (fits (operands_of f) operands) (stands r.lines f) g.from g.was) in
    added_kept limit r n l.from small kept
    (line_next r f operands l.from (record { wide = kept.wide; room = roomy.names }) t.0 t.1 l.was) l.gives

words_kept : (limit : ℕ) (r n : Reading) (ws : List (List ℕ)) → limit ≤ 4096 → IsRoomy limit r → AreKept r → after_words limit r ws ≡ Ok n → AreKept n
unfolding after_words
words_kept limit r n [] small roomy kept h = subst AreKept (ok_same r n h) kept
words_kept limit r n (word ∷ operands) small roomy kept h =
    let f = came (or_cause BadLine (form_of word)) (λ f. after_form limit r f operands) n h in
    form_kept limit r n f.from operands small roomy kept f.gives

-- a line more keeps it
pub line_kept : (limit : ℕ) (r n : Reading) (bytes : List ℕ) → limit ≤ 4096 → IsRoomy limit r → AreKept r → after_line limit r bytes ≡ Ok n → AreKept n
unfolding after_line
line_kept limit r n bytes small roomy kept h =
    let c = came (line_words bytes) (after_words limit r) n h in
    words_kept limit r n c.from small roomy kept c.gives

-- what is read keeps it
pub labels_kept : (r : Reading) → AreKept r → AreLabels (record { lines = r.lines; table = r.table })
labels_kept r kept = record { table = kept.table; fresh = kept.fresh; per_cycle = kept.per_cycle; lines = kept.lines; once = kept.once }
