-- What a line keeps that a form makes of words, behind other lines: its values, counts and addresses, and that its form
-- may stand there.
use Rattle.std.proofs.Common.{◌≡◌, ℕ, Bool, true, false, not, List, [], ◌∷◌, drop, Option, Some, None, Ok, refl, ap, subst, arith, if◌then◌else◌}
use Rattle.std.specs.List.{list_any}
use Rattle.std.specs.Option.{option_and_then}
use Rattle.label_file.specs.declared.cause.Cause.{Cause}
use Rattle.label_file.specs.declared.cause.Cause.TheVariants.{BadLine, Twice}
use Rattle.label_file.specs.declared.form.Form.{Form}
use Rattle.label_file.specs.declared.form.Form.TheVariants as form
use Rattle.label_file.specs.declared.line.LabelLine.{LabelLine}
use Rattle.label_file.specs.declared.line.LabelLine.TheVariants as line
use Rattle.label_file.specs.declared.operand.Operand.TheVariants.{Net, Values}
use Rattle.label_file.specs.declared.reading.Reading.{Reading}
use Rattle.label_file.specs.Causes.{holds_or, or_cause}
use Rattle.label_file.specs.Conditions.{IsAddress, IsLine, is_version}
use Rattle.label_file.specs.Files.{is_none_yet, stands}
use Rattle.label_file.specs.Forms.{operands_of}
use Rattle.label_file.specs.Numbers.{address_of, count_of, is_word_address, number_on}
use Rattle.label_file.specs.Operands.{fits}
use Rattle.label_file.specs.Readings.{has_address}
use Rattle.label_file.specs.Statements.{clock_line, control_line, dmem_line, echo_line, fresh_line, imem_line, input_line, is_clock, is_dmem, is_form, is_imem, is_pc, leaf_line, line_of, mask_line, mem_line, new_address, new_name, once, operand, pc_line, reg_line, secret_line, version_line}
use Rattle.label_file.specs.Values.{value_of, values_of}
use Rattle.label_file.proofs.Kept.{values_of-are, some_values, AreNames, IsCounted, count_of-is, value_of-is, word_address-is}
use Rattle.label_file.proofs.Rooms.{came, ok_same}

-- a line declares counts within their ranges
abbrev pub HasCounts : LabelLine → Type 0
HasCounts (line.Secret name width shares) = IsCounted 32 width × IsCounted 16 shares
HasCounts (line.Mask name width) = IsCounted 32 width
HasCounts l = Unit {0}

-- the address of a line is not among those before
abbrev pub IsNewAddress : Reading → LabelLine → Type 0
IsNewAddress r (line.Mem address value) = has_address r.words address ≡ false
IsNewAddress r (line.Leaf address) = has_address r.leaves address ≡ false
IsNewAddress r l = Unit {0}

-- where a line has a form, no line before has it
abbrev pub IsFirst : (LabelLine → Bool) → List LabelLine → LabelLine → Type 0
IsFirst has_form lines l = has_form l ≡ true → list_any has_form lines ≡ false

pub record AreFirst (lines : List LabelLine) (l : LabelLine) : Type 0 where
  pub version : IsFirst is_version lines l
  pub clock : IsFirst is_clock lines l
  pub imem : IsFirst is_imem lines l
  pub dmem : IsFirst is_dmem lines l
  pub pc : IsFirst is_pc lines l

-- a line that may stand behind the lines so far
pub record IsNext (r : Reading) (l : LabelLine) : Type 0 where
  pub line : IsLine r.table.declared l
  pub counts : HasCounts l
  pub address : IsNewAddress r l
  pub first : AreFirst r.lines l

never : {P : Type 0} → false ≡ true → P
never h = absurd cc

no_form : (b : Bool) → b ≡ false → {P : Type 0} → b ≡ true → P
no_form b f t = absurd cc

-- a line of a form that may stand often
often : (lines : List LabelLine) (l : LabelLine) → is_version l ≡ false → is_clock l ≡ false → is_imem l ≡ false → is_dmem l ≡ false → is_pc l ≡ false → AreFirst lines l
often lines l v c i d p = record {
  version = no_form (is_version l) v;
  clock = no_form (is_clock l) c;
  imem = no_form (is_imem l) i;
  dmem = no_form (is_dmem l) d;
  pc = no_form (is_pc l) p;
}

held : (c : Cause) (t : Bool) (u : Unit {0}) → holds_or c t ≡ Ok u → t ≡ true
held c true u h = refl
held c false u h = absurd (cc)

not_held : (t : Bool) → not t ≡ true → t ≡ false
not_held true h = never h
not_held false h = refl

some_of : {A : Type 0} (c : Cause) (o : Option A) (x : A) → or_cause c o ≡ Ok x → o ≡ Some x
some_of c (Some y) x h = ap Some (ok_same y x h)
some_of c None x h = absurd (cc)

none_before : (lines : List LabelLine) → is_none_yet lines ≡ true → list_any is_version lines ≡ false
none_before [] h = refl
none_before (l ∷ ls) h = never h

once_before : (lines : List LabelLine) (f : Form) (u : Unit {0}) → once lines f ≡ Ok u → list_any (is_form f) lines ≡ false
once_before lines f u h = not_held (list_any (is_form f) lines) (held Twice (not (list_any (is_form f) lines)) u h)

-- ---- addresses

test_passed : (n a : ℕ) (t : Bool) → is_word_address n ≡ t → (if t then Some n else None) ≡ Some a → is_word_address a ≡ true
test_passed n a true e h = let same : n ≡ a = cc in subst (λ m. is_word_address m ≡ true) same e
test_passed n a false e h = absurd (cc)

addressed : (o : Option ℕ) (a : ℕ) → option_and_then (λ n. if is_word_address n then Some n else None) o ≡ Some a → is_word_address a ≡ true
addressed None a h = absurd (cc)
addressed (Some n) a h = test_passed n a (is_word_address n) refl h

record IsNewWord (addresses : List ℕ) (address : ℕ) : Type 0 where
  place : IsAddress address
  new : has_address addresses address ≡ false

new_address-is : (addresses word : List ℕ) (a : ℕ) → new_address addresses word ≡ Ok a → IsNewWord addresses a
unfolding new_address
new_address-is addresses word a h =
    let o = came (or_cause BadLine (address_of word)) _ a h in
    let t = came (holds_or Twice (not (has_address addresses o.from))) (λ u. Ok o.from) a o.gives in
    subst (IsNewWord addresses) (ok_same o.from a t.gives) (record {
      place = word_address-is o.from (addressed (number_on word) o.from (some_of BadLine (address_of word) o.from o.was));
      new = not_held (has_address addresses o.from) (held Twice (not (has_address addresses o.from)) t.from t.was);
    })

-- ---- lines

version_next : (r : Reading) (words : List (List ℕ)) → is_none_yet r.lines ≡ true → IsNext r (version_line words)
version_next r words new = record {
  line = tt;
  counts = tt;
  address = tt;
  first = record { version = λ t. none_before r.lines new; clock = λ t. never t; imem = λ t. never t; dmem = λ t. never t; pc = λ t. never t };
}

secret_next : (r : Reading) (words : List (List ℕ)) (l : LabelLine) → secret_line r words ≡ Ok l → IsNext r l
unfolding secret_line
secret_next r words l h =
    let n = came (new_name r.names (operand words 0)) _ l h in
    let w = came (count_of 32 (operand words 1)) _ l n.gives in
    let s = came (count_of 16 (operand words 2)) _ l w.gives in
    subst (IsNext r) (ok_same (line.Secret (operand words 0) w.from s.from) l s.gives) (record {
      line = tt;
      counts = (count_of-is 32 w.from (operand words 1) w.was, count_of-is 16 s.from (operand words 2) s.was);
      address = tt;
      first = often r.lines _ refl refl refl refl refl;
    })

mask_next : (r : Reading) (words : List (List ℕ)) (l : LabelLine) → mask_line r words ≡ Ok l → IsNext r l
unfolding mask_line
mask_next r words l h =
    let n = came (new_name r.names (operand words 0)) _ l h in
    let w = came (count_of 32 (operand words 1)) _ l n.gives in
    subst (IsNext r) (ok_same (line.Mask (operand words 0) w.from) l w.gives) (record {
      line = tt;
      counts = count_of-is 32 w.from (operand words 1) w.was;
      address = tt;
      first = often r.lines _ refl refl refl refl refl;
    })

fresh_next : (r : Reading) (words : List (List ℕ)) (l : LabelLine) → fresh_line r words ≡ Ok l → IsNext r l
unfolding fresh_line
fresh_next r words l h =
    let n = came (new_name r.names (operand words 1)) _ l h in
    subst (IsNext r) (ok_same (line.Fresh (operand words 0) (operand words 1)) l n.gives)
    (record { line = tt; counts = tt; address = tt; first = often r.lines _ refl refl refl refl refl })

reg_next : (r : Reading) (words : List (List ℕ)) (l : LabelLine) → AreNames r.table.declared r.names → reg_line r words ≡ Ok l → IsNext r l
unfolding reg_line
reg_next r words l are h =
    let v = came (value_of r.names (operand words 1)) _ l h in
    subst (IsNext r) (ok_same (line.Reg (operand words 0) v.from) l v.gives) (record {
      line = value_of-is r.table.declared r.names (operand words 1) v.from are v.was;
      counts = tt;
      address = tt;
      first = often r.lines _ refl refl refl refl refl;
    })

input_next : (r : Reading) (words : List (List ℕ)) (l : LabelLine) → AreNames r.table.declared r.names → fits (Net ∷ Values ∷ []) words ≡ true
    → input_line r words ≡ Ok l → IsNext r l
unfolding input_line
input_next r words l are some h =
    let v = came (values_of r.names (drop 1 words)) _ l h in
    let have = values_of-are r.table.declared r.names (drop 1 words) v.from are v.was in
    subst (IsNext r) (ok_same (line.Input (operand words 0) v.from) l v.gives) (record {
      line = record { some = let s = some_values words some in let e = have.long in omega arith; each = have.each };
      counts = tt;
      address = tt;
      first = often r.lines _ refl refl refl refl refl;
    })

mem_next : (r : Reading) (words : List (List ℕ)) (l : LabelLine) → AreNames r.table.declared r.names → mem_line r words ≡ Ok l → IsNext r l
unfolding mem_line
mem_next r words l are h =
    let a = came (new_address r.words (operand words 0)) _ l h in
    let v = came (value_of r.names (operand words 1)) _ l a.gives in
    let new = new_address-is r.words (operand words 0) a.from a.was in
    subst (IsNext r) (ok_same (line.Mem a.from v.from) l v.gives) (record {
      line = record { place = new.place; given = value_of-is r.table.declared r.names (operand words 1) v.from are v.was };
      counts = tt;
      address = new.new;
      first = often r.lines _ refl refl refl refl refl;
    })

leaf_next : (r : Reading) (words : List (List ℕ)) (l : LabelLine) → leaf_line r words ≡ Ok l → IsNext r l
unfolding leaf_line
leaf_next r words l h =
    let a = came (new_address r.leaves (operand words 0)) _ l h in
    let new = new_address-is r.leaves (operand words 0) a.from a.was in
    subst (IsNext r) (ok_same (line.Leaf a.from) l a.gives)
    (record { line = new.place; counts = tt; address = new.new; first = often r.lines _ refl refl refl refl refl })

echo_next : (r : Reading) (words : List (List ℕ)) → IsNext r (echo_line words)
unfolding echo_line
echo_next r words = record { line = tt; counts = tt; address = tt; first = often r.lines _ refl refl refl refl refl }

control_next : (r : Reading) (words : List (List ℕ)) → IsNext r (control_line words)
unfolding control_line
control_next r words = record { line = tt; counts = tt; address = tt; first = often r.lines _ refl refl refl refl refl }

clock_next : (r : Reading) (words : List (List ℕ)) (l : LabelLine) → clock_line r words ≡ Ok l → IsNext r l
unfolding clock_line
clock_next r words l h =
    let o = came (once r.lines form.Clock) _ l h in
    subst (IsNext r) (ok_same (line.Clock (operand words 0)) l o.gives) (record {
      line = tt;
      counts = tt;
      address = tt;
      first = record { version = λ t. never t; clock = λ t. once_before r.lines form.Clock o.from o.was; imem = λ t. never t; dmem = λ t. never t; pc = λ t. never t };
    })

imem_next : (r : Reading) (words : List (List ℕ)) (l : LabelLine) → imem_line r words ≡ Ok l → IsNext r l
unfolding imem_line
imem_next r words l h =
    let o = came (once r.lines form.Imem) _ l h in
    subst (IsNext r) (ok_same (line.Imem (operand words 0) (operand words 1) (operand words 2)) l o.gives) (record {
      line = tt;
      counts = tt;
      address = tt;
      first = record { version = λ t. never t; clock = λ t. never t; imem = λ t. once_before r.lines form.Imem o.from o.was; dmem = λ t. never t; pc = λ t. never t };
    })

dmem_next : (r : Reading) (words : List (List ℕ)) (l : LabelLine) → dmem_line r words ≡ Ok l → IsNext r l
unfolding dmem_line
dmem_next r words l h =
    let o = came (once r.lines form.Dmem) _ l h in
    subst (IsNext r)
    (ok_same (line.Dmem (operand words 0) (operand words 1) (operand words 2) (operand words 3) (operand words 4) (operand words 5)) l o.gives) (record {
      line = tt;
      counts = tt;
      address = tt;
      first = record { version = λ t. never t; clock = λ t. never t; imem = λ t. never t; dmem = λ t. once_before r.lines form.Dmem o.from o.was; pc = λ t. never t };
    })

pc_next : (r : Reading) (words : List (List ℕ)) (l : LabelLine) → pc_line r words ≡ Ok l → IsNext r l
unfolding pc_line
pc_next r words l h =
    let o = came (once r.lines form.Pc) _ l h in
    subst (IsNext r) (ok_same (line.Pc (operand words 0)) l o.gives) (record {
      line = tt;
      counts = tt;
      address = tt;
      first = record { version = λ t. never t; clock = λ t. never t; imem = λ t. never t; dmem = λ t. never t; pc = λ t. once_before r.lines form.Pc o.from o.was };
    })

-- the line of a form may stand there
pub line_next : (r : Reading) (f : Form) (words : List (List ℕ)) (l : LabelLine) → AreNames r.table.declared r.names
    → fits (operands_of f) words ≡ true → stands r.lines f ≡ true → line_of r f words ≡ Ok l → IsNext r l
line_next r form.Version words l are fit stand h = subst (IsNext r) (ok_same (version_line words) l h) (version_next r words stand)
line_next r form.Secret words l are fit stand h = secret_next r words l h
line_next r form.Mask words l are fit stand h = mask_next r words l h
line_next r form.Fresh words l are fit stand h = fresh_next r words l h
line_next r form.Reg words l are fit stand h = reg_next r words l are h
line_next r form.Input words l are fit stand h = input_next r words l are fit h
line_next r form.Mem words l are fit stand h = mem_next r words l are h
line_next r form.Leaf words l are fit stand h = leaf_next r words l h
line_next r form.Echo words l are fit stand h = subst (IsNext r) (ok_same (echo_line words) l h) (echo_next r words)
line_next r form.Clock words l are fit stand h = clock_next r words l h
line_next r form.Imem words l are fit stand h = imem_next r words l h
line_next r form.Dmem words l are fit stand h = dmem_next r words l h
line_next r form.Control words l are fit stand h = subst (IsNext r) (ok_same (control_line words) l h) (control_next r words)
line_next r form.Pc words l are fit stand h = pc_next r words l h
