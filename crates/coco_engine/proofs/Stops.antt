-- Files that are not read: there are bytes of them, which the shelf does not contradict, of which one is too long.
use Rattle.std.proofs.Common.{◌≡◌, ◌<◌, ◌≤◌, ℕ, suc, [], length, replicate, Option, Some, None, refl, arith}
use Rattle.std.proofs.lemmas.List.{length-replicate}
use Rattle.coco_base.specs.Causes.{Rose}
use Rattle.coco_base.specs.Outside.{IsContent}
use Rattle.command_words.specs.Commands.{Files as Names}
use Rattle.leak_report.specs.Texts.{Text}
use Rattle.coco_engine.specs.Files.{IsLonger, file_limit}
use Rattle.coco_engine.specs.Reading.{HasLong, IsNamed, IsProgramContent, StopsFile, StopsFiles, is_word_file}
use Rattle.coco_engine.specs.Reading as reading
use Rattle.coco_engine.specs.declared.reading.ReadStop.{ReadStop}
use Rattle.coco_engine.specs.declared.reading.ReadStop.TheVariants as stop

-- a count that rose from a later value rose from an earlier one
pub rose_before : (before later now : ℕ) → before ≤ later → Rose later now → Rose before now
rose_before before later now order rose = omega (arith, order, rose)

-- ---- bytes that a shelf does not contradict

some_content : (told : Option Text) → (bytes : Text) × IsContent told bytes
some_content None = ([], tt)
some_content (Some file) = (file, refl)

longer : (n : ℕ) → (bytes : Text) × (n < length bytes)
longer n = (replicate (suc n) 0, omega (arith, length-replicate {A = ℕ} (suc n) 0))

long_content : (limit : ℕ) (told : Option Text) → IsLonger limit told → (bytes : Text) × (IsContent told bytes × (limit < length bytes))
long_content limit None long = let more = longer limit in (more.0, (tt, more.1))
long_content limit (Some file) long = (file, (refl, long))

some_program : (told : Text → Option Text) (name : Option Text) → (bytes : Option Text) × IsProgramContent told name bytes
some_program told None = (None, refl)
some_program told (Some name) = let content = some_content (told name) in (Some content.0, content.1)

-- ---- a file that is too long

pub long_netlist : (told : Text → Option Text) (names : Names) → IsLonger file_limit (told names.netlist) → HasLong told names names.netlist
long_netlist told names long =
    let netlist = long_content file_limit (told names.netlist) long in
    let labels = some_content (told names.labels) in
    let program = some_program told names.program in
    record {
      files = record { netlist = netlist.0; labels = labels.0; program = program.0; word_file = is_word_file names.program; top = names.top };
      contents = record { netlist = netlist.1.0; labels = labels.1; program = program.1; word_file = refl; top = refl };
      first = reading.IsFirstLong.netlist netlist.1.1;
    }

pub long_labels : (told : Text → Option Text) (names : Names) (netlist : Text) → IsContent (told names.netlist) netlist → length netlist ≤ file_limit → IsLonger file_limit (told names.labels) → HasLong told names names.labels
long_labels told names netlist is short long =
    let labels = long_content file_limit (told names.labels) long in
    let program = some_program told names.program in
    record {
      files = record { netlist = netlist; labels = labels.0; program = program.0; word_file = is_word_file names.program; top = names.top };
      contents = record { netlist = is; labels = labels.1.0; program = program.1; word_file = refl; top = refl };
      first = reading.IsFirstLong.labels short labels.1.1;
    }

-- the bytes of the netlist and of the label file, which are not too long
pub record AreFirst (told : Text → Option Text) (names : Names) (first second : Text) : Type 0 where
  pub netlist : IsContent (told names.netlist) first
  pub labels : IsContent (told names.labels) second
  pub short_netlist : length first ≤ file_limit
  pub short_labels : length second ≤ file_limit

long_named : (told : Text → Option Text) (names : Names) (netlist labels name : Text) (program : Option Text) → names.program ≡ program → program ≡ Some name → AreFirst told names netlist labels → IsLonger file_limit (told name) → HasLong told names name
long_named told names netlist labels name None named is first long = absurd (cc)
long_named told names netlist labels name (Some other) named is first long =
    let same : other ≡ name = cc in
    let bytes = long_content file_limit (told name) long in
    record {
      files = record { netlist = netlist; labels = labels; program = Some bytes.0; word_file = is_word_file names.program; top = names.top };
      contents = record { netlist = first.netlist; labels = first.labels; program = rw (named, same) bytes.1.0; word_file = refl; top = refl };
      first = reading.IsFirstLong.program name bytes.0 first.short_netlist first.short_labels (rw (named, same) refl) refl bytes.1.1;
    }

pub long_program : (told : Text → Option Text) (names : Names) (netlist labels name : Text) → names.program ≡ Some name → AreFirst told names netlist labels → IsLonger file_limit (told name) → HasLong told names name
long_program told names netlist labels name named first long = long_named told names netlist labels name names.program refl named first long

-- ---- a file that is not read stops the call

pub stops_files : (told : Text → Option Text) (before now : ℕ) (names : Names) (name : Text) (why : ReadStop) → (IsLonger file_limit (told name) → HasLong told names name) → IsNamed names name → StopsFile told before now name why → StopsFiles told before now names name why
stops_files told before now names name stop.Long long named h = long h
stops_files told before now names name stop.Failed long named h = (named, h)
stops_files told before now names name stop.Memory long named h = tt

-- also where the count of faults did not fall before
pub stops_later : (told : Text → Option Text) (before later now : ℕ) (name : Text) (why : ReadStop) → before ≤ later → StopsFile told later now name why → StopsFile told before now name why
stops_later told before later now name stop.Long order h = h
stops_later told before later now name stop.Failed order h = rose_before before later now order h
stops_later told before later now name stop.Memory order h = tt
