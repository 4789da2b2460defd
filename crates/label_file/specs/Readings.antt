-- What the lines so far say, and what a line adds to it.
use Rattle.std.specs.Prelude.{◌≡◌, ℕ, ◌+◌, ◌*◌, ◌==◌, nat_le, Bool, false, if◌then◌else◌, List, [], ◌∷◌, ◌++◌, None, Result, Ok, Err}
use Rattle.std.specs.List.{list_any}
use Rattle.coco_base.specs.declared.labels.LabelTable.{LabelTable}
use Rattle.label_file.specs.declared.cause.Cause.{Cause}
use Rattle.label_file.specs.declared.cause.Cause.TheVariants.{TooMany}
use Rattle.label_file.specs.declared.line.LabelLine.{LabelLine}
use Rattle.label_file.specs.declared.line.LabelLine.TheVariants as line
use Rattle.label_file.specs.declared.names.Meaning.TheVariants as meaning
use Rattle.label_file.specs.declared.reading.Reading.{Reading}
use Rattle.label_file.specs.Causes.{◌>>=◌}
use Rattle.label_file.specs.Names.{meaning_of}

abbrev pub has_address : List ℕ → ℕ → Bool
has_address addresses address = list_any (λ a. address == a) addresses

abbrev pub no_labels : LabelTable
no_labels = record { secrets = []; masks = []; fresh = []; declared = 0; per_cycle = 0 }

-- before the first line
abbrev pub empty : Reading
empty = record { names = []; words = []; leaves = []; lines = []; table = no_labels }

-- the number of labels with those added, which is at most a limit
unfoldable pub labels_after : ℕ → ℕ → ℕ → Result ℕ Cause
labels_after limit declared more =
    if nat_le (declared + more) limit then Ok (declared + more) else Err (TooMany (declared + more) limit)

-- a secret more; its labels come behind all labels so far
abbrev pub with_secret : Reading → List ℕ → ℕ → ℕ → ℕ → Reading
with_secret r name width shares declared = record r {
  names = r.names ++ (name, meaning.Secret r.table.declared width shares) ∷ [];
  table = record r.table {
    secrets = r.table.secrets ++ record { name = name; width = width; shares = shares; first = r.table.declared } ∷ [];
    declared = declared;
  };
}

-- a mask more
abbrev pub with_mask : Reading → List ℕ → ℕ → ℕ → Reading
with_mask r name width declared = record r {
  names = r.names ++ (name, meaning.Mask r.table.declared width) ∷ [];
  table = record r.table {
    masks = r.table.masks ++ record { name = name; width = width; first = r.table.declared } ∷ [];
    declared = declared;
  };
}

abbrev pub with_fresh : Reading → List ℕ → Reading
with_fresh r name = record r { names = r.names ++ (name, meaning.Fresh) ∷ [] }

-- the names, addresses and labels with those of a line
abbrev pub indexed : ℕ → Reading → LabelLine → Result Reading Cause
indexed limit r (line.Secret name width shares) =
    labels_after limit r.table.declared (shares * width) >>= λ n. Ok (with_secret r name width shares n)
indexed limit r (line.Mask name width) =
    labels_after limit r.table.declared width >>= λ n. Ok (with_mask r name width n)
indexed limit r (line.Fresh net name) = Ok (with_fresh r name)
indexed limit r (line.Mem address value) = Ok (record r { words = r.words ++ address ∷ [] })
indexed limit r (line.Leaf address) = Ok (record r { leaves = r.leaves ++ address ∷ [] })
indexed limit r l = Ok r

abbrev pub with_line : LabelLine → Reading → Reading
with_line l r = record r { lines = r.lines ++ l ∷ [] }

-- what the lines say with one line more
unfoldable pub added : ℕ → Reading → LabelLine → Result Reading Cause
added limit r l = indexed limit r l >>= λ next. Ok (with_line l next)

abbrev pub IsNew : Reading → List ℕ → Type 0
IsNew r name = meaning_of r.names name ≡ None

-- a name or an address of the line is not yet there
abbrev pub HasSpace : Reading → LabelLine → Type 0
HasSpace r (line.Secret name width shares) = IsNew r name
HasSpace r (line.Mask name width) = IsNew r name
HasSpace r (line.Fresh net name) = IsNew r name
HasSpace r (line.Mem address value) = has_address r.words address ≡ false
HasSpace r (line.Leaf address) = has_address r.leaves address ≡ false
HasSpace r l = Unit {0}
