-- What pickers keep of the bumps that they were told.
use Rattle.std.specs.Prelude.{ℕ, List, length, slice_index, slice_set, if◌then◌else◌, nat_lt}
use Rattle.coco_base.specs.Causes.{next_count}

-- bumps by variable, after one more of this variable; one beyond the list changes nothing
abbrev pub counted : List ℕ → ℕ → List ℕ
counted counts var = slice_set counts var (next_count (slice_index counts var))

-- when each variable was bumped last, by a clock that goes on with each bump; 0 is never
pub record Times : Type 0 where
  pub by_var : List ℕ
  pub clock : ℕ

-- times after one more bump of a variable; one beyond the list changes nothing
abbrev pub timed : Times → ℕ → Times
timed times var =
    (if nat_lt var (length times.by_var)
    then record { by_var = slice_set times.by_var var (next_count times.clock); clock = next_count times.clock }
    else times)
