-- A shelf and a sink in memory: what they are seen as, and what each call answers and leaves.
use Rattle.std.specs.Prelude.{ℕ, ◌+◌, ◌-◌, ◌^◌, ◌==◌, min, Bool, List, [], ◌∷◌, length, Option, Some, None, is_none, if◌then◌else◌}
use Rattle.std.specs.List.{list_any}
use Rattle.std.specs.Str.{bytes_eq}
use Rattle.coco_base.specs.declared.mem_file.MemFile.{MemFile}
use Rattle.coco_base.specs.Causes.{next_count}

-- files, the greatest piece of one call, the numbers of the calls that fail, this call's number, and the faults so far
pub record ShelfState : Type 0 where
  pub files : List MemFile
  pub piece : ℕ
  pub fails : List ℕ
  pub call : ℕ
  pub faults : ℕ

-- what the first file of a name holds
abbrev pub bytes_of : List MemFile → List ℕ → Option (List ℕ)
bytes_of [] name = None
bytes_of (file ∷ files) name = if bytes_eq file.name name then Some file.bytes else bytes_of files name

-- what a call is answered from: nothing where its number is listed, and else the file of the name
abbrev pub answered : List MemFile → List ℕ → ℕ → List ℕ → Option (List ℕ)
answered files fails call name = if list_any (λ c. c == call) fails then None else bytes_of files name

-- this call fails
abbrev pub refuses : ShelfState → List ℕ → Bool
refuses s name = is_none (answered s.files s.fails s.call name)

-- a shelf after a call, whose number stops at the last u32
abbrev pub after_call : ShelfState → Bool → ShelfState
after_call s failed = record s { call = min (s.call + 1) (2 ^ 32 - 1); faults = if failed then next_count s.faults else s.faults }

-- how many bytes of a file a call gives
abbrev pub piece_of : ℕ → ℕ → ℕ → List ℕ → ℕ
piece_of most room at file = min most (min room (length file - at))

-- the bytes that a sink takes in all, those that it has, and the faults so far
pub record SinkState : Type 0 where
  pub room : ℕ
  pub taken : List ℕ
  pub faults : ℕ
