-- What a shelf of files holds and what a sink has taken, where they tell it.
use Rattle.std.specs.Prelude.{◌≡◌, ℕ, ◌<◌, ◌≤◌, List, ◌++◌, length, take, drop, Option, Some, None, IfSome}

-- `count` bytes of a file, from place `at` on, stand at the head of the buffer; none come only at the file's end
pub record ReadsAt (told : Option (List ℕ)) (at count : ℕ) (buffer : List ℕ) : Type 0 where
  pub bytes : IfSome told (λ file. take count buffer ≡ take count (drop at file))
  pub end : IfSome told (λ file. count ≡ 0 → 0 < length buffer → length file ≤ at)

-- these bytes are the file's, where the shelf tells it
abbrev pub IsContent : Option (List ℕ) → List ℕ → Type 0
IsContent told bytes = IfSome told (λ file. bytes ≡ file)

-- what a sink has after it took these bytes
abbrev pub after : Option (List ℕ) → List ℕ → Option (List ℕ)
after None bytes = None
after (Some had) bytes = Some (had ++ bytes)

-- a shelf that tells no content, and a sink that tells no bytes
abbrev pub untold : List ℕ → Option (List ℕ)
untold name = None

abbrev pub hidden : Option (List ℕ)
hidden = None
