-- Files that are read whole, and texts that are written whole.
use Rattle.std.specs.Prelude.{◌≡◌, ◌<◌, ℕ, List, length, take, Option, IfSome}
use Rattle.coco_base.specs.Outside.{after}

-- the most bytes that a file may have
abbrev pub file_limit : ℕ
file_limit = 134217728

-- these bytes stand at the front of the file, where the shelf tells it
abbrev pub IsFront : Option (List ℕ) → List ℕ → Type 0
IsFront told bytes = IfSome told (λ file. bytes ≡ take (length bytes) file)

-- the file has more bytes than so many, where the shelf tells it
abbrev pub IsLonger : ℕ → Option (List ℕ) → Type 0
IsLonger limit told = IfSome told (λ file. limit < length file)

-- a sink has taken a proper front of the text
pub record HasPrefix (old new : Option (List ℕ)) (text : List ℕ) : Type 0 where
  pub count : ℕ
  pub proper : count < length text
  pub taken : new ≡ after old (take count text)
