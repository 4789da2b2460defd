-- The lines of a head, and the first of them that a file has otherwise. 10 is a line feed.
use Rattle.std.specs.Prelude.{◌≡◌, ◌≢◌, ℕ, ◌+◌, ◌⊎◌, List, [], ◌∷◌, ◌++◌, All, length}
use Rattle.std.specs.List.{concat}

-- no byte is a line feed
abbrev pub IsUnbroken : List ℕ → Type 0
IsUnbroken bytes = All (λ b. b ≢ 10) bytes

-- bytes that end in their only line feed
pub record IsWholeLine (line : List ℕ) : Type 0 where
  pub content : List ℕ
  pub unbroken : IsUnbroken content
  pub fed : line ≡ content ++ 10 ∷ []

-- a line of a text, before what follows it: it is whole, or the text ends in it
abbrev pub IsLine : List ℕ → List ℕ → Type 0
IsLine line later = IsWholeLine line ⊎ ((line ≢ []) × IsUnbroken line × (later ≡ []))

-- the file has the lines of the head before the one of this number, and then not that one: it is missing there, another,
-- or without its line feed
pub record IsFirstOther (head file : List ℕ) (number : ℕ) : Type 0 where
  pub before : List (List ℕ)
  pub line : List ℕ
  pub later : List ℕ
  pub whole : All IsWholeLine before
  pub is_line : IsLine line later
  pub head_is : head ≡ concat before ++ (line ++ later)
  pub rest : List ℕ
  pub file_is : file ≡ concat before ++ rest
  pub other : (more : List ℕ) → rest ≡ line ++ more → ⊥
  pub numbered : number ≡ length before + 1
