-- Which line of a proof text is at fault.
use Rattle.std.specs.Prelude.{◌≡◌, ◌≢◌, ℕ, ◌+◌, ◌<◌, ◌≤◌, ◌⊎◌, List, [], ◌++◌, length, All}
use Rattle.clause_store.specs.declared.line.Line.{Line}
use Rattle.derivation_check.specs.declared.read.ProofFault.{ProofFault}
use Rattle.derivation_check.specs.declared.read.ProofFault.TheVariants.{BadLine, Memory}
use Rattle.derivation_check.specs.Texts.{head_text, line_text, lines_text, IsPrintable}

-- the first line is no head
pub record IsNoHead (bytes : List ℕ) (number : ℕ) : Type 0 where
  pub first : number ≡ 1
  pub none : (count : ℕ) (more : List ℕ) → count ≤ 2147483647 → bytes ≡ head_text count ++ more → ⊥

abbrev pub BeginsNoLine : List ℕ → Type 0
BeginsNoLine bytes = (line : Line) (more : List ℕ) → IsPrintable line → bytes ≡ line_text line ++ more → ⊥

-- the head and the lines before are as they should be; this line is missing or no line of a derivation, or the
-- first one that is too many
pub record IsBadLine (bytes : List ℕ) (number : ℕ) : Type 0 where
  pub count : ℕ
  pub in_range : count ≤ 2147483647
  pub lines : List Line
  pub printable : All IsPrintable lines
  pub rest : List ℕ
  pub split : bytes ≡ head_text count ++ (lines_text lines ++ rest)
  pub numbered : number ≡ length lines + 2
  pub wrong : ((length lines < count) × BeginsNoLine rest) ⊎ ((length lines ≡ count) × (rest ≢ []))

abbrev pub IsFault : List ℕ → ProofFault → Type 0
IsFault bytes (BadLine number) = IsNoHead bytes number ⊎ IsBadLine bytes number
IsFault bytes Memory = Unit {0}
