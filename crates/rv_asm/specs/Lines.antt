-- The numbers of lines.
use Rattle.std.specs.Prelude.{ℕ, ◌+◌, ◌-◌, ◌^◌, min}

-- the last line number, at which numbers stay
abbrev pub last_line : ℕ
last_line = 2 ^ 32 - 1

-- the number of the line that has n lines before it: the first line is 1
abbrev pub number_after : ℕ → ℕ
number_after before = min (before + 1) last_line
