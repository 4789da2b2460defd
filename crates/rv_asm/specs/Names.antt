-- Names and what they stand for.
use Rattle.std.specs.Prelude.{ℕ, List, Option, map, Vec}
use Rattle.std.specs.Map.{lookup}
use Rattle.std.specs.Str.{bytes_eq}
use Rattle.std.specs.declared.alloc.Global.{Global}
use Rattle.rv_asm.specs.declared.layout.names.Meaning.{Meaning}

-- names in order of definition
abbrev pub Table : Type 0
Table = List (List ℕ × Meaning)

-- what a name stands for, where it is defined
abbrev pub meaning_of : Table → List ℕ → Option Meaning
meaning_of names name = lookup (bytes_eq name) names

-- the bytes of keys, and their values
abbrev pub bytes_of_keys : List (Vec ℕ Global × Meaning) → Table
bytes_of_keys entries = map (λ e. (e.0.items, e.1)) entries
