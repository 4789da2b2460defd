-- An entry of a map of named items, as it is seen.
use Rattle.std.specs.Prelude.{ℕ, List, String, string_bytes}
use Rattle.std.specs.declared.alloc.Global.{Global}

abbrev pub entry_of : {X : Type 0} → (String Global × ℕ) × X → (List ℕ × ℕ) × X
entry_of e = ((string_bytes e.0.0, e.0.1), e.1)
