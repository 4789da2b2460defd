-- The JSON value of bytes, and what is read of it.
use Rattle.std.proofs.Common.{◌≡◌, ℕ, List, true, false, Option, Some, None, refl, if◌then◌else◌}
use Rattle.std.proofs.lemmas.Str.{IsUtf8-from_is_utf8, is_utf8-from_IsUtf8}
use Rattle.std.specs.Str.{IsUtf8, is_utf8}
use Rattle.serde_json.specs.Data.{Data}
use Rattle.serde_json.specs.Read.{read}
use Rattle.netlist_json.specs.Json.{json_of}

pub json_of_value : (bytes : List ℕ) (d : Data) → IsUtf8 bytes → read bytes ≡ Some d → json_of bytes ≡ Some d
json_of_value bytes d utf8 value = rw (is_utf8-from_IsUtf8 bytes utf8) value

pub json_of_other : (bytes : List ℕ) → (IsUtf8 bytes → read bytes ≡ None) → json_of bytes ≡ None
json_of_other bytes none =
    elim (is_utf8 bytes) as (λ b. (b ≡ true → read bytes ≡ None) → (if b then read bytes else None) ≡ None) [
      | true ↦ λ h. h refl
      | false ↦ λ h. refl
    ] (λ e. none (IsUtf8-from_is_utf8 bytes e))
