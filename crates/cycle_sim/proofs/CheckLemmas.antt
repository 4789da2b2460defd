-- The first place of a list at which something holds.
use Rattle.std.proofs.Common.{◌≡◌, ℕ, ◌+◌, ◌<◌, ◌≤◌, List, length}
use Rattle.std.specs.Prelude.{Contains, slice_get, Some}
use Rattle.coco_base.specs.declared.setup.ControlPlan.{ControlPlan}
use Rattle.coco_base.specs.declared.setup.Setup.{Setup}
use Rattle.coco_model.specs.Controls.{AreControlsKnown, IsUnknownControl}
use Rattle.coco_model.specs.Known.{Row}
use Rattle.coco_model.specs.Stepped.{IsFirstWith}
use Rattle.gate_graph.proofs.Items.{each_more, by_place}

-- P holds at no place before one
abbrev pub IsNoneBefore : {X : Type 0} → (X → Type 0) → List X → ℕ → Type 0
IsNoneBefore {X} P xs place = (k : ℕ) (x : X) → k < place → slice_get xs k ≡ Some x → P x → ⊥

pub none_more : {X : Type 0} (P : X → Type 0) (xs : List X) (i : ℕ) (x : X) → slice_get xs i ≡ Some x → (P x → ⊥) → IsNoneBefore P xs i
    → IsNoneBefore P xs (i + 1)
none_more P xs i x at none before = each_more (λ y. P y → ⊥) xs i x at none before

pub none_at_all : {X : Type 0} (P : X → Type 0) (xs : List X) (n : ℕ) → length xs ≤ n → IsNoneBefore P xs n → (x : X) → Contains xs x → P x → ⊥
none_at_all P xs n high before = by_place (λ y. P y → ⊥) xs n high before

pub first_with : {X : Type 0} (P : X → Type 0) (xs : List X) (i : ℕ) (x : X) → slice_get xs i ≡ Some x → P x → IsNoneBefore P xs i
    → IsFirstWith P xs i
first_with P xs i x at holds before = record { member = x; at = at; holds = holds; none_before = before }

pub all_known : (setup : Setup) (row : Row) → ((c : ControlPlan) → Contains setup.controls c → IsUnknownControl setup row c → ⊥)
    → AreControlsKnown setup row
all_known setup row none = record { each = λ c listed applies varies. none c listed (record { applies = applies; unknown = varies }) }
