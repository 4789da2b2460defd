-- A table of places that name bits, as the code keeps it.
use Rattle.std.specs.Prelude.{ℕ, List, Option, None, option_map}
use Rattle.std.proofs.Common.{get_or}
use Rattle.coco_base.specs.BitNames.{NamedPlace}
use Rattle.coco_base.specs.declared.names.Named.{Named}

abbrev pub shown : Named → NamedPlace
shown n = record { name = n.name.now; width = n.width; place = n.place }

abbrev pub place_at : List (Option Named) → ℕ → Option NamedPlace
place_at table k = option_map shown (get_or table k None)
