use Rattle.std.proofs.Common.{refl, [], ◌∷◌}
use Rattle.coco_base.specs.declared.netlist.Wire.TheVariants.{Bit}
use Rattle.coco_model.specs.Examples.{memory_port}
use Rattle.coco_model.proofs.examples.unknown_control.Goals as goal

pub returns-clause-address : goal.returns-clause-address
returns-clause-address c = λ name. record { applies = (memory_port (Bit 4 ∷ []), refl, refl); unknown = refl }

pub returns-clause-enable : goal.returns-clause-enable
returns-clause-enable c = λ name. record { applies = (memory_port (Bit 4 ∷ []), refl, refl, refl); unknown = refl }
