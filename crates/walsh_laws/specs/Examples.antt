-- A circuit at which the laws can be used by hand.
use Rattle.std.specs.Prelude.{false, [], ◌∷◌}
use Rattle.coco_base.specs.declared.text.Text.{Text}
use Rattle.coco_base.specs.declared.setup.Start.TheVariants.{Public, Label}
use Rattle.coco_base.specs.declared.setup.Setup.{Setup}
use Rattle.coco_model.specs.Examples.{example_setup}

-- the flop holds one of the two shares of a secret
abbrev pub one_share_setup : Text → Setup
one_share_setup name = example_setup name 2 (Public false ∷ Label 0 ∷ []) []
