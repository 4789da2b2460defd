use Rattle.std.proofs.Common.{sym, subst}
use Rattle.coco_model.specs.Setups.{IsBoundTo}
use Rattle.coco_base.specs.declared.setup.Setup.{Setup}
use Rattle.unroll.specs.Examples.{register}
use Rattle.unroll.proofs.ExampleLemmas.{masked_bound}
use Rattle.unroll.proofs.tests.bound.Goals as goal

pub returns : goal.returns
returns c = subst (λ (s : Setup). IsBoundTo register s) (sym c.in_ok-setup.ensures) masked_bound
