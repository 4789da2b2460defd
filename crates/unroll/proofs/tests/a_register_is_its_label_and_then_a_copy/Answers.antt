use Rattle.std.proofs.Common.{sym, subst}
use Rattle.coco_base.specs.declared.netlist.Flat.{Flat}
use Rattle.coco_model.specs.Setups.{IsBoundTo}
use Rattle.unroll.proofs.tests.a_register_is_its_label_and_then_a_copy.Goals as goal

pub unroll-requires-clause-bound : goal.unroll-requires-clause-bound
unroll-requires-clause-bound g c = subst (λ (f : Flat). IsBoundTo f c.in_ok-setup.setup) (sym c.in_ok-graph.ensures) c.in_ok-setup.ensures
