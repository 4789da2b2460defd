use Rattle.std.proofs.Common.{sym, subst}
use Rattle.coco_base.specs.declared.netlist.Flat.{Flat}
use Rattle.coco_model.specs.Setups.{IsBoundTo}
use Rattle.unroll.proofs.tests.without_a_pc_line_there_are_no_numbers.Goals as goal

pub pcs_of-requires : goal.pcs_of-requires
pcs_of-requires g c = subst (λ (f : Flat). IsBoundTo f c.in_ok-setup.setup) (sym c.in_ok-graph.ensures) c.in_ok-setup.ensures
