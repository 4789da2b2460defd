-- What holds over some cycles holds over fewer.
use Rattle.std.proofs.Common.{ℕ, ◌≤◌, arith}
use Rattle.coco_base.specs.declared.netlist.Flat.{Flat}
use Rattle.coco_base.specs.declared.setup.Setup.{Setup}
use Rattle.coco_model.specs.Netlist.{Valuation}
use Rattle.coco_model.specs.Carried.{States, IsCarried}
use Rattle.coco_model.specs.Run.{values}
use Rattle.coco_model.specs.Known.{parts, ones}
use Rattle.coco_model.specs.Roots.{roots}
use Rattle.model_laws.specs.RunLaws.{FewerCyclesLaw}

carried_over_fewer : {X : Type 0} (states : States X) (flat : Flat) (setup : Setup) (cycles fewer : ℕ) (v : ℕ → Valuation)
    (state : ℕ → ℕ → X) (word : ℕ → ℕ → ℕ → X) → fewer ≤ cycles
    → IsCarried states flat setup cycles v state word → IsCarried states flat setup fewer v state word
carried_over_fewer states flat setup cycles fewer v state word le is = record {
  given = λ t below. is.given t (omega arith);
  first = is.first;
  next = λ t below. is.next t (omega arith);
}

pub fewer_cycles_law : FewerCyclesLaw
unfolding FewerCyclesLaw
fewer_cycles_law flat setup cycles fewer le = record {
  runs = λ choice v m run. record {
    settled = λ t below. run.settled t (omega arith);
    carried = carried_over_fewer (values choice) flat setup cycles fewer v v m le run.carried;
  };
  known = λ row word is. record {
    forced = λ t below. is.forced t (omega arith);
    carried = carried_over_fewer parts flat setup cycles fewer (λ t. ones (row t)) row word le is.carried;
  };
  roots = λ row root word is. record {
    cells = λ t below. is.cells t (omega arith);
    carried = carried_over_fewer roots flat setup cycles fewer (λ t. ones (row t)) root word le is.carried;
  };
}
