-- What is known holds in every run.
use Rattle.std.proofs.Common.{ℕ, ◌<◌, arith}
use Rattle.coco_base.specs.declared.netlist.Flat.{Flat}
use Rattle.coco_base.specs.declared.setup.Start.{Start}
use Rattle.coco_base.specs.declared.setup.Start.TheVariants.{Public, Label, Fresh}
use Rattle.coco_base.specs.declared.setup.Setup.{Setup}
use Rattle.coco_base.specs.declared.labels.LabelTable.{LabelTable}
use Rattle.coco_model.specs.Cells.{Allows}
use Rattle.coco_model.specs.Netlist.{Valuation}
use Rattle.coco_model.specs.Labels.{Choice}
use Rattle.coco_model.specs.Carried.{start_state, AreStarts}
use Rattle.coco_model.specs.Run.{Memory, IsRun, values}
use Rattle.coco_model.specs.Known.{Row, ones, parts}
use Rattle.model_laws.proofs.Forced.{part_of-allows, row-allows}
use Rattle.model_laws.proofs.Carry.{IsLinked, carried-linked}
use Rattle.model_laws.proofs.Requests.{known_requests}
use Rattle.model_laws.specs.Laws.{IsChecked, KnownLaw, RequestsLaw}

-- no demand on starts
abbrev pub IsAnyStart : Start → Type 0
IsAnyStart start = Unit {0}

pub any_starts : (flat : Flat) (setup : Setup) → AreStarts IsAnyStart flat setup
any_starts flat setup = record { flops = λ f h. tt; inputs = λ p h t. tt; words = λ w h k. tt }

known_starts : (choice : Choice) (table : LabelTable) (t : ℕ) (start : Start)
    → Allows (start_state parts table t start) (start_state (values choice) table t start)
known_starts choice table t (Public b) = part_of-allows b
known_starts choice table t (Label l) = tt
known_starts choice table t (Fresh j) = tt

pub known_run : (flat : Flat) (setup : Setup) (cycles : ℕ) (rank : ℕ → ℕ) (row : ℕ → Row) (word : ℕ → ℕ → Row)
    → IsChecked flat setup cycles rank row word
    → (choice : Choice) (v : ℕ → Valuation) (m : ℕ → Memory) → IsRun flat setup cycles choice v m
    → (t : ℕ) → t < cycles → IsLinked flat (row t) (v t) (word t) (m t) Allows Allows
known_run flat setup cycles rank row word checked choice v m run =
    carried-linked parts (values choice) IsAnyStart flat setup cycles (λ t. ones (row t)) v row v word m (λ _. Allows)
    (λ _. Allows) checked.bound (any_starts flat setup)
    (record {
      constants = λ t b. part_of-allows b;
      starts = λ t below start any. known_starts choice setup.table t start;
      settles =
          λ t below lower leaves. row-allows flat rank (row t) (v t) checked.ranked (checked.known.forced t below)
          (run.settled t below) leaves;
      passes = λ t x y h. h;
      stays = λ t x y h. h;
      requests = λ t below allows. known_requests flat setup (row t) (v t) checked.has_controls (checked.controls t (omega arith)) allows;
    })
    checked.known.carried run.carried

pub known_law : KnownLaw
unfolding KnownLaw
known_law flat setup cycles sim choice v m run t below =
    let h = known_run flat setup cycles sim.rank sim.row sim.word sim.is choice v m run t below in (h.bits, h.words)

pub requests_law : RequestsLaw
unfolding RequestsLaw
requests_law flat setup cycles sim choice v m run t below =
    known_requests flat setup (sim.row t) (v t) sim.is.has_controls (sim.is.controls t below)
    (known_run flat setup cycles sim.rank sim.row sim.word sim.is choice v m run t below).bits
