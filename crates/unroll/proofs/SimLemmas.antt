-- What a simulation tells of the run.
use Rattle.std.proofs.Common.{◌≡◌, ℕ, zero, suc, ◌<◌, List, sym, ◌∙◌, subst, arith}
use Rattle.std.proofs.Math.Path.{fun_ext}
use Rattle.coco_base.specs.declared.cell.Part.{Part}
use Rattle.coco_base.specs.declared.netlist.Flat.{Flat}
use Rattle.coco_base.specs.declared.setup.Setup.{Setup}
use Rattle.coco_model.specs.Controls.{AreControlsKnown}
use Rattle.coco_model.specs.Known.{Row, IsKnown}
use Rattle.coco_model.specs.Run.{before}
use Rattle.coco_model.specs.Setups.{IsBoundTo}
use Rattle.coco_model.specs.Stepped.{IsShownAt, IsStepped, HasNoOutside, row_of}
use Rattle.model_laws.proofs.Unique.{one_known_law}
use Rattle.model_laws.specs.Laws.{OneKnownLaw}
use Rattle.gate_graph.specs.Graphs.{Gates, IsBuilt, rank_in}
use Rattle.cycle_sim.specs.Simulations.{Simulation, HasStepped, HasShown}
use Rattle.unroll.specs.RootedRuns.{RootedRun}
use Rattle.unroll.specs.Walks.{IsRunAt, IsRunTo}

-- what is known over some cycles is one
pub same_row : (g : Gates) (setup : Setup) → IsBuilt g → IsBoundTo g.flat setup → (cycles : ℕ) (row other : ℕ → Row) (word others : ℕ → ℕ → Row)
    → IsKnown g.flat setup cycles row word → IsKnown g.flat setup cycles other others → (t : ℕ) → t < cycles → row t ≡ other t
unfolding OneKnownLaw
same_row g setup built bound cycles row other word others known known_other t below =
    fun_ext (one_known_law g.flat setup cycles (rank_in g) built.ranked bound.bound row other word others known known_other t below).0

-- what is known in cycle t and in the one before, past good cycles
pub record IsNow (flat : Flat) (setup : Setup) (t : ℕ) (known old : List Part) : Type 0 where
  pub row : ℕ → Row
  pub word : ℕ → ℕ → Row
  pub stepped : IsStepped flat setup (suc t) row word
  pub now : row t ≡ row_of known
  pub earlier : row_of old ≡ row (before t)

before_below : (t : ℕ) → before t < suc t
before_below zero = omega arith
before_below (suc t) = omega arith

now_of : (g : Gates) (setup : Setup) → IsBuilt g → IsBoundTo g.flat setup → (t : ℕ) (known old : List Part) (row : ℕ → Row) (word : ℕ → ℕ → Row)
    → IsStepped g.flat setup (suc t) row word → row t ≡ row_of known → IsShownAt g.flat setup t known old → IsNow g.flat setup t known old
now_of g setup built bound t known old row word stepped now shown = record {
  row = row;
  word = word;
  stepped = stepped;
  now = now;
  earlier = fun_ext shown.earlier ∙ same_row g setup built bound (suc t) shown.row row shown.word word shown.is_known stepped.known (before t) (before_below t);
}

-- a simulation past a good cycle tells it
pub sim_now : (g : Gates) (setup : Setup) (sim : Simulation) (t : ℕ) → sim.gates ≡ g → sim.setup ≡ setup → IsBuilt g → IsBoundTo g.flat setup
    → sim.cycles ≡ suc t → HasStepped sim t → HasShown sim → IsNow g.flat setup t sim.known sim.old
sim_now g setup sim t gates setups built bound cycles stepped shown =
    now_of g setup built bound t sim.known sim.old stepped.row stepped.word stepped_is stepped.now shown_is
  where
    same : shown.cycle ≡ t
    same = let a = shown.is in omega arith

    stepped_is : IsStepped g.flat setup (suc t) stepped.row stepped.word
    stepped_is =
        subst (λ (s : Setup). IsStepped g.flat s (suc t) stepped.row stepped.word) setups
        (subst (λ (x : Gates). IsStepped x.flat sim.setup (suc t) stepped.row stepped.word) gates stepped.stepped)

    shown_is : IsShownAt g.flat setup t sim.known sim.old
    shown_is =
        subst (λ (n : ℕ). IsShownAt g.flat setup n sim.known sim.old) same
        (subst (λ (s : Setup). IsShownAt g.flat s shown.cycle sim.known sim.old) setups
        (subst (λ (x : Gates). IsShownAt x.flat sim.setup shown.cycle sim.known sim.old) gates shown.shown))

-- no port asked for what is outside in the cycle before
pub none_outside : (flat : Flat) (setup : Setup) (t : ℕ) (known old : List Part) → IsNow flat setup t known old → HasNoOutside setup (row_of old)
none_outside flat setup t known old now =
    subst (HasNoOutside setup) (sym now.earlier) (now.stepped.good (before t) (before_below t)).inside

-- a run is what the simulation tells
pub run_at : (g : Gates) (setup : Setup) → IsBuilt g → IsBoundTo g.flat setup → (t : ℕ) (known old : List Part) → IsNow g.flat setup t known old
    → (run : RootedRun) → IsRunTo g setup (suc t) run → IsRunAt g setup t known old run
run_at g setup built bound t known old now run is = record {
  checked = record {
    ranked = built.ranked;
    bound = bound.bound;
    has_controls = bound.controls;
    known = is.known;
    controls = λ s below. subst (AreControlsKnown setup) (same s below) (now.stepped.good s below).controls;
  };
  roots = is.roots;
  now = sym now.now ∙ same t (omega arith);
  earlier = now.earlier ∙ same (before t) (before_below t);
}
  where
    same : (s : ℕ) → s < suc t → now.row s ≡ run.row s
    same s below = same_row g setup built bound (suc t) now.row run.row now.word run.word now.stepped.known is.known s below
