-- The node and the root of a cell.
use Rattle.std.proofs.Common.{◌≡◌, ◌≢◌, ℕ, zero, suc, ◌-◌, ◌<◌, List, refl, sym, ◌∙◌, ap, subst, arith}
use Rattle.std.proofs.Math.Path.{fun_ext}
use Rattle.std.specs.Prelude.{Contains}
use Rattle.coco_base.specs.declared.cell.Part.{Part}
use Rattle.coco_base.specs.declared.cell.Part.TheVariants.{Vary}
use Rattle.coco_base.specs.declared.netlist.FlatCell.{FlatCell}
use Rattle.coco_base.specs.declared.netlist.Wire.{Wire}
use Rattle.coco_base.specs.declared.setup.Setup.{Setup}
use Rattle.coco_base.specs.declared.unrolled.Node.{Node}
use Rattle.coco_base.specs.declared.unrolled.Node.TheVariants.{Nothing, Copy}
use Rattle.coco_model.specs.Known.{Row, wire_part}
use Rattle.coco_model.specs.Netlist.{wires_of}
use Rattle.coco_model.specs.Nodes.{IsOwnGate}
use Rattle.coco_model.specs.Roots.{Root, wire_root, IsSteady, IsKept, HasCellRoot}
use Rattle.coco_model.specs.Roots.Root.{nothing, output}
use Rattle.coco_model.specs.Run.{before}
use Rattle.coco_model.specs.Stepped.{row_of}
use Rattle.gate_graph.specs.Graphs.{Gates}
use Rattle.unroll.specs.NodeRows.{roots_of, HasFourPlaces}
use Rattle.unroll.specs.RootedRuns.{RootedRun, number_in}
use Rattle.unroll.specs.Moments.{HasInputRoots, AreOldRoots}
use Rattle.unroll.specs.Walks.{IsRunAt, IsCellEntry}
use Rattle.unroll.specs.declared.origin.Origin.{Origin}

-- each input of a cell is steady, by the rows and roots that are told
abbrev pub AreSteady : List Part → List Part → List Origin → List Origin → FlatCell → Type 0
AreSteady old known old_roots roots c =
    (w : Wire) → Contains (wires_of c) w → IsSteady (row_of old) (row_of known) (roots_of old_roots) (roots_of roots) w

pub kept_is : (g : Gates) (setup : Setup) (t : ℕ) (known old : List Part) (old_roots roots : List Origin) (c : FlatCell) (run : RootedRun)
    → IsRunAt g setup t known old run → AreOldRoots run t old_roots → HasInputRoots (roots_of roots) (run.root t) c
    → 0 < t → AreSteady old known old_roots roots c → IsKept run.row run.root t c
kept_is g setup zero known old old_roots roots c run at olds inputs some steady = absurd (omega arith)
kept_is g setup (suc p) known old old_roots roots c run at olds inputs some steady = λ w h. record {
  part = ap (λ (r : Row). wire_part r w) (sym at.earlier) ∙ (steady w h).part ∙ ap (λ (r : Row). wire_part r w) at.now;
  root = ap (λ (r : ℕ → Root). wire_root r w) (sym (fun_ext (olds p refl))) ∙ (steady w h).root ∙ inputs w h;
}

pub kept_back : (g : Gates) (setup : Setup) (t : ℕ) (known old : List Part) (old_roots roots : List Origin) (c : FlatCell) (run : RootedRun)
    → IsRunAt g setup t known old run → AreOldRoots run t old_roots → HasInputRoots (roots_of roots) (run.root t) c
    → IsKept run.row run.root t c → (0 < t) × AreSteady old known old_roots roots c
kept_back g setup zero known old old_roots roots c run at olds inputs kept = absurd kept
kept_back g setup (suc p) known old old_roots roots c run at olds inputs kept = (
  omega arith,
  λ w h. record {
    part = ap (λ (r : Row). wire_part r w) at.earlier ∙ (kept w h).part ∙ ap (λ (r : Row). wire_part r w) (sym at.now);
    root = ap (λ (r : ℕ → Root). wire_root r w) (fun_ext (olds p refl)) ∙ (kept w h).root ∙ sym (inputs w h);
  },
)

-- a cell that keeps its root
pub kept_entry : (g : Gates) (setup : Setup) (t : ℕ) (known old : List Part) (old_roots roots : List Origin) (c : FlatCell) (run : RootedRun)
    → IsRunAt g setup t known old run → AreOldRoots run t old_roots → HasInputRoots (roots_of roots) (run.root t) c
    → HasCellRoot run.row run.root t c → row_of known c.output ≡ Vary → 0 < t → AreSteady old known old_roots roots c
    → (number : ℕ) (root : Root) → number ≡ number_in g (before t) c.output → root ≡ roots_of old_roots c.output
    → IsCellEntry g run t c (Copy number) root
kept_entry g setup t known old old_roots roots c run at olds inputs has varies some steady number root is same =
    record {
      node_is = record {
        known = λ n. absurd (n unknown);
        kept = λ e k. ap Copy is;
        own = λ e none. absurd (none kept);
      };
      places = tt;
      root_is = same ∙ earlier t some olds ∙ sym (has.kept unknown kept);
    }
  where
    unknown : run.row t c.output ≡ Vary
    unknown = ap (λ (r : Row). r c.output) (sym at.now) ∙ varies

    kept : IsKept run.row run.root t c
    kept = kept_is g setup t known old old_roots roots c run at olds inputs some steady

    earlier : (t : ℕ) → 0 < t → AreOldRoots run t old_roots → roots_of old_roots c.output ≡ run.root (before t) c.output
    earlier zero some olds = absurd (omega arith)
    earlier (suc p) some olds = olds p refl c.output

-- a cell that has a root of its own
pub own_entry : (g : Gates) (setup : Setup) (t : ℕ) (known old : List Part) (old_roots roots : List Origin) (c : FlatCell) (run : RootedRun)
    → IsRunAt g setup t known old run → AreOldRoots run t old_roots → HasInputRoots (roots_of roots) (run.root t) c
    → HasCellRoot run.row run.root t c → row_of known c.output ≡ Vary → ((0 < t) × AreSteady old known old_roots roots c → ⊥)
    → (node : Node) → IsOwnGate (number_in g t) (row_of known) c node
    → HasFourPlaces node → IsCellEntry g run t c node (output t c.output)
own_entry g setup t known old old_roots roots c run at olds inputs has varies moved node gate places =
    record {
      node_is = record {
        known = λ n. absurd (n unknown);
        kept = λ e k. absurd (none k);
        own = λ e k. subst (λ (r : Row). IsOwnGate (number_in g t) r c node) at.now gate;
      };
      places = places;
      root_is = sym (has.own unknown none);
    }
  where
    unknown : run.row t c.output ≡ Vary
    unknown = ap (λ (r : Row). r c.output) (sym at.now) ∙ varies

    none : IsKept run.row run.root t c → ⊥
    none kept = moved (kept_back g setup t known old old_roots roots c run at olds inputs kept)

-- a cell whose output is known
pub known_entry : (g : Gates) (setup : Setup) (t : ℕ) (known old : List Part) (c : FlatCell) (run : RootedRun)
    → IsRunAt g setup t known old run → HasCellRoot run.row run.root t c → row_of known c.output ≢ Vary
    → IsCellEntry g run t c Nothing nothing
known_entry g setup t known old c run at has fixed = record {
  node_is = record {
    known = λ n. refl;
    kept = λ e k. absurd (still e);
    own = λ e k. absurd (still e);
  };
  places = tt;
  root_is = sym (has.known still);
}
  where
    still : run.row t c.output ≢ Vary
    still e = fixed (ap (λ (r : Row). r c.output) at.now ∙ e)

pub before_less : (t : ℕ) → t - 1 ≡ before t
before_less zero = refl
before_less (suc t) = omega arith
