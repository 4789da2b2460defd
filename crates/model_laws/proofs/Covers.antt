-- A run that is covered for one window is covered for each: a moment of a probe is a probe.
use Rattle.std.proofs.Common.{ℕ, ◌<◌, subst, arith}
use Rattle.coco_base.specs.declared.netlist.Flat.{Flat}
use Rattle.coco_base.specs.declared.setup.Setup.{Setup}
use Rattle.coco_base.specs.declared.finding.Probe.{Probe}
use Rattle.std.specs.Prelude.{◌≢◌, Some}
use Rattle.coco_model.specs.Known.{Row}
use Rattle.coco_model.specs.Reach.{Reach}
use Rattle.coco_model.specs.Roots.{Root}
use Rattle.coco_model.specs.Secure.{IsProbe}
use Rattle.coco_model.specs.Cones.{IsInProbeCone}
use Rattle.model_laws.proofs.Windows.{moment_of, lasts_at, moments_of_one}
use Rattle.model_laws.specs.RunLaws.{CoveredWindowLaw, OneCycleLaw}

module _ (flat : Flat) (setup : Setup) (cycles window other : ℕ) (some : 0 < other) (row : ℕ → Row) (reach : Reach)
    (root : ℕ → ℕ → Root) where
  at_moment : (l : ℕ) → (probe : Probe) × IsProbe flat.bits setup.clock cycles probe
      × IsInProbeCone flat cycles window row reach root probe l
      → (probe : Probe) × IsProbe flat.bits setup.clock cycles probe × IsInProbeCone flat cycles other row reach root probe l
  at_moment l (probe, is, cone) =
      let m = moment_of cycles window probe cone.moment cone.lasts in
      let below = m.below in (
        cone.moment,
        record {
          bit = subst (λ b. b < flat.bits) m.bit is.bit;
          no_clock = subst (λ b. setup.clock ≢ Some b) m.bit is.no_clock;
          cycle = m.below;
        },
        record {
          moment = cone.moment;
          lasts = lasts_at cycles other cone.moment cone.moment.cycle (omega arith) (omega arith) m.below;
          leaf = cone.leaf;
          cycle = cone.cycle;
          shows = cone.shows;
          member = cone.member;
        },
      )

pub covered_window_law : CoveredWindowLaw
unfolding CoveredWindowLaw
covered_window_law flat setup cycles window other some row reach root covered = record {
  shares = covered.shares;
  secret = covered.secret;
  each = λ l h. at_moment flat setup cycles window other some row reach root l (covered.each l h);
}

pub one_cycle_law : OneCycleLaw
unfolding OneCycleLaw
one_cycle_law = moments_of_one
