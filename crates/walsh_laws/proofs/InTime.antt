-- Security holds under every order of gate events, since what probes observe determines the waveforms.
use Rattle.std.proofs.Common.{◌≡◌, ℕ, List, [], ◌∷◌, refl, ◌∙◌, ap, subst}
use Rattle.std.specs.Prelude.{Contains}
use Rattle.std.proofs.Math.Path.{fun_ext}
use Rattle.coco_base.specs.declared.netlist.Flat.{Flat}
use Rattle.coco_base.specs.declared.finding.Probe.{Probe}
use Rattle.coco_base.specs.declared.setup.Setup.{Setup}
use Rattle.coco_model.specs.Netlist.{Valuation}
use Rattle.coco_model.specs.Labels.{Choice}
use Rattle.coco_model.specs.Run.{before}
use Rattle.coco_model.specs.Known.{Row, IsKnown}
use Rattle.coco_model.specs.Controls.{AreControlsKnown}
use Rattle.coco_model.specs.Reach.{Reach, IsReach}
use Rattle.coco_model.specs.Meaning.{HasMeaning}
use Rattle.coco_model.specs.Events.{Event, waveform}
use Rattle.coco_model.specs.Secure.{IsProbe, moments, IsSecure, IsSecureFor, observation}
use Rattle.coco_model.specs.SecureInTime.{waveforms, same_waveforms, IsSecureInTime}
use Rattle.coco_model.proofs.Basics.{Contains-here, Contains-later}
use Rattle.model_laws.proofs.Calms.{waveform_law}
use Rattle.model_laws.proofs.Meanings.{meaning_law}
use Rattle.model_laws.proofs.Windows.{moments-probes}
use Rattle.model_laws.proofs.Unique.{one_known_law}
use Rattle.model_laws.specs.Laws.{IsChecked, MeaningLaw, OneKnownLaw, WaveformLaw}
use Rattle.walsh_laws.specs.Security.{InTimeLaw}
use Rattle.walsh_laws.proofs.Determined.{AgreeOn, same_observed, equally_often}

same_waves : (flat : Flat) (v w : ℕ → Valuation) (schedule : ℕ → List Event) (probes : List Probe)
    → ((p : Probe) → Contains probes p
    → waveform flat (v p.cycle) p.bit (v (before p.cycle)) (schedule p.cycle)
    ≡ waveform flat (w p.cycle) p.bit (w (before p.cycle)) (schedule p.cycle))
    → waveforms flat v schedule probes ≡ waveforms flat w schedule probes
same_waves flat v w schedule [] each = refl
same_waves flat v w schedule (p ∷ probes) each =
    ap (λ x. x ∷ waveforms flat v schedule probes) (each p (Contains-here p probes))
    ∙ ap (λ xs. waveform flat (w p.cycle) p.bit (w (before p.cycle)) (schedule p.cycle) ∷ xs)
    (same_waves flat v w schedule probes (λ q h. each q (Contains-later p q probes h)))

-- for one reach
in_time : (flat : Flat) (setup : Setup) (cycles : ℕ) (rank : ℕ → ℕ) (reach : Reach) → (is : IsReach flat setup cycles reach)
    → IsChecked flat setup cycles rank is.row is.word
    → (window d : ℕ) → IsSecureFor flat setup cycles window reach d → IsSecureInTime flat setup cycles window d
unfolding IsSecureFor IsSecureInTime WaveformLaw
in_time flat setup cycles rank reach is checked window d secure run memory runs schedule probes few first secrets others e f seen =
    equally_often setup cycles reach run lasts secrets others (secure run memory runs probes few first secrets others e f)
    (λ c. same_waveforms (waveforms flat (run c) schedule lasts) seen) determined
  where
    lasts : List Probe
    lasts = moments cycles window probes

    each : (p : Probe) → Contains lasts p → IsProbe flat.bits setup.clock cycles p
    each = moments-probes flat.bits setup.clock cycles window probes first

    determined : (c b : Choice) → observation reach (run c) lasts ≡ observation reach (run b) lasts
        → same_waveforms (waveforms flat (run c) schedule lasts) seen ≡ same_waveforms (waveforms flat (run b) schedule lasts) seen
    determined c b same = ap (λ ws. same_waveforms ws seen) (same_waves flat (run c) (run b) schedule lasts wave)
      where
        agree : (p : Probe) → Contains lasts p → AgreeOn (run c) (run b) p.cycle (reach p.cycle p.bit)
        agree = same_observed reach (run c) (run b) lasts same

        wave : (p : Probe) → Contains lasts p
            → waveform flat (run c p.cycle) p.bit (run c (before p.cycle)) (schedule p.cycle)
            ≡ waveform flat (run b p.cycle) p.bit (run b (before p.cycle)) (schedule p.cycle)
        wave p h = waveform_law flat setup cycles (record { rank = rank; row = is.row; word = is.word; is = checked }) c b (run c) (run b) (memory c) (memory b) (runs.each c)
            (runs.each b) p.cycle (each p h).cycle
            (is.calm p.cycle) (is.still p.cycle (each p h).cycle) p.bit
            (λ leaf reached. agree p h leaf (((is.reached p.cycle (each p h).cycle p.bit (each p h).bit).1 leaf).1 reached))
            (schedule p.cycle)

-- what is known is one, so controls that are known by one account of it are so by another
checked_by : (flat : Flat) (setup : Setup) (cycles : ℕ) (rank : ℕ → ℕ) (row : ℕ → Row) (word : ℕ → ℕ → Row)
    → IsChecked flat setup cycles rank row word
    → (other : ℕ → Row) (others : ℕ → ℕ → Row) → IsKnown flat setup cycles other others → IsChecked flat setup cycles rank other others
unfolding OneKnownLaw
checked_by flat setup cycles rank row word checked other others known = record {
  ranked = checked.ranked;
  bound = checked.bound;
  has_controls = checked.has_controls;
  known = known;
  controls = λ t below. subst (AreControlsKnown setup)
      (fun_ext (one_known_law flat setup cycles rank checked.ranked checked.bound row other word others checked.known known t below).0)
      (checked.controls t below);
}

pub in_time_law : InTimeLaw
unfolding InTimeLaw IsSecure MeaningLaw
in_time_law flat setup cycles sim driven range window d secure =
    go (meaning_law flat setup cycles sim.rank sim.is.ranked sim.is.bound driven range)
  where
    go : HasMeaning flat setup cycles → IsSecureInTime flat setup cycles window d
    go m = in_time flat setup cycles sim.rank m.reach m.reaches
        (checked_by flat setup cycles sim.rank sim.row sim.word sim.is m.reaches.row m.reaches.word m.reaches.known)
        window d (secure m.reach m.reaches)
