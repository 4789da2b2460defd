-- What a model reads as names bits and labels of the run.
use Rattle.std.proofs.Common.{sym, subst, arith}
use Rattle.coco_model.specs.Goals.{variable_of}
use Rattle.coco_model.specs.Labels.{label_count}
use Rattle.circuit_clauses.specs.Laws.{ClausesLaw}
use Rattle.circuit_clauses.specs.Signals.{value}
use Rattle.clause_builds.specs.Rows.{signal_at}
use Rattle.probe_clauses.specs.Probings.{probing_of}
use Rattle.probe_laws.specs.Laws.{SoundProbesLaw}
use Rattle.probe_laws.specs.Showing.{IsProbeChoice, chosen}
use Rattle.probe_encode.specs.Formulas.{Encoding, formula, labels_of}
use Rattle.probe_encode.specs.Labels.{has_label}
use Rattle.probe_encode.specs.Readings.{finding_of}
use Rattle.probe_encode.specs.Sources.{encoding_of}
use Rattle.formula_laws.specs.Laws.{InRunLaw, IsInRun}
use Rattle.formula_laws.proofs.ReadMoments.{moments_listed, kept_is}
use Rattle.formula_laws.proofs.Pieces.{meet_parts, labels_part, after_labels, probes_part, tables_in, formula_result}
use Rattle.formula_laws.proofs.Sound.{is_probing, filter_to}

pub finding_in_run : ClausesLaw → SoundProbesLaw → InRunLaw
unfolding InRunLaw
finding_in_run clauses sound view u coned reach run values model =
    subst (λ tables. IsInRun u.bits (label_count u.table u.cycles) (finding_of tables values)) (sym (formula_result e))
    (named (sound values (after_labels e) (probing_of view) (is_probing view u coned reach run)
    (meet_parts e values ((clauses values 0 (formula e 0).steps).0 model)).probes))
  where
    e : Encoding
    e = encoding_of view u coned

    named : IsProbeChoice (probing_of view) (chosen values (probes_part e).result.probes) (chosen values (probes_part e).result.pairs)
        → IsInRun u.bits (label_count u.table u.cycles) (finding_of (tables_in e) values)
    named choice = record {
      probes = λ p h.
          (let place = choice.probe_places p.cycle p.bit (((moments_listed values (probes_part e).result.probes).members p).0 h) in
          let b = place.bit in let same = run.source.bits in omega (arith, b, same));
      seen = λ p h.
          (let place = choice.pair_places p.cycle p.bit (((moments_listed values (probes_part e).result.pairs).members p).0 h) in
          let b = place.bit in let same = run.source.bits in omega (arith, b, same));
      set = λ l h.
          (let listed = filter_to (λ m. value values (signal_at (labels_part e).result (variable_of (labels_of e) m))) (labels_of e) l h in
          let kept = kept_is (has_label view coned.cones) 0 (label_count u.table u.cycles) l listed.0 in
          let b = kept.to in omega (arith, b));
    }
