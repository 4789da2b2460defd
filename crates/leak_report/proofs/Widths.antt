-- The bits of secrets, counted by their widths.
use Rattle.std.proofs.Common.{◌≡◌, ℕ, ◌+◌, List, [], ◌∷◌, length, map, refl, sym, ◌∙◌}
use Rattle.std.specs.Prelude.{sum_by}
use Rattle.std.specs.List.{range_with_len}
use Rattle.std.proofs.lemmas.List.{length-append}
use Rattle.std.proofs.lemmas.List.Sums.{sum_by-cons}
use Rattle.std.proofs.lemmas.List.FromFn.{length-map-range_with_len}
use Rattle.coco_base.specs.declared.labels.SecretPlan.{SecretPlan}
use Rattle.coco_model.specs.Labels.{secret_labels, share_labels}

pub widths : (secrets : List SecretPlan) → length (secret_labels secrets) ≡ sum_by (λ (s : SecretPlan). s.width) secrets
widths [] = refl
widths (s ∷ secrets) =
    length-append (map (share_labels s) (range_with_len 0 s.width)) (secret_labels secrets)
    ∙ (rw (length-map-range_with_len (share_labels s) 0 s.width, widths secrets)
    (sym (sum_by-cons (λ (t : SecretPlan). t.width) s secrets)))
