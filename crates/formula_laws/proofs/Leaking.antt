-- The clauses of the goal hold exactly where the set that the labels' variables tell shows a leak.
use Rattle.std.proofs.Common.{◌≡◌, ℕ, ◌⊎◌, inl, inr, Bool, true, false, not, List, refl, sym, ◌∙◌, ap, subst}
use Rattle.std.specs.Prelude.{Contains}
use Rattle.std.proofs.lemmas.Bool.{true≢false, cases_Bool}
use Rattle.coco_base.specs.declared.labels.LabelTable.{LabelTable}
use Rattle.coco_model.specs.Findings.{Labels, IsWhole}
use Rattle.coco_model.specs.Goals.{goal_clauses, is_share_of, variable_of, whole_bits}
use Rattle.coco_model.specs.Labels.{secret_labels, IsLabelTable}
use Rattle.coco_model.specs.WrittenFindings.{IsLeakingSet}
use Rattle.coco_model.proofs.Basics.{HasMember}
use Rattle.circuit_clauses.specs.Signals.{value}
use Rattle.circuit_clauses.proofs.Gating.{value-negated}
use Rattle.clause_builds.specs.Rows.{signal_at}
use Rattle.probe_encode.specs.Goals.{label_signal}
use Rattle.walsh_laws.proofs.WholeSets.{secrets_apart}
use Rattle.formula_laws.specs.Leaks.{GoalLaw}
use Rattle.formula_laws.proofs.Demands.{demands_hold, demands_true}
use Rattle.formula_laws.proofs.GoalClauses.{ShowLeak, leak_from, leak_to}
use Rattle.formula_laws.proofs.WholeBits.{bit_whole, first_share, is_share, one_list, share_of, whole_bit}

module _ (table : LabelTable) (is : IsLabelTable table) (labels : List ℕ) (set : Labels) (bit : ℕ → Bool)
    (told : (l : ℕ) → Contains labels l → bit l ≡ set l) (within : (l : ℕ) → set l ≡ true → Contains labels l) where
  -- where the bits show a leak: each label of the set is a share of a secret bit whose shares all have variables
  bit_with : ShowLeak labels (whole_bits table labels) bit → (l : ℕ) → set l ≡ true
      → HasMember (λ (ls : List ℕ). Contains ls l) (whole_bits table labels)
  bit_with leak l e = elim (cases_Bool (is_share_of (whole_bits table labels) l)) [
    | inl found ↦ share_of (whole_bits table labels) l found
    | inr none ↦ (let absent : bit l ≡ false = leak.others l (within l e) none in
        absurd (true≢false (sym e ∙ (sym (told l (within l e)) ∙ absent))))
  ]

  all_or_none : ShowLeak labels (whole_bits table labels) bit → (shares : List ℕ) → Contains (secret_labels table.secrets) shares → (a b : ℕ)
      → Contains shares a → Contains shares b → set a ≡ set b
  all_or_none leak shares secret a b ha hb = go (cases_Bool (set a)) (cases_Bool (set b))
    where
      listed : (l : ℕ) → Contains shares l → set l ≡ true → Contains (whole_bits table labels) shares
      listed l h e =
          let m = bit_with leak l e in
          let w = whole_bit table labels m.member m.listed in
          subst (Contains (whole_bits table labels))
          (one_list (secret_labels table.secrets) (secrets_apart table is) m.member shares l w.secret secret m.holds h) m.listed

      same : Contains (whole_bits table labels) shares → set a ≡ set b
      same i =
          let w = whole_bit table labels shares i in
          sym (told a (w.each a ha)) ∙ (leak.alike shares i a b ha hb ∙ told b (w.each b hb))

      go : (set a ≡ true) ⊎ (set a ≡ false) → (set b ≡ true) ⊎ (set b ≡ false) → set a ≡ set b
      go (inl e) other = same (listed a ha e)
      go (inr e) (inl f) = same (listed b hb f)
      go (inr e) (inr f) = e ∙ sym f

  pub set_leaks : ShowLeak labels (whole_bits table labels) bit → IsLeakingSet table set
  set_leaks leak =
      let w = whole_bit table labels leak.first.member leak.first.listed in
      let f = first_share table is leak.first.member w.secret in
      record {
        member = f.label;
        not_empty = sym (told f.label (w.each f.label f.listed)) ∙ (ap bit (sym (f.at 0)) ∙ leak.first.holds);
        whole = record {
          no_mask = λ l e.
              let m = bit_with leak l e in
              (m.member, (whole_bit table labels m.member m.listed).secret, m.holds);
          all_or_none = all_or_none leak;
        };
      }

  -- where the set shows a leak: so it is too
  whole_with_label : IsWhole table set → (l : ℕ) → set l ≡ true → HasMember (λ (ls : List ℕ). Contains ls l) (whole_bits table labels)
  whole_with_label whole l e =
      let m = whole.no_mask l e in
      record {
        member = m.0;
        listed = bit_whole table is labels m.0
            (record { secret = m.1; each = λ k h. within k (whole.all_or_none m.0 m.1 k l h m.2 ∙ e) });
        holds = m.2;
      }

  no_other : IsWhole table set → (l : ℕ) → Contains labels l → is_share_of (whole_bits table labels) l ≡ false → bit l ≡ false
  no_other whole l h none = elim (cases_Bool (set l)) [
    | inl e ↦ (let m = whole_with_label whole l e in
        absurd (true≢false (sym (is_share (whole_bits table labels) m.member l m.listed m.holds) ∙ none)))
    | inr e ↦ told l h ∙ e
  ]

  pub bits_leak : IsLeakingSet table set → ShowLeak labels (whole_bits table labels) bit
  bits_leak leak =
      let m = whole_with_label leak.whole leak.member leak.not_empty in
      let w = whole_bit table labels m.member m.listed in
      let f = first_share table is m.member w.secret in
      record {
        others = no_other leak.whole;
        alike = λ ls listed a b ha hb.
            let v = whole_bit table labels ls listed in
            told a (v.each a ha) ∙ (leak.whole.all_or_none ls v.secret a b ha hb ∙ sym (told b (v.each b hb)));
        first = record {
          member = m.member;
          listed = m.listed;
          holds = ap bit (f.at 0) ∙ (told f.label (w.each f.label f.listed)
              ∙ (leak.whole.all_or_none m.member w.secret f.label leak.member f.listed m.holds ∙ leak.not_empty));
        };
      }

pub goal_leaks : GoalLaw
unfolding GoalLaw
goal_leaks values var variables table labels set is ascending tells =
    let bit : ℕ → Bool = λ l. value values (signal_at variables (variable_of labels l)) in
    let fails : (l : ℕ) → value values (label_signal variables labels l false) ≡ not (bit l) =
    λ l. value-negated values (signal_at variables (variable_of labels l)) in
    let clauses = goal_clauses (label_signal variables labels) labels (whole_bits table labels) in (
      λ h. set_leaks table is labels set bit tells.told tells.within
          (leak_from (value values) (label_signal variables labels) bit (λ l. refl) fails labels (whole_bits table labels)
          (demands_true values clauses var h)),
      λ leak. demands_hold values clauses var
          (leak_to (value values) (label_signal variables labels) bit (λ l. refl) fails labels (whole_bits table labels)
          (bits_leak table is labels set bit tells.told tells.within leak)),
    )
