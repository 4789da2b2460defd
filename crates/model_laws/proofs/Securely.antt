-- Security for one reach is security, since what a probe reaches is one.
use Rattle.std.proofs.Common.{◌≡◌, ℕ, ◌<◌, Bool, List, [], ◌∷◌, ◌++◌, length, filter, flat_map, refl, sym, ◌∙◌, ap}
use Rattle.std.specs.Prelude.{Contains}
use Rattle.std.proofs.Math.Path.{fun_ext}
use Rattle.coco_base.specs.declared.finding.Probe.{Probe}
use Rattle.coco_base.specs.declared.netlist.Flat.{Flat}
use Rattle.coco_base.specs.declared.setup.Setup.{Setup}
use Rattle.coco_model.specs.Netlist.{Valuation}
use Rattle.coco_model.specs.Labels.{Choice, choices_with, same_bits}
use Rattle.coco_model.specs.Run.{before}
use Rattle.coco_model.specs.Reach.{Reach}
use Rattle.coco_model.specs.Secure.{IsProbe, moments, observation, count_showing, IsSecureFor, IsSecure}
use Rattle.coco_model.proofs.Basics.{Contains-here, Contains-later}
use Rattle.model_laws.proofs.Windows.{moments-probes}
use Rattle.model_laws.proofs.Reached.{one_reach_law}
use Rattle.model_laws.specs.Laws.{OneReachLaw, SecureLaw}

-- what a probe shows of the leaves that it reaches
abbrev pub shown : (ℕ → Valuation) → ℕ → List ℕ → List Bool
shown v t leaves = flat_map (λ l. v (before t) l ∷ v t l ∷ []) leaves

observation-same : (reach other : Reach) (v : ℕ → Valuation) (probes : List Probe)
    → ((p : Probe) → Contains probes p → reach p.cycle p.bit ≡ other p.cycle p.bit)
    → observation reach v probes ≡ observation other v probes
observation-same reach other v [] same = refl
observation-same reach other v (p ∷ probes) same =
    ap (λ leaves. shown v p.cycle leaves ++ observation reach v probes) (same p (Contains-here p probes))
    ∙ ap (λ rest. shown v p.cycle (other p.cycle p.bit) ++ rest)
    (observation-same reach other v probes (λ q h. same q (Contains-later p q probes h)))

count-same : (setup : Setup) (cycles : ℕ) (reach other : Reach) (run : Choice → ℕ → Valuation) (probes : List Probe)
    → ((p : Probe) → Contains probes p → reach p.cycle p.bit ≡ other p.cycle p.bit)
    → (secrets seen : List Bool)
    → count_showing setup cycles reach run probes secrets seen ≡ count_showing setup cycles other run probes secrets seen
count-same setup cycles reach other run probes same secrets seen =
    ap (λ test. length (filter test (choices_with setup.table cycles secrets)))
    (fun_ext (λ c. ap (λ bits. same_bits bits seen) (observation-same reach other (run c) probes same)))

-- security goes from one reach to another that is the same where probes can be
secure-same : (flat : Flat) (setup : Setup) (cycles : ℕ) (reach other : Reach)
    → ((t b : ℕ) → t < cycles → b < flat.bits → reach t b ≡ other t b)
    → (window d : ℕ) → IsSecureFor flat setup cycles window reach d → IsSecureFor flat setup cycles window other d
unfolding IsSecureFor
secure-same flat setup cycles reach other same window d secure run memory runs probes few each secrets others count count' seen =
    sym (counts secrets) ∙ secure run memory runs probes few each secrets others count count' seen ∙ counts others
  where
    all : (p : Probe) → Contains (moments cycles window probes) p → IsProbe flat.bits setup.clock cycles p
    all = moments-probes flat.bits setup.clock cycles window probes each

    counts : (values : List Bool)
        → count_showing setup cycles reach run (moments cycles window probes) values seen
        ≡ count_showing setup cycles other run (moments cycles window probes) values seen
    counts values = count-same setup cycles reach other run (moments cycles window probes)
        (λ p h. same p.cycle p.bit (all p h).cycle (all p h).bit) values seen

pub secure_law : SecureLaw
unfolding SecureLaw IsSecure OneReachLaw
secure_law flat setup cycles rank ranked bound reach is_reach window d secure other is_other =
    secure-same flat setup cycles reach other (one_reach_law flat setup cycles rank ranked bound reach other is_reach is_other) window d secure
