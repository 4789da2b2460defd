-- What the observation of probes determines is counted equally.
use Rattle.std.proofs.Common.{◌≡◌, ℕ, ◌⊎◌, inl, inr, Bool, ◌&&◌, List, [], ◌∷◌, ◌++◌, filter, length, refl, sym, ◌∙◌, ap, subst}
use Rattle.std.specs.Prelude.{Contains, flat_map}
use Rattle.std.proofs.lemmas.List.{map-append}
use Rattle.coco_base.specs.declared.finding.Probe.{Probe}
use Rattle.coco_base.specs.declared.setup.Setup.{Setup}
use Rattle.coco_model.specs.Netlist.{Valuation}
use Rattle.coco_model.specs.Labels.{Choice, choices_with, label_count, secret_bits, same_bits}
use Rattle.coco_model.specs.Run.{before}
use Rattle.coco_model.specs.Reach.{Reach}
use Rattle.coco_model.specs.Secure.{observation, count_showing}
use Rattle.coco_model.proofs.Choices.{count, count-cong, filtered_twice}
use Rattle.coco_model.proofs.Basics.{Contains-here, Contains-later, Contains-cases, Contains-none}
use Rattle.model_laws.proofs.Securely.{shown}
use Rattle.walsh_laws.proofs.Counts.{values_of, equal_determined}

-- runs have the same old and new values of leaves
abbrev pub AgreeOn : (ℕ → Valuation) → (ℕ → Valuation) → ℕ → List ℕ → Type 0
AgreeOn v w t leaves = (l : ℕ) → Contains leaves l → (v (before t) l ≡ w (before t) l) × (v t l ≡ w t l)

-- equal lists are equal at each leaf
same_shown : (v w : ℕ → Valuation) (t : ℕ) (leaves : List ℕ) (rest other : List Bool) → shown v t leaves ++ rest ≡ shown w t leaves ++ other
    → AgreeOn v w t leaves × (rest ≡ other)
same_shown v w t [] rest other e = ((λ l h. absurd (Contains-none l h)), e)
same_shown v w t (k ∷ leaves) rest other e = go (same_shown v w t leaves rest other tail)
  where
    tail : shown v t leaves ++ rest ≡ shown w t leaves ++ other
    tail = let f : v (before t) k ∷ v t k ∷ (shown v t leaves ++ rest) ≡ w (before t) k ∷ w t k ∷ (shown w t leaves ++ other) = e in cc

    old : v (before t) k ≡ w (before t) k
    old = let f : v (before t) k ∷ v t k ∷ (shown v t leaves ++ rest) ≡ w (before t) k ∷ w t k ∷ (shown w t leaves ++ other) = e in cc

    new : v t k ≡ w t k
    new = let f : v (before t) k ∷ v t k ∷ (shown v t leaves ++ rest) ≡ w (before t) k ∷ w t k ∷ (shown w t leaves ++ other) = e in cc

    go : AgreeOn v w t leaves × (rest ≡ other) → AgreeOn v w t (k ∷ leaves) × (rest ≡ other)
    go r = ((λ l h. at l (Contains-cases k l leaves h)), r.1)
      where
        at : (l : ℕ) → (k ≡ l) ⊎ Contains leaves l → (v (before t) l ≡ w (before t) l) × (v t l ≡ w t l)
        at l (inl i) = subst (λ m. (v (before t) m ≡ w (before t) m) × (v t m ≡ w t m)) i (old, new)
        at l (inr i) = r.0 l i

-- equal observations are equal at each leaf that a probe reaches
pub same_observed : (reach : Reach) (v w : ℕ → Valuation) (probes : List Probe) → observation reach v probes ≡ observation reach w probes
    → (p : Probe) → Contains probes p → AgreeOn v w p.cycle (reach p.cycle p.bit)
same_observed reach v w [] e p h = absurd (Contains-none p h)
same_observed reach v w (q ∷ probes) e p h =
    go (same_shown v w q.cycle (reach q.cycle q.bit) (observation reach v probes) (observation reach w probes) e)
    (Contains-cases q p probes h) (λ f i. same_observed reach v w probes f p i)
  where
    go : AgreeOn v w q.cycle (reach q.cycle q.bit) × (observation reach v probes ≡ observation reach w probes) → (q ≡ p) ⊎ Contains probes p
        → (observation reach v probes ≡ observation reach w probes → Contains probes p → AgreeOn v w p.cycle (reach p.cycle p.bit))
        → AgreeOn v w p.cycle (reach p.cycle p.bit)
    go r (inl i) rest = subst (λ (x : Probe). AgreeOn v w x.cycle (reach x.cycle x.bit)) i r.0
    go r (inr i) rest = rest r.1 i

agreed_shown : (v w : ℕ → Valuation) (t : ℕ) (leaves : List ℕ) → AgreeOn v w t leaves → shown v t leaves ≡ shown w t leaves
agreed_shown v w t [] agree = refl
agreed_shown v w t (l ∷ leaves) agree =
    let first = agree l (Contains-here l leaves) in
    let rest = agreed_shown v w t leaves (λ k h. agree k (Contains-later l k leaves h)) in
    cc

-- probes observe the same in runs that agree on the leaves that they reach
pub agreed_observed : (reach : Reach) (v w : ℕ → Valuation) (probes : List Probe)
    → ((p : Probe) → Contains probes p → AgreeOn v w p.cycle (reach p.cycle p.bit)) → observation reach v probes ≡ observation reach w probes
agreed_observed reach v w [] agree = refl
agreed_observed reach v w (p ∷ probes) agree =
    ap (λ bits. bits ++ observation reach v probes) (agreed_shown v w p.cycle (reach p.cycle p.bit) (agree p (Contains-here p probes)))
    ∙ ap (λ bits. shown w p.cycle (reach p.cycle p.bit) ++ bits)
    (agreed_observed reach v w probes (λ q h. agree q (Contains-later p q probes h)))

-- the tests of what probes observe
abbrev leaf_tests : (Choice → ℕ → Valuation) → ℕ → List ℕ → List (Choice → Bool)
leaf_tests run t leaves = flat_map (λ l. (λ c. run c (before t) l) ∷ (λ c. run c t l) ∷ []) leaves

abbrev observation_tests : Reach → (Choice → ℕ → Valuation) → List Probe → List (Choice → Bool)
observation_tests reach run probes = flat_map (λ (p : Probe). leaf_tests run p.cycle (reach p.cycle p.bit)) probes

leaf_values : (run : Choice → ℕ → Valuation) (t : ℕ) (leaves : List ℕ) (c : Choice)
    → values_of (leaf_tests run t leaves) c ≡ shown (run c) t leaves
leaf_values run t [] c = refl
leaf_values run t (l ∷ leaves) c = ap (λ bs. run c (before t) l ∷ run c t l ∷ bs) (leaf_values run t leaves c)

observed_values : (reach : Reach) (run : Choice → ℕ → Valuation) (probes : List Probe) (c : Choice)
    → values_of (observation_tests reach run probes) c ≡ observation reach (run c) probes
observed_values reach run [] c = refl
observed_values reach run (p ∷ probes) c =
    map-append (λ (t : Choice → Bool). t c) (leaf_tests run p.cycle (reach p.cycle p.bit)) (observation_tests reach run probes)
    ∙ ap (λ bs. bs ++ values_of (observation_tests reach run probes) c) (leaf_values run p.cycle (reach p.cycle p.bit) c)
    ∙ ap (λ bs. shown (run c) p.cycle (reach p.cycle p.bit) ++ bs) (observed_values reach run probes c)

-- where each observation of probes is as frequent with some secrets as with others, so is what passes a test that the
-- observation determines
pub equally_often : (setup : Setup) (cycles : ℕ) (reach : Reach) (run : Choice → ℕ → Valuation) (probes : List Probe)
    (secrets others : List Bool)
    → ((bits : List Bool)
    → count_showing setup cycles reach run probes secrets bits ≡ count_showing setup cycles reach run probes others bits)
    → (test : Choice → Bool)
    → ((c b : Choice) → observation reach (run c) probes ≡ observation reach (run b) probes → test c ≡ test b)
    → length (filter test (choices_with setup.table cycles secrets)) ≡ length (filter test (choices_with setup.table cycles others))
equally_often setup cycles reach run probes secrets others equal test determined =
    filtered_twice (label_count setup.table cycles) test (has secrets)
    ∙ equal_determined (label_count setup.table cycles) (has secrets) (has others) test (observation_tests reach run probes)
    (λ bits k. showing secrets bits ∙ equal bits ∙ sym (showing others bits))
    (λ c b i j same. determined c b (sym (observed_values reach run probes c) ∙ same ∙ observed_values reach run probes b))
    ∙ sym (filtered_twice (label_count setup.table cycles) test (has others))
  where
    has : List Bool → Choice → Bool
    has given c = same_bits (secret_bits setup.table c) given

    showing : (given bits : List Bool)
        → count (label_count setup.table cycles) (λ c. has given c && same_bits (values_of (observation_tests reach run probes) c) bits)
        ≡ count_showing setup cycles reach run probes given bits
    showing given bits =
        count-cong (label_count setup.table cycles) _ _
        (λ c h. ap (λ bs. has given c && same_bits bs bits) (observed_values reach run probes c))
        ∙ sym (filtered_twice (label_count setup.table cycles) (λ c. same_bits (observation reach (run c) probes) bits) (has given))
