-- Members of lists that are looked at place by place, and probes that ascend.
use Rattle.std.proofs.Common.{◌≡◌, ℕ, zero, suc, ◌+◌, ◌-◌, ◌<◌, ◌≤◌, ◌⊎◌, inl, inr, Bool, true, false, List, [], ◌∷◌, length, get_or, refl, sym, ◌∙◌, subst, arith}
use Rattle.std.specs.Prelude.{◌↔◌, IsTrue, Contains, slice_get, Some}
use Rattle.std.proofs.lemmas.Bool.{cases_order}
use Rattle.coco_base.specs.declared.finding.Probe.{Probe}
use Rattle.coco_model.specs.WrittenFindings.{AreAscending, ComesBefore}
use Rattle.coco_model.proofs.Basics.{Contains-cases, Contains-none}
use Rattle.model_laws.proofs.Lists.{member_of_place}
use Rattle.gate_graph.proofs.Items.{place_below, by_place, same_at, some_at}

-- all members were looked at
pub all_members : {X : Type 0} (P : X → Type 0) (xs : List X) (n : ℕ) → length xs ≤ n
    → ((k : ℕ) (x : X) → k < n → slice_get xs k ≡ Some x → P x) → IsTrue true ↔ ((x : X) → Contains xs x → P x)
all_members P xs n high each = ((λ h. by_place P xs n high each), (λ all. refl))

-- a member does not pass
pub some_member : {X : Type 0} (P : X → Type 0) (xs : List X) (i : ℕ) (x : X) (b : Bool) → slice_get xs i ≡ Some x → b ≡ false
    → (P x → IsTrue b) → IsTrue false ↔ ((y : X) → Contains xs y → P y)
some_member P xs i x b at wrong test = (
  (λ h. absurd (let f : false ≡ true = h in cc)),
  (λ all. sym wrong ∙ test (all x (member_of_place xs i x at))),
)

-- each of the first probes comes before the next
abbrev pub AreAscendingTo : List Probe → ℕ → Type 0
AreAscendingTo probes count =
    (k : ℕ) (p q : Probe) → suc k < count → slice_get probes k ≡ Some p → slice_get probes (suc k) ≡ Some q → ComesBefore p q

abbrev pub AreAdjacent : List Probe → Type 0
AreAdjacent probes =
    (k : ℕ) (p q : Probe) → slice_get probes k ≡ Some p → slice_get probes (suc k) ≡ Some q → ComesBefore p q

before_later : (p q r : Probe) → ComesBefore p q → ComesBefore q r → ComesBefore p r
before_later p q r (inl a) (inl b) = inl (omega (arith, a, b))
before_later p q r (inl a) (inr b) = inl (let e = b.0 in omega (arith, a, e))
before_later p q r (inr a) (inl b) = inl (let e = a.0 in omega (arith, e, b))
before_later p q r (inr a) (inr b) = inr (a.0 ∙ b.0, let x = a.1 in let y = b.1 in omega (arith, x, y))

adjacent_rest : (p : Probe) (ps : List Probe) → AreAdjacent (p ∷ ps) → AreAdjacent ps
adjacent_rest p ps each k a b at next = each (suc k) a b at next

-- the first of probes of which each comes before the next comes before all
first_before : (p : Probe) (ps : List Probe) → AreAdjacent (p ∷ ps) → (q : Probe) → Contains ps q → ComesBefore p q
first_before p [] each q h = absurd (Contains-none q h)
first_before p (r ∷ ps) each q h =
    go (Contains-cases r q ps h) (λ i. first_before r ps (adjacent_rest p (r ∷ ps) each) q i)
  where
    go : (r ≡ q) ⊎ Contains ps q → (Contains ps q → ComesBefore r q) → ComesBefore p q
    go (inl e) later = subst (ComesBefore p) e (each 0 p r refl refl)
    go (inr i) later = before_later p r q (each 0 p r refl refl) (later i)

ascending_of_adjacent : (probes : List Probe) → AreAdjacent probes → AreAscending probes
ascending_of_adjacent [] each = tt
ascending_of_adjacent (p ∷ ps) each = (first_before p ps each, ascending_of_adjacent ps (adjacent_rest p ps each))

adjacent_of_ascending : (probes : List Probe) → AreAscending probes → AreAdjacent probes
adjacent_of_ascending [] is k p q at next = absurd cc
adjacent_of_ascending (r ∷ ps) is zero p q at next =
    subst (λ x. ComesBefore x q) (let e : r ≡ p = cc in e) (is.0 q (member_of_place ps 0 q next))
adjacent_of_ascending (r ∷ ps) is (suc k) p q at next = adjacent_of_ascending ps is.1 k p q at next

pub ascending_all : (probes : List Probe) (count : ℕ) → length probes ≤ count → AreAscendingTo probes count
    → IsTrue true ↔ AreAscending probes
ascending_all probes count high each = (
  (λ h. ascending_of_adjacent probes (λ k p q at next.
      each k p q (let b = place_below probes (suc k) q next in omega (arith, b, high)) at next)),
  (λ is. refl),
)

pub ascending_not : (probes : List Probe) (place : ℕ) (d : Probe) (b : Bool) → 1 ≤ place → place < length probes → b ≡ false
    → (ComesBefore (get_or probes (place - 1) d) (get_or probes place d) → IsTrue b) → IsTrue false ↔ AreAscending probes
ascending_not probes place d b low inside wrong test = (
  (λ h. absurd (let f : false ≡ true = h in cc)),
  (λ is. sym wrong ∙ test (adjacent_of_ascending probes is (place - 1) (get_or probes (place - 1) d) (get_or probes place d)
      (some_at probes (place - 1) d (omega (arith, low, inside)))
      (subst (λ k. slice_get probes k ≡ Some (get_or probes place d)) (let e : place ≡ suc (place - 1) = omega (arith, low) in e)
      (some_at probes place d inside)))),
)

pub ascending_more : (probes : List Probe) (place : ℕ) (d : Probe) → 1 ≤ place → place < length probes
    → ComesBefore (get_or probes (place - 1) d) (get_or probes place d) → AreAscendingTo probes place
    → AreAscendingTo probes (place + 1)
ascending_more probes place d low inside own each k p q below at next = go (cases_order (suc k) place)
  where
    go : (suc k ≡ place) ⊎ ((suc k < place) ⊎ (place < suc k)) → ComesBefore p q
    go (inl e) =
        let lower : k ≡ place - 1 = omega (arith, e) in
        let first = same_at probes k p (get_or probes (place - 1) d) at
        (subst (λ i. slice_get probes i ≡ Some (get_or probes (place - 1) d)) (sym lower) (some_at probes (place - 1) d (omega (arith, low, inside)))) in
        let second = same_at probes (suc k) q (get_or probes place d) next
        (subst (λ i. slice_get probes i ≡ Some (get_or probes place d)) (sym e) (some_at probes place d inside)) in
        subst (λ x. ComesBefore x q) (sym first) (subst (ComesBefore (get_or probes (place - 1) d)) (sym second) own)
    go (inr (inl lower)) = each k p q lower at next
    go (inr (inr higher)) = absurd (omega (arith, below, higher))
