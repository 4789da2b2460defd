-- Nodes that do not correlate with secret bits have equal counts.
use Rattle.std.proofs.Common.{◌≡◌, ◌≢◌, ℕ, ◌<◌, ◌⊎◌, inl, inr, Bool, true, false, ◌&&◌, List, [], ◌∷◌, map, length, get_or, refl, sym, ◌∙◌, ap, subst, arith, nat_eq, pos}
use Rattle.std.specs.Prelude.{Contains}
use Rattle.std.proofs.lemmas.Bool.{true≢false, false≢true, cases_Bool, cases_eq, and_parts, ne_eqb}
use Rattle.std.proofs.lemmas.List.{length-map}
use Rattle.coco_base.specs.declared.labels.LabelTable.{LabelTable}
use Rattle.coco_base.specs.declared.unrolled.Node.{Node}
use Rattle.coco_base.specs.declared.unrolled.Node.TheVariants.{Nothing, Label, Copy, Gate}
use Rattle.coco_model.specs.Cells.{xor, signed, chosen_parity, Subset}
use Rattle.coco_model.specs.Labels.{Choice, label_bit, label_count, parity, secret_labels, secret_bits, secret_bit_count, same_bits, IsLabelTable}
use Rattle.coco_model.specs.Findings.{Labels}
use Rattle.coco_model.proofs.Basics.{Contains-here, Contains-later}
use Rattle.walsh_laws.specs.Sums.{parity_below}
use Rattle.walsh_laws.specs.NodeValues.{IsNodeValue, AreNodeValues}
use Rattle.walsh_laws.specs.Laws.{is_odd, IsShownSet, IsUncorrelated, count_with_values, CountingLaw}
use Rattle.coco_model.proofs.Bits.{xor-assoc, xor-swap, and-xor_right, signed-xor, signed-zero, and-false}
use Rattle.walsh_laws.proofs.Totals.{total, total-cong, total-signed, sign_total-choices}
use Rattle.walsh_laws.proofs.Parity.{parity-cong, parity-xor, parity_one, parity_none, picked, label_parity-below}
use Rattle.coco_model.proofs.Choices.{count, count-cong, filtered_twice}
use Rattle.walsh_laws.proofs.Counts.{IsBalanced, balanced-cong, balanced_from_total, values_of, balanced_showing, equal_counts}
use Rattle.walsh_laws.proofs.WholeSets.{labels_of, label_parity_of, whole_set, whole_label, HasLabel}

-- whether a node is anything
abbrev is_some_node : Node → Bool
is_some_node Nothing = false
is_some_node (Label l) = true
is_some_node (Copy j) = true
is_some_node (Gate kind parts operands) = true

nothing_is : (node : Node) → is_some_node node ≡ false → node ≡ Nothing
nothing_is Nothing e = refl
nothing_is (Label l) e = absurd (true≢false e)
nothing_is (Copy j) e = absurd (true≢false e)
nothing_is (Gate kind parts operands) e = absurd (true≢false e)

some_is : (node : Node) → is_some_node node ≡ true → node ≢ Nothing
some_is node e n = false≢true (sym (ap is_some_node n) ∙ e)

-- the nodes of a subset of the shown ones, without those that are nothing
abbrev picked_nodes : (ℕ → Node) → Subset → List ℕ → ℕ → Bool
picked_nodes nodes subset shown i = is_some_node (nodes i) && picked subset shown i

picked-listed : (subset : Subset) (shown : List ℕ) (i : ℕ) → picked subset shown i ≡ true → Contains shown i
picked-listed [] shown i e = absurd (false≢true e)
picked-listed (s ∷ ss) [] i e = absurd (false≢true e)
picked-listed (false ∷ ss) (o ∷ os) i e = Contains-later o i os (picked-listed ss os i e)
picked-listed (true ∷ ss) (o ∷ os) i e = go (cases_eq o i) (picked-listed ss os i)
  where
    go : (o ≡ i) ⊎ (o ≢ i) → (picked ss os i ≡ true → Contains os i) → Contains (o ∷ os) i
    go (inl k) rest = subst (Contains (o ∷ os)) k (Contains-here o os)
    go (inr n) rest = Contains-later o i os (rest (sym (ap (λ b. xor b (picked ss os i)) (ne_eqb o i n)) ∙ e))

picked_shown : (nodes : ℕ → Node) (subset : Subset) (shown : List ℕ) → IsShownSet shown nodes (picked_nodes nodes subset shown)
picked_shown nodes subset shown = record {
  shown_nodes = λ i e. picked-listed subset shown i (and_parts (is_some_node (nodes i)) (picked subset shown i) e).1;
  unknown = λ i e. some_is (nodes i) (and_parts (is_some_node (nodes i)) (picked subset shown i) e).0;
}

-- one number where a test holds
parity_one_where : (n o : ℕ) (k v : ℕ → Bool) → o < n → parity_below n (λ i. k i && nat_eq o i) v ≡ (k o && v o)
parity_one_where n o k v below = go (k o) refl
  where
    there : (b : Bool) → k o ≡ b → (i : ℕ) → (o ≡ i) ⊎ (o ≢ i) → (k i && nat_eq o i) ≡ (b && nat_eq o i)
    there b e i (inl f) = rw (← f, e) refl
    there true e i (inr n) = rw (ne_eqb o i n) (and-false (k i))
    there false e i (inr n) = rw (ne_eqb o i n) (and-false (k i))

    go : (b : Bool) → k o ≡ b → parity_below n (λ i. k i && nat_eq o i) v ≡ (k o && v o)
    go true e = parity-cong n _ _ v v (λ i h. there true e i (cases_eq o i)) (λ i h. refl) ∙ parity_one n o v below ∙ rw e refl
    go false e = parity-cong n _ (λ i. false) v v (λ i h. there false e i (cases_eq o i)) (λ i h. refl)
        ∙ parity_none n (λ i. false) v (λ i h. refl) ∙ rw e refl

-- the values of picked nodes: those that are nothing have one value
pub record IsPickedValue (n labels : ℕ) (nodes : ℕ → Node) (value : Choice → ℕ → Bool) (subset : Subset) (shown : List ℕ) : Type 0 where
  pub constant : Bool
  pub is : (c : Choice) → length c ≡ labels
      → chosen_parity subset (map (value c) shown) ≡ xor constant (parity_below n (picked_nodes nodes subset shown) (value c))

nothing_picked : (n : ℕ) (nodes : ℕ → Node) (v : ℕ → Bool) → parity_below n (λ i. is_some_node (nodes i) && false) v ≡ false
nothing_picked n nodes v = parity_none n _ v (λ i h. and-false (is_some_node (nodes i)))

picked_value : (n labels : ℕ) (nodes : ℕ → Node) (value : Choice → ℕ → Bool) → AreNodeValues n nodes labels value
    → (subset : Subset) (shown : List ℕ)
    → ((i : ℕ) → Contains shown i → i < n) → IsPickedValue n labels nodes value subset shown
picked_value n labels nodes value holds [] shown below = record { constant = false; is = λ c h. sym (nothing_picked n nodes (value c)) }
picked_value n labels nodes value holds (s ∷ ss) [] below = record { constant = false; is = λ c h. sym (nothing_picked n nodes (value c)) }
picked_value n labels nodes value holds (false ∷ ss) (o ∷ os) below = go
    (picked_value n labels nodes value holds ss os (λ i h. below i (Contains-later o i os h)))
  where
    go : IsPickedValue n labels nodes value ss os → IsPickedValue n labels nodes value (false ∷ ss) (o ∷ os)
    go r = record { constant = r.constant; is = r.is }
picked_value n labels nodes value holds (true ∷ ss) (o ∷ os) below =
    go (picked_value n labels nodes value holds ss os (λ i h. below i (Contains-later o i os h))) (cases_Bool (is_some_node (nodes o)))
  where
    inside : o < n
    inside = below o (Contains-here o os)

    split : (v : ℕ → Bool)
        → parity_below n (picked_nodes nodes (true ∷ ss) (o ∷ os)) v
        ≡ xor (is_some_node (nodes o) && v o) (parity_below n (picked_nodes nodes ss os) v)
    split v = parity-cong n _ (λ i. xor (is_some_node (nodes i) && nat_eq o i) (picked_nodes nodes ss os i)) v v
        (λ i h. and-xor_right (is_some_node (nodes i)) (nat_eq o i) (picked ss os i)) (λ i h. refl)
        ∙ parity-xor n (λ i. is_some_node (nodes i) && nat_eq o i) (picked_nodes nodes ss os) v
        ∙ ap (λ b. xor b (parity_below n (picked_nodes nodes ss os) v)) (parity_one_where n o (λ i. is_some_node (nodes i)) v inside)

    one_value : nodes o ≡ Nothing → (b : Bool) × ((c : Choice) → length c ≡ labels → value c o ≡ b)
    one_value e = subst (IsNodeValue labels value o) e (holds.each o inside)

    go : IsPickedValue n labels nodes value ss os → (is_some_node (nodes o) ≡ true) ⊎ (is_some_node (nodes o) ≡ false)
        → IsPickedValue n labels nodes value (true ∷ ss) (o ∷ os)
    go r (inl e) = record {
      constant = r.constant;
      is = λ c h. rw (r.is c h, split (value c), e) (xor-swap (value c o) r.constant (parity_below n (picked_nodes nodes ss os) (value c)));
    }
    go r (inr e) = let one = one_value (nothing_is (nodes o) e) in record {
      constant = xor one.0 r.constant;
      is = λ c h. rw (r.is c h, split (value c), e, one.1 c h)
          (sym (xor-assoc one.0 r.constant (parity_below n (picked_nodes nodes ss os) (value c))));
    }

-- the tests of the secret bits
abbrev secret_tests : LabelTable → List (Choice → Bool)
secret_tests table = map (λ (ls : List ℕ) (c : Choice). parity (map (label_bit c) ls)) (secret_labels table.secrets)

abbrev shown_tests : (Choice → ℕ → Bool) → List ℕ → List (Choice → Bool)
shown_tests value shown = map (λ (i : ℕ) (c : Choice). value c i) shown

values-secrets : (lists : List (List ℕ)) (c : Choice)
    → values_of (map (λ (ls : List ℕ) (c : Choice). parity (map (label_bit c) ls)) lists) c
    ≡ map (λ (ls : List ℕ). parity (map (label_bit c) ls)) lists
values-secrets [] c = refl
values-secrets (ls ∷ lists) c = ap (λ bs. parity (map (label_bit c) ls) ∷ bs) (values-secrets lists c)

pub values-shown : (value : Choice → ℕ → Bool) (shown : List ℕ) (c : Choice)
    → values_of (map (λ (i : ℕ) (c : Choice). value c i) shown) c ≡ map (value c) shown
values-shown value [] c = refl
values-shown value (i ∷ shown) c = ap (λ bs. value c i ∷ bs) (values-shown value shown c)

-- a subset of shown nodes and a subset of secret bits are balanced
balanced_pair : (table : LabelTable) (cycles : ℕ) → IsLabelTable table → (n : ℕ) (nodes : ℕ → Node) (value : Choice → ℕ → Bool)
    → AreNodeValues n nodes (label_count table cycles) value
    → (shown : List ℕ) → ((i : ℕ) → Contains shown i → i < n) → IsUncorrelated table cycles n nodes value shown
    → (subset : Subset) (place : ℕ) → place < length (secret_labels table.secrets) → get_or subset place false ≡ true → (seen : Subset)
    → IsBalanced (label_count table cycles) (λ c. true)
    (λ c. xor (chosen_parity seen (map (value c) shown)) (chosen_parity subset (secret_bits table c)))
balanced_pair table cycles is n nodes value holds shown below uncorrelated subset place within e seen =
    balanced_from_total (label_count table cycles)
    (λ c. xor (chosen_parity seen (map (value c) shown)) (chosen_parity subset (secret_bits table c)))
    (go (picked_value n (label_count table cycles) nodes value holds seen shown below) (whole_label table is subset place within e))
  where
    W : Labels
    W = labels_of subset (secret_labels table.secrets)

    members : ℕ → Bool
    members = picked_nodes nodes seen shown

    go : IsPickedValue n (label_count table cycles) nodes value seen shown → HasLabel subset (secret_labels table.secrets)
        → total (label_count table cycles) (λ c. signed
        (xor (chosen_parity seen (map (value c) shown)) (chosen_parity subset (secret_bits table c))) (pos 1)) ≡ pos 0
    go r m = total-cong (label_count table cycles) _
        (λ c. signed r.constant (signed (is_odd n members (label_count table cycles) W value c) (pos 1))) (λ c h. each c h)
        ∙ total-signed (label_count table cycles) r.constant (λ c. signed (is_odd n members (label_count table cycles) W value c) (pos 1))
        ∙ ap (signed r.constant) (sym (sign_total-choices (label_count table cycles) (is_odd n members (label_count table cycles) W value))
        ∙ uncorrelated.each members (picked_shown nodes seen shown) W (whole_set table is subset) m.label m.member)
        ∙ signed-zero r.constant
      where
        each : (c : Choice) → length c ≡ label_count table cycles
            → signed (xor (chosen_parity seen (map (value c) shown)) (chosen_parity subset (secret_bits table c))) (pos 1)
            ≡ signed r.constant (signed (is_odd n members (label_count table cycles) W value c) (pos 1))
        each c h = rw (
          r.is c h,
          ← label_parity_of subset (secret_labels table.secrets) c,
          label_parity-below (label_count table cycles) W c h,
          xor-assoc r.constant (parity_below n members (value c)) (parity_below (label_count table cycles) W (label_bit c)),
        )
            (signed-xor r.constant (is_odd n members (label_count table cycles) W value c) (pos 1))

and-comm : (a b : Bool) → (a && b) ≡ (b && a)
and-comm true true = refl
and-comm true false = refl
and-comm false true = refl
and-comm false false = refl

pub counted : (table : LabelTable) (cycles : ℕ) (value : Choice → ℕ → Bool) (shown : List ℕ) (secrets seen : List Bool)
    → count_with_values table cycles value shown secrets seen
    ≡ count (label_count table cycles) (λ c. same_bits (secret_bits table c) secrets && same_bits (map (value c) shown) seen)
counted table cycles value shown secrets seen =
    filtered_twice (label_count table cycles) (λ c. same_bits (map (value c) shown) seen) (λ c. same_bits (secret_bits table c) secrets)

pub counting_law : CountingLaw
unfolding CountingLaw
counting_law table cycles is n nodes value holds shown below uncorrelated secrets others e f seen =
    counted table cycles value shown secrets seen ∙ turned secrets ∙ equal ∙ sym (turned others)
    ∙ sym (counted table cycles value shown others seen)
  where
    turned : (given : List Bool)
        → count (label_count table cycles) (λ c. same_bits (secret_bits table c) given && same_bits (map (value c) shown) seen)
        ≡ count (label_count table cycles) (λ c. (true && same_bits (values_of (shown_tests value shown) c) seen) && same_bits
        (values_of (secret_tests table) c) given)
    turned given = count-cong (label_count table cycles) _ _
        (λ c h. and-comm (same_bits (secret_bits table c) given) (same_bits (map (value c) shown) seen)
        ∙ rw (values-shown value shown c, values-secrets (secret_labels table.secrets) c) refl)

    as_many : length (secret_tests table) ≡ secret_bit_count table
    as_many = length-map (secret_labels table.secrets) (λ (ls : List ℕ) (c : Choice). parity (map (label_bit c) ls))

    pairs : (subset : Subset) (place : ℕ) → place < length (secret_tests table) → get_or subset place false ≡ true → (picks : Subset)
        → IsBalanced (label_count table cycles) (λ c. true)
        (λ c. xor (chosen_parity picks (values_of (shown_tests value shown) c)) (chosen_parity subset (values_of (secret_tests table) c)))
    pairs subset place within k picks = balanced-cong (label_count table cycles) _ _ _ _ (λ c h. refl)
        (λ c h. rw (values-shown value shown c, values-secrets (secret_labels table.secrets) c) refl)
        (balanced_pair table cycles is n nodes value holds shown below uncorrelated subset place (let m = as_many in omega arith) k picks)

    equal : count (label_count table cycles) (λ c. (true && same_bits (values_of (shown_tests value shown) c) seen) && same_bits
        (values_of (secret_tests table) c) secrets)
        ≡ count (label_count table cycles) (λ c. (true && same_bits (values_of (shown_tests value shown) c) seen) && same_bits
        (values_of (secret_tests table) c) others)
    equal = equal_counts (label_count table cycles) (λ c. true && same_bits (values_of (shown_tests value shown) c) seen)
        (secret_tests table)
        (λ subset place within k. balanced_showing (label_count table cycles) (λ c. true)
        (λ c. chosen_parity subset (values_of (secret_tests table) c)) (shown_tests value shown)
        (pairs subset place within k) seen) secrets others (e ∙ sym as_many) (f ∙ sym as_many)
