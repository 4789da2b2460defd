-- Nodes that correlate with labels have a selection with these labels, by taking the last node out of a sum of signs.
use Rattle.std.proofs.Common.{◌≡◌, ◌≢◌, ℕ, zero, suc, ◌<◌, ◌≤◌, ◌⊎◌, inl, inr, Bool, true, false, cond, ◌&&◌, List, [], ◌∷◌, length, get_or, map, refl, sym, ◌∙◌, ap, subst, arith, nat_eq, ℤ, pos}
use Rattle.std.proofs.lemmas.Int.{ints}
use Rattle.std.proofs.lemmas.Bool.{cases_Bool, cases_lt, ne_eqb, eq-eqb}
use Rattle.coco_base.specs.declared.cell.Kind.{Kind}
use Rattle.coco_base.specs.declared.cell.Part.{Part}
use Rattle.coco_base.specs.declared.unrolled.Node.{Node}
use Rattle.coco_base.specs.declared.unrolled.Node.TheVariants.{Nothing, Label, Copy, Gate}
use Rattle.coco_model.specs.Cells.{xor, signed, chosen_parity, sign_total, Subset, IsSubsetOf, output_of, input_places}
use Rattle.coco_model.specs.Labels.{Choice, choices, label_bit}
use Rattle.coco_model.specs.Findings.{Labels, chosen_set}
use Rattle.coco_model.specs.Nodes.{IsNodeSet}
use Rattle.walsh_laws.specs.Sums.{parity_below}
use Rattle.walsh_laws.specs.NodeValues.{input_values, AreOperandsBefore, IsGateValue, IsNodeValue, AreNodeValues}
use Rattle.walsh_laws.specs.Laws.{is_odd, IsSelected, CorrelationLaw}
use Rattle.coco_model.proofs.Bits.{xor-swap, xor-assoc, xor-comm, xor-twice, signed-xor, signed-zero}
use Rattle.walsh_laws.proofs.Totals.{total, total-cong, total-signed, sign_total-choices}
use Rattle.walsh_laws.proofs.Parity.{parity-cong, parity-xor, parity_one, picked, parity_picked, label_parity, label_parity-xor, label_parity_one, label_parity-below, total_label}
use Rattle.walsh_laws.proofs.GateStep.{signed_total, signed_total-signs, IsGateStep, gate_step}

-- the sum of signs of nodes and labels
abbrev pub node_sum : ℕ → (ℕ → Bool) → ℕ → Labels → (Choice → ℕ → Bool) → ℤ
node_sum n members labels W value = total labels (λ c. signed (xor (parity_below n members (value c)) (label_parity W c)) (pos 1))

-- the sets of the places of a subset
pub chosen_set-parity : (sets : ℕ → Labels) (ss : Subset) (os : List ℕ) (l : ℕ)
    → chosen_set sets ss os l ≡ chosen_parity ss (map (λ o. sets o l) os)
chosen_set-parity sets [] os l = refl
chosen_set-parity sets (s ∷ ss) [] l = refl
chosen_set-parity sets (s ∷ ss) (o ∷ os) l = rw (chosen_set-parity sets ss os l) refl

pub chosen_set-cong : (sets other : ℕ → Labels) (ss : Subset) (os : List ℕ) (l : ℕ)
    → ((place : ℕ) → place < length os → get_or ss place false ≡ true → sets (get_or os place 0) l ≡ other (get_or os place 0) l)
    → chosen_set sets ss os l ≡ chosen_set other ss os l
chosen_set-cong sets other [] os l e = refl
chosen_set-cong sets other (s ∷ ss) [] l e = refl
chosen_set-cong sets other (true ∷ ss) (o ∷ os) l e = rw
    (e 0 (omega arith) refl, chosen_set-cong sets other ss os l (λ place h k. e (suc place) (omega arith) k)) refl
chosen_set-cong sets other (false ∷ ss) (o ∷ os) l e = chosen_set-cong sets other ss os l (λ place h k. e (suc place) (omega arith) k)

-- a node's set by those of the nodes up to it
node_set-cong : (labels : ℕ) (value : Choice → ℕ → Bool) (i : ℕ) (node : Node) (sets other : ℕ → Labels) → IsNodeValue labels value i node
    → ((j : ℕ) → j ≤ i → (l : ℕ) → sets j l ≡ other j l) → IsNodeSet sets i node → IsNodeSet other i node
node_set-cong labels value i Nothing sets other holds e s = λ l. sym (e i (omega arith) l) ∙ s l
node_set-cong labels value i (Label k) sets other holds e s = λ l. sym (e i (omega arith) l) ∙ s l
node_set-cong labels value i (Copy j) sets other holds e s = λ l. sym (e i (omega arith) l) ∙ s l ∙ e j (let h = holds.0 in omega arith) l
node_set-cong labels value i (Gate kind parts operands) sets other holds e s = record {
  subset = s.subset;
  choice = s.choice;
  set = λ l. sym (e i (omega arith) l) ∙ s.set l ∙ chosen_set-cong sets other s.subset (input_places kind operands) l
      (λ place h k. e _ (let b = holds.earlier.before place (s.choice.varies.varies place k) in omega arith) l);
}

-- sets with another one for a node
abbrev put_set : (ℕ → Labels) → ℕ → Labels → ℕ → Labels
put_set sets n own i l = cond (nat_eq i n) (own l) (sets i l)

put_set-here : (sets : ℕ → Labels) (n : ℕ) (own : Labels) (l : ℕ) → put_set sets n own n l ≡ own l
put_set-here sets n own l = rw (eq-eqb n n refl) refl

put_set-other : (sets : ℕ → Labels) (n : ℕ) (own : Labels) (i l : ℕ) → i < n → put_set sets n own i l ≡ sets i l
put_set-other sets n own i l h = rw (ne_eqb i n (λ e. omega arith)) refl

-- a set for node n, by those of the nodes before
pub record HasOwnSet (n : ℕ) (node : Node) : Type 0 where
  pub own : (ℕ → Labels) → Labels
  pub is : (sets other : ℕ → Labels) → ((i : ℕ) → i < n → (l : ℕ) → other i l ≡ sets i l) → ((l : ℕ) → other n l ≡ own sets l)
      → IsNodeSet other n node

-- a problem over one node less, whose solution gives one of node n
pub record IsStep (n : ℕ) (node : Node) (labels : ℕ) (value : Choice → ℕ → Bool) (members : ℕ → Bool) (W : Labels) : Type 0 where
  pub fewer : ℕ → Bool
  pub left : Labels
  pub inside : (l : ℕ) → labels ≤ l → left l ≡ false
  pub remains : node_sum n fewer labels left value ≢ pos 0
  pub own_set : HasOwnSet n node
  pub joins : (sets : ℕ → Labels) (l : ℕ) → left l ≡ parity_below n fewer (λ i. sets i l)
      → W l ≡ xor (own_set.own sets l) (parity_below n members (λ i. sets i l))

chosen_before : (i : ℕ) (ps : List Part) (os : List ℕ) (ss : Subset) → AreOperandsBefore i ps os → IsSubsetOf ss ps
    → (place : ℕ) → place < length os → get_or ss place false ≡ true → get_or os place 0 < i
chosen_before i ps os ss before subset place h e = before.before place (subset.varies place e)

gate_set : (n : ℕ) (kind : Kind) (parts : List Part) (operands : List ℕ) (ss : Subset)
    → AreOperandsBefore n (input_places kind parts) (input_places kind operands)
    → IsSubsetOf ss (input_places kind parts) → signed_total (λ xs. signed (output_of kind xs) (pos 1)) ss (input_places kind parts) ≢ pos 0
    → HasOwnSet n (Gate kind parts operands)
gate_set n kind parts operands ss before subset sum = record {
  own = λ sets. chosen_set sets ss (input_places kind operands);
  is = λ sets other e f. record {
    subset = ss;
    choice = record { varies = subset; signed = λ z. sum (signed_total-signs (output_of kind) ss (input_places kind parts) subset ∙ z) };
    set = λ l. f l ∙ chosen_set-cong sets other ss (input_places kind operands) l
        (λ place h k. sym (e _ (chosen_before n (input_places kind parts) (input_places kind operands) ss before subset place h k) l));
  };
}

pub one_not_zero : (b : Bool) → signed b (pos 1) ≢ pos 0
one_not_zero true e = omega (arith, ints)
one_not_zero false e = omega (arith, ints)

-- any set for node n
any_set : (n labels : ℕ) (value : Choice → ℕ → Bool) (node : Node) → IsNodeValue labels value n node → HasOwnSet n node
any_set n labels value Nothing holds = record { own = λ sets l. false; is = λ sets other e f. f }
any_set n labels value (Label k) holds = record { own = λ sets l. nat_eq k l; is = λ sets other e f. f }
any_set n labels value (Copy j) holds = record { own = λ sets. sets j; is = λ sets other e f l. f l ∙ sym (e j holds.0 l) }
any_set n labels value (Gate kind parts operands) holds = go
    (gate_step (λ xs. signed (output_of kind xs) (pos 1)) 0 (λ c i. false) (λ c. false)
    (input_places kind parts) (input_places kind operands) holds.earlier.as_long
    (one_not_zero (output_of kind (input_values (λ i. false) (input_places kind parts) (input_places kind operands)))))
  where
    go : IsGateStep (λ xs. signed (output_of kind xs) (pos 1)) 0 (λ c i. false) (λ c. false) (input_places kind parts)
        (input_places kind operands) → HasOwnSet n (Gate kind parts operands)
    go s = gate_set n kind parts operands s.subset holds.earlier s.unknown s.signed_sum

-- the sum with node n in front
abbrev sum_with : ℕ → (ℕ → Bool) → ℕ → Labels → (Choice → ℕ → Bool) → ℤ
sum_with n members labels W value = total labels
    (λ c. signed (xor (xor (value c n) (parity_below n members (value c))) (label_parity W c)) (pos 1))

gate_join : (n labels : ℕ) (value : Choice → ℕ → Bool) (kind : Kind) (parts : List Part) (operands : List ℕ) (members : ℕ → Bool)
    (W : Labels)
    → IsGateValue labels value n kind parts operands → ((l : ℕ) → labels ≤ l → W l ≡ false)
    → IsGateStep (λ xs. signed (output_of kind xs) (pos 1)) labels value (λ c. xor (parity_below n members (value c)) (label_parity W c))
    (input_places kind parts) (input_places kind operands)
    → IsStep n (Gate kind parts operands) labels value members W
unfolding gate_set
gate_join n labels value kind parts operands members W holds inside s = record {
  fewer = λ i. xor (picked s.subset (input_places kind operands) i) (members i);
  left = W;
  inside = inside;
  remains = λ e. s.remains (total-cong labels _ _ (λ c h. ap (λ b. signed b (pos 1)) (moved c)) ∙ e);
  own_set = gate_set n kind parts operands s.subset holds.earlier s.unknown s.signed_sum;
  joins = λ sets l e. e ∙ parity-xor n (picked s.subset (input_places kind operands)) members (λ i. sets i l)
      ∙ ap (λ b. xor b (parity_below n members (λ i. sets i l)))
      (parity_picked n s.subset (input_places kind operands) (λ i. sets i l) before
      ∙ sym (chosen_set-parity sets s.subset (input_places kind operands) l));
}
  where
    before : (place : ℕ) → place < length (input_places kind operands) → get_or s.subset place false ≡ true
        → get_or (input_places kind operands) place 0 < n
    before = chosen_before n (input_places kind parts) (input_places kind operands) s.subset holds.earlier s.unknown

    moved : (c : Choice) → xor (chosen_parity s.subset (map (value c) (input_places kind operands)))
        (xor (parity_below n members (value c)) (label_parity W c))
        ≡ xor (parity_below n (λ i. xor (picked s.subset (input_places kind operands) i) (members i)) (value c)) (label_parity W c)
    moved c = sym (xor-assoc (chosen_parity s.subset (map (value c) (input_places kind operands))) (parity_below n members (value c))
        (label_parity W c))
        ∙ ap (λ b. xor b (label_parity W c)) (sym (parity-xor n (picked s.subset (input_places kind operands)) members (value c)
        ∙ ap (λ b. xor b (parity_below n members (value c))) (parity_picked n s.subset (input_places kind operands) (value c) before)))

step : (n labels : ℕ) (value : Choice → ℕ → Bool) (node : Node) → IsNodeValue labels value n node → (members : ℕ → Bool) (W : Labels)
    → ((l : ℕ) → labels ≤ l → W l ≡ false) → sum_with n members labels W value ≢ pos 0 → IsStep n node labels value members W
unfolding any_set
step n labels value Nothing holds members W inside k = record {
  fewer = members;
  left = W;
  inside = inside;
  remains = λ e. k (total-cong labels _ _ (λ c h. constant c h)
      ∙ total-signed labels holds.0 (λ c. signed (xor (parity_below n members (value c)) (label_parity W c)) (pos 1))
      ∙ ap (signed holds.0) e ∙ signed-zero holds.0);
  own_set = any_set n labels value Nothing holds;
  joins = λ sets l e. e;
}
  where
    constant : (c : Choice) → length c ≡ labels
        → signed (xor (xor (value c n) (parity_below n members (value c))) (label_parity W c)) (pos 1)
        ≡ signed holds.0 (signed (xor (parity_below n members (value c)) (label_parity W c)) (pos 1))
    constant c h = rw (holds.1 c h, xor-assoc holds.0 (parity_below n members (value c)) (label_parity W c)) (signed-xor holds.0 _ (pos 1))
step n labels value (Label j) holds members W inside k = record {
  fewer = members;
  left = λ l. xor (nat_eq j l) (W l);
  inside = λ l h. rw (inside l h, ne_eqb j l (let b = holds.0 in λ e. omega arith)) refl;
  remains = λ e. k (total-cong labels _ _ (λ c h. ap (λ b. signed b (pos 1)) (moved c h)) ∙ e);
  own_set = any_set n labels value (Label j) holds;
  joins = λ sets l e. sym (xor-twice (nat_eq j l) (W l)) ∙ ap (xor (nat_eq j l)) e;
}
  where
    moved : (c : Choice) → length c ≡ labels → xor (xor (value c n) (parity_below n members (value c))) (label_parity W c)
        ≡ xor (parity_below n members (value c)) (label_parity (λ l. xor (nat_eq j l) (W l)) c)
    moved c h = rw (
      holds.1 c h,
      xor-assoc (label_bit c j) (parity_below n members (value c)) (label_parity W c),
      xor-swap (label_bit c j)
          (parity_below n members (value c)) (label_parity W c),
    )
        (ap (xor (parity_below n members (value c))) (sym (label_parity-xor (nat_eq j) W c
        ∙ ap (λ b. xor b (label_parity W c)) (label_parity_one j c))))
step n labels value (Copy j) holds members W inside k = record {
  fewer = λ i. xor (nat_eq j i) (members i);
  left = W;
  inside = inside;
  remains = λ e. k (total-cong labels _ _ (λ c h. ap (λ b. signed b (pos 1)) (moved c h)) ∙ e);
  own_set = any_set n labels value (Copy j) holds;
  joins = λ sets l e. e ∙ parity-xor n (nat_eq j) members (λ i. sets i l)
      ∙ ap (λ b. xor b (parity_below n members (λ i. sets i l))) (parity_one n j (λ i. sets i l) holds.0);
}
  where
    moved : (c : Choice) → length c ≡ labels → xor (xor (value c n) (parity_below n members (value c))) (label_parity W c)
        ≡ xor (parity_below n (λ i. xor (nat_eq j i) (members i)) (value c)) (label_parity W c)
    moved c h = ap (λ b. xor b (label_parity W c)) (ap (λ b. xor b (parity_below n members (value c)))
        (holds.1 c h ∙ sym (parity_one n j (value c) holds.0))
        ∙ sym (parity-xor n (nat_eq j) members (value c)))
step n labels value (Gate kind parts operands) holds members W inside k =
    gate_join n labels value kind parts operands members W holds inside (gate_step (λ xs. signed (output_of kind xs) (pos 1)) labels value
    (λ c. xor (parity_below n members (value c)) (label_parity W c)) (input_places kind parts) (input_places kind operands)
    holds.earlier.as_long
    (λ e. k (total-cong labels _ _ (λ c h. in_front c h) ∙ e)))
  where
    in_front : (c : Choice) → length c ≡ labels
        → signed (xor (xor (value c n) (parity_below n members (value c))) (label_parity W c)) (pos 1)
        ≡ signed (xor (parity_below n members (value c)) (label_parity W c))
        (signed (output_of kind (input_values (value c) (input_places kind parts) (input_places kind operands))) (pos 1))
    in_front c h = rw (
      xor-assoc (value c n) (parity_below n members (value c)) (label_parity W c),
      xor-comm (value c n) (xor (parity_below n members (value c)) (label_parity W c)),
      signed-xor (xor (parity_below n members (value c)) (label_parity W c)) (value c n) (pos 1),
      holds.output c h,
    ) refl

join : (n : ℕ) (nodes : ℕ → Node) (labels : ℕ) (value : Choice → ℕ → Bool) (members fewer : ℕ → Bool) (W left : Labels)
    → AreNodeValues (suc n) nodes labels value
    → (own_set : HasOwnSet n (nodes n)) → (r : IsSelected n nodes fewer left)
    → ((l : ℕ) → W l ≡ xor (members n && own_set.own r.sets l) (parity_below n members (λ i. r.sets i l)))
    → IsSelected (suc n) nodes members W
join n nodes labels value members fewer W left holds own_set r joins = record {
  sets = sets;
  selection = λ i h. each i (cases_lt i n) h;
  difference = λ l. joins l
      ∙ ap (λ b. xor (members n && b) (parity_below n members (λ i. r.sets i l))) (sym (put_set-here r.sets n (own_set.own r.sets) l))
      ∙ ap (xor (members n && sets n l)) (parity-cong n members members (λ i. r.sets i l) (λ i. sets i l) (λ i h. refl)
      (λ i h. sym (put_set-other r.sets n (own_set.own r.sets) i l h)));
}
  where
    sets : ℕ → Labels
    sets = put_set r.sets n (own_set.own r.sets)

    each : (i : ℕ) → (i < n) ⊎ (n ≤ i) → i < suc n → IsNodeSet sets i (nodes i)
    each i (inl h) b = node_set-cong labels value i (nodes i) r.sets sets (holds.each i b)
        (λ j k l. sym (put_set-other r.sets n (own_set.own r.sets) j l (omega arith))) (r.selection i h)
    each i (inr h) b = subst (λ j. IsNodeSet sets j (nodes j)) (let e : n ≡ i = omega arith in e)
        (own_set.is r.sets sets (λ j k l. put_set-other r.sets n (own_set.own r.sets) j l k) (put_set-here r.sets n (own_set.own r.sets)))

fewer_values : (n : ℕ) (nodes : ℕ → Node) (labels : ℕ) (value : Choice → ℕ → Bool) → AreNodeValues (suc n) nodes labels value
    → AreNodeValues n nodes labels value
fewer_values n nodes labels value holds = record { each = λ i h. holds.each i (omega arith) }

pub correlation : (n : ℕ) (nodes : ℕ → Node) (labels : ℕ) (value : Choice → ℕ → Bool) → AreNodeValues n nodes labels value
    → (members : ℕ → Bool) (W : Labels) → ((l : ℕ) → labels ≤ l → W l ≡ false) → node_sum n members labels W value ≢ pos 0
    → IsSelected n nodes members W
correlation zero nodes labels value holds members W inside k = record {
  sets = λ i l. false;
  selection = λ i h. absurd (omega arith);
  difference = λ l. none l (cases_Bool (W l)) (cases_lt l labels);
}
  where
    none : (l : ℕ) → (W l ≡ true) ⊎ (W l ≡ false) → (l < labels) ⊎ (labels ≤ l) → W l ≡ false
    none l (inr e) within = e
    none l (inl e) (inr past) = inside l past
    none l (inl e) (inl below) = absurd (k (total_label labels W l below e))
correlation (suc n) nodes labels value holds members W inside k =
    go (cases_Bool (members n)) (λ U X i m. correlation n nodes labels value (fewer_values n nodes labels value holds) U X i m)
  where
    go : (members n ≡ true) ⊎ (members n ≡ false)
        → ((U : ℕ → Bool) (X : Labels) → ((l : ℕ) → labels ≤ l → X l ≡ false) → node_sum n U labels X value ≢ pos 0
        → IsSelected n nodes U X) → IsSelected (suc n) nodes members W
    go (inr e) rest = apart (rest members W inside (λ z. k (total-cong labels _ _ (λ c h. rw e refl) ∙ z)))
      where
        apart : IsSelected n nodes members W → IsSelected (suc n) nodes members W
        apart r = join n nodes labels value members members W W holds (any_set n labels value (nodes n) (holds.each n (omega arith))) r
            (λ l. rw e (r.difference l))
    go (inl e) rest = taken (step n labels value (nodes n) (holds.each n (omega arith)) members W inside
        (λ z. k (total-cong labels _ _ (λ c h. rw e refl) ∙ z)))
      where
        taken : IsStep n (nodes n) labels value members W → IsSelected (suc n) nodes members W
        taken s = both (rest s.fewer s.left s.inside s.remains)
          where
            both : IsSelected n nodes s.fewer s.left → IsSelected (suc n) nodes members W
            both r = join n nodes labels value members s.fewer W s.left holds s.own_set r (λ l. rw e (s.joins r.sets l (r.difference l)))

pub correlation_law : CorrelationLaw
unfolding CorrelationLaw
correlation_law n nodes labels value holds members W inside k = correlation n nodes labels value holds members W inside (λ e. k (sum ∙ e))
  where
    sum : sign_total (is_odd n members labels W value) (choices labels) ≡ node_sum n members labels W value
    sum = sign_total-choices labels (is_odd n members labels W value)
        ∙ total-cong labels _ _ (λ c h. ap (λ b. signed (xor (parity_below n members (value c)) b) (pos 1))
        (sym (label_parity-below labels W c h)))
