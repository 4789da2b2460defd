-- What gates hand on, by values.
use Rattle.std.proofs.Common.{◌≡◌, ℕ, zero, suc, ◌+◌, ◌-◌, ◌<◌, ◌^◌, Bool, true, false, ◌&&◌, List, [], length, get_or, slice_set, refl, sym, ap, ap₂, ◌∙◌, subst, arith, inl, inr}
use Rattle.std.proofs.lemmas.Bool.{cases_eq, cases_Bool, and_parts}
use Rattle.std.proofs.lemmas.List.{length-set, length-take, get_or-take, get_or-set_same, get_or-set_other}
use Rattle.coco_base.specs.declared.unrolled.Node.TheVariants.{Nothing, Gate}
use Rattle.coco_base.specs.declared.cell.Kind.{Kind}
use Rattle.coco_base.specs.declared.cell.Part.{Part}
use Rattle.coco_base.specs.declared.cell.Part.TheVariants.{Zero, Vary}
use Rattle.coco_model.specs.Cells.{xor, input_count, input_places, subset_of_number, Subset}
use Rattle.coco_model.specs.Findings.{Labels, chosen_set}
use Rattle.coco_model.specs.Goals.{variable_of}
use Rattle.coco_model.specs.Matters.{Matters, AreMattering, IsLeastChoice}
use Rattle.coco_model.specs.Nodes.{IsGateChoice, node_set}
use Rattle.label_cone.specs.Coned.{mark_at}
use Rattle.label_cone.specs.NodeCones.{AreEarlier}
use Rattle.label_cone.proofs.NodeLemmas.{input_count-four, part_of_input}
use Rattle.circuit_clauses.specs.declared.signal.Signal.{Signal}
use Rattle.circuit_clauses.specs.declared.signal.Signal.TheVariants.{Constant, Literal}
use Rattle.circuit_clauses.specs.Signals.{value}
use Rattle.circuit_clauses.specs.Laws.{GatesLaw}
use Rattle.clause_builds.specs.Builds.{done, ◌>>=◌}
use Rattle.clause_builds.specs.Rows.{signal_at}
use Rattle.walsh_laws.specs.Unrolled.{LeastChoiceLaw}
use Rattle.node_clauses.specs.Choices.{has_place, is_choice, choices, set_numbers}
use Rattle.node_clauses.specs.Selectors.{selectors}
use Rattle.node_clauses.specs.Sums.{NodeRun, NodeSums, add_operand, add_operand_at, add_operands, add_choice, add_gate, add_this, set_least, least_choice}
use Rattle.node_clauses.proofs.ChoiceLemmas.{length-subset, place_of_number}
use Rattle.node_clauses.specs.Chosen.{chosen_number}
use Rattle.node_laws.proofs.Meant.{Means, means-done, means-bind, means_more, through_places, value_at, Adds, means-xor_into}
use Rattle.node_laws.proofs.Numbers.{place_chosen, no_place, choice_allowed, choice_small, among_filtered, chosen_input, chosen-least, least_first}
use Rattle.node_laws.proofs.Choosing.{Picks, means-selectors}
use Rattle.node_laws.proofs.Parities.{parity_to, parity-same, parity-past, sum_to, sum-adds, chosen-places, xor_false, xor_assoc, and_false, and_true}
use Rattle.node_laws.proofs.Handing.{Quiet, Stands, IsNeededChoice, Hands}

-- ---- the operands of a choice

-- the exclusive or of the operands' sets at the places of a number
abbrev placed_sets : (ℕ → Labels) → List ℕ → ℕ → ℕ → ℕ → Bool
placed_sets sets operands number l n = parity_to (λ p. has_place p number && sets (get_or operands p 0) l) n

-- the set that a gate has by a number is that of its four places
four_chosen : (sets : ℕ → Labels) (kind : Kind) (operands : List ℕ) (number l : ℕ) → length operands ≡ 4 → number < 2 ^ input_count kind
    → placed_sets sets operands number l 4 ≡ chosen_set sets (subset_of_number (input_count kind) number) (input_places kind operands) l
four_chosen sets kind operands number l long small =
    let few = input_count-four kind in
    let f = λ (p : ℕ). has_place p number && sets (get_or operands p 0) l in
    let e : input_count kind + (4 - input_count kind) ≡ 4 = omega (arith, few) in
    sym (ap (parity_to f) e) ∙ parity-past f (input_count kind) (4 - input_count kind)
    (λ k past. ap (λ b. b && sets (get_or operands k 0) l) (no_place k (input_count kind) number small past))
    ∙ sym (chosen-places sets subset inputs l (let a = length-subset (input_count kind) number in let b = length-take (input_count kind) operands in omega (arith, a, b, few, long))
    ∙ ap (parity_to (λ p. get_or subset p false && sets (get_or inputs p 0) l)) (length-subset (input_count kind) number)
    ∙ parity-same (λ p. get_or subset p false && sets (get_or inputs p 0) l) f (input_count kind)
    (λ p lt. ap₂ (λ b o. b && sets o l) (place_of_number (input_count kind) number p lt) (get_or-take (input_count kind) operands p 0 lt)))
  where
    subset : Subset
    subset = subset_of_number (input_count kind) number

    inputs : List ℕ
    inputs = input_places kind operands

weight_out : (h s : ℕ → Bool) (w : Bool) (n : ℕ) → parity_to (λ p. (h p && w) && s p) n ≡ (w && parity_to (λ p. h p && s p) n)
weight_out h s true n = parity-same (λ p. (h p && true) && s p) (λ p. h p && s p) n (λ p lt. ap (λ b. b && s p) (and_true (h p)))
weight_out h s false zero = refl
weight_out h s false (suc n) = ap₂ xor (weight_out h s false n) (ap (λ b. b && s n) (and_false (h n)))

none_adds : (values : ℕ → Bool) (row : List Signal) (place : ℕ) → Adds values row place false row
none_adds values row place = record { here = λ lt. sym (xor_false (value_at values row place)); elsewhere = λ i ne. refl; as_long = refl }

operand_means : GatesLaw → (values : ℕ → Bool) (chosen : Signal) (operand : ℕ) (weight : Signal) (row : List Signal)
    → Means values (add_operand chosen operand weight row) (Adds values row operand (value values chosen && value values weight))
operand_means gates values (Constant true) operand weight row = means-xor_into gates values row operand (Constant true) weight
operand_means gates values (Constant false) operand weight row = means-done values (Adds values row operand false) row (none_adds values row operand)
operand_means gates values (Literal lit) operand weight row = means-xor_into gates values row operand (Literal lit) weight

-- a gate that matters, with the number of its choice
record IsChosenGate (run : NodeRun) (n : ℕ) (kind : Kind) (parts : List Part) (operands : List ℕ) (number : ℕ) : Type 0 where
  pub is : get_or run.nodes n Nothing ≡ Gate kind parts operands
  pub within : n < length run.nodes
  pub matters : Matters (λ j. get_or run.nodes j Nothing) n
  pub earlier : AreEarlier parts operands n
  pub tell : AreMattering run.nodes (mark_at run.matters)
  pub choice : (number < 2 ^ input_count kind) × IsGateChoice kind parts (subset_of_number (input_count kind) number)

-- a row after the first k places have handed on a weight
record Handed (values : ℕ → Bool) (run : NodeRun) (n : ℕ) (operands : List ℕ) (number : ℕ) (weight : Bool) (row : List Signal) (k : ℕ) (next : List Signal) : Type 0 where
  pub as_long : length next ≡ length row
  pub quiet : Quiet values run n next
  pub sum : (sets : ℕ → Labels) (l : ℕ) → sum_to values next sets l n
      ≡ xor (sum_to values row sets l n) (parity_to (λ p. (has_place p number && weight) && sets (get_or operands p 0) l) k)

hand_one : (values : ℕ → Bool) (run : NodeRun) (n : ℕ) (kind : Kind) (parts : List Part) (operands : List ℕ) (number : ℕ) (weight : Bool) (row : List Signal) (k : ℕ) (now next : List Signal)
    → IsChosenGate run n kind parts operands number → length row ≡ length run.nodes → Handed values run n operands number weight row k now
    → Adds values now (get_or operands k 0) (has_place k number && weight) next → Handed values run n operands number weight row (suc k) next
hand_one values run n kind parts operands number weight row k now next gate long handed adds = record {
  as_long = adds.as_long ∙ handed.as_long;
  quiet = quiet;
  sum = λ sets l. (
      let bit = has_place k number && weight in
      let w = gate.within in
      sum-adds values now next (get_or operands k 0) bit sets l n (omega (arith, handed.as_long, long, w)) (λ e. gate.earlier k (part_of_input kind parts k (input (and_parts (has_place k number) weight e).0))) adds
      ∙ ap (λ b. xor b (bit && sets (get_or operands k 0) l)) (handed.sum sets l)
      ∙ xor_assoc (sum_to values row sets l n) (parity_to (λ p. (has_place p number && weight) && sets (get_or operands p 0) l) k) (bit && sets (get_or operands k 0) l)
      );
}
  where
    input : has_place k number ≡ true → get_or (input_places kind parts) k Zero ≡ Vary
    input e = chosen_input kind parts number k gate.choice e

    quiet : Quiet values run n next
    quiet i lt other others reads g silent = elim (cases_eq i (get_or operands k 0)) [
      | inr apart ↦ adds.elsewhere i apart ∙ handed.quiet i lt other others reads g silent
      | inl same ↦ elim (cases_Bool (has_place k number && weight)) [
        | inl on ↦ let w = gate.within in
            let marked = (gate.tell.each i (omega arith)).1 (Matters.read i n k other kind others parts reads operands g gate.is gate.matters (input (and_parts (has_place k number) weight on).0) (sym same)) in cc
        | inr off ↦ ap (value_at values next) same
            ∙ adds.here (let w = gate.within in omega (arith, handed.as_long, long, w, lt, same)) ∙ ap (xor (value_at values now (get_or operands k 0))) off ∙ xor_false (value_at values now (get_or operands k 0))
            ∙ ap (value_at values now) (sym same) ∙ handed.quiet i lt other others reads g silent
      ]
    ]

operands_mean : GatesLaw → (values : ℕ → Bool) (run : NodeRun) (n : ℕ) (kind : Kind) (parts : List Part) (operands : List ℕ) (selected : List Signal) (weight : Signal) (row : List Signal)
    → length selected ≡ 4 → IsChosenGate run n kind parts operands (chosen_number values selected) → length row ≡ length run.nodes → Quiet values run n row
    → Means values (add_operands selected operands weight row) (Handed values run n operands (chosen_number values selected) (value values weight) row 4)
operands_mean gates values run n kind parts operands selected weight row four gate long quiet =
    through_places values (λ (k : ℕ) (s : List Signal). Handed values run n operands (chosen_number values selected) (value values weight) row k s) (add_operand_at selected operands weight) turn row
    (record { as_long = refl; quiet = quiet; sum = λ sets l. sym (xor_false (sum_to values row sets l n)) })
  where
    turn : (k : ℕ) (s : List Signal) → k < 4 → Handed values run n operands (chosen_number values selected) (value values weight) row k s
        → Means values (add_operand_at selected operands weight k s) (Handed values run n operands (chosen_number values selected) (value values weight) row (suc k))
    turn k s lt handed =
        means_more values (Adds values s (get_or operands k 0) (value values (signal_at selected k) && value values weight))
        (Handed values run n operands (chosen_number values selected) (value values weight) row (suc k))
        (add_operand (signal_at selected k) (get_or operands k 0) weight s)
        (operand_means gates values (signal_at selected k) (get_or operands k 0) weight s)
        (λ (next : List Signal) adds. hand_one values run n kind parts operands (chosen_number values selected) (value values weight) row k s next gate long handed
        (subst (λ b. Adds values s (get_or operands k 0) (b && value values weight) next) (sym (place_chosen values selected k four lt)) adds))

-- ---- a gate that matters

abbrev chosen_sums : ℕ → NodeSums → List Signal → List Signal → NodeSums
chosen_sums n sums selected weights = record sums { weights = weights; selections = slice_set sums.selections n selected }

-- the potential stays as it was
choice_keeps : (values : ℕ → Bool) (run : NodeRun) (n : ℕ) (kind : Kind) (parts : List Part) (operands : List ℕ) (sums : NodeSums) (number : ℕ) (weights : List Signal)
    → length operands ≡ 4 → IsChosenGate run n kind parts operands number
    → Handed values run n operands number (value_at values sums.weights n) sums.weights 4 weights
    → (sets : ℕ → Labels) (l : ℕ) → sets n l ≡ node_set sets number (Gate kind parts operands) l
    → sum_to values weights sets l n ≡ sum_to values sums.weights sets l (suc n)
choice_keeps values run n kind parts operands sums number weights long gate handed sets l e =
    let s = sum_to values sums.weights sets l n in
    let w = value_at values sums.weights n in
    handed.sum sets l
    ∙ ap (xor s) (weight_out (λ p. has_place p number) (λ p. sets (get_or operands p 0) l) w 4
    ∙ ap (λ b. w && b) (four_chosen sets kind operands number l long gate.choice.0 ∙ sym e))

choice_hands : (values : ℕ → Bool) (run : NodeRun) (n : ℕ) (kind : Kind) (parts : List Part) (operands : List ℕ) (sums : NodeSums) (selected weights : List Signal)
    → length operands ≡ 4 → Stands values run (suc n) sums → IsChosenGate run n kind parts operands (chosen_number values selected)
    → Handed values run n operands (chosen_number values selected) (value_at values sums.weights n) sums.weights 4 weights
    → Hands values run n (Gate kind parts operands) sums (chosen_sums n sums selected weights)
choice_hands values run n kind parts operands sums selected weights long stands gate handed = record {
  stands = record {
    sized = record {
      weights = handed.as_long ∙ stands.sized.weights;
      totals = stands.sized.totals;
      selections = length-set sums.selections n selected ∙ stands.sized.selections;
    };
    quiet = handed.quiet;
    unset = λ i lt. get_or-set_other sums.selections n i selected [] (λ e. omega (arith, lt, e)) ∙ stands.unset i (omega arith);
  };
  others = λ i ne. get_or-set_other sums.selections n i selected [] ne;
  needed = subst (IsNeededChoice run n (Gate kind parts operands)) (sym number) (record {
    allowed = gate.choice;
    least = λ never. absurd (never gate.matters);
    zero = λ none. absurd (none kind parts operands refl);
  });
  keeps = λ sets l c e. ap (xor (value_at values sums.totals (variable_of run.labels l)))
      (choice_keeps values run n kind parts operands sums (chosen_number values selected) weights long gate handed sets l
      (e ∙ ap (λ m. node_set sets m (Gate kind parts operands) l) number));
}
  where
    number : chosen_number values (get_or (slice_set sums.selections n selected) n []) ≡ chosen_number values selected
    number = ap (chosen_number values) (get_or-set_same sums.selections n selected [] (let w = gate.within in let s = stands.sized.selections in omega arith))

-- what is known of a gate of the run
pub record IsRunGate (run : NodeRun) (n : ℕ) (kind : Kind) (parts : List Part) (operands : List ℕ) : Type 0 where
  pub is : get_or run.nodes n Nothing ≡ Gate kind parts operands
  pub within : n < length run.nodes
  pub earlier : AreEarlier parts operands n
  pub tell : AreMattering run.nodes (mark_at run.matters)
  pub parts_long : length parts ≡ 4
  pub operands_long : length operands ≡ 4

choice_means : GatesLaw → (values : ℕ → Bool) (run : NodeRun) (n : ℕ) (kind : Kind) (parts : List Part) (operands : List ℕ) (sums : NodeSums)
    → IsRunGate run n kind parts operands → mark_at run.matters n ≡ true → Stands values run (suc n) sums
    → Means values (add_choice (choices kind parts) operands n sums) (Hands values run n (Gate kind parts operands) sums)
choice_means gates values run n kind parts operands sums gate marked stands =
    means-bind values (Hands values run n (Gate kind parts operands) sums) (Picks values (choices kind parts)) (selectors (choices kind parts))
    (λ (selected : List Signal). add_operands selected operands weight sums.weights >>= (λ (weights : List Signal). done (chosen_sums n sums selected weights)))
    (means-selectors values (choices kind parts))
    (λ (selected : List Signal) picks. (
    let chosen = chosen_gate selected picks in
    means-bind values (Hands values run n (Gate kind parts operands) sums)
    (Handed values run n operands (chosen_number values selected) (value values weight) sums.weights 4)
    (add_operands selected operands weight sums.weights) (λ (weights : List Signal). done (chosen_sums n sums selected weights))
    (operands_mean gates values run n kind parts operands selected weight sums.weights picks.four chosen stands.sized.weights (λ i lt. stands.quiet i (omega arith)))
    (λ (weights : List Signal) handed. means-done values (Hands values run n (Gate kind parts operands) sums) (chosen_sums n sums selected weights)
    (choice_hands values run n kind parts operands sums selected weights gate.operands_long stands chosen handed))
    ))
  where
    weight : Signal
    weight = signal_at sums.weights n

    chosen_gate : (selected : List Signal) → Picks values (choices kind parts) selected → IsChosenGate run n kind parts operands (chosen_number values selected)
    chosen_gate selected picks = record {
      is = gate.is;
      within = gate.within;
      matters = (gate.tell.each n gate.within).0 marked;
      earlier = gate.earlier;
      tell = gate.tell;
      choice = choice_allowed kind parts operands (chosen_number values selected) gate.parts_long
          (among_filtered (is_choice kind parts) (chosen_number values selected) set_numbers picks.among);
    }

-- ---- a gate that does not matter

least_hands : LeastChoiceLaw → (values : ℕ → Bool) (run : NodeRun) (n : ℕ) (kind : Kind) (parts : List Part) (operands : List ℕ) (sums : NodeSums)
    → IsRunGate run n kind parts operands → mark_at run.matters n ≡ false → Stands values run (suc n) sums
    → Hands values run n (Gate kind parts operands) sums (set_least (choices kind parts) n sums)
least_hands law values run n kind parts operands sums gate silent stands = record {
  stands = record {
    sized = record {
      weights = stands.sized.weights;
      totals = stands.sized.totals;
      selections = length-set sums.selections n (least_choice (choices kind parts)) ∙ stands.sized.selections;
    };
    quiet = λ i lt. stands.quiet i (omega arith);
    unset = λ i lt. get_or-set_other sums.selections n i (least_choice (choices kind parts)) [] (λ e. omega (arith, lt, e)) ∙ stands.unset i (omega arith);
  };
  others = λ i ne. get_or-set_other sums.selections n i (least_choice (choices kind parts)) [] ne;
  needed = subst (IsNeededChoice run n (Gate kind parts operands)) (sym number) (record {
    allowed = least.allowed;
    least = λ never. least;
    zero = λ none. absurd (none kind parts operands refl);
  });
  keeps = λ sets l c e. ap (xor (value_at values sums.totals (variable_of run.labels l)))
      (sym (ap (λ b. xor (sum_to values sums.weights sets l n) (b && sets n l)) (stands.quiet n (omega arith) kind parts operands gate.is silent)
      ∙ xor_false (sum_to values sums.weights sets l n)));
}
  where
    first : ℕ
    first = get_or (choices kind parts) 0 0

    least : IsLeastChoice (get_or (choices kind parts) 0 0) (Gate kind parts operands)
    least = least_first law kind parts operands gate.parts_long

    number : chosen_number values (get_or (slice_set sums.selections n (least_choice (choices kind parts))) n []) ≡ get_or (choices kind parts) 0 0
    number = ap (chosen_number values) (get_or-set_same sums.selections n (least_choice (choices kind parts)) [] (let w = gate.within in let s = stands.sized.selections in omega arith))
        ∙ chosen-least values (choices kind parts) (choice_small kind (get_or (choices kind parts) 0 0) least.allowed.0)

pub gate_means : GatesLaw → LeastChoiceLaw → (values : ℕ → Bool) (run : NodeRun) (n : ℕ) (kind : Kind) (parts : List Part) (operands : List ℕ) (sums : NodeSums)
    → IsRunGate run n kind parts operands → Stands values run (suc n) sums
    → Means values (add_this run n (Gate kind parts operands) sums) (Hands values run n (Gate kind parts operands) sums)
gate_means gates law values run n kind parts operands sums gate stands = go (mark_at run.matters n) refl
  where
    go : (b : Bool) → mark_at run.matters n ≡ b → Means values (add_gate b (choices kind parts) operands n sums) (Hands values run n (Gate kind parts operands) sums)
    go true e = choice_means gates values run n kind parts operands sums gate e stands
    go false e = means-done values (Hands values run n (Gate kind parts operands) sums) (set_least (choices kind parts) n sums)
        (least_hands law values run n kind parts operands sums gate e stands)
