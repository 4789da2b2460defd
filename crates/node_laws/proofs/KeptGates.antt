-- Values that go on from given ones while gates are added.
use Rattle.std.proofs.Common.{◌≡◌, ℕ, suc, ◌<◌, ◌≤◌, Bool, true, false, List, [], length, get_or, slice_set, refl, sym, ◌∙◌, subst, arith, inl, inr}
use Rattle.std.proofs.lemmas.Bool.{cases_lt}
use Rattle.std.proofs.lemmas.List.{length-set, get_or-set_same, get_or-set_other}
use Rattle.coco_base.specs.declared.cell.Kind.{Kind}
use Rattle.coco_base.specs.declared.cell.Part.{Part}
use Rattle.coco_base.specs.declared.unrolled.Node.{Node}
use Rattle.coco_base.specs.declared.unrolled.Node.TheVariants.{Nothing, Gate}
use Rattle.coco_model.specs.Goals.{is_among}
use Rattle.coco_model.specs.Matters.{IsLeastChoice}
use Rattle.coco_model.specs.Nodes.{IsAllowedChoice}
use Rattle.label_cone.specs.Coned.{mark_at}
use Rattle.circuit_clauses.specs.declared.signal.Signal.{Signal}
use Rattle.circuit_clauses.specs.declared.signal.Signal.TheVariants.{Constant, Literal}
use Rattle.circuit_clauses.specs.Laws.{EvaluationLaw}
use Rattle.circuit_clauses.specs.Meanings.{IsBelow}
use Rattle.clause_builds.specs.Builds.{done, ◌>>=◌}
use Rattle.clause_builds.specs.Rows.{signal_at}
use Rattle.walsh_laws.specs.Unrolled.{LeastChoiceLaw}
use Rattle.node_clauses.specs.Choices.{four_places, has_place, is_choice, choices}
use Rattle.node_clauses.specs.Selectors.{selectors}
use Rattle.node_clauses.specs.Sums.{NodeRun, NodeSums, add_operand, add_operand_at, add_operands, add_choice, add_gate, add_this, set_least, least_choice}
use Rattle.node_laws.specs.Laws.{IsWeighed, AreNeededNumbers}
use Rattle.node_laws.proofs.Numbers.{choice_small, allowed_choice, chosen-least, least_first, among_test}
use Rattle.node_laws.proofs.Extending.{Extends, AreSame, extends-done, extends-bind, extends_more, extends-through, extends-xor_into, Row, RowBelow, row_more, below_more}
use Rattle.node_laws.proofs.Selecting.{Told, told_more, extends-selectors}
use Rattle.node_laws.proofs.Kept.{Reading, told_reading, constants_below, Kept, kept_next, same_self}

-- ---- the operands of a choice

operand_extends : EvaluationLaw → (now : ℕ) (values : ℕ → Bool) (chosen : Signal) (operand : ℕ) (weight : Signal) (row : List Signal)
    → IsBelow now chosen → IsBelow now weight → RowBelow now row → Extends values now (add_operand chosen operand weight row) (Row row)
operand_extends law now values (Constant true) operand weight row hc hw low = extends-xor_into law values now row operand (Constant true) weight low hc hw
operand_extends law now values (Constant false) operand weight row hc hw low = extends-done values now (Row row) row (record { below = low; as_long = refl })
operand_extends law now values (Literal lit) operand weight row hc hw low = extends-xor_into law values now row operand (Literal lit) weight low hc hw

-- what stays so while the operands are added
record Adding (selected : List Signal) (weight : Signal) (row : List Signal) (number k now : ℕ) (values : ℕ → Bool) (next : List Signal) : Type 0 where
  pub told : Told number 4 now values selected
  pub handed : IsBelow now weight
  pub row_is : Row row now values next

operands_extend : EvaluationLaw → (now : ℕ) (values : ℕ → Bool) (selected : List Signal) (operands : List ℕ) (weight : Signal) (row : List Signal) (number : ℕ)
    → Told number 4 now values selected → IsBelow now weight → RowBelow now row
    → Extends values now (add_operands selected operands weight row) (Adding selected weight row number 4)
operands_extend law now values selected operands weight row number told hw low =
    extends-through (Adding selected weight row number) (add_operand_at selected operands weight) four_places 0 turn values now row
    (record { told = told; handed = hw; row_is = record { below = low; as_long = refl } })
  where
    turn : (k : ℕ) (s : List Signal) (later : ℕ) (others : ℕ → Bool) → k < 4 → Adding selected weight row number k later others s
        → Extends others later (add_operand_at selected operands weight (get_or four_places k 0) s) (Adding selected weight row number (suc k))
    turn k s later others lt a =
        extends_more others later (Row s) (Adding selected weight row number (suc k)) (add_operand_at selected operands weight (get_or four_places k 0) s)
        (operand_extends law later others (signal_at selected (get_or four_places k 0)) (get_or operands (get_or four_places k 0) 0) weight s
        (a.told.below (get_or four_places k 0)) a.handed a.row_is.below)
        (λ last mores next up same r. record {
          told = told_more number 4 later last others mores selected up same a.told;
          handed = below_more later last weight up a.handed;
          row_is = record { below = r.below; as_long = r.as_long ∙ a.row_is.as_long };
        })

abbrev chosen_sums : ℕ → NodeSums → List Signal → List Signal → NodeSums
chosen_sums n sums selected weights = record sums { weights = weights; selections = slice_set sums.selections n selected }

choice_next : (run : NodeRun) (numbers : List ℕ) (n now later : ℕ) (values others : ℕ → Bool) (sums : NodeSums) (selected weights : List Signal) → n < length run.nodes
    → get_or numbers n 0 < 16 → now ≤ later → AreSame others values now → Kept run numbers (suc n) now values sums
    → Told (get_or numbers n 0) 4 later others selected → Row sums.weights later others weights
    → Kept run numbers n later others (chosen_sums n sums selected weights)
choice_next run numbers n now later values others sums selected weights within small up same kept told r =
    kept_next run numbers n now later values others sums (chosen_sums n sums selected weights) up same kept (record {
      sized = record {
        weights = r.as_long ∙ kept.sized.weights;
        totals = kept.sized.totals;
        selections = length-set sums.selections n selected ∙ kept.sized.selections;
      };
      weights = r.below;
      totals = row_more now later sums.totals up kept.totals;
      others = λ i ne. get_or-set_other sums.selections n i selected [] ne;
      here = subst (λ s. Reading later others s (get_or numbers n 0)) (sym (get_or-set_same sums.selections n selected [] (let s = kept.sized.selections in omega arith)))
          (told_reading (get_or numbers n 0) later others selected small told);
    })

choice_extends : EvaluationLaw → (run : NodeRun) (numbers : List ℕ) (n now : ℕ) (values : ℕ → Bool) (choice_numbers operands : List ℕ) (sums : NodeSums) → n < length run.nodes
    → get_or numbers n 0 < 16 → is_among choice_numbers (get_or numbers n 0) ≡ true
    → Kept run numbers (suc n) now values sums → Extends values now (add_choice choice_numbers operands n sums) (Kept run numbers n)
choice_extends law run numbers n now values choice_numbers operands sums within small among kept =
    extends-bind values now (Kept run numbers n) (Told number 4) (selectors choice_numbers)
    (λ (selected : List Signal). add_operands selected operands weight sums.weights >>= (λ (weights : List Signal). done (chosen_sums n sums selected weights)))
    (extends-selectors choice_numbers number now values among small)
    (λ (selected : List Signal) later others up same told.
    extends-bind others later (Kept run numbers n) (Adding selected weight sums.weights number 4) (add_operands selected operands weight sums.weights)
    (λ (weights : List Signal). done (chosen_sums n sums selected weights))
    (operands_extend law later others selected operands weight sums.weights number told (below_more now later weight up (kept.weights n)) (row_more now later sums.weights up kept.weights))
    (λ (weights : List Signal) last mores more_up more_same a. extends-done mores last (Kept run numbers n) (chosen_sums n sums selected weights)
    (choice_next run numbers n now last values mores sums selected weights within small (omega (arith, up, more_up))
    (λ v lt. more_same v (omega (arith, up, lt)) ∙ same v lt) kept a.told a.row_is)))
  where
    number : ℕ
    number = get_or numbers n 0

    weight : Signal
    weight = signal_at sums.weights n

least_extends : (run : NodeRun) (numbers : List ℕ) (n now : ℕ) (values : ℕ → Bool) (choice_numbers : List ℕ) (sums : NodeSums) → n < length run.nodes
    → get_or numbers n 0 < 16 → get_or choice_numbers 0 0 ≡ get_or numbers n 0
    → Kept run numbers (suc n) now values sums → Extends values now (done (set_least choice_numbers n sums)) (Kept run numbers n)
least_extends run numbers n now values choice_numbers sums within small first kept =
    extends-done values now (Kept run numbers n) (set_least choice_numbers n sums)
    (kept_next run numbers n now now values values sums (set_least choice_numbers n sums) (omega arith) (same_self values now) kept (record {
      sized = record {
        weights = kept.sized.weights;
        totals = kept.sized.totals;
        selections = length-set sums.selections n (least_choice choice_numbers) ∙ kept.sized.selections;
      };
      weights = kept.weights;
      totals = kept.totals;
      others = λ i ne. get_or-set_other sums.selections n i (least_choice choice_numbers) [] ne;
      here = subst (λ s. Reading now values s (get_or numbers n 0)) (sym (get_or-set_same sums.selections n (least_choice choice_numbers) [] (let s = kept.sized.selections in omega arith)))
          (record {
            below = constants_below now (λ p. has_place p (get_or choice_numbers 0 0)) four_places;
            reads = chosen-least values choice_numbers (omega (arith, small, first)) ∙ first;
          });
    }))

least_once : (one other : ℕ) (node : Node) → IsLeastChoice one node → IsLeastChoice other node → one ≡ other
least_once one other node a b = elim (cases_lt one other) [
  | inl low ↦ absurd (b.least one low a.allowed)
  | inr le ↦ elim (cases_lt other one) [
    | inl low ↦ absurd (a.least other low b.allowed)
    | inr more ↦ omega (arith, le, more)
  ]
]

pub gate_extends : EvaluationLaw → LeastChoiceLaw → (run : NodeRun) (weights : List Signal) → IsWeighed run weights → (numbers : List ℕ) → AreNeededNumbers run numbers
    → (n now : ℕ) (values : ℕ → Bool) (kind : Kind) (parts : List Part) (operands : List ℕ) (sums : NodeSums) → n < length run.nodes
    → get_or run.nodes n Nothing ≡ Gate kind parts operands → Kept run numbers (suc n) now values sums
    → Extends values now (add_this run n (Gate kind parts operands) sums) (Kept run numbers n)
gate_extends law leasts run weights good numbers needed n now values kind parts operands sums within is kept = go (mark_at run.matters n) refl
  where
    allowed : IsAllowedChoice (get_or numbers n 0) (Gate kind parts operands)
    allowed = subst (IsAllowedChoice (get_or numbers n 0)) is (needed.selection.allowed n within)

    small : get_or numbers n 0 < 16
    small = choice_small kind (get_or numbers n 0) allowed.0

    go : (b : Bool) → mark_at run.matters n ≡ b → Extends values now (add_gate b (choices kind parts) operands n sums) (Kept run numbers n)
    go true e = choice_extends law run numbers n now values (choices kind parts) operands sums within small
        (among_test (is_choice kind parts) (get_or numbers n 0) small (allowed_choice kind parts operands (get_or numbers n 0) allowed)) kept
    go false e = least_extends run numbers n now values (choices kind parts) sums within small
        (least_once (get_or (choices kind parts) 0 0) (get_or numbers n 0) (Gate kind parts operands)
        (least_first leasts kind parts operands (good.gates n kind parts operands is).0)
        (subst (IsLeastChoice (get_or numbers n 0)) is (needed.least.each n within (λ m. let f = (good.matters.each n within).1 m in cc)))) kept
