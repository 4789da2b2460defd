-- The clauses of labels: a variable for each is the sum of the pairs' sets at the label, and these sums show a leak.
use Rattle.std.specs.Prelude.{ℕ, Bool, true, cond, List, [], ◌∷◌, length}
use Rattle.std.specs.List.{range_with_len}
use Rattle.coco_base.specs.declared.labels.LabelTable.{LabelTable}
use Rattle.coco_model.specs.Goals.{variable_of, whole_bits, goal_clauses}
use Rattle.circuit_clauses.specs.declared.signal.Signal.{Signal}
use Rattle.circuit_clauses.specs.Signals.{negated}
use Rattle.clause_builds.specs.Builds.{Build, ◌>>=◌, each, through, fresh, demanded}
use Rattle.clause_builds.specs.Rows.{signal_at}

-- a variable for each label. They come first, so they are 0, 1, 2 and so on
abbrev pub label_variables : List ℕ → Build (List Signal)
label_variables labels = each (λ l. fresh true) labels

-- one signal is true exactly where another is
abbrev pub same_signals : Signal → Signal → Build (Unit {0})
same_signals one other = demanded (negated one ∷ other ∷ []) >>= (λ all. demanded (one ∷ negated other ∷ []))

-- the variable of the label at a place is the sum of that label
abbrev pub label_sum : List Signal → List Signal → ℕ → Unit {0} → Build (Unit {0})
label_sum variables totals i all = same_signals (signal_at variables i) (signal_at totals i)

abbrev pub label_sums : List Signal → List Signal → Build (Unit {0})
label_sums variables totals = through (label_sum variables totals) (range_with_len 0 (length variables)) tt

-- that a label is in the sum, or that it is not
abbrev pub label_signal : List Signal → List ℕ → ℕ → Bool → Signal
label_signal variables labels l positive =
    let variable = signal_at variables (variable_of labels l) in
    cond positive variable (negated variable)

abbrev pub some_holds : List Signal → Unit {0} → Build (Unit {0})
some_holds signals all = demanded signals

-- the goal: the sum shows a leak
abbrev pub goal_demands : List Signal → LabelTable → List ℕ → Build (Unit {0})
goal_demands variables table labels =
    through some_holds (goal_clauses (label_signal variables labels) labels (whole_bits table labels)) tt
