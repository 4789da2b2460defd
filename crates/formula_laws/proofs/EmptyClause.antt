-- Where no secret bit has all its shares among the labels with variables, the goal has the empty clause.
use Rattle.std.proofs.Common.{◌≡◌, ℕ, true, inl, inr, map, List, [], ◌∷◌, get_or, refl, sym, subst}
use Rattle.std.specs.Prelude.{Contains}
use Rattle.std.proofs.lemmas.List.Elements.{Contains-append_left, Contains-append_right}
use Rattle.clause_store.specs.declared.lit.Lit.{Lit}
use Rattle.coco_base.specs.declared.labels.LabelTable.{LabelTable}
use Rattle.coco_model.specs.Goals.{goal_clauses, whole_bits}
use Rattle.coco_model.proofs.Basics.{Contains-here, Contains-cases, Contains-none}
use Rattle.circuit_clauses.specs.declared.signal.Signal.{Signal}
use Rattle.circuit_clauses.specs.Signals.{disjunction}
use Rattle.circuit_clauses.specs.Steps.{Step, clauses_of_steps, step_clauses, variables_after}
use Rattle.circuit_clauses.specs.Steps.Step.{demand}
use Rattle.circuit_clauses.proofs.Sequences.{clauses_of_steps-append}
use Rattle.clause_builds.specs.Builds.{Build, done, ◌>>=◌}
use Rattle.probe_encode.specs.Formulas.{Encoding, Tables, encoded, first_part, labels_of}
use Rattle.probe_encode.specs.Goals.{goal_demands, label_signal}
use Rattle.probe_encode.specs.Sources.{encoding_of}
use Rattle.formula_laws.specs.Labelled.{EmptyClauseLaw, HasProbedBit, LabelsLaw}
use Rattle.formula_laws.specs.Runs.{seen_in}
use Rattle.formula_laws.proofs.Demands.{demand_steps}
use Rattle.formula_laws.proofs.GoalClauses.{last_clause}
use Rattle.formula_laws.proofs.WholeBits.{whole_bit}

-- the clauses of one build and of the next are clauses of both
clause_of_first : {X Y : Type 0} (first : Build X) (next : X → Build Y) (var : ℕ) (c : List Lit)
    → Contains (clauses_of_steps var (first var).steps) c → Contains (clauses_of_steps var ((first >>= next) var).steps) c
unfolding ◌>>=◌
clause_of_first first next var c h =
    let steps = (first var).steps in
    let more = (next (first var).result (variables_after var steps)).steps in
    subst (λ (cs : List (List Lit)). Contains cs c) (sym (clauses_of_steps-append var steps more))
    (Contains-append_left (clauses_of_steps var steps) (clauses_of_steps (variables_after var steps) more) c h)

clause_of_next : {X Y : Type 0} (first : Build X) (next : X → Build Y) (var : ℕ) (c : List Lit)
    → Contains (clauses_of_steps (variables_after var (first var).steps) (next (first var).result (variables_after var (first var).steps)).steps) c
    → Contains (clauses_of_steps var ((first >>= next) var).steps) c
unfolding ◌>>=◌
clause_of_next first next var c h =
    let steps = (first var).steps in
    let more = (next (first var).result (variables_after var steps)).steps in
    subst (λ (cs : List (List Lit)). Contains cs c) (sym (clauses_of_steps-append var steps more))
    (Contains-append_right (clauses_of_steps var steps) (clauses_of_steps (variables_after var steps) more) c h)

clause_of_demand : (clauses : List (List Signal)) (signals : List Signal) (var : ℕ) (c : List Lit) → Contains clauses signals
    → Contains (disjunction signals) c → Contains (clauses_of_steps var (map demand clauses)) c
clause_of_demand [] signals var c h i = absurd (Contains-none signals h)
clause_of_demand (d ∷ ds) signals var c h i = elim (Contains-cases d signals ds h) [
  | inl e ↦ Contains-append_left (step_clauses var (demand d)) (clauses_of_steps var (map demand ds)) c
      (Contains-append_left (disjunction d) [] c (subst (λ (s : List Signal). Contains (disjunction s) c) (sym e) i))
  | inr j ↦ Contains-append_right (step_clauses var (demand d)) (clauses_of_steps var (map demand ds)) c
      (clause_of_demand ds signals var c j i)
]

-- the goal's last demand is that of no signal
goal_empty : (variables : List Signal) (table : LabelTable) (labels : List ℕ) (var : ℕ) → whole_bits table labels ≡ []
    → Contains (clauses_of_steps var (goal_demands variables table labels var).steps) []
goal_empty variables table labels var e =
    let literal = label_signal variables labels in
    let clauses = goal_clauses literal labels (whole_bits table labels) in
    subst (λ (steps : List Step). Contains (clauses_of_steps var steps) []) (sym (demand_steps clauses var))
    (clause_of_demand clauses (map (λ (ls : List ℕ). literal (get_or ls 0 0) true) (whole_bits table labels)) var []
    (last_clause literal labels (whole_bits table labels))
    (subst (λ (bits : List (List ℕ)). Contains (disjunction (map (λ (ls : List ℕ). literal (get_or ls 0 0) true) bits)) []) (sym e)
    (Contains-here [] [])))

first_labels : (e : Encoding) (var : ℕ) → (first_part e var).result.labels ≡ labels_of e
unfolding ◌>>=◌ done
first_labels e var = refl

goal_clause : (e : Encoding) (c : List Lit)
    → ((variables : List Signal) (var : ℕ) → Contains (clauses_of_steps var (goal_demands variables e.table (labels_of e) var).steps) c)
    → Contains (encoded e).formula.clauses c
goal_clause e c has =
    let first = first_part e 0 in
    let var = variables_after 0 first.steps in
    clause_of_next (first_part e) (λ (tables : Tables). goal_demands tables.variables e.table tables.labels >>= (λ all. done tables)) 0 c
    (clause_of_first (goal_demands first.result.variables e.table first.result.labels) (λ all. done first.result) var c
    (subst (λ (ls : List ℕ). Contains (clauses_of_steps var (goal_demands first.result.variables e.table ls var).steps) c) (sym (first_labels e 0))
    (has first.result.variables var)))

pub empty_clause : LabelsLaw → EmptyClauseLaw
unfolding LabelsLaw EmptyClauseLaw
empty_clause law view u coned reach run none = go (whole_bits u.table (labels_of (encoding_of view u coned))) refl
  where
    go : (bits : List (List ℕ)) → whole_bits u.table (labels_of (encoding_of view u coned)) ≡ bits → HasProbedBit (seen_in view u reach)
    go [] e = absurd (none (goal_clause (encoding_of view u coned) []
        (λ variables var. goal_empty variables u.table (labels_of (encoding_of view u coned)) var e)))
    go (ls ∷ bits) e =
        let w = whole_bit u.table (labels_of (encoding_of view u coned)) ls
        (subst (λ (bs : List (List ℕ)). Contains bs ls) (sym e) (Contains-here ls bits)) in
        record { shares = ls; secret = w.secret; each = λ l h. ((law view u coned reach run).members l).0 (w.each l h) }
