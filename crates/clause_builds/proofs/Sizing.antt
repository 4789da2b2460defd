-- How many variables and clauses builds take.
use Rattle.std.proofs.Common.{◌≡◌, ℕ, zero, suc, ◌+◌, ◌*◌, ◌≤◌, Bool, true, false, List, [], ◌∷◌, ◌++◌, length, Option, Some, None, ap, ◌∙◌, arith, length-append}
use Rattle.circuit_clauses.specs.declared.signal.Signal.{Signal}
use Rattle.circuit_clauses.specs.declared.signal.Signal.TheVariants.{Constant}
use Rattle.circuit_clauses.specs.Steps.{gate_signal, or_and_disjunctions, variables_after, clauses_of_steps}
use Rattle.circuit_clauses.specs.Steps.Step.{or_and_gate}
use Rattle.circuit_clauses.specs.Gates.{made_by, known_or_and}
use Rattle.circuit_clauses.proofs.Sequences.{variables_after-append, clauses_of_steps-append}
use Rattle.circuit_clauses.proofs.Sizes.{length-disjunctions}
use Rattle.clause_builds.specs.Builds.{Build, done, ◌>>=◌, each, through, fresh, demanded, or_gate}
use Rattle.clause_builds.specs.Rows.{signal_at, or_into, fresh_if, fresh_row}

-- a build takes at most so many variables and clauses
pub record Takes {X : Type 0} (build : Build X) (v c : ℕ) : Type 0 where
  pub vars : (var : ℕ) → variables_after var (build var).steps ≤ var + v
  pub clauses : (var : ℕ) → length (clauses_of_steps var (build var).steps) ≤ c

-- what a build makes has a property
abbrev pub Makes : {X : Type 0} → (X → Type 0) → Build X → Type 0
Makes P build = (var : ℕ) → P (build var).result

pub takes_more : {X : Type 0} (build : Build X) (v c w d : ℕ) → Takes build v c → v ≤ w → c ≤ d → Takes build w d
takes_more build v c w d t lv lc =
    record {
      vars = λ var. (let h = t.vars var in omega arith);
      clauses = λ var. (let h = t.clauses var in omega arith);
    }

pub takes-done : {X : Type 0} (x : X) → Takes (done x) 0 0
unfolding done
takes-done x = record { vars = λ var. omega arith; clauses = λ var. omega arith }

pub makes-done : {X : Type 0} (P : X → Type 0) (x : X) → P x → Makes P (done x)
unfolding done
makes-done P x h = λ var. h

-- one build and the next, where what the first makes has a property
pub takes-bind_of : {X Y : Type 0} (P : X → Type 0) (first : Build X) (next : X → Build Y) (v c w d : ℕ)
    → Takes first v c → Makes P first → ((x : X) → P x → Takes (next x) w d) → Takes (first >>= next) (v + w) (c + d)
unfolding ◌>>=◌
takes-bind_of P first next v c w d a p b =
    record {
      vars = λ var. (
          let one = first var in
          let between = variables_after var one.steps in
          let two = next one.result between in
          let e : variables_after var (one.steps ++ two.steps) ≡ variables_after between two.steps = variables_after-append var one.steps two.steps in
          let h : between ≤ var + v = a.vars var in
          let k : variables_after between two.steps ≤ between + w = (b one.result (p var)).vars between in
          omega arith
          );
      clauses = λ var. (
          let one = first var in
          let between = variables_after var one.steps in
          let two = next one.result between in
          let e : length (clauses_of_steps var (one.steps ++ two.steps)) ≡ length (clauses_of_steps var one.steps) + length (clauses_of_steps between two.steps) =
          ap length (clauses_of_steps-append var one.steps two.steps) ∙ length-append (clauses_of_steps var one.steps) (clauses_of_steps between two.steps) in
          let h : length (clauses_of_steps var one.steps) ≤ c = a.clauses var in
          let k : length (clauses_of_steps between two.steps) ≤ d = (b one.result (p var)).clauses between in
          omega arith
          );
    }

pub takes-bind : {X Y : Type 0} (first : Build X) (next : X → Build Y) (v c w d : ℕ) → Takes first v c → ((x : X) → Takes (next x) w d) → Takes (first >>= next) (v + w) (c + d)
takes-bind {X = X} first next v c w d a b = takes-bind_of (λ (x : X). Unit {0}) first next v c w d a (λ var. tt) (λ x p. b x)

pub makes-bind : {X Y : Type 0} (P : X → Type 0) (Q : Y → Type 0) (first : Build X) (next : X → Build Y) → Makes P first → ((x : X) → P x → Makes Q (next x)) → Makes Q (first >>= next)
unfolding ◌>>=◌
makes-bind P Q first next p q = λ var. q (first var).result (p var) (variables_after var (first var).steps)

pub takes-each : {X Y : Type 0} (build : X → Build Y) (xs : List X) (v c : ℕ) → ((x : X) → Takes (build x) v c) → Takes (each build xs) (length xs * v) (length xs * c)
unfolding each
takes-each build [] v c t = takes_more (done []) 0 0 (0 * v) (0 * c) (takes-done []) (omega arith) (omega arith)
takes-each {Y = Y} build (x ∷ xs) v c t =
    let n = length xs in
    let rest : (y : Y) → Takes (each build xs >>= (λ ys. done (y ∷ ys))) (n * v + 0) (n * c + 0) =
    λ y. takes-bind (each build xs) (λ (ys : List Y). done (y ∷ ys)) (n * v) (n * c) 0 0 (takes-each build xs v c t) (λ ys. takes-done (y ∷ ys)) in
    takes_more (build x >>= (λ y. each build xs >>= (λ ys. done (y ∷ ys)))) (v + (n * v + 0)) (c + (n * c + 0)) (suc n * v) (suc n * c)
    (takes-bind (build x) (λ (y : Y). each build xs >>= (λ ys. done (y ∷ ys))) v c (n * v + 0) (n * c + 0) (t x) rest) (omega arith) (omega arith)

pub takes-through : {X S : Type 0} (build : X → S → Build S) (xs : List X) (state : S) (v c : ℕ) → ((x : X) (s : S) → Takes (build x s) v c) → Takes (through build xs state) (length xs * v) (length xs * c)
unfolding through
takes-through build [] state v c t = takes_more (done state) 0 0 (0 * v) (0 * c) (takes-done state) (omega arith) (omega arith)
takes-through build (x ∷ xs) state v c t =
    let n = length xs in
    takes_more (build x state >>= through build xs) (v + n * v) (c + n * c) (suc n * v) (suc n * c)
    (takes-bind (build x state) (through build xs) v c (n * v) (n * c) (t x state) (λ s. takes-through build xs s v c t)) (omega arith) (omega arith)

-- all that is made along a list has a property, and there are as many
abbrev pub AreAll : {Y : Type 0} → (Y → Type 0) → ℕ → List Y → Type 0
AreAll P zero [] = Unit {0}
AreAll P zero (y ∷ ys) = ⊥
AreAll P (suc n) [] = ⊥
AreAll P (suc n) (y ∷ ys) = P y × AreAll P n ys

pub makes-each : {X Y : Type 0} (P : Y → Type 0) (build : X → Build Y) (xs : List X) → ((x : X) → Makes P (build x)) → Makes (AreAll P (length xs)) (each build xs)
unfolding each
makes-each P build [] h = makes-done (AreAll P 0) [] tt
makes-each {Y = Y} P build (x ∷ xs) h =
    makes-bind P (AreAll P (suc (length xs))) (build x) (λ (y : Y). each build xs >>= (λ ys. done (y ∷ ys))) (h x)
    (λ y py. makes-bind (AreAll P (length xs)) (AreAll P (suc (length xs))) (each build xs) (λ (ys : List Y). done (y ∷ ys)) (makes-each P build xs h)
    (λ ys pys. makes-done (AreAll P (suc (length xs))) (y ∷ ys) (py, pys)))

pub takes-fresh : (positive : Bool) → Takes (fresh positive) 1 0
takes-fresh positive = record { vars = λ var. omega arith; clauses = λ var. omega arith }

pub takes-demanded : (signals : List Signal) → Takes (demanded signals) 0 1
takes-demanded signals =
    record {
      vars = λ var. omega arith;
      clauses = λ var. (let h = length-disjunctions (signals ∷ []) in let k = simp length-append at h in simp length-append (omega arith));
    }

gate_vars : (var : ℕ) (o : Option Signal) (a p b : Signal) → variables_after var (made_by o var (or_and_gate a p b)).steps ≤ var + 1
gate_vars var (Some s) a p b = omega arith
gate_vars var None a p b = omega arith

gate_clauses : (var : ℕ) (o : Option Signal) (a p b : Signal) → length (clauses_of_steps var (made_by o var (or_and_gate a p b)).steps) ≤ 4
gate_clauses var (Some s) a p b = omega arith
gate_clauses var None a p b =
    let h = length-disjunctions (or_and_disjunctions a p b (gate_signal var)) in
    let k = simp length-append at h in
    simp length-append (omega arith)

pub takes-or_gate : (a p b : Signal) → Takes (or_gate a p b) 1 4
takes-or_gate a p b =
    record {
      vars = λ var. gate_vars var (known_or_and a p b) a p b;
      clauses = λ var. gate_clauses var (known_or_and a p b) a p b;
    }

pub takes-or_into : (signals : List Signal) (place : ℕ) (other : Signal) → Takes (or_into signals place other) 1 4
takes-or_into signals place other = takes-bind (or_gate (signal_at signals place) other (Constant true)) _ 1 4 0 0 (takes-or_gate (signal_at signals place) other (Constant true)) (λ s. takes-done _)

takes-fresh_if : (wanted : Bool) → Takes (fresh_if wanted) 1 0
takes-fresh_if true = takes-fresh false
takes-fresh_if false = takes_more (done (Constant false)) 0 0 1 0 (takes-done (Constant false)) (omega arith) (omega arith)

pub takes-fresh_row : (wanted : List Bool) → Takes (fresh_row wanted) (length wanted * 1) (length wanted * 0)
takes-fresh_row wanted = takes-each fresh_if wanted 1 0 takes-fresh_if
