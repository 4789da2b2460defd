-- How many variables and clauses a sum of tallies takes.
use Rattle.std.proofs.Common.{◌≡◌, ℕ, zero, suc, ◌+◌, ◌-◌, ◌*◌, ◌<◌, ◌≤◌, min, false, true, cond, leb, List, [], ◌∷◌, ◌++◌, length, Option, Some, None, refl, sym, ap, ◌∙◌, subst, inl, inr, arith, length-append}
use Rattle.std.proofs.Math.ListN.{get_or-eq_default}
use Rattle.std.proofs.lemmas.Bool.{cases_lt, le-leb, lt-leb}
use Rattle.circuit_clauses.specs.declared.signal.Signal.{Signal}
use Rattle.circuit_clauses.specs.declared.signal.Signal.TheVariants.{Constant, Literal}
use Rattle.circuit_clauses.specs.Signals.{negated, disjunction}
use Rattle.circuit_clauses.specs.Steps.{Step, gate_signal, or_and_disjunctions, variables_after, clauses_of_steps}
use Rattle.circuit_clauses.specs.Steps.Step.{demand, or_and_gate}
use Rattle.circuit_clauses.specs.Gates.{made_by, known_or_and, or_and}
use Rattle.circuit_clauses.proofs.Sequences.{variables_after-append, clauses_of_steps-append}
use Rattle.circuit_clauses.proofs.Sizes.{length-disjunctions}
use Rattle.tally_clauses.specs.Tallies.{at_least, sum_of, place, places, bounds}

-- steps take at most n variables and 4 * n clauses
pub record Costs (var : ℕ) (steps : List Step) (n : ℕ) : Type 0 where
  pub vars : variables_after var steps ≤ var + n
  pub clauses : length (clauses_of_steps var steps) ≤ 4 * n

pub cost_nil : (var : ℕ) → Costs var [] 0
cost_nil var = record { vars = omega arith; clauses = omega arith }

pub cost-append : (var : ℕ) (steps more : List Step) (m n : ℕ) → Costs var steps m → Costs (variables_after var steps) more n → Costs var (steps ++ more) (m + n)
cost-append var steps more m n a b =
    let v : variables_after var (steps ++ more) ≡ variables_after (variables_after var steps) more = variables_after-append var steps more in
    let c : length (clauses_of_steps var (steps ++ more)) ≡ length (clauses_of_steps var steps) + length (clauses_of_steps (variables_after var steps) more) =
    ap length (clauses_of_steps-append var steps more) ∙ length-append (clauses_of_steps var steps) (clauses_of_steps (variables_after var steps) more) in
    let av : variables_after var steps ≤ var + m = a.vars in
    let bv : variables_after (variables_after var steps) more ≤ variables_after var steps + n = b.vars in
    let ac : length (clauses_of_steps var steps) ≤ 4 * m = a.clauses in
    let bc : length (clauses_of_steps (variables_after var steps) more) ≤ 4 * n = b.clauses in
    record { vars = omega arith; clauses = omega arith }

made_cost : (var : ℕ) (o : Option Signal) (a p b : Signal) → Costs var (made_by o var (or_and_gate a p b)).steps 1
made_cost var (Some s) a p b = record { vars = omega arith; clauses = omega arith }
made_cost var None a p b =
    let h = length-disjunctions (or_and_disjunctions a p b (gate_signal var)) in
    let k = simp length-append at h in
    record { vars = omega arith; clauses = simp length-append (omega arith) }

-- a gate whose third operand is false is there already
free_gate : (var : ℕ) (a p : Signal) → (or_and var a p (Constant false)).steps ≡ []
free_gate var a (Constant false) = refl
free_gate var (Constant true) (Constant true) = refl
free_gate var (Constant false) (Constant true) = refl
free_gate var (Literal l) (Constant true) = refl
free_gate var a (Literal p) = refl

abbrev pub one_if : ℕ → ℕ → ℕ
one_if c b = cond (leb c b) 1 0

-- how many terms of a sum can be new gates
abbrev pub terms : ℕ → ℕ → ℕ → ℕ
terms zero b c = 0
terms (suc a) b zero = 0
terms (suc a) b (suc c) = one_if c b + terms a b c

abbrev pub total : ℕ → ℕ → ℕ → ℕ → ℕ
total a b done zero = 0
total a b done (suc left) = terms a b (suc done) + total a b (suc done) left

abbrev pub ends : ℕ → ℕ → ℕ → ℕ
ends zero b l = 0
ends (suc a) b zero = 0
ends (suc a) b (suc l) = one_if (suc l) b + ends a b l

past_end : (others : List Signal) (count : ℕ) → length others < count → at_least others count ≡ Constant false
past_end others zero lt = absurd (omega arith)
past_end others (suc k) lt = get_or-eq_default others (Constant false) (omega arith)

gate_cost : (var : ℕ) (sum one : Signal) (others : List Signal) (count : ℕ) → Costs var (or_and var sum one (at_least others count)).steps (one_if count (length others))
gate_cost var sum one others count =
    elim (cases_lt (length others) count) [
      | inl past ↦
          let e : at_least others count ≡ Constant false = past_end others count past in
          let none : (or_and var sum one (at_least others count)).steps ≡ [] = ap (λ s. (or_and var sum one s).steps) e ∙ free_gate var sum one in
          let z : leb count (length others) ≡ false = lt-leb count (length others) past in
          rw z (subst (λ (ss : List Step). Costs var ss 0) (sym none) (cost_nil var))
      | inr within ↦
          let z : leb count (length others) ≡ true = le-leb count (length others) within in
          rw z (made_cost var (known_or_and sum one (at_least others count)) sum one (at_least others count))
    ]

sum_cost : (var : ℕ) (sum : Signal) (ones others : List Signal) (count : ℕ) → Costs var (sum_of var sum ones others count).steps (terms (length ones) (length others) count)
sum_cost var sum [] others count = cost_nil var
sum_cost var sum (one ∷ ones) others zero = cost_nil var
sum_cost var sum (one ∷ ones) others (suc count) =
    let first = or_and var sum one (at_least others count) in
    let rest = sum_of (variables_after var first.steps) first.signal ones others count in
    cost-append var first.steps rest.steps (one_if count (length others)) (terms (length ones) (length others) count) (gate_cost var sum one others count) (sum_cost (variables_after var first.steps) first.signal ones others count)

pub places_cost : (var : ℕ) (ones others : List Signal) (done left : ℕ) → Costs var (places var ones others done left).steps (total (length ones) (length others) done left)
places_cost var ones others done zero = cost_nil var
places_cost var ones others done (suc left) =
    let first = place var ones others (done + 1) in
    let rest = places (variables_after var first.steps) ones others (done + 1) left in
    let e : done + 1 ≡ suc done = omega arith in
    let a : Costs var first.steps (terms (length ones) (length others) (suc done)) = subst (λ (k : ℕ). Costs var first.steps (terms (length ones) (length others) k)) e (sum_cost var (at_least others (done + 1)) ones others (done + 1)) in
    let b : Costs (variables_after var first.steps) rest.steps (total (length ones) (length others) (suc done) left) = subst (λ (k : ℕ). Costs (variables_after var first.steps) rest.steps (total (length ones) (length others) k left)) e (places_cost (variables_after var first.steps) ones others (done + 1) left) in
    cost-append var first.steps rest.steps (terms (length ones) (length others) (suc done)) (total (length ones) (length others) (suc done) left) a b

always : (s : Signal) → disjunction (s ∷ Constant true ∷ []) ≡ []
always (Constant true) = refl
always (Constant false) = refl
always (Literal l) = refl

demand_cost : (var : ℕ) (one : Signal) (others : List Signal) (count : ℕ) → Costs var (demand (negated one ∷ negated (at_least others count) ∷ []) ∷ []) (one_if count (length others))
demand_cost var one others count =
    elim (cases_lt (length others) count) [
      | inl past ↦
          let e : at_least others count ≡ Constant false = past_end others count past in
          let z : leb count (length others) ≡ false = lt-leb count (length others) past in
          let none : disjunction (negated one ∷ negated (at_least others count) ∷ []) ≡ [] = ap (λ s. disjunction (negated one ∷ negated s ∷ [])) e ∙ always (negated one) in
          let len : length (disjunction (negated one ∷ negated (at_least others count) ∷ [])) ≡ 0 = ap length none in
          rw z (record { vars = omega arith; clauses = simp length-append (omega arith) })
      | inr within ↦
          let z : leb count (length others) ≡ true = le-leb count (length others) within in
          let h = length-disjunctions ((negated one ∷ negated (at_least others count) ∷ []) ∷ []) in
          let k = simp length-append at h in
          rw z (record { vars = omega arith; clauses = simp length-append (omega arith) })
    ]

pub bounds_cost : (var : ℕ) (ones others : List Signal) (limit : ℕ) → Costs var (bounds ones others limit) (ends (length ones) (length others) limit)
bounds_cost var [] others limit = cost_nil var
bounds_cost var (one ∷ ones) others zero = cost_nil var
bounds_cost var (one ∷ ones) others (suc limit) =
    cost-append var (demand (negated one ∷ negated (at_least others (suc limit)) ∷ []) ∷ []) (bounds ones others limit) (one_if (suc limit) (length others)) (ends (length ones) (length others) limit) (demand_cost var one others (suc limit)) (bounds_cost var ones others limit)

-- the terms of all places, by the first of the ones
abbrev within_b : ℕ → ℕ → ℕ → ℕ
within_b b done zero = 0
within_b b done (suc left) = one_if done b + within_b b (suc done) left

abbrev shifted : ℕ → ℕ → ℕ → ℕ → ℕ
shifted a b done zero = 0
shifted a b done (suc left) = terms a b done + shifted a b (suc done) left

total_parts : (a b done left : ℕ) → total (suc a) b done left ≡ within_b b done left + shifted a b done left
total_parts a b done zero = refl
total_parts a b done (suc left) = let rest = total_parts a b (suc done) left in omega arith

shifted_total : (a b done left : ℕ) → shifted a b (suc done) left ≡ total a b done left
shifted_total a b done zero = refl
shifted_total a b done (suc left) = let rest = shifted_total a b (suc done) left in omega arith

terms_none : (a b : ℕ) → terms a b 0 ≡ 0
terms_none zero b = refl
terms_none (suc a) b = refl

total_none : (b done left : ℕ) → total 0 b done left ≡ 0
total_none b done zero = refl
total_none b done (suc left) = let rest = total_none b (suc done) left in omega arith

one_if_most : (c b : ℕ) → one_if c b ≤ 1
one_if_most c b = elim (cases_lt b c) [
  | inl past ↦ (let z : leb c b ≡ false = lt-leb c b past in rw z (omega arith))
  | inr le ↦ (let z : leb c b ≡ true = le-leb c b le in rw z (omega arith))
]

one_if_past : (c b : ℕ) → b < c → one_if c b ≡ 0
one_if_past c b past = let z : leb c b ≡ false = lt-leb c b past in rw z refl

within_left : (b done left : ℕ) → within_b b done left ≤ left
within_left b done zero = omega arith
within_left b done (suc left) = let one = one_if_most done b in let rest = within_left b (suc done) left in omega arith

within_most : (b done left : ℕ) → within_b b done left + done ≤ suc b + (done - suc b)
within_most b done zero = omega arith
within_most b done (suc left) =
    let rest = within_most b (suc done) left in
    elim (cases_lt b done) [
      | inl past ↦ (let z = one_if_past done b past in omega arith)
      | inr le ↦ (let one = one_if_most done b in omega arith)
    ]

total_first : (a b n : ℕ) → total (suc a) b 0 (suc n) ≡ within_b b 0 (suc n) + total a b 0 n
total_first a b n =
    let parts = total_parts a b 0 (suc n) in
    let none = terms_none a b in
    let rest = shifted_total a b 0 n in
    omega arith

row_most : (b n l : ℕ) → n ≤ l → within_b b 0 (suc n) + one_if (suc l) b ≤ b + 1
row_most b n l le =
    let few = within_left b 0 (suc n) in
    let most = within_most b 0 (suc n) in
    elim (cases_lt b (suc l)) [
      | inl past ↦ (let z = one_if_past (suc l) b past in omega arith)
      | inr fits ↦ (let one = one_if_most (suc l) b in omega arith)
    ]

-- all gates and bounds of a sum: at most one for each of the ones and each count of the others, 0 among them
pub all_most : (a b n l : ℕ) → n ≤ l → total a b 0 n + ends a b l ≤ a * (b + 1)
all_most zero b n l le = let none = total_none b 0 n in omega arith
all_most (suc a) b zero zero le = omega arith
all_most (suc a) b (suc n) zero le = absurd (omega arith)
all_most (suc a) b zero (suc l) le =
    let rest = all_most a b zero l (omega arith) in
    let one = one_if_most (suc l) b in
    omega arith
all_most (suc a) b (suc n) (suc l) le =
    let rest = all_most a b n l (omega arith) in
    let row = row_most b n l (omega arith) in
    let first = total_first a b n in
    omega arith

-- what so many places are worth
abbrev pub worth : ℕ → ℕ → ℕ
worth limit n = n * (3 * limit - n)

below_parts : (a b z : ℕ) → worth (a + b + z) (a + b) + 2 * (a * b) ≤ worth (a + b + z) a + worth (a + b + z) b
below_parts a b z =
    let e : 3 * (a + b + z) - (a + b) ≡ 2 * a + 2 * b + 3 * z = omega arith in
    let f : 3 * (a + b + z) - a ≡ 2 * a + 3 * b + 3 * z = omega arith in
    let g : 3 * (a + b + z) - b ≡ 3 * a + 2 * b + 3 * z = omega arith in
    rw (e, f, g) (omega arith)

above_parts : (x y z : ℕ) → worth (x + y + z) (x + y + z) + 2 * ((y + z) * (x + z)) ≤ worth (x + y + z) (y + z) + worth (x + y + z) (x + z)
above_parts x y z =
    let e : 3 * (x + y + z) - (x + y + z) ≡ 2 * x + 2 * y + 2 * z = omega arith in
    let f : 3 * (x + y + z) - (y + z) ≡ 3 * x + 2 * y + 2 * z = omega arith in
    let g : 3 * (x + y + z) - (x + z) ≡ 2 * x + 3 * y + 2 * z = omega arith in
    rw (e, f, g) (omega arith)

below_at : (a b z d : ℕ) → d ≡ a + b + z → worth d (a + b) + 2 * (a * b) ≤ worth d a + worth d b
below_at a b z d ed = rw ed (below_parts a b z)

above_at : (x y z a b d : ℕ) → a ≡ y + z → b ≡ x + z → d ≡ x + y + z → worth d d + 2 * (a * b) ≤ worth d a + worth d b
above_at x y z a b d ea eb ed = rw (ea, eb, ed) (above_parts x y z)

-- two tallies are worth as much as their sum and twice the product of their places
pub worth_of_sum : (d a b : ℕ) → a ≤ d → b ≤ d → worth d (min d (a + b)) + 2 * (a * b) ≤ worth d a + worth d b
worth_of_sum d a b la lb =
    elim (cases_lt d (a + b)) [
      | inl above ↦
          let e : min d (a + b) ≡ d = omega arith in
          rw e (above_at (d - a) (d - b) ((a + b) - d) a b d (omega arith) (omega arith) (omega arith))
      | inr below ↦
          let e : min d (a + b) ≡ a + b = omega arith in
          rw e (below_at a b (d - (a + b)) d (omega arith))
    ]
