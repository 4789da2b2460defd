-- Values that meet all clauses meet their resolvents too, and so all lines of a valid derivation.
use Rattle.std.proofs.Common.{◌≡◌, ℕ, suc, zero, ◌+◌, ◌≤◌, Bool, true, false, List, [], ◌∷◌, ◌++◌, length, get_or, take, Option, Some, None, slice_get, add-one, refl, sym, ◌∙◌, subst, inl, inr, arith}
use Rattle.std.specs.List.{All, Contains}
use Rattle.std.specs.Option.{option_or}
use Rattle.std.proofs.lemmas.Grind.{common_steps}
use Rattle.std.proofs.lemmas.List.Elements.{All-push}
use Rattle.std.proofs.lemmas.Option.{slice_get-get_or, get_or_from_slice_get, slice_get_within}
use Rattle.std.proofs.lemmas.Bool.{cases_eq}
use Rattle.clause_store.specs.declared.lit.Lit.{Lit}
use Rattle.clause_store.specs.declared.line.Line.{Line}
use Rattle.clause_store.specs.declared.line.Cut.{Cut}
use Rattle.clause_store.specs.Signs.{Signs, sign_of}
use Rattle.clause_store.specs.Assignments.{IsMet}
use Rattle.clause_store.specs.Resolvents.{opposite, IsResolvent, LeadsTo}
use Rattle.clause_store.specs.Derivations.{clauses_of, earlier, IsValidLine, AllValid}
use Rattle.derivation_check.proofs.Lines.{earlier_none, earlier_more}

-- some variable has the sign of its value
record AreMet (values : ℕ → Bool) (signs : Signs) : Type 0 where
  var : ℕ
  holds : signs var ≡ Some (values var)

same_not_opposite : (m n : Option Bool) (b : Bool) → m ≡ Some b → n ≡ Some b → opposite m n ≡ true → ⊥
same_not_opposite m n true e f h = let g : opposite (Some true) (Some true) ≡ true = rw (e, f) at h in absurd (cc)
same_not_opposite m n false e f h = let g : opposite (Some false) (Some false) ≡ true = rw (e, f) at h in absurd (cc)

-- where signs are not opposite, the sign of the second one stands in both together
second_stays : (m : Option Bool) (b : Bool) → opposite m (Some b) ≡ false → option_or m (Some b) ≡ Some b
second_stays None b h = refl
second_stays (Some true) true h = refl
second_stays (Some true) false h = absurd (cc)
second_stays (Some false) true h = absurd (cc)
second_stays (Some false) false h = refl

resolvent_met : (values : ℕ → Bool) (v : ℕ) (c d r : Signs) → IsResolvent v c d r → AreMet values c → AreMet values d → AreMet values r
resolvent_met values v c d r resolvent one other =
    elim (cases_eq one.var v) [
      | inr away ↦ record { var = one.var; holds = resolvent.rest one.var away ∙ rw one.holds refl }
      | inl here ↦
          let c_at : c v ≡ Some (values v) = rw here at one.holds in
          elim (cases_eq other.var v) [
            | inr away ↦
                let fits : opposite (c other.var) (Some (values other.var)) ≡ false = rw other.holds at (resolvent.only other.var away) in
                record { var = other.var; holds = resolvent.rest other.var away ∙ rw other.holds (second_stays (c other.var) (values other.var) fits) }
            | inl there ↦
                let d_at : d v ≡ Some (values v) = rw there at other.holds in
                absurd (same_not_opposite (c v) (d v) (values v) c_at d_at resolvent.clash)
          ]
    ]

met_at : (values : ℕ → Bool) (clauses : List (List Lit)) (k : ℕ) (clause : List Lit) → All (IsMet values) clauses → slice_get clauses k ≡ Some clause → AreMet values (sign_of clause)
met_at values clauses k clause met got =
    let m : IsMet values (get_or clauses k clause) = met k clause (slice_get_within clauses k clause got) in
    let e : get_or clauses k clause ≡ clause = get_or_from_slice_get clauses k clause clause got in
    let n : IsMet values clause = rw e at m in
    record { var = n.var; holds = n.holds }

chain_met : (values : ℕ → Bool) (clauses : List (List Lit)) (cuts : List Cut) (c r : Signs) → All (IsMet values) clauses → AreMet values c → LeadsTo clauses c cuts r → AreMet values r
chain_met values clauses [] c r all met leads = record { var = met.var; holds = sym (leads met.var) ∙ met.holds }
chain_met values clauses (cut ∷ cuts) c r all met leads =
    chain_met values clauses cuts leads.1 r all
    (resolvent_met values cut.var c (sign_of leads.0) leads.1 leads.3 met (met_at values clauses cut.id leads.0 all leads.2))
    leads.4

line_met : (values : ℕ → Bool) (clauses : List (List Lit)) (line : Line) → All (IsMet values) clauses → IsValidLine clauses line → IsMet values line.clause
line_met values clauses line all valid =
    let met : AreMet values (sign_of line.clause) =
    chain_met values clauses line.cuts (sign_of valid.start) (sign_of line.clause) all (met_at values clauses line.first valid.start all valid.first) valid.leads in
    record { var = met.var; holds = met.holds }

abbrev no_line : Line
no_line = record { clause = []; first = 0; cuts = [] }

lines_met : (store : List (List Lit)) (lines : List Line) (values : ℕ → Bool) → AllValid store lines → All (IsMet values) store → (k : ℕ) → k ≤ length lines → All (IsMet values) (earlier store lines k)
lines_met store lines values valid met zero le =
    let P : List (List Lit) → Type 0 = λ cs. All (IsMet values) cs in
    subst P (sym (earlier_none store)) met
lines_met store lines values valid met (suc k) le =
    let before : All (IsMet values) (earlier store lines k) = lines_met store lines values valid met k (omega arith) in
    let line : Line = get_or lines k no_line in
    let at : slice_get lines k ≡ Some line = slice_get-get_or lines k no_line (omega arith) in
    let more : earlier store lines (k + 1) ≡ earlier store lines k ++ line.clause ∷ [] = earlier_more store lines k line at in
    let here : IsMet values line.clause = line_met values (earlier store lines k) line before (valid k line at) in
    let P : List (List Lit) → Type 0 = λ cs. All (IsMet values) cs in
    let Q : ℕ → Type 0 = λ n. All (IsMet values) (earlier store lines n) in
    subst Q (add-one k) (subst P (sym more) (All-push (IsMet values) (earlier store lines k) line.clause before here))

pub refuted : (store : List (List Lit)) (lines : List Line) (values : ℕ → Bool) → AllValid store lines → Contains (clauses_of store lines) [] → All (IsMet values) store → ⊥
refuted store lines values valid empty met =
    let whole : take (length lines) lines ≡ lines = grind (arith, common_steps) in
    let P : List Line → Type 0 = λ ls. All (IsMet values) (clauses_of store ls) in
    let all : All (IsMet values) (clauses_of store lines) = subst P whole (lines_met store lines values valid met (length lines) (omega arith)) in
    let m : IsMet values (get_or (clauses_of store lines) empty.0 []) = all empty.0 [] empty.1 in
    let n : IsMet values [] = rw empty.2 at m in
    let none : None ≡ Some (values n.var) = n.holds in
    absurd (cc)
