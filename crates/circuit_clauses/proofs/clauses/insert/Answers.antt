use Rattle.std.proofs.Common.{◌≡◌, ◌≢◌, ℕ, ◌<◌, ◌≤◌, length, get_or, cond, Some, None, sym, ap, ◌∙◌, arith}
use Rattle.std.specs.Bool.{beq}
use Rattle.std.specs.Prelude.{insert}
use Rattle.std.proofs.lemmas.List.{get_or_default}
use Rattle.clause_store.specs.declared.lit.Lit.{Lit}
use Rattle.circuit_clauses.specs.Signals.{placed}
use Rattle.circuit_clauses.proofs.Placing.{placed_new, placed_old, above_from, insert_ascends}
use Rattle.circuit_clauses.proofs.clauses.insert.Goals as goal
use Rattle.circuit_clauses.proofs.clauses.insert.Goals.{in-Some+else-other-lit, in_default}

pub returns-then-other-lit-clause-placed : goal.returns-then-other-lit-clause-placed
returns-then-other-lit-clause-placed c =
    let ls = c.args.lits.now.items in
    let other = c.in-Some.other.now in
    let place = c.place_of-place.result in
    let looked = c.in-Some.ensures.lookup in
    let at : other ≡ get_or ls place other = rw c.deref.ensures.value at looked.1 in
    let lt : place < length ls = rw c.deref.ensures.value at looked.3.0 in
    let same : (get_or ls place other).var ≡ c.args.lit.var = ap (λ (l : Lit). l.var) (sym at) ∙ c.if-other-lit.true in
    let before : (k : ℕ) (d : Lit) → k < place → (get_or ls k d).var < c.args.lit.var = rw c.as_slice.ensures.value at c.place_of-place.ensures.before in
    placed_old c.args.lit ls place other lt before same
    ∙ ap (λ (l : Lit). cond (beq c.args.lit.positive l.positive) (Some ls) None) (sym at)

-- the literal of a place, if there is one, has another variable
apart : (c : goal.In_ok-insert) (d : Lit) → c.place_of-place.result < length c.args.lits.now.items → (get_or c.args.lits.now.items c.place_of-place.result d).var ≢ c.args.lit.var
apart c d lt =
    let ls = c.args.lits.now.items in
    let place = c.place_of-place.result in
    elim c.match-get.branch [
      | in-Some+else-other-lit w ↦
          let other = w.in-Some.other.now in
          let at : other ≡ get_or ls place other = rw c.deref.ensures.value at w.in-Some.ensures.lookup.1 in
          let same : get_or ls place d ≡ other = get_or_default ls place d other lt ∙ sym at in
          rw same w.if-other-lit.false
      | in_default w ↦ (let past : length ls ≤ place = rw c.deref.ensures.value at w.in_default.ensures.lookup.3 in absurd (omega arith))
    ]

placed_here : (c : goal.In_ok-insert) → placed c.args.lit c.args.lits.now.items ≡ Some (insert c.args.lits.now.items c.place_of-place.result c.args.lit)
placed_here c =
    let ls = c.args.lits.now.items in
    let place = c.place_of-place.result in
    let within : place ≤ length ls = rw c.as_slice.ensures.value at c.place_of-place.ensures.within in
    let before : (k : ℕ) (d : Lit) → k < place → (get_or ls k d).var < c.args.lit.var = rw c.as_slice.ensures.value at c.place_of-place.ensures.before in
    let after : (k : ℕ) (d : Lit) → place ≤ k → k < length ls → c.args.lit.var ≤ (get_or ls k d).var = rw c.as_slice.ensures.value at c.place_of-place.ensures.after in
    placed_new c.args.lit ls place within before (above_from ls place c.args.lit.var c.requires after (apart c))

pub returns-clause-placed : goal.returns-clause-placed
returns-clause-placed c = placed_here c ∙ ap Some (sym c.in_ok-insert.ensures.items)

pub returns-clause-ascending : goal.returns-clause-ascending
returns-clause-ascending c =
    rw c.in_ok-insert.ensures.items (insert_ascends c.args.lit c.args.lits.now.items c.place_of-place.result c.requires (placed_here c))
