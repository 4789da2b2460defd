use Rattle.std.proofs.Common.{◌≡◌, ◌+◌, ◌<◌, length, position, Some, is_some, true, ap, eqb, vec_len, arith, Bool}
use Rattle.std.proofs.lemmas.Bool.{eqb-true}
use Rattle.pickers.specs.Choices.{Beats}
use Rattle.pickers.proofs.Trees.{under_root, beats_some}
use Rattle.pickers.proofs.Rankings.{found_first, rest_first}
use Rattle.pickers.proofs.ranking.Ranking.first_of.Goals.{then-not-is_empty+else-is_some, else-not-is_empty}
use Rattle.pickers.proofs.ranking.Ranking.first_of.Goals as goal

pub first_under-found-requires-clause-led : goal.first_under-found-requires-clause-led
first_under-found-requires-clause-led c =
    rw (c.deref.ensures.value, c.deref-then-not-is_empty.ensures.value) c.self.invariant.led

pub returns-then-is_some : goal.returns-then-is_some
returns-then-is_some c =
    let e : c.args.self.now ≡ c.deref.result.now = cc in
    let some : is_some c.first_under-found.result ≡ true = cc in
    rw e (found_first c.deref.result.now c.args.unset.now c.first_under-found.result some c.first_under-found.ensures.found
    (λ v lt is_open positive. c.first_under-found.ensures.first v lt (under_root (length c.deref.result.now + v) (omega arith)) is_open positive))

pub returns-in-Some : goal.returns-in-Some
returns-in-Some c =
    let least : position (λ (b : Bool). b) c.args.unset.now ≡ Some c.in-Some.var = cc in
    rest_first c.args.self.now c.args.unset.now c.in-Some.var c.in-Some.ensures.picked least
    (elim c.if-not-is_empty.branch [
      | then-not-is_empty+else-is_some w ↦ λ v lt is_open positive.
          let e : c.args.self.now ≡ w.deref.result.now = cc in
          let lt' : v < length w.deref.result.now = omega (arith, ap length e) in
          let b : Beats w.deref.result.now w.first_under-found.result v =
          w.first_under-found.ensures.first v lt' (under_root (length w.deref.result.now + v) (omega arith)) is_open (rw e at positive) in
          let some : is_some w.first_under-found.result ≡ true = beats_some w.deref.result.now w.first_under-found.result v b in
          absurd (cc)
      | else-not-is_empty w ↦ λ v lt is_open positive.
          let e : c.args.self.now ≡ c.self.inside.numbers.items = cc in
          let none : eqb (vec_len c.self.inside.numbers) 0 ≡ true = cc in
          let zero : vec_len c.self.inside.numbers ≡ 0 = eqb-true (vec_len c.self.inside.numbers) 0 none in
          let len : vec_len c.self.inside.numbers ≡ length c.self.inside.numbers.items = c.self.inside.numbers.ok.0 in
          absurd (omega (arith, ap length e))
    ])
