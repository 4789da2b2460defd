use Rattle.std.proofs.Common.{◌≡◌, ◌+◌, length, inl, inr, arith, true, false}
use Rattle.pickers.specs.Choices.{GoesFirst, IsOpen}
use Rattle.pickers.proofs.Trees.{beats_more, ahead_of_found, leads, leader_alone, under_split}
use Rattle.pickers.proofs.tree.+first_under.Goals as goal

pub returns-then-is_beaten-clause-first : goal.returns-then-is_beaten-clause-first
returns-then-is_beaten-clause-first t c = λ v lt u is_open positive.
    let g : GoesFirst c.args.numbers.now c.leader-best.result v =
    leads c.args.numbers.now c.args.leaders.now c.args.node c.leader-best.result v c.requires.led c.leader-best.ensures.leader c.requires.positive lt u in
    beats_more c.args.numbers.now c.args.found c.leader-best.result v c.if-is_beaten.ensures g

pub returns-then-is_open-clause-kept : goal.returns-then-is_open-clause-kept
returns-then-is_open-clause-kept t c = λ v b.
    ahead_of_found c.args.numbers.now c.args.found c.leader-best.result v c.if-is_beaten.ensures b

pub returns-then-is_open-clause-first : goal.returns-then-is_open-clause-first
returns-then-is_open-clause-first t c = λ v lt u is_open positive.
    leads c.args.numbers.now c.args.leaders.now c.args.node c.leader-best.result v c.requires.led c.leader-best.ensures.leader c.requires.positive lt u

pub returns-then-node-numbers-clause-first : goal.returns-then-node-numbers-clause-first
returns-then-node-numbers-clause-first t c = λ v lt u is_open positive.
    let e : c.leader-best.result ≡ v =
    leader_alone c.args.leaders.now (length c.args.numbers.now) c.args.node c.leader-best.result v c.requires.same c.leader-best.ensures.leader (omega arith) lt u in
    let at : IsOpen c.args.unset.now c.leader-best.result = rw e is_open in
    let no : false ≡ true = c.if-is_open.ensures.fact.1 at in
    absurd (cc)

pub returns-clause-first : goal.returns-clause-first
returns-clause-first t c = λ v lt u is_open positive.
    elim (under_split (length c.args.numbers.now + v) c.args.node u c.requires.positive) [
      | inl itself ↦ absurd (omega arith)
      | inr (inl left) ↦ c.first_under.ensures.kept v (c.first_under-left.ensures.first v lt left is_open positive)
      | inr (inr right) ↦ c.first_under.ensures.first v lt right is_open positive
    ]

pub returns-then-numbers-best-eq0-clause-first : goal.returns-then-numbers-best-eq0-clause-first
returns-then-numbers-best-eq0-clause-first t c = λ v lt u is_open positive.
    let g : GoesFirst c.args.numbers.now c.leader-best.result v =
    leads c.args.numbers.now c.args.leaders.now c.args.node c.leader-best.result v c.requires.led c.leader-best.ensures.leader c.requires.positive lt u in
    absurd (omega (arith, g.number, c.if-numbers-best-eq0.true))
