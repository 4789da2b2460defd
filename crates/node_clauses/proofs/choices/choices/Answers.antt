use Rattle.std.proofs.Common.{◌≡◌, ◌∙◌, sym, true, false}
use Rattle.std.proofs.lemmas.List.{append-nil}
use Rattle.node_clauses.specs.Choices.{is_choice}
use Rattle.node_clauses.proofs.ChoiceLemmas.{filter_more}
use Rattle.node_clauses.proofs.choices.choices.Goals.{then-is_choice+in_ok-push, else-is_choice}
use Rattle.node_clauses.proofs.choices.choices.Goals as goal

pub numbers-preserved : goal.numbers-preserved
numbers-preserved c = elim c.if-is_choice.branch [
  | then-is_choice+in_ok-push w ↦
      let e : is_choice c.args.kind c.args.parts c.numbers.number ≡ true = sym c.is_choice.ensures ∙ w.if-is_choice.true in
      let more = rw e at (filter_more (is_choice c.args.kind c.args.parts) c.numbers.number) in
      rw w.numbers-is (w.in_ok-push.ensures.items ∙ rw c.numbers.invariant (sym more))
  | else-is_choice w ↦
      let e : is_choice c.args.kind c.args.parts c.numbers.number ≡ false = sym c.is_choice.ensures ∙ w.if-is_choice.false in
      let more = rw e at (filter_more (is_choice c.args.kind c.args.parts) c.numbers.number) in
      rw w.numbers-is (c.numbers.invariant ∙ sym (more ∙ append-nil _))
]
