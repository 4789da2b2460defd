use Rattle.std.proofs.Common.{◌≡◌, ◌+◌, length, sym, ◌∙◌, ap, subst, arith}
use Rattle.std.proofs.lemmas.List.Elements.{All-tail}
use Rattle.std.proofs.lemmas.Grind.{fold-append}
use Rattle.bind_run.specs.Inputs.{fresh_count, given_starts, line_starts, with_start, with_starts}
use Rattle.bind_run.specs.Values.{HaveRoom, LineHasRoom}
use Rattle.bind_run.proofs.ListLemmas.{written_back}
use Rattle.bind_run.proofs.circuit.Circuit.starts_of.Goals as goal

pub lines-preserved : goal.lines-preserved
lines-preserved c = record {
  starts =
      let q : length c.lines.starts.items ≡ c.lines.starts.len = let v = ap length c.as_mut_slice.ensures.value in let l = c.as_mut_slice.ensures.len in omega arith in
      let p : length c.give_line.new.starts ≡ c.lines.starts.len = let a = c.give_line.auto.starts in let l = c.as_mut_slice.ensures.len in omega arith in
      ap (λ ss. with_starts ss (given_starts c.args.self.now.flat c.args.words.now (c.lines.fresh + c.fresh_width.result) c.in-Some.more.now))
      (written_back c.lines.starts.len c.give_line.new.starts c.lines.starts.items p q ∙ c.in_ok-give_line.ensures
      ∙ ap (λ ss. with_starts ss (line_starts c.args.self.now.flat c.args.words.now c.lines.fresh c.in-Some.line.now)) c.as_mut_slice.ensures.value)
      ∙ ap (λ n. with_starts (with_starts c.lines.starts.items (line_starts c.args.self.now.flat c.args.words.now c.lines.fresh c.in-Some.line.now))
      (given_starts c.args.self.now.flat c.args.words.now (c.lines.fresh + n) c.in-Some.more.now)) c.fresh_width.ensures
      ∙ sym (fold-append with_start c.lines.starts.items (line_starts c.args.self.now.flat c.args.words.now c.lines.fresh c.in-Some.line.now) _)
      ∙ ap (λ ls. with_starts c.lines.starts.items (given_starts c.args.self.now.flat c.args.words.now c.lines.fresh ls)) (sym c.in-Some.ensures)
      ∙ c.lines.invariant.starts;
  count =
      let e = ap (fresh_count c.args.self.now.flat) c.in-Some.ensures in let w = c.fresh_width.ensures in let h = c.lines.invariant.count in omega arith;
  room = All-tail LineHasRoom c.in-Some.line.now c.in-Some.more.now (subst HaveRoom c.in-Some.ensures c.lines.invariant.room);
}
