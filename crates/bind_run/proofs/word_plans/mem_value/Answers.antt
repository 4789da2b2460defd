use Rattle.std.proofs.Common.{◌∙◌, subst}
use Rattle.std.proofs.lemmas.List.Elements.{All-tail}
use Rattle.bind_run.specs.Values.{HaveRoom, LineHasRoom}
use Rattle.bind_run.proofs.MemLemmas.{no_mem, other_mem}
use Rattle.bind_run.proofs.word_plans.mem_value.Goals as goal

pub lines-preserved-else-address-at : goal.lines-preserved-else-address-at
lines-preserved-else-address-at c = record {
  value = other_mem c.args.address c.in-Mem.at c.in-Mem.value c.in-Some.line.now c.in-Some.more.now c.lines.rest.now c.in-Some.ensures c.in-Mem.is c.if-address-at.false ∙ c.lines.invariant.value;
  room = All-tail LineHasRoom c.in-Some.line.now c.in-Some.more.now (subst HaveRoom c.in-Some.ensures c.lines.invariant.room);
}

pub lines-preserved : goal.lines-preserved
lines-preserved c = record {
  value = no_mem c.args.address c.in-Some.line.now c.in-Some.more.now c.lines.rest.now c.in-Some.ensures c.in_default-line.not-Mem ∙ c.lines.invariant.value;
  room = All-tail LineHasRoom c.in-Some.line.now c.in-Some.more.now (subst HaveRoom c.in-Some.ensures c.lines.invariant.room);
}
