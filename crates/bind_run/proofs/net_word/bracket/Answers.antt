use Rattle.std.proofs.Common.{sym, arith}
use Rattle.bind_run.proofs.WordLemmas.{behind_first, bracket_here, bracket_not, closed_here, length_first}
use Rattle.bind_run.proofs.net_word.bracket.Goals as goal

pub returns-then-opens-clause-place : goal.returns-then-opens-clause-place
returns-then-opens-clause-place c =
    bracket_here c.args.word.now c.bytes.rest.now c.in-Some.more.now c.in-Some.byte.now c.bytes.place c.bytes.invariant.value c.in-Some.ensures c.if-opens.ensures

pub returns-then-opens-clause-closed : goal.returns-then-opens-clause-closed
returns-then-opens-clause-closed c =
    closed_here c.args.word.now c.bytes.rest.now c.in-Some.more.now c.in-Some.byte.now c.bytes.place c.bytes.invariant.rest c.in-Some.ensures c.if-opens.ensures

pub bytes-preserved : goal.bytes-preserved
bytes-preserved c = record {
  value = bracket_not c.args.word.now c.bytes.rest.now c.in-Some.more.now c.in-Some.byte.now c.bytes.place c.bytes.invariant.value c.in-Some.ensures c.if-opens.ensures;
  rest = sym (behind_first c.args.word.now c.bytes.rest.now c.in-Some.more.now c.in-Some.byte.now c.bytes.place c.bytes.invariant.rest c.in-Some.ensures);
  size = let l = length_first c.bytes.rest.now c.in-Some.more.now c.in-Some.byte.now c.in-Some.ensures in let s = c.bytes.invariant.size in omega arith;
}
