use Rattle.std.proofs.Common.{◌≡◌, ℕ, ◌<◌, true}
use Rattle.gate_graph.specs.Marks.{mark_of, has_level, AreMarks, AreLeft}
use Rattle.gate_graph.proofs.levels.levels_of.Given as goal

abbrev pub invariant-starts : goal.invariant-starts
invariant-starts l = record {
  are_marks : AreMarks l.fn.flat l.marks.items;
  left : AreLeft l.marks.items;
  done : (i : ℕ) → i < l.start → has_level (mark_of l.marks.items i) ≡ true;
}
