-- the sink has taken the front of the text
use Rattle.std.proofs.Common.{◌≡◌, ◌≤◌, ◌-◌, length, take}
use Rattle.coco_base.specs.Outside.{after}
use Rattle.coco_engine.proofs.writing.write_whole.Given as goal

abbrev pub invariant-writing : goal.invariant-writing
invariant-writing g l = record {
  within : l.done ≤ length l.text;
  later : g.K.Sink.faults l.initial.out ≤ g.K.Sink.faults l.out;
  taken : g.K.Sink.taken l.out ≡ after (g.K.Sink.taken l.initial.out) (take l.done l.text);
}

abbrev pub decreases-writing : goal.decreases-writing
decreases-writing g l = length l.text - l.done
