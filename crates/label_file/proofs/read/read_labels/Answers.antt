use Rattle.std.proofs.Common.{sym, ◌∙◌, ap, subst, arith}
use Rattle.std.specs.Str.Lines.{lines}
use Rattle.label_file.specs.Files.{IsFaultOf, after_lines, labels_of}
use Rattle.label_file.proofs.FileLemmas.{labels_of-read, line_taken, stops_at}
use Rattle.label_file.proofs.KeptReadings.{labels_kept, line_kept}
use Rattle.label_file.proofs.Rooms.{line_roomy}
use Rattle.label_file.proofs.read.read_labels.Goals as goal

pub returns-in-Err-clause-fault : goal.returns-in-Err-clause-fault
returns-in-Err-clause-fault c =
    subst (IsFaultOf (labels_of c.args.limits.now.labels (lines c.args.bytes.now))) (sym c.at.ensures)
    (stops_at c.args.limits.now.labels c.reading.reading c.reading.number c.in-Some.line.now (lines c.in-Some.after.now)
    (lines c.reading.rest.now) (lines c.args.bytes.now) c.in-Err.cause c.in-Some.ensures.line c.reading.invariant.rest c.in-Err.ensures)

pub reading-preserved : goal.reading-preserved
reading-preserved c = record {
  roomy = line_roomy c.args.limits.now.labels c.reading.reading _ c.in-Some.line.now c.reading.invariant.roomy c.in-Ok.ensures;
  kept = line_kept c.args.limits.now.labels c.reading.reading _ c.in-Some.line.now c.requires.limits c.reading.invariant.roomy
      c.reading.invariant.kept c.in-Ok.ensures;
  rest = line_taken c.args.limits.now.labels c.reading.reading _ c.reading.number c.in-Some.line.now (lines c.in-Some.after.now)
      (lines c.reading.rest.now) c.in-Some.ensures.line c.in-Ok.ensures ∙ c.reading.invariant.rest;
  size = let s = c.in-Some.ensures.shorter in let t = c.reading.invariant.size in omega (arith, s, t);
}

pub returns-clause-labels : goal.returns-clause-labels
returns-clause-labels c =
    labels_of-read c.args.limits.now.labels (lines c.args.bytes.now) c.reading.reading
    (sym c.reading.invariant.rest ∙ ap (after_lines c.args.limits.now.labels c.reading.reading c.reading.number) c.in_default.ensures.line)

pub returns-clause-kept : goal.returns-clause-kept
returns-clause-kept c = labels_kept c.reading.reading c.reading.invariant.kept
