use Rattle.run_verdict.proofs.Meanings.{meaning}
use Rattle.run_verdict.proofs.laws.meaning_law.Goals as goal

pub returns : goal.returns
returns c = meaning (record {
  finding = c.finding_law.ensures;
  model = c.model_law.ensures;
  in_run = c.in_run_law.ensures;
  empty_clause = c.empty_clause_law.ensures;
  needed_try = c.needed_try_law.ensures;
  try_finds = c.try_finds_law.ensures;
  no_finding = c.no_finding_law.ensures;
  in_time = c.in_time_law.ensures;
  meaning = c.meaning_law.ensures;
  nodes = c.unrolled_run_law.ensures;
  cones = c.cones_law.ensures;
})
