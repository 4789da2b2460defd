use Rattle.stable_sets.proofs.MadeRuns.{table_of}
use Rattle.stable_sets.proofs.tests.runs.table.Goals as goal

pub returns : goal.returns
returns c =
    table_of _ _ _ c.in_ok-of.field-0 c.in_ok-of-2.field-0 c.in_ok-of-3.field-0 c.in_ok-of-4.field-0 c.in_ok-secrets.ensures
    c.in_ok-mask.ensures c.in_ok-mask-2.ensures
