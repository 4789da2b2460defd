use Rattle.formula_laws.proofs.Earlier.{formula_range}
use Rattle.formula_laws.proofs.range_law.Goals as goal

pub returns : goal.returns
returns c = formula_range (record {
  weights = c.weights_law.ensures;
  probes = c.reads_probes_law.ensures;
  nodes = c.reads_law.ensures;
})
