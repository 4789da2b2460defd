use Rattle.formula_laws.proofs.Sound.{finding_of_model}
use Rattle.formula_laws.proofs.finding_law.Goals as goal

pub returns : goal.returns
returns c = finding_of_model (record {
  clauses = c.clauses_law.ensures;
  probes_sound = c.sound_probes_law.ensures;
  nodes_sound = c.sound_law.ensures;
  probes = c.probes_law.ensures;
  weights = c.weights_law.ensures;
  goal = c.goal_law.ensures;
  labels = c.labels_law.ensures;
  cones = c.node_cones_law.ensures;
})
