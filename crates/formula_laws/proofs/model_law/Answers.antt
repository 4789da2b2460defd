use Rattle.formula_laws.proofs.Complete.{model_of_try}
use Rattle.formula_laws.proofs.model_law.Goals as goal

pub returns : goal.returns
returns c = model_of_try (record {
  parts = record {
    clauses = c.clauses_law.ensures;
    probes_sound = c.sound_probes_law.ensures;
    nodes_sound = c.sound_law.ensures;
    probes = c.probes_law.ensures;
    weights = c.weights_law.ensures;
    goal = c.goal_law.ensures;
    labels = c.labels_law.ensures;
    cones = c.node_cones_law.ensures;
  };
  orderly = c.orderly_law.ensures;
  probes_complete = c.complete_probes_law.ensures;
  probes_read = c.reads_probes_law.ensures;
  nodes_complete = c.complete_law.ensures;
})
