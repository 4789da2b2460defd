use Rattle.label_cone.proofs.SetLemmas.{cones_push}
use Rattle.label_cone.proofs.node_sets.add_set.Goals as goal

pub returns-clause-cone : goal.returns-clause-cone
returns-clause-cone c =
    cones_push c.args.sets.now c.push.new.self c.args.set c.args.places.now.items c.push-2.new.self.items _
    c.in_ok-push.ensures.ok c.in_ok-push-2.ensures.items c.len-place.ensures c.requires.sets.within
