use Rattle.std.proofs.Common.{◌+◌, ◌*◌}
use Rattle.calm_reach.specs.CalmRows.{row_of}
use Rattle.calm_reach.proofs.MaskLemmas.{pair_of_masks, pairs_more}
use Rattle.calm_reach.proofs.masks.live_masks.Goals as goal

pub pairs-preserved : goal.pairs-preserved
pairs-preserved c =
    pairs_more (row_of c.args.parts.now) c.args.graph.now.flat.cells c.pairs.masks.items c.push.new.self.items c.pairs.pair
    (c.mask_at-even.result + 16 * c.mask_at-odd.result) c.in_ok-push.ensures.items c.pairs.invariant.0
    (pair_of_masks (row_of c.args.parts.now) c.args.graph.now.flat.cells c.pairs.pair c.mask_at-even.result c.mask_at-odd.result
    c.mask_at-even.ensures c.mask_at-odd.ensures) c.pairs.invariant.1
