use Rattle.stable_sets.proofs.order.are_probes_listed.Goals as goal

pub returns-then-are_probes : goal.returns-then-are_probes
returns-then-are_probes c =
    let size = c.is_some_within.ensures.0 c.if-not-is_some_within.false in (
      (λ h. record {
        some = size.0;
        most = size.1;
        each = c.are_probes.ensures.0 c.if-are_probes.true;
        ascending = c.are_ascending.ensures.0 h;
      }),
      (λ l. c.are_ascending.ensures.1 l.ascending),
    )
