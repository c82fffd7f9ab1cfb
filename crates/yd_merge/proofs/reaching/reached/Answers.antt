use Rattle.std.proofs.Common.{map, sym, subst}
use Rattle.yd_words.specs.Each.{Each}
use Rattle.yd_ids.specs.Id.{IsSpan}
use Rattle.yd_merge.specs.Lending.{lent_group}
use Rattle.yd_merge.proofs.ReachingLemmas.{lent_spans, started_reaches}
use Rattle.yd_merge.proofs.reaching.reached.Goals as goal

pub of_spans-requires : goal.of_spans-requires
of_spans-requires c = subst (Each IsSpan) (sym c.in_ok-spans.ensures) (lent_spans c.args.lents.now c.requires)

pub returns-clause-reaches : goal.returns-clause-reaches
returns-clause-reaches c = started_reaches (map lent_group c.args.lents.now) c.in_ok-spans.spans.items c.in_ok-ids.ids c.in_ok-vector.vector c.in_ok-spans.ensures
    c.in_ok-ids.ensures.maximal c.in_ok-ids.ensures.ids c.in_ok-vector.ensures
