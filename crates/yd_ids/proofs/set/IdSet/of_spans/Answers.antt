use Rattle.yd_ids.proofs.SetOfLemmas.{set_of_alone}
use Rattle.yd_ids.proofs.set.IdSet.of_spans.Goals as goal

pub returns-clause-exact : goal.returns-clause-exact
returns-clause-exact c = set_of_alone c.args.spans.items _ c.requires c.in_ok-spans.ensures.maximal c.in_ok-spans.ensures.ids
