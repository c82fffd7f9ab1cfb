use Rattle.yd_v2.proofs.PushLemmas.{three_pushed}
use Rattle.yd_v2.proofs.writer.push_items.Goals as goal

pub returns-clause-pushed : goal.returns-clause-pushed
returns-clause-pushed c = three_pushed c.in_ok-push_diffs.ensures c.in_ok-push_bytes.ensures c.in_ok-push_strings.ensures.pushed
