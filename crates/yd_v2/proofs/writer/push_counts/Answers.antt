use Rattle.yd_v2.proofs.PushLemmas.{three_pushed}
use Rattle.yd_v2.proofs.writer.push_counts.Goals as goal

pub returns : goal.returns
returns c = three_pushed c.in_ok-push_bytes.ensures c.in_ok-push_uints.ensures c.in_ok-push_uints-2.ensures
