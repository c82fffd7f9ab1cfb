use Rattle.yd_grouping.proofs.ReplyLemmas.{reply_completes, reply_own}
use Rattle.yd_grouping.proofs.law.replies_complete.Goals as goal

pub returns : goal.returns
returns c = record { completes = reply_completes; own = reply_own }
