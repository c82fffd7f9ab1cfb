use Rattle.yd_grouping.proofs.ReplyLemmas.{reply-operations, reply_valid, reply_grouped, reply_named}
use Rattle.yd_grouping.proofs.law.replies_are_valid.Goals as goal

pub returns : goal.returns
returns c = record { operations = reply-operations; valid = reply_valid; grouped = reply_grouped; named = reply_named }
