use Rattle.yd_hub.proofs.SameLemmas.{documents_meet, reply_derives}
use Rattle.yd_hub.proofs.law.documents_meet.Goals as goal

pub returns : goal.returns
returns c = record { shown = documents_meet; derived = reply_derives }
