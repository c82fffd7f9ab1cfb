use Rattle.yd_hub.proofs.SessionLemmas.{opens, full, closes, refuses, hears, others}
use Rattle.yd_hub.proofs.law.sessions_follow.Goals as goal

pub returns : goal.returns
returns c = record { opens = opens; full = full; closes = closes; refuses = refuses; hears = hears; others = λ read hub event session ne. others read hub event.now event.what session ne }
