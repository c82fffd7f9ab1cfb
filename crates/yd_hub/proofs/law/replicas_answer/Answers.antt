use Rattle.yd_hub.proofs.AnswerLemmas.{are_answers, can_answer, knows_derived, tells_news}
use Rattle.yd_hub.proofs.law.replicas_answer.Goals as goal

pub returns : goal.returns
returns c = record { can = can_answer; answers = are_answers; news = tells_news; derived = knows_derived }
