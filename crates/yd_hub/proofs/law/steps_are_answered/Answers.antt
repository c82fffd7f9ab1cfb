use Rattle.yd_hub.proofs.law.steps_are_answered.Goals as goal

pub returns : goal.returns
returns c = λ read answers hub now s bytes vector there e. rw (there, e)
