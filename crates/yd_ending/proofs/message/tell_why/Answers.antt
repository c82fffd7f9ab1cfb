use Rattle.yd_ending.proofs.message.tell_why.Goals as goal

pub returns-in-NumberTooLarge-clause-part : goal.returns-in-NumberTooLarge-clause-part
returns-in-NumberTooLarge-clause-part g c = rw c.in-NumberTooLarge.is c.tell_number-in-NumberTooLarge.ensures.part
