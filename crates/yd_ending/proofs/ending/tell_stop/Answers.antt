use Rattle.yd_ending.proofs.ending.tell_stop.Goals as goal

pub returns-in-Usage-clause-part : goal.returns-in-Usage-clause-part
returns-in-Usage-clause-part g c = rw c.in-Usage.is c.write_line.ensures.part
