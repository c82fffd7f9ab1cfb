use Rattle.yd_v1.proofs.LogWriterLemmas.{more_taken, more_written}
use Rattle.yd_v1.proofs.log_writer.LogWriterUpdateTaker.take_v1.Goals as goal

pub invariant_of-self-2 : goal.invariant_of-self-2
invariant_of-self-2 c =
    let done = c.in_ok-pass_entry.ensures.appended in
    more_written c.self.inside.log c.pass_entry.new.log done.update c.self.invariant done.appended done.again

pub returns-clause-took : goal.returns-clause-took
returns-clause-took c =
    let done = c.in_ok-pass_entry.ensures.appended in
    record {
      update = done.update;
      read = done.read;
      valid = done.valid;
      taken = rw (← c.self.view_is) (more_taken c.self.inside.log c.pass_entry.new.log done.update c.self.invariant done.appended done.again);
    }
