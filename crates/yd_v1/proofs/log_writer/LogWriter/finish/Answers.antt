use Rattle.std.proofs.Common.{◌∙◌}
use Rattle.yd_v1.proofs.LogWriterLemmas.{taken_stand, taken_written}
use Rattle.yd_v1.proofs.log_writer.LogWriter.finish.Goals as goal

pub returns-clause-written : goal.returns-clause-written
returns-clause-written c = rw (← c.self.view_is) (c.into_vec.ensures ∙ taken_written c.self.inside.log c.self.invariant)

pub returns-clause-read_again : goal.returns-clause-read_again
returns-clause-read_again c = rw (← c.self.view_is, c.into_vec.ensures) (taken_stand c.self.inside.log c.self.invariant)
