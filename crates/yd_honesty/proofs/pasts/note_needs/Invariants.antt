use Rattle.std.proofs.Common.{take}
use Rattle.yd_honesty.specs.Pasts.{NotesNeeds}
use Rattle.yd_honesty.proofs.pasts.note_needs.Given as goal

abbrev pub invariant-loop-need : goal.invariant-loop-need
invariant-loop-need l = NotesNeeds l.received l.pasts l.fn.entry (take l.need-index l.needs) l.fn.past l.past l.grew
