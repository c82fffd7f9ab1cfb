use Rattle.std.proofs.Common.{take}
use Rattle.yd_ids.specs.Set.{HasId}
use Rattle.yd_listing.specs.Closing.{NotesLists}
use Rattle.yd_listing.proofs.closing.note_all.Given as goal

abbrev pub invariant-loop-span : goal.invariant-loop-span
invariant-loop-span l = NotesLists l.kept l.deleted (HasId (take l.span-index l.spans)) l.initial.queue l.queue
