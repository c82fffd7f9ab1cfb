use Rattle.std.proofs.Common.{subst}
use Rattle.yd_doc.specs.Editing.{HasGrownLists}
use Rattle.yd_doc.proofs.law.own_lists_are_grown.Goals as goal

pub returns : goal.returns
returns c = subst HasGrownLists c.replica.view_is (λ list. c.received-received.ensures.sound.own.lists.grown list)
