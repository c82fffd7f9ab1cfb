use Rattle.std.proofs.Common.{sym, ◌∙◌, arith}
use Rattle.std.proofs.lemmas.List.{get_or_default}
use Rattle.yd_held.proofs.LackLemmas.{with_there, with_here}
use Rattle.yd_held.proofs.noting.note.Goals.{else-at-len-via-then-at-len+else-is_same_lack, else-at-len-via-else-at-len}
use Rattle.yd_held.proofs.noting.note.Goals as goal

pub returns-then-is_same_lack : goal.returns-then-is_same_lack
returns-then-is_same_lack c =
    sym (with_there c.args.lack c.args.lacks.now.items c.place-at.result c.index.result.now (rw c.deref.ensures.value at c.place-at.ensures.before)
    (rw c.deref.ensures.value at c.place-at.ensures.behind) (omega arith) cc)

pub returns : goal.returns
returns c =
    c.in_ok-insert.ensures.items ∙ sym (with_here c.args.lack c.args.lacks.now.items c.place-at.result (rw c.deref.ensures.value at c.place-at.ensures.before)
    (rw c.deref.ensures.value at c.place-at.ensures.behind) (omega arith) (λ lt d. elim c.else-at-len.branch [
      | else-at-len-via-then-at-len+else-is_same_lack w ↦ rw (get_or_default c.args.lacks.now.items c.place-at.result d w.index.result.now lt) cc
      | else-at-len-via-else-at-len w ↦ absurd (omega arith)
    ]))
