use Rattle.std.proofs.Common.{sym, ap, ◌∙◌}
use Rattle.yd_aware.specs.Undoing.{restored}
use Rattle.yd_aware.proofs.UndoingLemmas.{restored-push}
use Rattle.yd_aware.proofs.taking.put_back.Goals as goal

pub loop-change-preserved : goal.loop-change-preserved
loop-change-preserved c =
    ap (restored c.pop.new.self.items) c.undo.ensures
    ∙ sym (restored-push c.pop.new.self.items c.in-Some.change c.loop-change.rows.entries)
    ∙ ap (λ changes. restored changes c.loop-change.rows.entries) (sym c.in-Some.ensures.items)
    ∙ c.loop-change.invariant
