use Rattle.yd_store.proofs.DeletingLemmas.{deletes_units}
use Rattle.yd_store.proofs.store.Store.delete.Goals as goal

pub returns-clause-done : goal.returns-clause-done
returns-clause-done c =
    deletes_units c.args.self.now c.part_span.new.self c.mark_deleted.new.self c.args.span c.part_span.ensures.units c.is_sound.ensures.arena
    c.in_ok-part_span.ensures.front c.in_ok-part_span.ensures.back c.requires.held
    c.mark_deleted.ensures.marked c.mark_deleted.ensures.placed c.mark_deleted.ensures.contents
