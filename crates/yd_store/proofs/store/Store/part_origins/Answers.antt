use Rattle.yd_store.proofs.IntegratingLemmas.{keeps_both, border_of, borders_stay}
use Rattle.yd_store.proofs.store.Store.part_origins.Goals as goal

pub returns-in-Some-next_begun-clause-right : goal.returns-in-Some-next_begun-clause-right
returns-in-Some-next_begun-clause-right c =
    border_of c.args.right c.in-Some.id c.part_left.new.self c.in-Some-next_begun.place c.in-Some.is c.is_sound.ensures.arena c.in-Some-next_begun.ensures.begins

pub returns-in_err-place-clause-units : goal.returns-in_err-place-clause-units
returns-in_err-place-clause-units c = keeps_both c.args.self.now c.part_left.new.self c.part_front.new.self c.part_left.ensures.units c.part_front.ensures.units

pub returns-clause-left : goal.returns-clause-left
returns-clause-left c = borders_stay c.args.left c.part_left.new.self c.part_front.new.self c.part_front.ensures.units c.in_ok-after.ensures.border

pub returns-clause-units : goal.returns-clause-units
returns-clause-units c = keeps_both c.args.self.now c.part_left.new.self c.part_front.new.self c.part_left.ensures.units c.part_front.ensures.units
