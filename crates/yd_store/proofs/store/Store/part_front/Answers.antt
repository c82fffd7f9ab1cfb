use Rattle.yd_store.proofs.IntegratingLemmas.{border_above, border_found}
use Rattle.yd_store.proofs.store.Store.part_front.Goals as goal

pub returns-in_default-clause-border : goal.returns-in_default-clause-border
returns-in_default-clause-border c = border_above c.args.self.now c.args.id c.is_sound.ensures.arena c.in_default.ensures.missing

pub returns-then-found-eq0-clause-border : goal.returns-then-found-eq0-clause-border
returns-then-found-eq0-clause-border c =
    border_found c.args.self.now c.args.id c.in-Some.found.place c.is_sound.ensures.arena (rw c.if-found-eq0.true at c.in-Some.ensures.found)

pub returns-clause-border : goal.returns-clause-border
returns-clause-border c = border_found c.split_found.new.self c.args.id c.in_ok-place.place c.is_sound-2.ensures.arena c.in_ok-place.ensures.begins
