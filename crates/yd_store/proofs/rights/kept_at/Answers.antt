use Rattle.yd_store.proofs.IntegratingLemmas.{right_here, right_elsewhere, right_above}
use Rattle.yd_store.proofs.rights.kept_at.Goals as goal

pub returns-in_default : goal.returns-in_default
returns-in_default c = right_above c.args.arena.now c.args.list c.args.right c.is_sound.ensures.arena (rw c.in_default.is at c.requires.place)

pub returns-then-is_in : goal.returns-then-is_in
returns-then-is_in c = right_here c.args.arena.now c.args.list c.in-Some.place c.args.right (rw c.in-Some.is at c.requires.place) (c.is_in.ensures.here c.if-is_in.true)

pub returns : goal.returns
returns c = right_elsewhere c.args.arena.now c.args.list c.in-Some.place c.args.right c.is_sound.ensures.arena (rw c.in-Some.is at c.requires.place) (c.is_in.ensures.other c.if-is_in.false)
