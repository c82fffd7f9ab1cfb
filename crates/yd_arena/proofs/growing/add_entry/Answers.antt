use Rattle.std.proofs.Common.{◌+◌, ◌≤◌, inl, inr, sym, subst, arith}
use Rattle.yd_index.specs.Lines.{room_of}
use Rattle.yd_index.proofs.LinesLemmas.{eq_says}
use Rattle.yd_arena.proofs.growing.add_entry.Goals as goal

pub returns-clause-rooms : goal.returns-clause-rooms
returns-clause-rooms c = λ k. elim (eq_says k c.args.new.now.id.client.0) [
  | inl x ↦ subst (λ j. room_of c.args.index.now j ≤ room_of c.add.new.self j + 1) (sym x.1) c.add.ensures.room
  | inr x ↦ omega (arith, c.add.ensures.other_rooms k x.1)
]
