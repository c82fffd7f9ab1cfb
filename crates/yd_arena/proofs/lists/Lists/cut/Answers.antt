use Rattle.std.proofs.Common.{◌≡◌, arith, length, subst}
use Rattle.std.specs.Prelude.{vec_capacity}
use Rattle.yd_arena.specs.Lists.{PutsBehind}
use Rattle.yd_arena.specs.declared.lists.TheConstants.{MOST}
use Rattle.yd_arena.proofs.ListsLemmas.{room_parts, kept_cut, are_lists}
use Rattle.yd_arena.proofs.lists.Lists.cut.Goals as goal

pub put_part-requires-clause-loose : goal.put_part-requires-clause-loose
put_part-requires-clause-loose c = λ k kl h. absurd (omega (arith, c.self.invariant.within k c.len-more.result kl h, c.len-more.ensures, c.self.inside.stretches.ok.0))

pub invariant_of-self : goal.invariant_of-self
invariant_of-self c =
    let room = room_parts (length c.self.inside.stretches.items) c.self.inside.chains.count (length c.self.inside.marks.items) (vec_capacity c.self.inside.stretches) MOST (rw (← c.self.view_is) at c.requires.room) in
    let more : c.len-more.result ≡ length c.self.inside.stretches.items = omega (arith, c.len-more.ensures, c.self.inside.stretches.ok.0) in
    rw c.cut_stretch.ensures.items (kept_cut c.self.inside.chains c.put_part.new.chains c.self.inside.stretches.items c.self.inside.marks.items c.self.inside.counter MOST c.args.place c.args.n c.self.invariant
    (subst (λ n. PutsBehind c.self.inside.chains.chains c.put_part.new.chains.chains c.args.place n) more c.put_part.ensures.puts) c.put_part.ensures.count c.requires.before (rw (← c.self.view_is) at c.requires.within) room.0 room.1 room.3)

pub returns-clause-sound : goal.returns-clause-sound
returns-clause-sound c = rw (← c.self.view_is) (are_lists c.self.inside.chains c.self.inside.stretches.items c.self.inside.marks.items c.self.inside.counter MOST _ c.put_part.ensures.sound c.self.invariant)
