use Rattle.std.proofs.Common.{◌≡◌, [], ◌∙◌, ap, arith, get_or, length, set}
use Rattle.std.specs.Prelude.{vec_capacity}
use Rattle.yd_chains.specs.Chain.{put_behind}
use Rattle.yd_arena.specs.declared.lists.TheConstants.{MOST}
use Rattle.yd_arena.proofs.ListsLemmas.{room_parts, kept_add}
use Rattle.yd_arena.proofs.lists.Lists.add.Goals as goal

pub insert-requires-clause-loose : goal.insert-requires-clause-loose
insert-requires-clause-loose c = λ k kl h. absurd (omega (arith, c.self.invariant.within k c.len-place.result kl h, c.len-place.ensures, c.self.inside.stretches.ok.0))

pub invariant_of-self : goal.invariant_of-self
invariant_of-self c =
    let room = room_parts (length c.self.inside.stretches.items) c.self.inside.chains.count (length c.self.inside.marks.items) (vec_capacity c.self.inside.stretches) MOST (rw (← c.self.view_is) at c.requires.room) in
    let place : c.len-place.result ≡ length c.self.inside.stretches.items = omega (arith, c.len-place.ensures, c.self.inside.stretches.ok.0) in
    let old = c.self.inside.chains.chains in
    rw c.push_stretch.ensures.items (kept_add c.self.inside.chains c.self.inside.stretches.items c.self.inside.marks.items c.self.inside.counter MOST c.self.invariant c.insert.new.self c.args.new c.args.list c.args.after
    c.insert.ensures.count (rw (← c.self.view_is) at c.requires.list) (c.insert.ensures.chains ∙ ap (λ n. set old c.args.list (put_behind c.args.after n (get_or old c.args.list []))) place) c.requires.filled room.0 room.1 room.3)
