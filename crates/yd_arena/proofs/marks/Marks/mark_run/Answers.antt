use Rattle.std.proofs.Common.{◌≡◌, ◌∙◌, ap}
use Rattle.yd_arena.specs.Marks.{live_at, with_less, AreCounted}
use Rattle.yd_arena.proofs.CountLemmas.{enough_at, counted_marked}
use Rattle.yd_arena.proofs.marks.Marks.mark_run.Goals as goal

pub count_less-requires-clause-enough : goal.count_less-requires-clause-enough
count_less-requires-clause-enough c =
    let counted : AreCounted c.args.lists.now c.self.inside.rows.items c.self.inside.live.items = rw (← c.self.view_is) at c.requires.counted in
    enough_at c.args.lists.now c.self.inside.rows.items c.self.inside.live.items c.list_of.ensures.lists counted c.args.place c.requires.place
    c.list_of.result c.live_units-len.result c.deref.result.now c.deref.ensures.value c.live_units-len.ensures c.list_of.ensures.found

pub returns-clause-counted : goal.returns-clause-counted
returns-clause-counted c =
    let counted : AreCounted c.args.lists.now c.self.inside.rows.items c.self.inside.live.items = rw (← c.self.view_is) at c.requires.counted in
    let len : c.live_units-len.result ≡ live_at c.args.lists.now.stretches c.self.inside.rows.items c.args.place = c.live_units-len.ensures ∙ ap (λ rows. live_at c.args.lists.now.stretches rows c.args.place) c.deref.ensures.value in
    rw (c.set_deleted.ensures.items, c.count_less.ensures ∙ ap (with_less c.self.inside.live.items c.list_of.result) len)
    (counted_marked c.args.lists.now c.self.inside.rows.items c.self.inside.live.items c.list_of.ensures.lists counted c.args.place c.requires.place c.list_of.result c.list_of.ensures.found c.list_of.ensures.member)
