use Rattle.std.proofs.Common.{◌≡◌, ◌∙◌, ◌∷◌, ◌++◌, ap, get_or, [], length, set, subst}
use Rattle.yd_chains.specs.Chain.{put_behind}
use Rattle.yd_index.specs.Lines.{Adds}
use Rattle.yd_index.proofs.RowLemmas.{index_finds}
use Rattle.yd_arena.specs.Lists.{Linked}
use Rattle.yd_arena.proofs.ArenaLemmas.{arena_added}
use Rattle.yd_arena.proofs.GrowthLemmas.{run_grows}
use Rattle.yd_arena.proofs.arena.Arena.add_run.Goals as goal

pub scan-behind-requires-clause-index : goal.scan-behind-requires-clause-index
scan-behind-requires-clause-index c = index_finds c.self.inside.index c.self.inside.lists.stretches c.self.invariant.holds

pub invariant_of-self : goal.invariant_of-self
invariant_of-self c =
    let runs = c.self.inside.lists.stretches in
    let place : c.len-place.result ≡ length runs = c.len-place.ensures ∙ ap (λ (it : Linked). length it.stretches) c.scan-behind.ensures.unchanged in
    rw (c.add.ensures.stretches, c.scan-behind.ensures.unchanged) (arena_added c.self.inside.index runs c.args.new c.self.invariant (rw (← c.self.view_is) at c.requires.next) c.requires.filled c.add_entry.new.index c.requires.fits
    (subst (λ p. Adds c.self.inside.index c.add_entry.new.index c.args.new.id.client.0 p c.args.new.len) place c.add_entry.ensures.done))

pub returns-clause-done : goal.returns-clause-done
returns-clause-done c =
    let runs = c.self.inside.lists.stretches in
    let lists = c.self.inside.lists.lists in
    let same = c.scan-behind.ensures.unchanged in
    let place : c.len-place.result ≡ length runs = c.len-place.ensures ∙ ap (λ (it : Linked). length it.stretches) same in
    let put : c.add.result ≡ length runs = c.add.ensures.place ∙ ap (λ (it : Linked). length it.stretches) same in
    rw (← c.self.view_is) (run_grows (record { lines = c.self.inside.index; linked = c.self.inside.lists }) (record { lines = c.add_entry.new.index; linked = c.add.new.self })
    c.args.list c.args.after c.scan-behind.result c.args.new c.self.invariant c.scan-behind.ensures.lists (rw (← c.self.view_is) at c.requires.list)
    (rw (← c.self.view_is) at c.requires.after) (rw (← c.self.view_is) at c.requires.left) (rw (← c.self.view_is) at c.requires.right)
    (rw (← c.self.view_is) at c.requires.next) c.requires.filled c.scan-behind.ensures.place
    (subst (λ p. Adds c.self.inside.index c.add_entry.new.index c.args.new.id.client.0 p c.args.new.len) place c.add_entry.ensures.done)
    (c.add.ensures.stretches ∙ ap (λ (it : Linked). it.stretches ++ c.args.new ∷ []) same)
    (c.add.ensures.lists ∙ ap (λ (it : Linked). set it.lists c.args.list (put_behind c.scan-behind.result c.add.result (get_or it.lists c.args.list []))) same
    ∙ ap (λ p. set lists c.args.list (put_behind c.scan-behind.result p (get_or lists c.args.list []))) put))
