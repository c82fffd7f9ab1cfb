use Rattle.std.proofs.Common.{◌∙◌, ◌++◌, ◌∷◌, [], ap}
use Rattle.yd_arena.specs.Arena.{runs_of}
use Rattle.yd_arena.specs.Marks.{mark_at}
use Rattle.yd_store.proofs.StoreLemmas.{can_cut, store_cut}
use Rattle.yd_store.proofs.KeepingLemmas.{cut_keeps}
use Rattle.yd_store.proofs.store.Store.split_found.Goals as goal

pub cut_with-requires-clause-can : goal.cut_with-requires-clause-can
cut_with-requires-clause-can c =
    can_cut c.self.inside.arena.lines (runs_of c.self.inside.arena) c.self.inside.contents c.args.found.place c.args.found.before c.args.id c.is_sound.ensures.arena c.self.invariant.told (rw (← c.self.view_is) at c.requires.has) c.requires.later

pub invariant_of-self-2 : goal.invariant_of-self-2
invariant_of-self-2 c =
    store_cut c.self.inside.arena c.cut_with.new.self c.self.inside.marks c.cut.new.self c.self.inside.contents c.cut_with.new.beside c.args.found.place c.args.found.before c.self.invariant c.is_sound.ensures.lists
    (rw (← c.self.view_is) at c.requires.has).within c.requires.later (rw (← c.self.view_is) at c.requires.has).inside c.in_ok-place.ensures.done
    (c.cut.ensures.rows ∙ ap (λ rows. rows ++ mark_at rows c.args.found.place ∷ []) c.reserve.ensures.rows) (c.cut.ensures.live ∙ c.reserve.ensures.live) c.in_ok-place.ensures.beside

pub returns-clause-done : goal.returns-clause-done
returns-clause-done c =
    rw (← c.self.view_is) (record {
      cuts = record { place = c.args.found.place; before = c.args.found.before; has = (rw (← c.self.view_is) at c.requires.has); later = c.requires.later; cuts = c.in_ok-place.ensures.done };
      rows = c.cut.ensures.rows ∙ ap (λ rows. rows ++ mark_at rows c.args.found.place ∷ []) c.reserve.ensures.rows;
      live = c.cut.ensures.live ∙ c.reserve.ensures.live;
      runs = c.in_ok-place.ensures.beside;
    })

pub returns-clause-units : goal.returns-clause-units
returns-clause-units c =
    rw (← c.self.view_is) (cut_keeps (record { placed = c.self.inside.arena; marks = c.self.inside.marks; contents = c.self.inside.contents }) (record { placed = c.cut_with.new.self; marks = c.cut.new.self; contents = c.cut_with.new.beside })
    c.self.invariant c.is_sound.ensures.lists c.args.found.place c.args.found.before (rw (← c.self.view_is) at c.requires.has).within c.requires.later (rw (← c.self.view_is) at c.requires.has).inside c.in_ok-place.ensures.done
    (c.cut.ensures.rows ∙ ap (λ rows. rows ++ mark_at rows c.args.found.place ∷ []) c.reserve.ensures.rows) (c.cut.ensures.live ∙ c.reserve.ensures.live) c.in_ok-place.ensures.beside)
