use Rattle.std.proofs.Common.{◌<◌, ◌∙◌, refl, sym, subst, arith}
use Rattle.std.proofs.lemmas.List.{length-map}
use Rattle.yd_arena.specs.Arena.{next_clock}
use Rattle.yd_store.specs.Contents.{told}
use Rattle.yd_store.specs.Store.{Stored}
use Rattle.yd_store.specs.Taking.{TakesBack}
use Rattle.yd_store.proofs.StoreLemmas.{told_empty}
use Rattle.yd_store.proofs.TakingLemmas.{takes_back}
use Rattle.yd_store.proofs.TakenLemmas.{begins_above, store_taken, still_dead}
use Rattle.yd_store.proofs.store.Store.take_last.Goals as goal

pub take_last-place-requires : goal.take_last-place-requires
take_last-place-requires c =
    let high : c.args.clock < next_clock c.self.inside.arena c.args.client.0 = rw (← c.self.view_is) at c.requires.high in
    omega (arith, high)

pub empty-requires : goal.empty-requires
empty-requires c = omega (arith, c.take_last-place.ensures.done.within, c.self.invariant.told.each, length-map c.self.inside.contents.rows told)

pub invariant_of-self : goal.invariant_of-self
invariant_of-self c =
    let old : Stored = record { placed = c.self.inside.arena; marks = c.self.inside.marks; contents = c.self.inside.contents } in
    let new : Stored = record { placed = c.take_last-place.new.self; marks = c.self.inside.marks; contents = c.empty.new.self } in
    store_taken old new c.args.client.0 c.take_last-place.result c.args.clock c.self.invariant c.is_sound.ensures.arena c.is_sound.ensures.lists c.take_last-place.ensures.done refl
    (told_empty c.self.inside.contents c.empty.new.self c.take_last-place.result c.empty.ensures.rows)
    (rw (← c.self.view_is) at c.requires.border) (rw (← c.self.view_is) at c.requires.high) (rw (← c.self.view_is) at c.requires.dead) refl

pub returns-clause-above : goal.returns-clause-above
returns-clause-above c =
    let old : Stored = record { placed = c.self.inside.arena; marks = c.self.inside.marks; contents = c.self.inside.contents } in
    let new : Stored = record { placed = c.take_last-place.new.self; marks = c.self.inside.marks; contents = c.empty.new.self } in
    omega (
      arith,
      c.next_clock.ensures.value,
      c.take_last-place.ensures.done.next,
      begins_above old new c.args.client.0 c.take_last-place.result c.args.clock c.self.invariant c.is_sound.ensures.arena c.is_sound.ensures.lists c.take_last-place.ensures.done refl
          (told_empty c.self.inside.contents c.empty.new.self c.take_last-place.result c.empty.ensures.rows)
          (rw (← c.self.view_is) at c.requires.border) (rw (← c.self.view_is) at c.requires.high) (rw (← c.self.view_is) at c.requires.dead),
    )

pub returns-clause-lower : goal.returns-clause-lower
returns-clause-lower c =
    rw (← c.self.view_is) (omega (arith, c.next_clock.ensures.value, c.take_last-place.ensures.done.next, c.take_last-place.ensures.done.ends, c.take_last-place.ensures.done.filled))

pub returns-clause-taken : goal.returns-clause-taken
returns-clause-taken c =
    let old : Stored = record { placed = c.self.inside.arena; marks = c.self.inside.marks; contents = c.self.inside.contents } in
    let new : Stored = record { placed = c.take_last-place.new.self; marks = c.self.inside.marks; contents = c.empty.new.self } in
    rw (← c.self.view_is) (subst (λ n. TakesBack old new c.args.client.0 n) (sym (c.next_clock.ensures.value ∙ c.take_last-place.ensures.done.next))
    (takes_back old new c.args.client.0 c.take_last-place.result c.is_sound.ensures.arena c.self.invariant.told c.is_sound.ensures.lists c.take_last-place.ensures.done refl
    (told_empty c.self.inside.contents c.empty.new.self c.take_last-place.result c.empty.ensures.rows)))

pub returns-clause-dead : goal.returns-clause-dead
returns-clause-dead c =
    let old : Stored = record { placed = c.self.inside.arena; marks = c.self.inside.marks; contents = c.self.inside.contents } in
    let new : Stored = record { placed = c.take_last-place.new.self; marks = c.self.inside.marks; contents = c.empty.new.self } in
    still_dead old new c.args.client.0 c.take_last-place.result c.args.clock c.self.invariant c.is_sound.ensures.arena c.is_sound.ensures.lists c.take_last-place.ensures.done refl
    (told_empty c.self.inside.contents c.empty.new.self c.take_last-place.result c.empty.ensures.rows)
    (rw (← c.self.view_is) at c.requires.border) (rw (← c.self.view_is) at c.requires.high) (rw (← c.self.view_is) at c.requires.dead)
