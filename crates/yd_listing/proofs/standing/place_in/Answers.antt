use Rattle.std.proofs.Common.{◌<◌, subst}
use Rattle.std.specs.Prelude.{IfSome}
use Rattle.yd_words.specs.Member.{IsIn}
use Rattle.yd_arena.specs.Arena.{count_of, places_in}
use Rattle.yd_listing.proofs.StandingLemmas.{not_below, other_list}
use Rattle.yd_listing.proofs.standing.place_in.Goals as goal

pub list_of-requires : goal.list_of-requires
list_of-requires c = c.in_ok-found.ensures.found.within

pub returns-in_err-found-clause-none : goal.returns-in_err-found-clause-none
returns-in_err-found-clause-none c = rw c.from_residual.ensures (λ stands. not_below c.args.store.now c.args.list c.args.id c.is_sound.ensures.arena c.in_err-found.ensures.missing stands)

pub returns-then-is_number-clause-there : goal.returns-then-is_number-clause-there
returns-then-is_number-clause-there c = record {
  before = c.in_ok-found.found.before;
  has = c.in_ok-found.ensures.found;
  member = (subst (λ z. IfSome z (λ k. (k < count_of c.args.store.now.placed) × IsIn c.in_ok-found.found.place (places_in c.args.store.now.placed k)))
      (c.is_number.ensures.same c.if-is_number.true) c.list_of.ensures.found).1;
}

pub returns-clause-none : goal.returns-clause-none
returns-clause-none c = λ stands. other_list c.args.store.now c.args.list c.args.id c.in_ok-found.found.place c.in_ok-found.found.before c.list_of.result c.is_sound.ensures.arena
    c.requires c.in_ok-found.ensures.found c.list_of.ensures.member (c.is_number.ensures.apart c.if-is_number.false) stands
