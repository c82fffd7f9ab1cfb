use Rattle.std.proofs.Common.{arith}
use Rattle.yd_store.proofs.StoreLemmas.{stands_only, stands_below}
use Rattle.yd_kept.proofs.kept.Kept.list_of.Goals as goal

pub returns-in_default : goal.returns-in_default
returns-in_default c = rw (← c.self.view_is) (λ list lt s. absurd (omega (arith, stands_below c.self.inside.store.placed list c.args.id c.is_sound.ensures.arena s, c.in_default.ensures.missing)))

pub returns : goal.returns
returns c = rw (← c.self.view_is) (λ list lt s. c.list_of.ensures.member list lt
    (stands_only c.self.inside.store.placed list c.in-Some.found.place c.in-Some.found.before c.args.id c.is_sound.ensures.arena c.in-Some.ensures.found s))
