use Rattle.std.proofs.Common.{subst}
use Rattle.std.specs.Prelude.{IfSome}
use Rattle.yd_firsts.specs.Firsts.{HaveStarts}
use Rattle.yd_firsts.proofs.CutLemmas.{starts_through}
use Rattle.yd_firsts.proofs.comparing.compare_firsts.Goals as goal

pub returns-in-Some-clause-starts : goal.returns-in-Some-clause-starts
returns-in-Some-clause-starts c = starts_through c.in_ok-pieces.pieces.items c.args.stretches.now c.in-Some.made.list.ids.items c.in_ok-pieces.ensures
    (subst (λ ps. HaveStarts ps c.in-Some.made.list.ids.items) c.deref.ensures.value
    (subst (λ z. IfSome z (λ made. HaveStarts c.deref.result.now made.list.ids.items)) c.in-Some.is c.in_ok-made.ensures.starts))
