use Rattle.std.proofs.Common.{◌++◌, List, [], ◌∷◌, sym, ap, ◌∙◌, subst}
use Rattle.yd_order.specs.declared.stretch.Stretch.{Stretch}
use Rattle.yd_stretches.specs.Stretches.{AreGathered, stretch_lists, with_last}
use Rattle.yd_stretches.proofs.GatheringLemmas.{gathered_put}
use Rattle.yd_stretches.proofs.gathering.gather_one.Goals as goal

pub returns-in_ok-put-in-In : goal.returns-in_ok-put-in-In
returns-in_ok-put-in-In c = λ seen g.
    subst (λ (buckets : List (List Stretch)). AreGathered c.args.stale.now (seen ++ c.args.entry ∷ []) buckets)
    (ap (λ (s : Stretch). with_last c.in-In.n s (stretch_lists c.args.buckets.now.items)) (sym c.stretch_of.ensures) ∙ sym c.in_ok-put-in-In.ensures)
    (gathered_put c.args.stale.now seen c.args.entry c.in-In.n (stretch_lists c.args.buckets.now.items) c.in-In.is g)
