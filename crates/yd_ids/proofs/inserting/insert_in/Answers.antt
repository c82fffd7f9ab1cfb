use Rattle.std.proofs.Common.{sym, subst}
use Rattle.yd_ids.specs.Set.{AreMaximal, AddsSpan}
use Rattle.yd_ids.proofs.InsertingLemmas.{inserted_maximal, inserted_ids}
use Rattle.yd_ids.proofs.inserting.insert_in.Goals as goal

pub returns-clause-added : goal.returns-clause-added
returns-clause-added c =
    subst (λ new. AddsSpan c.args.spans.now.items new c.args.span) (sym c.in_ok-replace.ensures.done)
    (inserted_ids c.args.spans.now.items c.place-from.result c.args.span _ _ c.joined_from-to.ensures)

pub returns-clause-kept : goal.returns-clause-kept
returns-clause-kept c =
    subst AreMaximal (sym c.in_ok-replace.ensures.done)
    (inserted_maximal c.args.spans.now.items c.place-from.result c.args.span _ _ c.requires.maximal c.joined_from-to.ensures)
