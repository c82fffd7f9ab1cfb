use Rattle.std.proofs.Common.{sym, subst}
use Rattle.yd_words.specs.Each.{Each}
use Rattle.yd_words.proofs.EachLemmas.{each_permuted}
use Rattle.yd_ids.specs.Gathering.{AreOrdered}
use Rattle.yd_ids.specs.Id.{IsSpan}
use Rattle.yd_ids.specs.Set.{HaveSameIds}
use Rattle.yd_ids.proofs.GatheringLemmas.{sorted_ordered}
use Rattle.yd_ids.proofs.SetLemmas.{same_back, same_through, permuted_same}
use Rattle.yd_ids.proofs.gathering.gathered.Goals as goal

pub of_ordered-requires-clause-spans : goal.of_ordered-requires-clause-spans
of_ordered-requires-clause-spans c =
    subst (Each IsSpan) (sym c.deref-2.ensures.value) (each_permuted IsSpan c.args.spans.items c.sort_unstable.new.self.items c.sort_unstable.ensures.permutation c.requires)

pub of_ordered-requires-clause-ordered : goal.of_ordered-requires-clause-ordered
of_ordered-requires-clause-ordered c = subst AreOrdered (sym c.deref-2.ensures.value) (sorted_ordered c.sort_unstable.new.self.items c.sort_unstable.ensures.sorted)

pub returns-clause-ids : goal.returns-clause-ids
returns-clause-ids c =
    same_through c.in_ok-set-2.set.items c.sort_unstable.new.self.items c.args.spans.items
    (subst (HaveSameIds c.in_ok-set-2.set.items) c.deref-2.ensures.value c.in_ok-set-2.ensures.ids)
    (same_back c.args.spans.items c.sort_unstable.new.self.items (permuted_same c.args.spans.items c.sort_unstable.new.self.items c.sort_unstable.ensures.permutation))
