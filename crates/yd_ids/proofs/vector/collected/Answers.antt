use Rattle.std.proofs.Common.{sym, ◌∙◌, subst}
use Rattle.yd_words.specs.Each.{Each}
use Rattle.yd_words.proofs.EachLemmas.{each_permuted}
use Rattle.yd_ids.specs.Vector.{IsEntry, HasGreatest}
use Rattle.yd_ids.proofs.EntriesLemmas.{greatest_permuted}
use Rattle.yd_ids.proofs.vector.collected.Goals as goal

pub raised_by-requires : goal.raised_by-requires
raised_by-requires c =
    subst (Each IsEntry) (sym c.deref.ensures.value) (each_permuted IsEntry c.args.entries.items c.sort_unstable.new.self.items c.sort_unstable.ensures.permutation c.requires)

pub returns-clause-clocks : goal.returns-clause-clocks
returns-clause-clocks c client =
    let sorted : HasGreatest c.in_ok-vector.vector.items c.sort_unstable.new.self.items = subst (HasGreatest c.in_ok-vector.vector.items) c.deref.ensures.value c.in_ok-vector.ensures.clocks in
    sorted client ∙ sym (greatest_permuted c.args.entries.items c.sort_unstable.new.self.items client c.sort_unstable.ensures.permutation)
