use Rattle.std.proofs.Common.{map, ap, ◌∙◌, subst}
use Rattle.std.specs.List.Sorted.{IsPermutation}
use Rattle.std.proofs.lemmas.List.Sorted.{IsPermutation-map}
use Rattle.yd_words.proofs.EachLemmas.{each_permuted}
use Rattle.yd_ops.specs.View.{update_value}
use Rattle.yd_grouping.specs.Grouped.{grouping_of}
use Rattle.yd_grouping.specs.Groups.{operations_of_groups}
use Rattle.yd_merge.specs.Lending.{IsLent, lent_group}
use Rattle.yd_merge.proofs.TurnLemmas.{of_update, turn_merge}
use Rattle.yd_merge.proofs.merging.merge_with.Goals as goal

pub returns-in_ok-merged-in-Some : goal.returns-in_ok-merged-in-Some
returns-in_ok-merged-in-Some c = c.in_ok-merged-in-Some.ensures ∙ ap (λ ls. grouping_of (operations_of_groups (map lent_group ls)) c.args.deletes) c.deref.ensures.value
    ∙ turn_merge (map update_value c.args.updates.now) (map lent_group c.in-Some.lents.items) c.args.deletes c.requires.valid
    (of_update c.in-Some.lents.items (each_permuted IsLent c.in_ok-lents.lents.items c.in-Some.lents.items c.in-Some.ensures.same c.in_ok-lents.ensures.lent))
    (subst (λ gs. IsPermutation gs (map lent_group c.in-Some.lents.items)) c.in_ok-lents.ensures.groups
    (IsPermutation-map lent_group c.in_ok-lents.lents.items c.in-Some.lents.items c.in-Some.ensures.same))
    c.in-Some.ensures.in_turn c.requires.deletes
