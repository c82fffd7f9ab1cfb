use Rattle.std.proofs.Common.{◌++◌, map, ap, ◌∙◌, subst}
use Rattle.std.specs.List.Sorted.{IsPermutation}
use Rattle.std.proofs.lemmas.List.Sorted.{IsPermutation-map}
use Rattle.yd_words.proofs.EachLemmas.{each_permuted}
use Rattle.yd_ids.specs.Vector.{clock_of}
use Rattle.yd_ops.specs.View.{update_value}
use Rattle.yd_grouping.specs.Grouped.{grouping_of}
use Rattle.yd_grouping.specs.Groups.{operations_of_groups}
use Rattle.yd_grouping.specs.Merged.{cut_of}
use Rattle.yd_merge.specs.Lending.{IsLent, blocks_groups, lent_group}
use Rattle.yd_merge.proofs.LentCutLemmas.{turn_cut}
use Rattle.yd_merge.proofs.TurnLemmas.{of_update}
use Rattle.yd_merge.proofs.cutting.cut_with.Goals as goal

pub returns-in_ok-cut-in-Some : goal.returns-in_ok-cut-in-Some
returns-in_ok-cut-in-Some c = c.in_ok-cut-in-Some.ensures
    ∙ ap (λ ls. grouping_of (cut_of (operations_of_groups (map lent_group ls)) (clock_of c.args.vector.now)) c.args.deletes) c.deref.ensures.value
    ∙ turn_cut (update_value c.args.update.now) (map lent_group c.in-Some.lents.items) (clock_of c.args.vector.now) c.args.deletes c.requires.valid
    (of_update c.in-Some.lents.items (each_permuted IsLent c.lend_update.new.lents.items c.in-Some.lents.items c.in-Some.ensures.same c.in_ok-lend_update.ensures.lent))
    (subst (λ gs. IsPermutation gs (map lent_group c.in-Some.lents.items))
    (c.in_ok-lend_update.ensures.groups ∙ ap (λ ls. map lent_group ls ++ blocks_groups (update_value c.args.update.now).blocks) c.new-lents.ensures.items)
    (IsPermutation-map lent_group c.lend_update.new.lents.items c.in-Some.lents.items c.in-Some.ensures.same))
    c.in-Some.ensures.in_turn c.requires.deletes
