use Rattle.std.proofs.Common.{[], ◌∷◌, ◌++◌, map, ap, sym, subst, ◌∙◌}
use Rattle.std.proofs.lemmas.List.{map-append}
use Rattle.std.specs.Vec.Iter.{into_iter_items}
use Rattle.yd_ops.specs.View.{block_value}
use Rattle.yd_merge.specs.Joining.{BlocksSaySame}
use Rattle.yd_merge.proofs.JoiningLemmas.{blocks_put}
use Rattle.yd_merge.proofs.joining.join_blocks.Goals as goal

pub loop-block-preserved : goal.loop-block-preserved
loop-block-preserved c =
    let all = map block_value c.args.blocks in
    let joined = c.loop-block.joined in
    let other = c.in_ok-join_block.field-0 in
    let rest = map block_value (into_iter_items c.next.new.self) in
    subst (λ bs. BlocksSaySame all (bs ++ rest)) (sym (ap (map block_value) c.in_ok-push.ensures.appended ∙ map-append block_value joined (other ∷ [])))
    (blocks_put all (map block_value joined) rest (block_value c.in-Some.block) (block_value other) c.in_ok-join_block.ensures
    (subst (λ items. BlocksSaySame all (map block_value joined ++ map block_value items)) c.in-Some.ensures.items c.loop-block.invariant))
