use Rattle.std.proofs.Common.{List, ◌++◌, ◌∷◌, [], sym, ap₂, ◌∙◌}
use Rattle.std.proofs.lemmas.List.{map_more}
use Rattle.yd_ids.specs.declared.id.Id.{Id}
use Rattle.yd_order.specs.Linking.{id_at}
use Rattle.yd_order.proofs.LinkedLemmas.{id_read}
use Rattle.yd_order.proofs.arranging.ids_at.Goals as goal

pub loop-at-preserved : goal.loop-at-preserved
loop-at-preserved c =
    c.in_ok-push.ensures.items
    ∙ ap₂ (λ (ids : List Id) (id : Id). ids ++ id ∷ []) c.loop-at.invariant
    (id_read c.args.rows.now _ _ (c.requires c.loop-at.at-index c.loop-at-test.true))
    ∙ sym (map_more (id_at c.args.rows.now) c.args.places.now c.loop-at.at-index 0 c.loop-at-test.true)
