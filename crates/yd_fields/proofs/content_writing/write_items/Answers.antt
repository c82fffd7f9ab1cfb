use Rattle.yd_fields.proofs.WritableLemmas.{valid_tree_at}
use Rattle.yd_fields.proofs.content_writing.write_items.Goals as goal

pub put_any-requires : goal.put_any-requires
put_any-requires g c = valid_tree_at c.args.items.now c.loop-item.item-index c.item-item.result c.loop-item-test.true c.item-item.is c.requires
