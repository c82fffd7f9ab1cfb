use Rattle.std.proofs.Common.{inr, map, ap, ◌∙◌}
use Rattle.yd_value.specs.View.{shown_tree, shown_fields}
use Rattle.yd_modes.specs.Marks.{marks_fields}
use Rattle.yd_modes.specs.Gathering.{made}
use Rattle.yd_modes.proofs.GatheringLemmas.{valued, valued_settled, made-last}
use Rattle.yd_modes.proofs.gathering.Gathering.take_value.Goals as goal

pub returns : goal.returns
returns c = λ way show content role shows. record {
  pieces = λ us. valued way show c.args.self.now c.flush.new.self c.close.new.self c.args.id content (shown_tree c.args.value) (shown_fields c.in_ok-attributes.attributes) (map made c.push.new.self.items)
      c.in_ok-flush.ensures c.in_ok-close.ensures
      (ap (map made) c.in_ok-push.ensures.items ∙ made-last c.close.new.self.pieces.items (record { insert = c.args.value; attributes = c.in_ok-attributes.attributes }))
      (c.in_ok-attributes.ensures ∙ ap marks_fields c.deref.ensures.value) role shows us;
  settled = inr (valued_settled c.flush.new.self c.close.new.self c.args.self.now c.args.id c.in_ok-flush.ensures c.in_ok-close.ensures);
}
