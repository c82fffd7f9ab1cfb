use Rattle.std.proofs.Common.{◌∙◌, ◌++◌, ◌∷◌, [], take, sym, ap, subst}
use Rattle.yd_names.specs.Items.{code_of_item, HasItems, IsKnown}
use Rattle.yd_names.specs.Parents.{AreOwned}
use Rattle.yd_names.proofs.CodesLemmas.{take_whole}
use Rattle.yd_names.proofs.ItemsLemmas.{pushed_items, on_failure, on_success}
use Rattle.yd_names.proofs.item_names.ItemNames.push.Goals as goal

pub invariant_of-self-then-is_err : goal.invariant_of-self-then-is_err
invariant_of-self-then-is_err c = (
  subst (λ names. HasItems names (IsKnown c.add.new.self.rising.items c.add.new.self.others)) (sym (on_failure c.push-2.result (sym c.if-is_err.ensures.value) c.push-2.ensures.unchanged))
      (λ item h. c.add.ensures.kept (code_of_item item) (c.self.invariant.0 item h)),
  c.add.ensures.rising,
  subst (λ names. AreOwned names c.truncate.new.self.groups c.truncate.new.self.crowd.items)
      (ap (λ names. take c.len-len.result (names ++ c.args.name ∷ [])) c.as_slice.ensures ∙ ap (λ len. take len (c.self.inside.names ++ c.args.name ∷ [])) c.len-len.ensures
      ∙ take_whole c.args.name c.self.inside.names ∙ sym (on_failure c.push-2.result (sym c.if-is_err.ensures.value) c.push-2.ensures.unchanged))
      (c.truncate.ensures (c.as_slice.result.now ++ c.args.name ∷ []) c.in_ok-push.ensures.pushed),
)

pub invariant_of-self-else-is_err : goal.invariant_of-self-else-is_err
invariant_of-self-else-is_err c = (
  pushed_items c.self.inside.names c.push-2.new.self c.args.name (IsKnown c.self.inside.items.rising.items c.self.inside.items.others)
      (IsKnown c.add.new.self.rising.items c.add.new.self.others) (on_success c.push-2.result c.if-is_err.ensures.negation c.push-2.ensures.pushed)
      c.self.invariant.0 c.add.ensures.kept c.in_ok-add.ensures.added,
  c.add.ensures.rising,
  subst (λ names. AreOwned names c.push.new.self.groups c.push.new.self.crowd.items)
      (ap (λ names. names ++ c.args.name ∷ []) c.as_slice.ensures ∙ sym (on_success c.push-2.result c.if-is_err.ensures.negation c.push-2.ensures.pushed))
      c.in_ok-push.ensures.pushed,
)
