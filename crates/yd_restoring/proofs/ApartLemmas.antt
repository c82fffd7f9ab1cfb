-- Two lists of what is held have no unit in common.
use Rattle.std.proofs.Common.{◌≡◌, ◌≢◌, List, sym, ap, ◌∙◌, subst}
use Rattle.yd_words.specs.Member.{IsIn}
use Rattle.yd_ops.specs.declared.lists.List.{List as DocList}
use Rattle.yd_ops.specs.Operation.{Operation}
use Rattle.yd_meaning.specs.Held.{standing}
use Rattle.yd_meaning.specs.Order.{list_of}
use Rattle.yd_editing.specs.Law.{IsHonestHeld, units_of}
use Rattle.yd_editing.proofs.RefusalLemmas.{id_in_map}
use Rattle.yd_editing.proofs.UnitLemmas.{in_list, unit_ids}

-- no unit of another list has the id of one of the list
pub lists_apart : (held : List Operation) → IsHonestHeld held → (name other : DocList) → other ≢ name → (o p : Operation) → IsIn o (units_of held other) →
    IsIn p (units_of held name) → p.id ≢ o.id
lists_apart held is name other differ o p i j e = differ (sym (list_is other o i) ∙ ap (list_of (standing held)) (sym e) ∙ list_is name p j)
  where
    list_is : (list : DocList) (q : Operation) → IsIn q (units_of held list) → list_of (standing held) q.id ≡ list
    list_is list q k = ((in_list held is list q.id).0 (subst (λ ids. IsIn q.id ids) (unit_ids held is list) (id_in_map (units_of held list) q k))).1
