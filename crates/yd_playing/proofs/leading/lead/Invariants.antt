use Rattle.std.proofs.Common.{◌≡◌, ◌+◌, length}
use Rattle.std.specs.Vec.Iter.{into_iter_items, into_iter_len}
use Rattle.yd_ops.specs.Valid.{IsParent}
use Rattle.yd_ops.specs.declared.lists.Parent.TheVariants.{Root}
use Rattle.yd_doc.specs.Editing.{own_basis}
use Rattle.yd_playing.specs.Led.{led_from}
use Rattle.yd_playing.proofs.leading.lead.Given as goal

-- where the steps that are left lead, all of them lead
abbrev pub invariant-loop-step : goal.invariant-loop-step
invariant-loop-step l = record {
  leads : led_from (own_basis l.replica) l.number l.parent (into_iter_items l.step-iterator) ≡ led_from (own_basis l.replica) 0 (Root l.fn.target.root) l.fn.target.steps.items;
  number : l.number + into_iter_len l.step-iterator ≡ length l.fn.target.steps.items;
  left : into_iter_len l.step-iterator ≡ length (into_iter_items l.step-iterator);
  in_range : IsParent l.parent;
}
