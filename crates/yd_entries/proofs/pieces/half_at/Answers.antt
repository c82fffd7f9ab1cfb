use Rattle.std.proofs.Common.{◌≡◌, ℕ, List, Option}
use Rattle.yd_ids.specs.declared.id.Id.{Id}
use Rattle.yd_ops.specs.declared.lists.List.{List as DocList}
use Rattle.yd_ops.specs.Value.{RunValue, string}
use Rattle.yd_entries.proofs.pieces.half_at.Goals as goal

one_run : (id other_id : Id) (left other_left right : Option Id) (list other_list : Option DocList) (units others : List ℕ) → id ≡ other_id → left ≡ other_left → list ≡ other_list → units ≡ others →
    ◌≡◌ {A = RunValue} (record { id = id; left = left; right = right; list = list; content = string units }) (record { id = other_id; left = other_left; right = right; list = other_list; content = string others })
one_run id other_id left other_left right list other_list units others e f g h = λ i. record { id = e i; left = f i; right = right; list = g i; content = string (h i) }

pub returns : goal.returns
returns c = one_run c.id_at.result _ c.left_at.result _ c.args.run.now.right c.in_ok-list.list _ c.in_ok-units.units _ c.id_at.ensures c.left_at.ensures c.in_ok-list.ensures c.in_ok-units.ensures
