use Rattle.std.proofs.Common.{◌≡◌, ◌≤◌, ◌-◌, Some, length}
use Rattle.std.specs.Prelude.{slice_get}
use Rattle.yd_ids.specs.declared.id.Id.{Id}
use Rattle.yd_honesty.specs.Judging.{NonePartsBefore}
use Rattle.yd_honesty.proofs.judging.is_parted.Given as goal

abbrev pub decreases-loop-place : goal.decreases-loop-place
decreases-loop-place l = l.end - l.place

abbrev pub invariant-loop-place : goal.invariant-loop-place
invariant-loop-place l = record {
  within : l.place ≤ length l.list.ids.items;
  none : (x : Id) → slice_get l.list.ids.items l.at ≡ Some x → NonePartsBefore l.received l.list.ids.items l.list.is_strict l.list.cells.items x l.left l.right l.place;
}
