use Rattle.std.proofs.Common.{◌≡◌, map, take, length}
use Rattle.yd_names.specs.Slots.{slot_of, AreSlots}
use Rattle.yd_names.proofs.codes.in_slots.Given as goal

abbrev pub invariant-loop-code : goal.invariant-loop-code
invariant-loop-code l = AreSlots (map (slot_of l.size) (take l.code-index l.codes)) l.slots.heads.items l.slots.before.items × (length l.slots.heads.items ≡ l.size)
