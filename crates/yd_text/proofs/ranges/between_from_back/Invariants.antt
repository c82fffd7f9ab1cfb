use Rattle.std.proofs.Common.{◌≡◌, ◌⊎◌, ◌↔◌, take, drop, length}
use Rattle.yd_words.specs.Member.{IsIn}
use Rattle.yd_ids.specs.declared.id.Id.{Id}
use Rattle.yd_ids.specs.Set.{HasId, AreMaximal}
use Rattle.yd_state.specs.Lent.{units_left}
use Rattle.yd_doc.specs.Counted.{counted_ids}
use Rattle.yd_text.proofs.ranges.between_from_back.Given as goal

-- so many are left, and what is had with what is wanted of them is what is wanted of all
abbrev pub invariant-loop-piece : goal.invariant-loop-piece
invariant-loop-piece l = record {
  maximal : AreMaximal l.ids;
  end_is : l.end ≡ length (counted_ids (units_left l.view));
  ids : (x : Id) → (HasId l.ids x ⊎ IsIn x (take l.range.len (drop l.range.index (counted_ids (units_left l.view)))))
      ↔ IsIn x (take l.range.len (drop l.range.index (counted_ids (units_left l.initial.view))));
}

abbrev pub decreases-loop-piece : goal.decreases-loop-piece
decreases-loop-piece l = length (units_left l.view)
