use Rattle.std.proofs.Common.{◌⊎◌, ◌↔◌, take, drop, length}
use Rattle.yd_words.specs.Member.{IsIn}
use Rattle.yd_ids.specs.declared.id.Id.{Id}
use Rattle.yd_ids.specs.Set.{HasId, AreMaximal}
use Rattle.yd_state.specs.Lent.{units_left}
use Rattle.yd_doc.specs.Counted.{counted_ids}
use Rattle.yd_text.proofs.ranges.between_from_front.Given as goal

-- what is had and what is still wanted is what is wanted of all
abbrev pub invariant-loop-piece : goal.invariant-loop-piece
invariant-loop-piece l = record {
  maximal : AreMaximal l.ids;
  ids : (x : Id) → (HasId l.ids x ⊎ IsIn x (take l.want.len (drop l.want.skip (counted_ids (units_left l.view)))))
      ↔ IsIn x (take l.len (drop l.index (counted_ids (units_left l.initial.view))));
}

abbrev pub decreases-loop-piece : goal.decreases-loop-piece
decreases-loop-piece l = length (units_left l.view)
