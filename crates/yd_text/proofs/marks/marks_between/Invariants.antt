use Rattle.std.proofs.Common.{◌⊎◌, ◌↔◌, false, length}
use Rattle.yd_words.specs.Member.{IsIn}
use Rattle.yd_ids.specs.declared.id.Id.{Id}
use Rattle.yd_ids.specs.Set.{HasId, AreMaximal}
use Rattle.yd_state.specs.Lent.{units_left}
use Rattle.yd_text.specs.Marks.{marks_up_to}
use Rattle.yd_text.proofs.marks.marks_between.Given as goal

-- the marks that are had and those that come are all
abbrev pub invariant-loop-piece : goal.invariant-loop-piece
invariant-loop-piece l = record {
  maximal : AreMaximal l.ids;
  ids : (x : Id) → (HasId l.ids x ⊎ IsIn x (marks_up_to l.key l.first l.last l.came (units_left l.view)))
      ↔ IsIn x (marks_up_to l.key l.first l.last false (units_left l.initial.view));
}

abbrev pub decreases-loop-piece : goal.decreases-loop-piece
decreases-loop-piece l = length (units_left l.view)
