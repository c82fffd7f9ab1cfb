use Rattle.std.proofs.Common.{◌↔◌, ◌&&◌, List, [], false, refl, ap, subst}
use Rattle.yd_words.specs.Member.{IsIn}
use Rattle.yd_ids.specs.Set.{HasId}
use Rattle.yd_ops.specs.View.{content_value}
use Rattle.yd_state.specs.Lent.{Lent, units_left}
use Rattle.yd_doc.specs.Kept.{own_document}
use Rattle.yd_doc.proofs.CountedLemmas.{fewer_left}
use Rattle.yd_text.specs.Marks.{are_marks_of, marks_up_to}
use Rattle.yd_text.proofs.MarkLemmas.{marks_passed, marks_end, marks_go_on, none_got, mark_had, all_had, marks_set}
use Rattle.yd_text.proofs.marks.marks_between.Goals as goal

pub loop-piece-smaller-then-piece : goal.loop-piece-smaller-then-piece
loop-piece-smaller-then-piece c = fewer_left c.in-Some.piece (units_left c.loop-piece.view) (units_left c.next.new.self) c.in-Some.ensures.some c.in-Some.ensures.within c.in-Some.ensures.lends

pub loop-piece-smaller : goal.loop-piece-smaller
loop-piece-smaller c = fewer_left c.in-Some.piece (units_left c.loop-piece.view) (units_left c.next.new.self) c.in-Some.ensures.some c.in-Some.ensures.within c.in-Some.ensures.lends

pub loop-piece-preserved-then-piece : goal.loop-piece-preserved-then-piece
loop-piece-preserved-then-piece c =
    let old = units_left c.loop-piece.view in
    let new = units_left c.next.new.self in
    let key = c.args.key.now in
    record {
      maximal = c.loop-piece.invariant.maximal;
      ids = λ x. mark_had false c.in-Some.piece.id c.loop-piece.ids c.loop-piece.ids (marks_up_to key c.args.first c.args.last c.loop-piece.came old)
          (marks_up_to key c.args.first c.args.last c.loop-piece.came new) (marks_passed key c.args.first c.args.last c.in-Some.piece c.if-piece.true c.loop-piece.came old new c.in-Some.ensures.lends)
          (none_got c.in-Some.piece.id c.loop-piece.ids false refl) x (IsIn x (marks_up_to key c.args.first c.args.last false (units_left c.list-view.result))) (c.loop-piece.invariant.ids x);
    }

pub loop-piece-preserved : goal.loop-piece-preserved
loop-piece-preserved c =
    let old = units_left c.loop-piece.view in
    let new = units_left c.next.new.self in
    let key = c.args.key.now in
    let piece = c.in-Some.piece in
    record {
      maximal = c.in_ok-add_mark.ensures.maximal;
      ids = λ x. mark_had (c.loop-piece.came && are_marks_of key (content_value piece.content.now)) piece.id c.loop-piece.ids c.add_mark.new.ids
          (marks_up_to key c.args.first c.args.last c.loop-piece.came old) (marks_up_to key c.args.first c.args.last c.has_come-came.result new)
          (marks_go_on key c.args.first c.args.last piece c.in-Some.ensures.within c.in-Some.ensures.some c.if-piece.false c.has_id.result c.has_id.ensures c.if-has_id.false
          c.loop-piece.came c.has_come-came.result c.has_come-came.ensures old new c.in-Some.ensures.lends)
          c.in_ok-add_mark.ensures.added x (IsIn x (marks_up_to key c.args.first c.args.last false (units_left c.list-view.result))) (c.loop-piece.invariant.ids x);
    }

pub returns-then-has_id : goal.returns-then-has_id
returns-then-has_id c =
    let old = units_left c.loop-piece.view in
    let new = units_left c.next.new.self in
    let key = c.args.key.now in
    let piece = c.in-Some.piece in
    let document = own_document c.args.replica.now in
    marks_set c.add_mark.new.ids document c.args.list.now key c.args.first c.args.last c.in_ok-add_mark.ensures.maximal
    (λ x. subst (λ (us : List Lent). HasId c.add_mark.new.ids x ↔ IsIn x (marks_up_to key c.args.first c.args.last false us)) c.list-view.ensures.units
    (all_had c.add_mark.new.ids [] refl x (IsIn x (marks_up_to key c.args.first c.args.last false (units_left c.list-view.result)))
    (mark_had (c.loop-piece.came && are_marks_of key (content_value piece.content.now)) piece.id c.loop-piece.ids c.add_mark.new.ids
    (marks_up_to key c.args.first c.args.last c.loop-piece.came old) []
    (marks_end key c.args.first c.args.last piece c.in-Some.ensures.within c.in-Some.ensures.some c.if-piece.false c.has_id.result c.has_id.ensures c.if-has_id.true
    c.loop-piece.came old new c.in-Some.ensures.lends)
    c.in_ok-add_mark.ensures.added x (IsIn x (marks_up_to key c.args.first c.args.last false (units_left c.list-view.result))) (c.loop-piece.invariant.ids x))))

pub returns : goal.returns
returns c =
    let key = c.args.key.now in
    let document = own_document c.args.replica.now in
    marks_set c.loop-piece.ids document c.args.list.now key c.args.first c.args.last c.loop-piece.invariant.maximal
    (λ x. subst (λ (us : List Lent). HasId c.loop-piece.ids x ↔ IsIn x (marks_up_to key c.args.first c.args.last false us)) c.list-view.ensures.units
    (all_had c.loop-piece.ids (marks_up_to key c.args.first c.args.last c.loop-piece.came (units_left c.loop-piece.view))
    (ap (marks_up_to key c.args.first c.args.last c.loop-piece.came) c.in_default.ensures.lends) x
    (IsIn x (marks_up_to key c.args.first c.args.last false (units_left c.list-view.result))) (c.loop-piece.invariant.ids x)))
