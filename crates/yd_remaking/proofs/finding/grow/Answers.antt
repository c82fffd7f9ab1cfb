use Rattle.std.proofs.Common.{◌≡◌, ◌++◌, [], length, sym, ap, ◌∙◌, subst, arith, true≢false, append-nil}
use Rattle.yd_state.specs.Lent.{units_left}
use Rattle.yd_copying.specs.Piece.{pieces_units}
use Rattle.yd_copying.specs.declared.pieces.Piece.{Piece}
use Rattle.yd_remaking.specs.Group.{row_behind}
use Rattle.yd_remaking.specs.Parts.{contents_of}
use Rattle.yd_remaking.specs.Rows.{HoldValid}
use Rattle.yd_remaking.proofs.GroupLemmas.{row_none}
use Rattle.yd_remaking.proofs.FoundLemmas.{fewer, stopped_there, row_pushed, row_counted, valid_left, grown_pieces}
use Rattle.yd_remaking.proofs.finding.grow.Goals as goal
use Rattle.yd_remaking.proofs.finding.grow.Goals.{Joined-then-left-eq0, then-left-eq0-via-then-left-eq0, then-left-eq0-via-else-left-eq0+then-not-goes_on}

stops : (c : Joined-then-left-eq0) → row_behind c.args.kind c.loop-next.next c.loop-next.left (units_left c.loop-next.view) ≡ []
stops c = elim c.then-left-eq0.branch [
  | then-left-eq0-via-then-left-eq0 w ↦ row_none c.args.kind c.loop-next.next c.loop-next.left (units_left c.loop-next.view) w.if-left-eq0.true
  | then-left-eq0-via-else-left-eq0+then-not-goes_on w ↦
      stopped_there c.in-Some.piece (units_left c.loop-next.view) (units_left c.next.new.self) c.args.kind c.loop-next.next c.loop-next.left c.in-Some.ensures.some c.in-Some.ensures.within c.in-Some.ensures.lends
      (λ on. true≢false (sym (w.goes_on.ensures.1 on) ∙ w.if-not-goes_on.true))
]

pub returns-then-left-eq0-clause-units : goal.returns-then-left-eq0-clause-units
returns-then-left-eq0-clause-units c = sym (append-nil (pieces_units c.loop-next.pieces.items)) ∙ ap (λ ls. pieces_units c.loop-next.pieces.items ++ contents_of ls) (sym (stops c)) ∙ c.loop-next.invariant.units

pub returns-then-left-eq0-clause-len : goal.returns-then-left-eq0-clause-len
returns-then-left-eq0-clause-len c = omega (arith, c.loop-next.invariant.len, ap length (stops c))

pub loop-next-smaller : goal.loop-next-smaller
loop-next-smaller c = fewer c.in-Some.piece (units_left c.loop-next.view) (units_left c.next.new.self) c.in-Some.ensures.some c.in-Some.ensures.within c.in-Some.ensures.lends

pub loop-next-preserved : goal.loop-next-preserved
loop-next-preserved c =
    let piece = c.in-Some.piece in
    let old = units_left c.loop-next.view in
    let new = units_left c.next.new.self in
    let left = c.loop-next.left in
    let on = c.goes_on.ensures.0 c.if-not-goes_on.false in
    let valid = subst HoldValid c.in-Some.ensures.lends c.loop-next.invariant.valid in
    let counted = row_counted piece old new c.args.kind c.loop-next.next left c.part_of-part.result c.in-Some.ensures.within c.in-Some.ensures.lends on c.part_of-part.ensures in
    let long = ap (λ (p : Piece). p.len) c.part_of-part.ensures in
    record {
      left_most = omega (arith, c.loop-next.invariant.left_most);
      units = row_pushed piece old new c.args.kind c.loop-next.next left c.loop-next.pieces.items c.push.new.self.items c.part_of-part.result c.in-Some.ensures.within c.in-Some.ensures.lends on
          c.part_of-part.ensures c.in_ok-push.ensures.items ∙ c.loop-next.invariant.units;
      len = omega (arith, c.loop-next.invariant.len, c.loop-next.invariant.left_most, counted, long);
      pieces = grown_pieces piece c.args.kind c.loop-next.next left new c.loop-next.pieces.items c.push.new.self.items c.part_of-part.result c.in-Some.ensures.within c.in-Some.ensures.some c.if-left-eq0.false
          on valid c.part_of-part.ensures c.in_ok-push.ensures.items c.loop-next.invariant.pieces;
      longer = omega (arith, c.loop-next.invariant.longer, c.in_ok-push.ensures.len);
      valid = valid_left piece new valid;
    }
