use Rattle.std.proofs.Common.{◌≡◌, ◌+◌, ◌≤◌, ◌∙◌, sym, ap, subst, arith, length}
use Rattle.yd_scan.specs.declared.stretch.Stretch.{Stretch}
use Rattle.yd_scan.specs.Stretches.{stretch_at}
use Rattle.yd_arena.specs.Arena.{runs_of}
use Rattle.yd_arena.specs.Lists.{Linked}
use Rattle.yd_arena.specs.Marks.{IsBorder, MarksClocks, AreCounted}
use Rattle.yd_arena.proofs.BorderLemmas.{IsNext, next_run, ends_by, next_border}
use Rattle.yd_arena.proofs.MarkLemmas.{marks_more}
use Rattle.yd_arena.proofs.marks.Marks.mark_deleted.Goals as goal

pub loop-left-preserved : goal.loop-left-preserved
loop-left-preserved c =
    let lines = c.args.arena.now.lines in
    let runs = runs_of c.args.arena.now in
    let client = c.args.span.client.0 in
    let clock = c.loop-left.clock in
    let place = c.in-Some.found.place in
    let next : IsNext runs client clock place = next_run runs c.args.span.client clock place c.in-Some.found.before c.loop-left.invariant.border c.in-Some.ensures.found in
    let len : c.stretch-len.result.len ≡ (stretch_at runs place).len =
    ap (λ (r : Stretch). r.len) c.stretch-len.ensures ∙ ap (λ (it : Linked). (stretch_at it.stretches place).len) c.lists-in-loop-left.ensures.value in
    let by : clock + (stretch_at runs place).len ≤ c.args.span.clock + c.args.span.len =
    ends_by runs client clock (c.args.span.clock + c.args.span.len) place next c.requires.back (omega (arith, c.loop-left.invariant.sum, c.loop-left-test.true)) in
    let each : length c.loop-left.self.rows ≡ length runs = c.loop-left.invariant.counted.each in
    record {
      low = omega (arith, c.loop-left.invariant.low);
      sum = omega (arith, c.loop-left.invariant.sum, len, by);
      border = subst (λ n. IsBorder runs client (clock + n)) (sym len) (next_border lines runs c.find.ensures.arena client place clock next.within next.own next.begins next.filled);
      counted = subst (λ it. AreCounted it c.mark_run.new.self.rows c.mark_run.new.self.live) c.lists.ensures.value c.mark_run.ensures.counted;
      marked = subst (λ n. MarksClocks runs c.args.self.now.rows c.mark_run.new.self.rows client c.args.span.clock (clock + n)) (sym len)
          (subst (λ rows. MarksClocks runs c.args.self.now.rows rows client c.args.span.clock (clock + (stretch_at runs place).len)) (sym c.mark_run.ensures.rows)
          (marks_more lines runs c.args.self.now.rows c.loop-left.self.rows client c.args.span.clock clock place c.find.ensures.arena c.loop-left.invariant.marked each c.loop-left.invariant.low next.within next.own next.begins next.filled));
      room = c.mark_run.ensures.room ∙ c.loop-left.invariant.room;
    }
