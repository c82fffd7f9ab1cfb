use Rattle.std.proofs.Common.{◌≡◌, ◌+◌, ◌≤◌, ◌∙◌, sym, ap, subst, arith}
use Rattle.std.proofs.lemmas.List.{length-map}
use Rattle.yd_scan.specs.declared.stretch.Stretch.{Stretch}
use Rattle.yd_scan.specs.Stretches.{stretch_at}
use Rattle.yd_arena.specs.Arena.{runs_of}
use Rattle.yd_arena.specs.Lists.{Linked}
use Rattle.yd_arena.specs.Marks.{IsBorder}
use Rattle.yd_arena.proofs.BorderLemmas.{IsNext, next_run, ends_by, next_border}
use Rattle.yd_store.specs.Contents.{told, told_of}
use Rattle.yd_store.specs.Lowering.{LowersClocks}
use Rattle.yd_store.proofs.LoweringLemmas.{lowers_more}
use Rattle.yd_store.proofs.contents.Contents.lower.Goals as goal

pub loop-left-preserved : goal.loop-left-preserved
loop-left-preserved c =
    let lines = c.args.arena.now.lines in
    let runs = runs_of c.args.arena.now in
    let client = c.args.span.client.0 in
    let clock = c.loop-left.clock in
    let place = c.in-Some.found.place in
    let old = told_of c.args.self.now in
    let now = told_of c.loop-left.self in
    let next : IsNext runs client clock place = next_run runs c.args.span.client clock place c.in-Some.found.before c.loop-left.invariant.border c.in-Some.ensures.found in
    let len : c.stretch-len.result.len ≡ (stretch_at runs place).len =
    ap (λ (r : Stretch). r.len) c.stretch-len.ensures ∙ ap (λ (it : Linked). (stretch_at it.stretches place).len) c.lists.ensures.value in
    let by : clock + (stretch_at runs place).len ≤ c.args.span.clock + c.args.span.len =
    ends_by runs client clock (c.args.span.clock + c.args.span.len) place next c.requires.back (omega (arith, c.loop-left.invariant.sum, c.loop-left-test.true)) in
    record {
      low = omega (arith, c.loop-left.invariant.low);
      sum = omega (arith, c.loop-left.invariant.sum, len, by);
      border = subst (λ n. IsBorder runs client (clock + n)) (sym len) (next_border lines runs c.find.ensures.arena client place clock next.within next.own next.begins next.filled);
      each = c.lower_run.ensures.len ∙ c.loop-left.invariant.each;
      lowered = subst (λ n. LowersClocks runs c.args.level old (told_of c.lower_run.new.self) client c.args.span.clock (clock + n)) (sym len)
          (subst (λ ts. LowersClocks runs c.args.level old ts client c.args.span.clock (clock + (stretch_at runs place).len)) (sym c.lower_run.ensures.told)
          (lowers_more lines runs c.args.level old now client c.args.span.clock clock place c.find.ensures.arena c.loop-left.invariant.lowered (length-map c.loop-left.self.rows told ∙ c.loop-left.invariant.each) c.loop-left.invariant.low next.within next.own next.begins next.filled));
      room = c.lower_run.ensures.room ∙ c.loop-left.invariant.room;
    }
