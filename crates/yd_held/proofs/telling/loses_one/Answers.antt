use Rattle.std.proofs.Common.{◌≡◌, false, subst, sym}
use Rattle.yd_words.proofs.TestLemmas.{hold_both}
use Rattle.yd_held.specs.Telling.{is_gone_listed}
use Rattle.yd_words.specs.Each.{Each}
use Rattle.yd_held.proofs.TellingLemmas.{fails_first, fails_second}
use Rattle.yd_held.proofs.WalkLemmas.{one_more, each_came, comes_of, all_came}
use Rattle.yd_held.proofs.telling.loses_one.Goals.{else-entry-via-then-entry+else-is_listed, else-entry-via-else-entry}
use Rattle.yd_held.proofs.telling.loses_one.Goals as goal

pub returns-then-is_listed-clause-one : goal.returns-then-is_listed-clause-one
returns-then-is_listed-clause-one c = (
  c.in-Some.entry,
  comes_of c.args.entries.now c.loop-entry.yielded c.loop-entry.entry-iterator c.next.new.self c.in-Some.entry c.loop-entry.invariant.all c.in-Some.ensures.steps,
  hold_both _ _ c.if-entry.true (sym c.if-is_listed.ensures),
)

pub loop-entry-preserved : goal.loop-entry-preserved
loop-entry-preserved c = record {
  all = one_more c.args.entries.now c.loop-entry.yielded c.loop-entry.entry-iterator c.next.new.self c.in-Some.entry c.loop-entry.invariant.all c.in-Some.ensures.steps;
  none = each_came (λ t. is_gone_listed t ≡ false) c.loop-entry.yielded c.in-Some.entry c.loop-entry.invariant.none (elim c.else-entry.branch [
    | else-entry-via-then-entry+else-is_listed w ↦ fails_second _ _ w.if-is_listed.ensures
    | else-entry-via-else-entry w ↦ fails_first _ _ w.if-entry.false
  ]);
}

pub returns-clause-none : goal.returns-clause-none
returns-clause-none c = subst (Each (λ t. is_gone_listed t ≡ false)) (all_came c.args.entries.now c.loop-entry.yielded _ c.loop-entry.invariant.all c.in-None.ensures.steps.0)
    c.loop-entry.invariant.none
