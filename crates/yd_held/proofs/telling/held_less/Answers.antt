use Rattle.std.proofs.Common.{◌≡◌, ℕ, ◌+◌, ◌∙◌, Some, length, refl, ap, subst, sym, arith}
use Rattle.std.specs.Prelude.{slice_get}
use Rattle.std.specs.Global.{Vec}
use Rattle.std.proofs.lemmas.List.{length-append}
use Rattle.yd_held.specs.Telling.{AreHeldLess}
use Rattle.yd_held.proofs.TellingLemmas.{less_none, less_more, less_same}
use Rattle.yd_held.proofs.WalkLemmas.{one_more, all_came, comes_at, fewer_came}
use Rattle.yd_held.proofs.telling.held_less.Goals.{then-is_held_less+in_ok-push, else-is_held_less}
use Rattle.yd_held.proofs.telling.held_less.Goals as goal

pub loop-entry-init : goal.loop-entry-init
loop-entry-init c = record {
  all = c.into_iter-entry-iterator.ensures.into_iter_gives ∙ c.iter-entry-items.ensures;
  counted = refl;
  told = less_none c.args.from c.args.entries.now c.new-told.result.items c.new-told.ensures.items;
}

pub overflow_add-at : goal.overflow_add-at
overflow_add-at c = omega (
  arith,
  c.loop-entry.invariant.counted,
  fewer_came c.args.entries.now c.loop-entry.yielded c.loop-entry.entry-iterator c.next.new.self c.in-Some.entry c.loop-entry.invariant.all c.in-Some.ensures.steps,
  c.len-count.ensures,
  c.len-count.type_inv,
)

pub loop-entry-preserved : goal.loop-entry-preserved
loop-entry-preserved c =
    let here : slice_get c.args.entries.now c.loop-entry.at ≡ Some c.in-Some.entry = ap (slice_get c.args.entries.now) c.loop-entry.invariant.counted
    ∙ comes_at c.args.entries.now c.loop-entry.yielded c.loop-entry.entry-iterator c.next.new.self c.in-Some.entry c.loop-entry.invariant.all c.in-Some.ensures.steps in
    record {
      all = one_more c.args.entries.now c.loop-entry.yielded c.loop-entry.entry-iterator c.next.new.self c.in-Some.entry c.loop-entry.invariant.all c.in-Some.ensures.steps;
      counted = ap (λ n. n + 1) c.loop-entry.invariant.counted ∙ sym (length-append c.loop-entry.yielded _);
      told = elim c.if-is_held_less.branch [
        | then-is_held_less+in_ok-push w ↦ subst (λ (ns : Vec ℕ). AreHeldLess c.args.from c.args.entries.now (c.loop-entry.at + 1) ns.items) (sym w.told-is)
            (less_more c.args.from c.args.entries.now c.loop-entry.at c.loop-entry.told.items _ c.in-Some.entry here w.in_ok-push.ensures.items
            (sym c.is_held_less.ensures ∙ w.if-is_held_less.true) c.loop-entry.invariant.told)
        | else-is_held_less w ↦ subst (λ (ns : Vec ℕ). AreHeldLess c.args.from c.args.entries.now (c.loop-entry.at + 1) ns.items) (sym w.told-is)
            (less_same c.args.from c.args.entries.now c.loop-entry.at c.loop-entry.told.items c.in-Some.entry here (sym c.is_held_less.ensures ∙ w.if-is_held_less.false)
            c.loop-entry.invariant.told)
      ];
    }

pub returns : goal.returns
returns c = subst (λ n. AreHeldLess c.args.from c.args.entries.now n c.loop-entry.told.items)
    (c.loop-entry.invariant.counted ∙ ap length (all_came c.args.entries.now c.loop-entry.yielded _ c.loop-entry.invariant.all c.in-None.ensures.steps.0)) c.loop-entry.invariant.told
