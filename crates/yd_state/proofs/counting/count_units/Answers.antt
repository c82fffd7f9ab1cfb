use Rattle.std.proofs.Common.{◌≡◌, ◌∙◌, [], ◌∷◌, ap, arith, refl}
use Rattle.std.specs.Prelude.{if◌then◌else◌}
use Rattle.std.specs.List.{sum_by}
use Rattle.std.proofs.lemmas.List.{length-append}
use Rattle.std.proofs.lemmas.List.Sums.{sum_by_push}
use Rattle.yd_entries.specs.declared.entry.Entry.{Entry}
use Rattle.yd_entries.specs.declared.place.Place.{Place}
use Rattle.yd_entries.specs.declared.place.Place.TheVariants.{Waits, Lost, In}
use Rattle.yd_entries.specs.Entries.{is_held_at}
use Rattle.yd_held.proofs.WalkLemmas.{one_more, all_came, fewer_came}
use Rattle.yd_state.specs.Waiting.{waiting_units}
use Rattle.yd_state.proofs.counting.count_units.Goals as goal

-- the units of an entry that waits are counted, and those of another one not
units_wait : (t : Entry) → t.place ≡ Waits → waiting_units t ≡ t.len
units_wait t e = ap (λ p. if is_held_at p then 0 else t.len) e

units_held : (t : Entry) → (t.place ≡ Waits → ⊥) → waiting_units t ≡ 0
units_held t other = go t.place refl
  where
    go : (p : Place) → t.place ≡ p → (if is_held_at p then 0 else t.len) ≡ 0
    go Waits e = absurd (other e)
    go Lost e = refl
    go (In n) e = refl

pub loop-units-init : goal.loop-units-init
loop-units-init c = record {
  all = c.into_iter-units-iterator.ensures.into_iter_gives ∙ c.iter-units-items.ensures;
  counted = refl;
  few = omega arith;
}

pub overflow_add-count : goal.overflow_add-count
overflow_add-count c = omega (
  arith,
  c.loop-units.invariant.few,
  fewer_came c.args.entries.now c.loop-units.yielded c.loop-units.units-iterator c.next.new.self c.in-Some.units c.loop-units.invariant.all c.in-Some.ensures.steps,
  c.len-count.ensures,
  c.len-count.type_inv,
)

pub loop-units-preserved-in-Waits : goal.loop-units-preserved-in-Waits
loop-units-preserved-in-Waits c = record {
  all = one_more c.args.entries.now c.loop-units.yielded c.loop-units.units-iterator c.next.new.self c.in-Some.units c.loop-units.invariant.all c.in-Some.ensures.steps;
  counted = omega (arith, c.loop-units.invariant.counted, sum_by_push waiting_units c.loop-units.yielded c.in-Some.units, units_wait c.in-Some.units c.in-Waits.is);
  few = omega (arith, c.loop-units.invariant.few, length-append c.loop-units.yielded (c.in-Some.units ∷ []));
}

pub loop-units-preserved : goal.loop-units-preserved
loop-units-preserved c = record {
  all = one_more c.args.entries.now c.loop-units.yielded c.loop-units.units-iterator c.next.new.self c.in-Some.units c.loop-units.invariant.all c.in-Some.ensures.steps;
  counted = omega (arith, c.loop-units.invariant.counted, sum_by_push waiting_units c.loop-units.yielded c.in-Some.units, units_held c.in-Some.units c.in_default.not-Waits);
  few = omega (arith, c.loop-units.invariant.few, length-append c.loop-units.yielded (c.in-Some.units ∷ []));
}

pub returns : goal.returns
returns c = c.loop-units.invariant.counted
    ∙ ap (sum_by waiting_units) (all_came c.args.entries.now c.loop-units.yielded c.loop-units.units-iterator c.loop-units.invariant.all c.in-None.ensures.steps.0)
