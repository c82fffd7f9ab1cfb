use Rattle.std.proofs.Common.{◌↔◌, Bool, true, false, IsTrue, inl, refl}
use Rattle.std.specs.Bool.{OnTrue, OnFalse}
use Rattle.yd_ids.proofs.SpanLemmas.{by_flipped}
use Rattle.yd_ids.proofs.UnitingLemmas.{begins_first, alone_first, other_first}
use Rattle.yd_ids.proofs.uniting.is_left_next.Goals as goal

on_true : {P A : Type 0} (t : Bool) → (IsTrue t ↔ P) → (P → A) → OnTrue t A
on_true true h f = f (h.0 refl)
on_true false h f = tt

on_false : {P A : Type 0} (t : Bool) → (IsTrue t ↔ P) → ((P → ⊥) → A) → OnFalse t A
on_false true h f = tt
on_false false h f = f (λ p. let e = h.1 p in absurd cc)

pub returns-in-Some-Some-clause-left_first : goal.returns-in-Some-Some-clause-left_first
returns-in-Some-Some-clause-left_first c =
    on_true c.begins_by.result c.begins_by.ensures (λ p. begins_first c.args.left.now c.args.right.now c.in-Some-Some.span.now c.in-Some-Some.other.now c.in-Some-Some.ensures c.in-Some-Some.ensures' c.requires.right p)

pub returns-in-Some-Some-clause-right_first : goal.returns-in-Some-Some-clause-right_first
returns-in-Some-Some-clause-right_first c =
    on_false c.begins_by.result c.begins_by.ensures (λ f. inl (begins_first c.args.right.now c.args.left.now c.in-Some-Some.other.now c.in-Some-Some.span.now c.in-Some-Some.ensures' c.in-Some-Some.ensures c.requires.left
    (by_flipped c.in-Some-Some.span.now c.in-Some-Some.other.now f)))

pub returns-in-Some-None-clause-left_first : goal.returns-in-Some-None-clause-left_first
returns-in-Some-None-clause-left_first c = alone_first c.args.left.now c.args.right.now c.in-Some-None.field-0-0.now c.in-Some-None.ensures c.in-Some-None.ensures'

pub returns-in-None-default-clause-right_first : goal.returns-in-None-default-clause-right_first
returns-in-None-default-clause-right_first c = other_first c.args.left.now c.args.right.now c.in-None-default.ensures
