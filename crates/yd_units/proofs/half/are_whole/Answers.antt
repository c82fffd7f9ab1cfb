use Rattle.std.proofs.Common.{◌≡◌, ◌↔◌, Bool, true, false, not, IsTrue, refl}
use mathlib.Core.Bool.{beq}
use Rattle.yd_units.specs.Half.{IsHigh, IsWhole}
use Rattle.yd_units.proofs.HalfLemmas.{whole_after, after_whole, walk_more, walk_end}
use Rattle.yd_units.proofs.half.are_whole.Goals as goal

-- two tests with one answer are of facts that hold together
same_answer : {A B : Type 0} (p q : Bool) → not (beq p q) ≡ false → (IsTrue p ↔ A) → (IsTrue q ↔ B) → A ↔ B
same_answer true true e f g = (λ a. g.0 refl, λ b. f.0 refl)
same_answer true false e f g = absurd cc
same_answer false true e f g = absurd cc
same_answer false false e f g = (λ a. absurd (let h = f.1 a in cc), λ b. absurd (let h = g.1 b in cc))

fails : {A : Type 0} (p : Bool) → (IsTrue p ↔ A) → IsTrue (not p) ↔ ¬ A
fails true f = (λ e. absurd cc, λ never. absurd (never (f.0 refl)))
fails false f = (λ e a. absurd (let h = f.1 a in cc), λ never. refl)

pub loop-i-init : goal.loop-i-init
loop-i-init c = (whole_after c.args.units.now, after_whole c.args.units.now)

pub loop-i-preserved : goal.loop-i-preserved
loop-i-preserved c =
    let us = c.args.units.now in
    walk_more (IsWhole us) us c.loop-i.behind c.loop-i.i c.loop-i-test.true c.loop-i.invariant
    (same_answer c.is_high.result c.is_low.result c.if-is_high-is_low.false c.is_high.ensures c.is_low.ensures)

pub returns-clause-whole : goal.returns-clause-whole
returns-clause-whole c =
    let us = c.args.units.now in
    let ends = walk_end (IsWhole us) us c.loop-i.behind c.loop-i.i c.loop-i-test.false c.loop-i.invariant in
    let test = fails {A = IsHigh c.loop-i.behind} c.is_high-2.result c.is_high-2.ensures in
    (λ e. ends.1 (test.0 e), λ w. test.1 (ends.0 w))
