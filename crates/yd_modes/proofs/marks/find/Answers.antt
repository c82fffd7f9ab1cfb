use Rattle.std.proofs.Common.{◌≡◌, ◌+◌, suc, length, sym, ◌∙◌, subst, arith}
use Rattle.yd_modes.proofs.MarkLemmas.{AreOther, other_next, removed_at, none_removed}
use Rattle.yd_modes.proofs.marks.find.Goals as goal

pub returns-then-is_key-clause-found : goal.returns-then-is_key-clause-found
returns-then-is_key-clause-found c = removed_at c.args.key.now c.loop-i.i c.args.marks.now c.index-marks-i.result c.loop-i-test.true c.loop-i.invariant (sym c.is_key.ensures ∙ c.if-is_key.true)

pub loop-i-preserved : goal.loop-i-preserved
loop-i-preserved c =
    let one : suc c.loop-i.i ≡ c.loop-i.i + 1 = omega arith in
    subst (λ n. AreOther c.args.key.now n c.args.marks.now) one
    (other_next c.args.key.now c.loop-i.i c.args.marks.now c.index-marks-i.result c.loop-i-test.true c.loop-i.invariant (sym c.is_key.ensures ∙ c.if-is_key.false))

pub returns-clause-none : goal.returns-clause-none
returns-clause-none c =
    let all : c.loop-i.i ≡ length c.args.marks.now = omega (arith, c.loop-i-test.false, c.loop-i.auto.i-end) in
    none_removed c.args.key.now c.args.marks.now (subst (λ n. AreOther c.args.key.now n c.args.marks.now) all c.loop-i.invariant)
