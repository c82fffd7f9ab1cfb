use Rattle.std.proofs.Common.{◌≡◌, ◌+◌, suc, Less, Greater, get_or, length, refl, subst, arith}
use Rattle.std.specs.declared.cmp.Ordering.TheVariants.{Equal}
use Rattle.yd_modes.proofs.MarkLemmas.{AreBelow, below_next, cmp_is, place_at, place_before, place_behind}
use Rattle.yd_modes.proofs.marks.place_of.Goals as goal

pub returns-in-Less : goal.returns-in-Less
returns-in-Less c = place_before c.args.key.now c.loop-i.i c.args.marks.now c.index-marks-i.result c.loop-i-test.true c.loop-i.invariant
    (cmp_is c.args.key.now c.as_str.result.now c.as_str-in-loop-i.result.now (get_or c.args.marks.now c.loop-i.i c.index-marks-i.result).key.now c.cmp.result Less
    c.as_str.ensures c.as_str-in-loop-i.ensures c.cmp.ensures c.in-Less.is)

pub returns-in-Equal : goal.returns-in-Equal
returns-in-Equal c = place_at c.args.key.now c.loop-i.i c.args.marks.now c.index-marks-i.result c.loop-i-test.true c.loop-i.invariant
    (cmp_is c.args.key.now c.as_str.result.now c.as_str-in-loop-i.result.now (get_or c.args.marks.now c.loop-i.i c.index-marks-i.result).key.now c.cmp.result Equal
    c.as_str.ensures c.as_str-in-loop-i.ensures c.cmp.ensures c.in-Equal.is)

pub loop-i-preserved : goal.loop-i-preserved
loop-i-preserved c =
    let one : suc c.loop-i.i ≡ c.loop-i.i + 1 = omega arith in
    subst (λ n. AreBelow c.args.key.now n c.args.marks.now) one
    (below_next c.args.key.now c.loop-i.i c.args.marks.now c.index-marks-i.result c.loop-i-test.true c.loop-i.invariant
    (cmp_is c.args.key.now c.as_str.result.now c.as_str-in-loop-i.result.now (get_or c.args.marks.now c.loop-i.i c.index-marks-i.result).key.now c.cmp.result Greater
    c.as_str.ensures c.as_str-in-loop-i.ensures c.cmp.ensures c.in-Greater.is))

pub returns : goal.returns
returns c =
    let all : c.loop-i.i ≡ length c.args.marks.now = omega (arith, c.loop-i-test.false, c.loop-i.auto.i-end) in
    place_behind c.args.key.now (length c.args.marks.now) c.args.marks.now refl (subst (λ n. AreBelow c.args.key.now n c.args.marks.now) all c.loop-i.invariant)
