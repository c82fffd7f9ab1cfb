use Rattle.std.proofs.Common.{◌<◌, ◌≤◌, length, arith, refl}
use Rattle.yd_pieces.proofs.KeepingLemmas.{kept_more, kept_all}
use Rattle.yd_pieces.proofs.keeping.keep_in_each.Goals as goal

pub loop-i-init : goal.loop-i-init
loop-i-init g c = (refl, refl, refl)

pub loop-i-preserved : goal.loop-i-preserved
loop-i-preserved g c =
    let lt : c.loop-i.i < length c.loop-i.pieces.items = omega (arith, c.loop-i-test.true, c.len-i-end.ensures, c.args.pieces.now.ok.0, c.loop-i.invariant.2) in
    kept_more (g.P.Test.passes c.args.test.now) c.args.pieces.now.items c.loop-i.pieces.items c.loop-i.i c.index_mut.result.now c.keep_in.new.piece lt
    c.loop-i.invariant c.index_mut.ensures.value c.keep_in.ensures.kept

pub returns : goal.returns
returns g c =
    let le : length c.loop-i.pieces.items ≤ c.loop-i.i = omega (arith, c.loop-i-test.false, c.len-i-end.ensures, c.args.pieces.now.ok.0, c.loop-i.invariant.2) in
    kept_all (g.P.Test.passes c.args.test.now) c.args.pieces.now.items c.loop-i.pieces.items c.loop-i.i le c.loop-i.invariant
