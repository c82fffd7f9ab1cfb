use Rattle.std.proofs.Common.{arith, map, subst, take}
use Rattle.std.proofs.lemmas.List.{take_all}
use Rattle.yd_words.proofs.EachLemmas.{each_at}
use Rattle.yd_gathering.specs.Late.{IsBodyAt, update_at}
use Rattle.yd_gathering.specs.Row.{HasRow}
use Rattle.yd_gathering.proofs.LateLemmas.{row_more}
use Rattle.yd_gathering.proofs.late.Late.gathered.Goals as goal

pub gather-requires : goal.gather-requires
gather-requires c = each_at (IsBodyAt c.args.self.now.bytes.items) c.args.places.now c.loop-place.place-index _ c.requires c.loop-place-test.true

pub loop-place-preserved : goal.loop-place-preserved
loop-place-preserved c =
    row_more c.args.self.now.bytes.items c.args.places.now c.loop-place.place-index _ c.loop-place.row c.gather.new.row c.loop-place-test.true c.loop-place.invariant c.in_ok-gather.ensures

pub finish-requires : goal.finish-requires
finish-requires c = (map (update_at c.args.self.now.bytes.items) (take c.loop-place.place-index c.args.places.now), c.loop-place.invariant)

pub returns : goal.returns
returns c =
    let f = update_at c.args.self.now.bytes.items in
    c.in_ok-list.ensures (map f c.args.places.now)
    (subst (λ places. HasRow c.loop-place.row (map f places)) (take_all c.loop-place.place-index c.args.places.now (omega (arith, c.loop-place-test.false))) c.loop-place.invariant)
