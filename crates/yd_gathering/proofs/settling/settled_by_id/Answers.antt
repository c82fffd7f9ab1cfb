use Rattle.std.proofs.Common.{map}
use Rattle.std.proofs.lemmas.List.Sorted.{IsPermutation-map}
use Rattle.yd_words.proofs.EachLemmas.{each_permuted}
use Rattle.yd_ops.specs.View.{update_value}
use Rattle.yd_gathering.specs.Late.{IsBodyAt, update_at, updates_late}
use Rattle.yd_gathering.proofs.LateLemmas.{late_valid}
use Rattle.yd_gathering.proofs.StandingLemmas.{alike_stands}
use Rattle.yd_gathering.proofs.settling.settled_by_id.Goals as goal

pub gathered-requires : goal.gathered-requires
gathered-requires c = rw c.deref.ensures.value
    (each_permuted (IsBodyAt c.args.late.now.bytes.items) c.args.late.now.places.items c.in_ok-places.places.items c.in_ok-places.ensures c.requires.late)

pub are_apart-requires-clause-others : goal.are_apart-requires-clause-others
are_apart-requires-clause-others c = rw c.as_slice.ensures c.in_ok-list.ensures.valid

pub returns-then-apart : goal.returns-then-apart
returns-then-apart c = λ taken says.
    let f = update_at c.args.late.now.bytes.items in
    let places = c.args.late.now.places.items in
    alike_stands taken (map update_value c.args.before.now) (updates_late c.args.late.now) (map f c.in_ok-places.places.items) (map update_value c.in_ok-list.list)
    (IsPermutation-map f places c.in_ok-places.places.items c.in_ok-places.ensures) (late_valid c.args.late.now.bytes.items places c.requires.late) says
    (rw c.deref.ensures.value at c.in_ok-list.ensures) (rw c.as_slice.ensures at c.in-Ok.ensures c.if-apart.true)
