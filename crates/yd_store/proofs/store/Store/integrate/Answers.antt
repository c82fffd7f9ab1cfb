use Rattle.std.proofs.Common.{arith}
use Rattle.yd_ops.specs.View.{run_value}
use Rattle.yd_store.proofs.KeepingLemmas.{kept_keeps}
use Rattle.yd_store.proofs.IntegratingLemmas.{keeps_both, adds_from, ends_left, no_later, left_below, left_kept, ok_with, err_with, ok_says, begins_last}
use Rattle.yd_store.proofs.store.Store.integrate.Goals as goal

pub part_origins-requires : goal.part_origins-requires
part_origins-requires c = left_below c.args.self.now.placed c.args.list c.args.run.left c.is_sound.ensures.arena c.requires.ready.left

pub add_kept-requires-clause-after : goal.add_kept-requires-clause-after
add_kept-requires-clause-after c =
    let mid = c.part_origins.new.self in
    (ends_left mid.placed c.args.list c.args.run.left c.in-Ok.origins.left c.is_sound-2.ensures.arena c.in-Ok.ensures.left_place
    (left_kept c.args.self.now mid c.args.list c.args.run.left c.part_origins.ensures.units c.is_sound-2.ensures.lists c.requires.list c.requires.ready.left) c.in-Ok.ensures.left).1

pub add_kept-requires-clause-left : goal.add_kept-requires-clause-left
add_kept-requires-clause-left c =
    let mid = c.part_origins.new.self in
    (ends_left mid.placed c.args.list c.args.run.left c.in-Ok.origins.left c.is_sound-2.ensures.arena c.in-Ok.ensures.left_place
    (left_kept c.args.self.now mid c.args.list c.args.run.left c.part_origins.ensures.units c.is_sound-2.ensures.lists c.requires.list c.requires.ready.left) c.in-Ok.ensures.left).0

pub add_kept-requires-clause-right : goal.add_kept-requires-clause-right
add_kept-requires-clause-right c =
    no_later c.part_origins.new.self.placed c.args.list c.args.run.right c.in-Ok.ensures.right c.is_sound-2.ensures.lists (omega (arith, c.requires.list, c.part_origins.ensures.units.count))

pub returns-clause-begins : goal.returns-clause-begins
returns-clause-begins c =
    ok_says c.add_kept.result _ _ _ (λ place at adds. begins_last c.part_origins.new.self c.add_kept.new.self c.args.list (run_value c.args.run) place adds c.requires.ready.filled at) c.add_kept.ensures.place c.add_kept.ensures.done

pub returns-clause-units : goal.returns-clause-units
returns-clause-units c =
    ok_with c.add_kept.result _ _ (λ a. adds_from c.args.self.now c.part_origins.new.self c.add_kept.new.self c.args.list (run_value c.args.run) c.part_origins.ensures.units c.requires.list a) c.add_kept.ensures.units

pub returns-clause-unchanged : goal.returns-clause-unchanged
returns-clause-unchanged c =
    err_with c.add_kept.result _ _ (λ k. keeps_both c.args.self.now c.part_origins.new.self c.add_kept.new.self c.part_origins.ensures.units (kept_keeps c.part_origins.new.self c.add_kept.new.self k)) c.add_kept.ensures.unchanged
