use Rattle.std.proofs.Common.{◌+◌, ◌<◌, Result, Ok, Err, arith}
use Rattle.std.specs.Prelude.{OnErr}
use Rattle.yd_store.specs.Lowering.{number_of}
use Rattle.yd_store.specs.Halves.{half_of}
use Rattle.yd_store.proofs.IntegratingLemmas.{keeps_both}
use Rattle.yd_store.proofs.FreedLemmas.{back_known, freed_kept, freed_torn, freed_own, lowers_halves, lowers_no_unit}
use Rattle.yd_store.proofs.store.Store.lower_span.Goals as goal

-- what holds whatever was answered
on_err : {A B : Type 0} {P : Type 0} (z : Result A B) → P → OnErr z P
on_err (Ok x) p = tt
on_err (Err e) p = p

pub returns-then-span-eq0-clause-done : goal.returns-then-span-eq0-clause-done
returns-then-span-eq0-clause-done c = lowers_no_unit c.args.self.now c.args.span (number_of c.args.level) c.if-span-eq0.true

pub returns-in_err-before-clause-unchanged : goal.returns-in_err-before-clause-unchanged
returns-in_err-before-clause-unchanged c =
    on_err c.from_residual-in_err-before.result (keeps_both c.args.self.now c.part_span.new.self c.free.new.self c.part_span.ensures.units c.free.ensures.units)

pub free-requires-2 : goal.free-requires-2
free-requires-2 c =
    back_known c.args.self.now c.free.new.self c.args.span c.half_behind-back.result
    (keeps_both c.args.self.now c.part_span.new.self c.free.new.self c.part_span.ensures.units c.free.ensures.units) c.half_behind-back.ensures.found

pub returns-in_err-behind-clause-unchanged : goal.returns-in_err-behind-clause-unchanged
returns-in_err-behind-clause-unchanged c =
    on_err c.from_residual-in_err-behind.result (keeps_both c.args.self.now c.free.new.self c.free-2.new.self
    (keeps_both c.args.self.now c.part_span.new.self c.free.new.self c.part_span.ensures.units c.free.ensures.units) c.free-2.ensures.units)

pub tear-requires : goal.tear-requires
tear-requires c =
    freed_own c.free-2.new.self c.half_before-front.result c.in_ok-before.before
    (freed_kept c.free.new.self c.free-2.new.self c.half_before-front.result c.in_ok-before.before c.free-2.ensures.units c.in_ok-before.ensures.freed)

pub tear-requires-2 : goal.tear-requires-2
tear-requires-2 c =
    freed_own c.tear.new.self c.half_behind-back.result c.in_ok-behind.behind
    (freed_torn c.free-2.new.self c.tear.new.self (half_of c.in_ok-before.before) c.half_behind-back.result c.in_ok-behind.behind c.tear.ensures.maps c.in_ok-behind.ensures.freed)

pub lower_parted-requires-clause-front : goal.lower_parted-requires-clause-front
lower_parted-requires-clause-front c =
    let client = c.args.span.client.0 in
    let clock = c.args.span.clock in
    c.tear-2.ensures.maps.borders client clock (c.tear.ensures.maps.borders client clock (c.free-2.ensures.units.borders client clock (c.free.ensures.units.borders client clock c.in_ok-part_span.ensures.front)))

pub lower_parted-requires-clause-back : goal.lower_parted-requires-clause-back
lower_parted-requires-clause-back c =
    let client = c.args.span.client.0 in
    let clock = c.args.span.clock + c.args.span.len in
    c.tear-2.ensures.maps.borders client clock (c.tear.ensures.maps.borders client clock (c.free-2.ensures.units.borders client clock (c.free.ensures.units.borders client clock c.in_ok-part_span.ensures.back)))

pub returns-clause-done : goal.returns-clause-done
returns-clause-done c =
    let some : 0 < c.args.span.len = omega (arith, c.if-span-eq0.false) in
    lowers_halves c.args.self.now c.free-2.new.self c.tear.new.self c.tear-2.new.self c.lower_parted.new.self c.args.span (number_of c.args.level) c.half_before-front.result c.half_behind-back.result c.in_ok-before.before c.in_ok-behind.behind some
    c.half_before-front.ensures.found c.half_before-front.ensures.none c.half_behind-back.ensures.found c.half_behind-back.ensures.none
    (freed_kept c.free.new.self c.free-2.new.self c.half_before-front.result c.in_ok-before.before c.free-2.ensures.units c.in_ok-before.ensures.freed) c.in_ok-behind.ensures.freed
    (keeps_both c.args.self.now c.free.new.self c.free-2.new.self (keeps_both c.args.self.now c.part_span.new.self c.free.new.self c.part_span.ensures.units c.free.ensures.units) c.free-2.ensures.units)
    c.tear.ensures.maps c.tear-2.ensures.maps c.lower_parted.ensures.maps
