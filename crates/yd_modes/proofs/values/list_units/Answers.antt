use Rattle.std.proofs.Common.{◌≡◌, ◌+◌, ◌≤◌, false, take, map, length, subst, arith, drop, get_or, ◌∷◌, []}
use Rattle.std.proofs.lemmas.List.{length-map}
use Rattle.std.proofs.lemmas.Option.{slice_get-get_or}
use Rattle.yd_ops.specs.Operation.{text_unit, gone_unit, later_id}
use Rattle.yd_state.specs.Lent.{lent_from}
use Rattle.yd_modes.specs.Gathering.{live}
use Rattle.yd_modes.specs.Listed.{Lists}
use Rattle.yd_modes.proofs.TakingLemmas.{text_there}
use Rattle.yd_modes.proofs.ListedLemmas.{lists_none, lists_more}
use Rattle.yd_modes.proofs.values.list_units.Goals as goal

pub loop-i-init : goal.loop-i-init
loop-i-init c = λ show. lists_none show c.args.listed.now

pub loop-i-preserved : goal.loop-i-preserved
loop-i-preserved c = λ show.
    let us = map text_unit c.args.units.now in
    let within : c.args.offset + c.args.len ≤ length us = omega (arith, c.requires.within, length-map c.args.units.now text_unit) in
    let there = slice_get-get_or c.args.units.now (c.args.offset + c.loop-i.i) 0 (omega (arith, c.requires.within, c.loop-i-test.true)) in
    let unit = get_or c.args.units.now (c.args.offset + c.loop-i.i) 0 in
    lists_more show c.args.listed.now c.loop-i.listed c.list_unit.new.listed c.args.id us c.args.offset c.args.len c.loop-i.i gone_unit within c.loop-i-test.true
    (c.loop-i.invariant show)
    (subst (λ u. Lists show c.loop-i.listed c.list_unit.new.listed (live (later_id c.args.id c.loop-i.i) u ∷ [])) (text_there c.args.units.now c.args.offset c.loop-i.i unit gone_unit there)
    (c.in_ok-list_unit.ensures show unit there))

pub returns : goal.returns
returns c = λ show.
    let all : c.loop-i.i ≡ c.args.len = omega (arith, c.loop-i-test.false, c.loop-i.auto.i-end) in
    subst (λ n. Lists show c.args.listed.now c.loop-i.listed (lent_from c.args.id false (take n (drop c.args.offset (map text_unit c.args.units.now))))) all (c.loop-i.invariant show)
