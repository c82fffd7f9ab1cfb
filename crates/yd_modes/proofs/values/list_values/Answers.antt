use Rattle.std.proofs.Common.{◌≡◌, ◌+◌, ◌≤◌, false, drop, take, length, get_or, sym, ◌∙◌, subst, arith}
use Rattle.yd_ops.specs.Operation.{gone_unit, later_id, units_of_content}
use Rattle.yd_ops.specs.View.{content_value}
use Rattle.yd_ops.proofs.OperationLemmas.{length-units_of_content}
use Rattle.yd_state.specs.Lent.{lent_from}
use Rattle.yd_modes.specs.Roles.{Values, role_of, is_value, is_nested}
use Rattle.yd_modes.specs.Listed.{Lists}
use Rattle.yd_modes.proofs.TakingLemmas.{unit_there, each_at}
use Rattle.yd_modes.proofs.ListedLemmas.{lists_none, lists_more}
use Rattle.yd_modes.proofs.values.list_values.Goals as goal

pub loop-i-init : goal.loop-i-init
loop-i-init c = λ show plain values. lists_none show c.args.listed.now

pub loop-i-preserved : goal.loop-i-preserved
loop-i-preserved c = λ show plain values.
    let v = content_value c.args.piece.now.content.now in
    let us = units_of_content v in
    let offset = c.args.piece.now.offset in
    let within : offset + c.args.piece.now.len ≤ length us = omega (arith, c.requires.within.units, length-units_of_content v) in
    let u = get_or (drop offset us) c.loop-i.i gone_unit in
    let there = unit_there us offset c.args.piece.now.len c.loop-i.i gone_unit within c.loop-i-test.true in
    let is = each_at (λ x. (role_of Values x ≡ is_value) × (is_nested x ≡ false)) us (offset + c.loop-i.i) u values there in
    lists_more show c.args.listed.now c.loop-i.listed c.take_value.new.self c.args.piece.now.id us offset c.args.piece.now.len c.loop-i.i gone_unit within c.loop-i-test.true
    (c.loop-i.invariant show plain values)
    (c.in_ok-take_value.ensures show u is.0 (c.in_ok-value.ensures u there ∙ sym (plain (later_id c.args.piece.now.id c.loop-i.i) u is.1)))

pub returns : goal.returns
returns c = λ show plain values.
    let all : c.loop-i.i ≡ c.args.piece.now.len = omega (arith, c.loop-i-test.false, c.loop-i.auto.i-end) in
    subst (λ n. Lists show c.args.listed.now c.loop-i.listed
    (lent_from c.args.piece.now.id false (take n (drop c.args.piece.now.offset (units_of_content (content_value c.args.piece.now.content.now)))))) all (c.loop-i.invariant show plain values)
