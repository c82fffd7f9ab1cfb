use Rattle.std.proofs.Common.{◌≡◌, ◌+◌, ◌≤◌, false, take, map, length, subst, arith, drop, get_or, ◌∷◌, [], inl}
use Rattle.std.proofs.lemmas.List.{length-map}
use Rattle.std.proofs.lemmas.Option.{slice_get-get_or}
use Rattle.yd_ops.specs.Operation.{text_unit, gone_unit, later_id}
use Rattle.yd_state.specs.Lent.{lent_from}
use Rattle.yd_modes.specs.Gathering.{Gathers, live}
use Rattle.yd_modes.proofs.TakingLemmas.{gathers_none, gathers_more, text_there}
use Rattle.yd_modes.proofs.taking.take_units.Goals as goal

pub loop-i-init : goal.loop-i-init
loop-i-init c = record {
  settled = c.requires.open;
  gathers = λ way show. gathers_none way show c.args.gathering.now (inl c.requires.open);
}

pub loop-i-preserved : goal.loop-i-preserved
loop-i-preserved c = record {
  settled = c.in_ok-take_unit_at.ensures.open;
  gathers = λ way show.
      let us = map text_unit c.args.units.now in
      let within : c.args.offset + c.args.len ≤ length us = omega (arith, c.requires.within, length-map c.args.units.now text_unit) in
      let there = slice_get-get_or c.args.units.now (c.args.offset + c.loop-i.i) 0 (omega (arith, c.requires.within, c.loop-i-test.true)) in
      let unit = get_or c.args.units.now (c.args.offset + c.loop-i.i) 0 in
      gathers_more way show c.args.gathering.now c.loop-i.gathering c.take_unit_at.new.gathering c.args.id us c.args.offset c.args.len c.loop-i.i gone_unit within c.loop-i-test.true
      (c.loop-i.invariant.gathers way show)
      (subst (λ u. Gathers way show c.loop-i.gathering c.take_unit_at.new.gathering (live (later_id c.args.id c.loop-i.i) u ∷ [])) (text_there c.args.units.now c.args.offset c.loop-i.i unit gone_unit there)
      (c.in_ok-take_unit_at.ensures.gathers way show unit there));
}

pub returns : goal.returns
returns c = λ way show.
    let all : c.loop-i.i ≡ c.args.len = omega (arith, c.loop-i-test.false, c.loop-i.auto.i-end) in
    subst (λ n. Gathers way show c.args.gathering.now c.loop-i.gathering (lent_from c.args.id false (take n (drop c.args.offset (map text_unit c.args.units.now))))) all
    (c.loop-i.invariant.gathers way show)
