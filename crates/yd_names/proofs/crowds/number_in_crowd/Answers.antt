use Rattle.std.proofs.Common.{◌∙◌, sym, ap, get_or, arith}
use Rattle.std.specs.Ordering.{is_eq}
use Rattle.std.proofs.lemmas.Option.{slice_get-get_or}
use Rattle.yd_names.proofs.CrowdsLemmas.{not_behind, not_elsewhere, name_inside, name_here, is_equal, not_equal}
use Rattle.yd_names.proofs.crowds.number_in_crowd.Goals as goal

pub returns-then-place-crowd-clause-none : goal.returns-then-place-crowd-clause-none
returns-then-place-crowd-clause-none g c = not_behind g.S.Sought.cmp g.met.S.Sought.total c.args.names.now c.args.crowd.now (g.S.Sought.stands c.args.sought.now) c.place_in_crowd-place.result
    c.place_in_crowd-place.ensures (omega (arith, c.if-place-crowd.true))

pub bounds-names-number : goal.bounds-names-number
bounds-names-number g c = name_inside c.args.crowd.now c.args.names.now c.place_in_crowd-place.result c.requires
    (omega (arith, c.place_in_crowd-place.ensures.within, c.if-place-crowd.false))

pub returns-then-is_eq-clause-there : goal.returns-then-is_eq-clause-there
returns-then-is_eq-clause-there g c = record {
  at = (c.place_in_crowd-place.result, slice_get-get_or c.args.crowd.now c.place_in_crowd-place.result 0 (omega (arith, c.place_in_crowd-place.ensures.within, c.if-place-crowd.false)));
  list = c.index-names-number.result;
  there = name_here c.args.crowd.now c.args.names.now c.place_in_crowd-place.result c.index-names-number.result c.requires
      (omega (arith, c.place_in_crowd-place.ensures.within, c.if-place-crowd.false)) c.index-names-number.is;
  tied = is_equal (g.S.Sought.cmp c.index-names-number.result (g.S.Sought.stands c.args.sought.now)) (ap is_eq (sym c.compare.ensures) ∙ sym c.is_eq.ensures ∙ c.if-is_eq.true);
}

pub returns-clause-none : goal.returns-clause-none
returns-clause-none g c = not_elsewhere g.S.Sought.cmp g.met.S.Sought.total c.args.names.now c.args.crowd.now (g.S.Sought.stands c.args.sought.now) c.place_in_crowd-place.result
    (get_or c.args.crowd.now c.place_in_crowd-place.result 0) c.index-names-number.result c.requires.sorted c.place_in_crowd-place.ensures
    (slice_get-get_or c.args.crowd.now c.place_in_crowd-place.result 0 (omega (arith, c.place_in_crowd-place.ensures.within, c.if-place-crowd.false)))
    (name_here c.args.crowd.now c.args.names.now c.place_in_crowd-place.result c.index-names-number.result c.requires
    (omega (arith, c.place_in_crowd-place.ensures.within, c.if-place-crowd.false)) c.index-names-number.is)
    (not_equal (g.S.Sought.cmp c.index-names-number.result (g.S.Sought.stands c.args.sought.now)) (ap is_eq (sym c.compare.ensures) ∙ sym c.is_eq.ensures ∙ c.if-is_eq.false))
