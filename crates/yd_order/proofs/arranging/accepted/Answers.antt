use Rattle.std.proofs.Common.{length, refl, subst, sym, ◌∙◌}
use Rattle.yd_order.specs.Seating.{AreSeated, AllStand}
use Rattle.yd_order.proofs.SeatedLemmas.{seated_is_order}
use Rattle.yd_order.proofs.SeatingLemmas.{not_seated, not_standing}
use Rattle.yd_order.proofs.arranging.accepted.Goals as goal

pub returns-then-not-are_seated-clause-told : goal.returns-then-not-are_seated-clause-told
returns-then-not-are_seated-clause-told c =
    not_seated c.args.rows.now c.args.proposal.now c.in_ok-seats.seats.items c.in_ok-seats.ensures _ c.if-not-are_seated.true
    (λ seated. c.are_seated.ensures.1 (subst (AreSeated (length c.args.rows.now) c.args.proposal.now) (sym c.deref.ensures.value) seated))

pub returns-then-not-all_stand-clause-told : goal.returns-then-not-all_stand-clause-told
returns-then-not-all_stand-clause-told c =
    not_standing c.args.rows.now c.args.proposal.now c.in_ok-seats.seats.items c.in_ok-seats.ensures _ c.if-not-all_stand.true
    (λ stand. c.all_stand.ensures.1 (subst (AllStand c.args.rows.now c.args.proposal.now) (sym c.deref-3.ensures.value) stand))

pub returns : goal.returns
returns c =
    let stand = subst (AllStand c.args.rows.now c.args.proposal.now) (c.deref-3.ensures.value ∙ sym c.deref.ensures.value) (c.all_stand.ensures.0 c.if-not-all_stand.false) in
    let seated = c.are_seated.ensures.0 c.if-not-are_seated.false in
    record {
      told = ((λ told. record { seats = _; seated = seated; stand = stand }), (λ found. refl));
      order = c.in_ok-ids.ensures ∙ seated_is_order c.args.rows.now c.requires.table c.requires.links c.args.proposal.now _ seated stand;
    }
