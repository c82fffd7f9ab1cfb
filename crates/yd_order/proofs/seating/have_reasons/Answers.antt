use Rattle.std.proofs.Common.{◌-◌, arith, refl, sym, ◌∙◌}
use Rattle.yd_order.proofs.HeadLemmas.{reasons_back, reasons_all, reasons_lack}
use Rattle.yd_order.proofs.seating.have_reasons.Goals as goal

pub loop-position-preserved : goal.loop-position-preserved
loop-position-preserved c =
    let high = (c.requires.seated.each c.args.at c.requires.inside).high in
    let head = (c.requires.heads.each (c.loop-position.position - 1) (omega (arith, c.loop-position-test.true, c.loop-position.invariant.0, high))).up_to in (
      omega (arith, head, c.loop-position-test.true, c.loop-position.invariant.0, c.max-head.ensures),
      reasons_back c.args.rows.now c.args.proposal.now c.args.seats.now c.args.heads.now c.args.at _ c.loop-position.position _ _ _ c.requires.heads c.requires.inside c.seat_of-first.ensures
          (omega (arith, c.loop-position-test.true))
          (omega (arith, c.loop-position.invariant.0, high))
          c.max-head.ensures
          (sym c.has_reason.ensures ∙ c.if-not-has_reason.false)
          c.loop-position.invariant.1,
    )

pub returns-then-not-has_reason : goal.returns-then-not-has_reason
returns-then-not-has_reason c =
    let high = (c.requires.seated.each c.args.at c.requires.inside).high in
    let head = (c.requires.heads.each (c.loop-position.position - 1) (omega (arith, c.loop-position-test.true, c.loop-position.invariant.0, high))).up_to in
    reasons_lack c.args.rows.now c.args.proposal.now c.args.seats.now c.args.at _ _ _ _ c.requires.inside c.seat_of-first.ensures
    (omega (arith, c.max-head.ensures))
    (omega (arith, head, c.loop-position-test.true, c.loop-position.invariant.0, c.max-head.ensures))
    c.has_reason.ensures
    c.if-not-has_reason.true

pub returns : goal.returns
returns c = (
  (λ told. reasons_all c.args.rows.now c.args.proposal.now c.args.seats.now c.args.at _ c.loop-position.position _ c.requires.inside c.seat_of-first.ensures c.loop-position-test.false
      c.loop-position.invariant.1),
  (λ reasons. refl),
)
