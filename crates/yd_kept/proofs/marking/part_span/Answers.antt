use Rattle.yd_store.proofs.IntegratingLemmas.{keeps_both}
use Rattle.yd_kept.proofs.marking.part_span.Goals as goal

pub returns-in_err-part_at-2-clause-units : goal.returns-in_err-part_at-2-clause-units
returns-in_err-part_at-2-clause-units c = keeps_both c.args.store.now c.part_at.new.self c.part_at-2.new.self c.part_at.ensures.units c.part_at-2.ensures.units

pub returns-clause-parted : goal.returns-clause-parted
returns-clause-parted c = record {
  front = c.part_at-2.ensures.units.borders c.args.span.client.0 c.args.span.clock c.in_ok-part_at.ensures.border;
  back = c.in_ok-part_at-2.ensures.border;
}

pub returns-clause-units : goal.returns-clause-units
returns-clause-units c = keeps_both c.args.store.now c.part_at.new.self c.part_at-2.new.self c.part_at.ensures.units c.part_at-2.ensures.units
