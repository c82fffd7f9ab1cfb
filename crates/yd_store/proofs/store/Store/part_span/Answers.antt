use Rattle.std.proofs.Common.{arith}
use Rattle.yd_store.proofs.IntegratingLemmas.{keeps_both}
use Rattle.yd_store.proofs.store.Store.part_span.Goals as goal

pub returns-in_err-part_at-clause-held : goal.returns-in_err-part_at-clause-held
returns-in_err-part_at-clause-held c = omega (arith, c.requires.held, c.part_at.ensures.units.nexts c.args.span.client.0)

pub returns-in_err-part_at-2-clause-held : goal.returns-in_err-part_at-2-clause-held
returns-in_err-part_at-2-clause-held c = omega (arith, c.requires.held, c.part_at.ensures.units.nexts c.args.span.client.0, c.part_at-2.ensures.units.nexts c.args.span.client.0)

pub returns-in_err-part_at-2-clause-units : goal.returns-in_err-part_at-2-clause-units
returns-in_err-part_at-2-clause-units c = keeps_both c.args.self.now c.part_at.new.self c.part_at-2.new.self c.part_at.ensures.units c.part_at-2.ensures.units

pub returns-clause-held : goal.returns-clause-held
returns-clause-held c = omega (arith, c.requires.held, c.part_at.ensures.units.nexts c.args.span.client.0, c.part_at-2.ensures.units.nexts c.args.span.client.0)

pub returns-clause-front : goal.returns-clause-front
returns-clause-front c = c.part_at-2.ensures.units.borders c.args.span.client.0 c.args.span.clock c.in_ok-part_at.ensures.border

pub returns-clause-units : goal.returns-clause-units
returns-clause-units c = keeps_both c.args.self.now c.part_at.new.self c.part_at-2.new.self c.part_at.ensures.units c.part_at-2.ensures.units
