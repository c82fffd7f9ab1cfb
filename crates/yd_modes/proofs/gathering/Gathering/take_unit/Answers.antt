use Rattle.std.proofs.Common.{inl}
use Rattle.yd_modes.proofs.GatheringLemmas.{stepped}
use Rattle.yd_modes.proofs.gathering.Gathering.take_unit.Goals as goal

pub returns-clause-gathers : goal.returns-clause-gathers
returns-clause-gathers c = λ way show. record {
  pieces = λ us. stepped way show c.args.self.now c.take.new.self c.args.id c.args.unit c.in_ok-take.ensures.steps c.requires us;
  settled = inl c.requires;
}
