use Rattle.std.proofs.Common.{refl, arith}
use Rattle.yd_store.proofs.IntegratingLemmas.{keeps_both}
use Rattle.yd_store.proofs.HalvesLemmas.{known_below}
use Rattle.yd_store.proofs.TearingLemmas.{known_kept}
use Rattle.yd_store.proofs.store.Store.free_half.Goals as goal

pub part_behind-requires : goal.part_behind-requires
part_behind-requires c =
    omega (arith, known_below c.args.self.now c.is_sound.ensures.arena c.is_sound.ensures.told c.args.half c.requires.operation c.requires.there c.requires.id_is, c.part_at.ensures.units.nexts c.args.half.client.0)

pub returns-in_err-part_behind-clause-units : goal.returns-in_err-part_behind-clause-units
returns-in_err-part_behind-clause-units c = keeps_both c.args.self.now c.part_at.new.self c.part_behind.new.self c.part_at.ensures.units c.part_behind.ensures.units

pub returns-in_err-units-clause-units : goal.returns-in_err-units-clause-units
returns-in_err-units-clause-units c = keeps_both c.args.self.now c.part_at.new.self c.part_behind.new.self c.part_at.ensures.units c.part_behind.ensures.units

pub returns-clause-freed : goal.returns-clause-freed
returns-clause-freed c = (
  refl,
  c.in_ok-units.ensures,
  record {
    known = known_kept c.args.self.now c.part_behind.new.self c.args.half (keeps_both c.args.self.now c.part_at.new.self c.part_behind.new.self c.part_at.ensures.units c.part_behind.ensures.units) c.requires;
    front = c.part_behind.ensures.units.borders c.args.half.client.0 c.args.half.clock c.in_ok-part_at.ensures.border;
    back = c.in_ok-part_behind.ensures.border;
  },
)

pub returns-clause-units : goal.returns-clause-units
returns-clause-units c = keeps_both c.args.self.now c.part_at.new.self c.part_behind.new.self c.part_at.ensures.units c.part_behind.ensures.units
