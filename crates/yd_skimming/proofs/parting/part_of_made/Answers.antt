use Rattle.std.proofs.Common.{◌≡◌, false, refl, subst}
use Rattle.yd_ops.specs.View.{struct_value}
use Rattle.yd_ops.specs.declared.updates.Struct.TheVariants.{Item}
use Rattle.yd_fields.specs.declared.lent.LentStruct.TheVariants.{Made}
use Rattle.yd_reading.specs.Taking.{IsPlaced}
use Rattle.yd_skimming.specs.Parting.{is_skip}
use Rattle.yd_skimming.proofs.PartingLemmas.{placed_taken}
use Rattle.yd_skimming.proofs.parting.part_of_made.Goals as goal

pub part_of_run-requires-clause-taken : goal.part_of_run-requires-clause-taken
part_of_run-requires-clause-taken c = placed_taken c.args.id (Made (Item c.in-Item.run')) c.in-Item.run'
    (subst (λ s. IsPlaced c.args.id (struct_value s)) c.in-Item.is c.requires.placed) (subst (λ s. is_skip (struct_value s) ≡ false) c.in-Item.is c.requires.units) refl
