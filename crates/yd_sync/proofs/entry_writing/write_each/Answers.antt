use Rattle.std.proofs.Common.{[], ◌∷◌, refl}
use Rattle.yd_fields.proofs.WritesLemmas.{remain_item}
use Rattle.yd_sync.specs.declared.entry.AwareEntry.{AwareEntry}
use Rattle.yd_sync.specs.Entry.{fields_of_each}
use Rattle.yd_sync.proofs.entry_writing.write_each.Goals as goal

pub loop-entry-preserved : goal.loop-entry-preserved
loop-entry-preserved c =
    remain_item fields_of_each (λ (e : AwareEntry). fields_of_each (e ∷ [])) (λ e es. refl) c.args.entries.now c.loop-entry.entry-index c.entry-item.result c.loop-entry-test.true c.entry-item.is c.loop-entry.invariant c.in_ok-write_entry.ensures
