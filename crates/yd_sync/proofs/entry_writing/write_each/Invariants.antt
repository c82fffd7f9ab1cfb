use Rattle.std.proofs.Common.{◌++◌, drop}
use Rattle.yd_fields.proofs.WritesLemmas.{Remain}
use Rattle.yd_v1.specs.Bytes.{V1Spells, v1_bytes}
use Rattle.yd_sync.specs.Entry.{fields_of_each}
use Rattle.yd_sync.proofs.entry_writing.write_each.Given as goal

abbrev pub invariant-loop-entry : goal.invariant-loop-entry
invariant-loop-entry l = Remain (λ f bytes. bytes ++ v1_bytes f) V1Spells (fields_of_each l.entries) (fields_of_each (drop l.entry-index l.entries)) l.fn.writer l.writer
