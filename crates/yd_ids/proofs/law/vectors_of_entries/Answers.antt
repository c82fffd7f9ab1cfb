use Rattle.yd_ids.proofs.EntriesLemmas.{entries_vector, entries_greatest, entries_alone, entries_permuted, vector_of_vector}
use Rattle.yd_ids.proofs.law.vectors_of_entries.Goals as goal

pub returns : goal.returns
returns c = record { vector = entries_vector; clocks = entries_greatest; alone = entries_alone; any_order = entries_permuted; itself = vector_of_vector }
