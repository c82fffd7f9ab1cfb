use Rattle.std.proofs.Common.{◌≡◌, ◌++◌}
use Rattle.yd_words.specs.Each.{Each}
use Rattle.yd_words.specs.Member.{IsIn}
use Rattle.yd_entries.specs.declared.entry.Entry.{Entry}
use Rattle.yd_held.proofs.trying.clients_of.Given as goal

abbrev pub invariant-loop-entry : goal.invariant-loop-entry
invariant-loop-entry l = record {
  all : l.yielded ++ l.entry-iterator ≡ l.entries;
  tried : Each (λ (t : Entry). IsIn t.id.client l.clients.items) l.yielded;
}
