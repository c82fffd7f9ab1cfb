use Rattle.std.proofs.Common.{◌≡◌, ◌++◌, false}
use Rattle.yd_words.specs.Each.{Each}
use Rattle.yd_held.specs.Telling.{is_gone_listed}
use Rattle.yd_held.proofs.telling.loses_one.Given as goal

abbrev pub invariant-loop-entry : goal.invariant-loop-entry
invariant-loop-entry l = record {
  all : l.yielded ++ l.entry-iterator ≡ l.entries;
  none : Each (λ t. is_gone_listed t ≡ false) l.yielded;
}
