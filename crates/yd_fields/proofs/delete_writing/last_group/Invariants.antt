use Rattle.std.proofs.Common.{◌≡◌, ◌<◌, length, drop}
use Rattle.yd_words.specs.Each.{Each}
use Rattle.yd_fields.proofs.delete_writing.last_group.Given as goal

abbrev pub invariant-loop-start : goal.invariant-loop-start
invariant-loop-start l = record {
  inside : l.start < length l.spans;
  one_client : Each (λ span. span.client.0 ≡ l.client) (drop l.start l.spans);
}

abbrev pub decreases-loop-start : goal.decreases-loop-start
decreases-loop-start l = l.start
