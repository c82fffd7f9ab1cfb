-- The reply has full operations alone below the vector that was asked with, which counts what is held.
use Rattle.std.proofs.Common.{◌≤◌, inl, inr, subst}
use Rattle.yd_hub.proofs.KeepingLemmas.{held_stay}
use Rattle.yd_hub.proofs.law.replies_lower_no_held.Goals as goal

pub returns : goal.returns
returns c = record {
  lowers = λ r asking answers from ask answer o i. elim (answer.behind asking.vector o i) [
    | inl le ↦ inl (subst (λ k. k ≤ o.id.clock) (ask.counts o.id.client.0) le)
    | inr full ↦ inr full
  ];
  stay = λ r update is alone lowers. held_stay r is alone update lowers;
}
