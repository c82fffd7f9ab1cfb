use Rattle.std.proofs.Common.{◌≡◌, ◌≢◌, Bool, true, List, Some, inl, inr, subst}
use Rattle.yd_words.specs.Member.{IsIn}
use Rattle.yd_ids.specs.declared.id.Id.{Id}
use Rattle.yd_ops.specs.declared.lists.List.{List as DocList}
use Rattle.yd_ops.specs.Operation.{Operation}
use Rattle.yd_origins.specs.Deleted.{last_of}
use Rattle.yd_meaning.specs.Deletions.{MustBeDeleted, for_name, for_loss, for_key, for_item, AreClosedDeletions, DeletesBesides}
use Rattle.yd_meaning.proofs.law.closed_goes_on.Goals as goal

still_deleted : (old_lists lists : DocList → List Id) (part held : List Operation) (named more deleted now : Id → Bool) → AreClosedDeletions old_lists part named deleted →
    DeletesBesides old_lists lists part held named more deleted now → (x : Id) → MustBeDeleted lists held more now x → now x ≡ true
still_deleted old_lists lists part held named more deleted now closed besides x (for_name there by) = elim (besides.names x there by) [
  | inl was ↦ besides.stays x (closed.all x (for_name was.0 was.1))
  | inr e ↦ e
]
still_deleted old_lists lists part held named more deleted now closed besides x (for_loss lost) = elim (besides.losses x lost) [
  | inl was ↦ besides.stays x (closed.all x (for_loss was))
  | inr e ↦ e
]
still_deleted old_lists lists part held named more deleted now closed besides x (for_key list i key other) = elim (besides.keys list key) [
  | inl same ↦ besides.stays x (closed.all x (for_key list (subst (IsIn x) same i) key (subst (λ l. last_of l ≢ Some x) same other)))
  | inr all ↦ all x i other
]
still_deleted old_lists lists part held named more deleted now closed besides x (for_item {y = y} list i item by) = elim (besides.items list x y i item by) [
  | inl was ↦ besides.stays x (closed.all x (for_item list was.0 item was.1))
  | inr e ↦ e
]

pub returns : goal.returns
returns c = λ old_lists lists part held named more deleted now closed besides. record {
  all = still_deleted old_lists lists part held named more deleted now closed besides;
  only_held = besides.only_held;
}
