-- What is counted of small documents, as the checker computes it.
use Rattle.std.specs.Prelude.{◌≡◌, ℕ, [], ◌∷◌}
use Rattle.yd_ops.specs.Received.{received_set}
use Rattle.yd_meaning.specs.Collected.{abc_put, abc_deleted, array_made, five_put, five_gone, list_gone, origin_gone}
use Rattle.yd_checking.specs.Counts.{counts_of}
use Rattle.yd_checking.specs.declared.counts.Counts.{Counts}

-- so many units are held, so many wait, so many deletions wait, so many held units are deleted, and so many lists have a unit
abbrev numbers : ℕ → ℕ → ℕ → ℕ → ℕ → Counts
numbers held waiting waiting_deletes deleted lists = record { held = held; waiting = waiting; waiting_deletes = waiting_deletes; deleted = deleted; lists = lists }

-- three units of a text, which are then told as deleted; an array with a unit in it, and the unit alone; the unit gone with its array
-- deleted, also before the array came; and one more behind it, which is lost
pub record CountsOfSmall : Type 0 where
  pub text : counts_of (received_set (abc_put ∷ [])) ≡ numbers 3 0 0 0 1
  pub deleted : counts_of (received_set (abc_put ∷ abc_deleted ∷ [])) ≡ numbers 3 0 0 3 1
  pub nested : counts_of (received_set (array_made ∷ five_put ∷ [])) ≡ numbers 2 0 0 0 2
  pub unit_waits : counts_of (received_set (five_put ∷ [])) ≡ numbers 0 1 0 0 0
  pub unit_gone : counts_of list_gone ≡ numbers 2 0 0 2 1
  pub deletion_waits : counts_of (received_set (five_gone ∷ [])) ≡ numbers 1 0 1 1 0
  pub unit_lost : counts_of origin_gone ≡ numbers 3 0 0 3 1
