-- What was held when more is received, and nothing of it is lowered: it is a closed part of what is held, so it is lost or stands as before, in the same lists.
use Rattle.std.proofs.Common.{◌≡◌, true, List}
use Rattle.yd_words.specs.Member.{IsIn}
use Rattle.yd_ids.specs.declared.id.Id.{Id}
use Rattle.yd_ops.specs.Operation.{Operation}
use Rattle.yd_ops.specs.Received.{has_operation, IsWritten}
use Rattle.yd_meaning.specs.Held.{held_set, standing, is_lost}
use Rattle.yd_meaning.specs.Order.{list_of}
use Rattle.yd_meaning.specs.Law.{IsPartOf}
use Rattle.yd_meaning.proofs.HeldLemmas.{held_needs, held_grows}
use Rattle.yd_meaning.proofs.VectorLemmas.{held_written}
use Rattle.yd_meaning.proofs.PartLemmas.{stands_alike, part_stays}

-- ---- lemmas for callers

module _ (os more : List Operation) (v : IsWritten os) (w : IsWritten more) (stay : (o : Operation) → IsIn o os → IsIn o more) where
  pub held_part : IsPartOf (held_set os) (held_set more)
  held_part = record { written = held_written os v; within = held_grows os more stay; closed = held_needs os }

  pub lost_stays : (x : Id) → has_operation (held_set os) x ≡ true → is_lost (held_set os) x ≡ is_lost (held_set more) x
  lost_stays = (part_stays more w (held_set os) held_part).lost

  pub standing_stays : (x : Id) → has_operation (held_set os) x ≡ true → has_operation (standing (held_set os)) x ≡ has_operation (standing (held_set more)) x
  standing_stays = stands_alike more w (held_set os) held_part

  pub list_stays : (x : Id) → has_operation (standing (held_set os)) x ≡ true → list_of (standing (held_set os)) x ≡ list_of (standing (held_set more)) x
  list_stays = (part_stays more w (held_set os) held_part).same_list
