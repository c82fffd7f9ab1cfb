-- What is known of a state that an edit reads.
use Rattle.std.proofs.Common.{◌≡◌, ◌<◌, ◌+◌, ◌^◌, ℕ, true, List, ap, ◌∙◌, subst, arith}
use Rattle.yd_words.specs.Member.{IsIn}
use Rattle.yd_ids.specs.declared.id.Client.{Client}
use Rattle.yd_ids.specs.declared.id.Id.{Id}
use Rattle.yd_ids.specs.Id.{IsId}
use Rattle.yd_ops.specs.declared.lists.List.{List as DocList}
use Rattle.yd_ops.specs.Operation.{Operation}
use Rattle.yd_ops.specs.Received.{has_operation, IsWritten}
use Rattle.yd_ops.proofs.OneOfLemmas.{operation_with, id_is_there}
use Rattle.yd_meaning.specs.Held.{held_set, held_clock, standing}
use Rattle.yd_meaning.proofs.StandingLemmas.{standing_in}
use Rattle.yd_meaning.proofs.VectorLemmas.{held_written, held_below}
use Rattle.yd_entries.specs.Entries.{covers}
use Rattle.yd_held.proofs.HeldUnitLemmas.{covers_less, unit_covers}
use Rattle.yd_held.proofs.HeldEntryLemmas.{is_taken, taken_entry}
use Rattle.yd_received.specs.Received.{listed_of}
use Rattle.yd_state.specs.State.{StateValue, received_in, document_in, IsSound}
use Rattle.yd_state.proofs.LentLemmas.{document_replica}
use Rattle.yd_making.proofs.RightsLemmas.{AreBelow}

module _ (client : Client) (s : StateValue) (sound : IsSound s) where
  -- what is in lists is what stands of all that is held
  pub listed_stands : listed_of s.held.received ≡ standing (held_set (received_in s).operations)
  listed_stands = sound.holds.stands ∙ ap standing sound.holds.held

  -- all ids that were received are in range
  pub ids_in_range : (o : Operation) → IsIn o (received_in s).operations → IsId o.id
  ids_in_range o i =
      let (t, j, k) = taken_entry s.held.received sound.holds.in_order o i in
      let is = is_taken s.held.received sound.holds.in_order t j in
      let (one, low, high) = covers_less t o.id (unit_covers s.held.received.runs t is o k) in
      record { client = subst (λ n. n < 2 ^ 53) one is.id.client; clock = omega (arith, high, is.end) }

  -- the client's units in lists are below its next clock
  pub units_below : AreBelow client (held_clock (held_set (received_in s).operations) client.0) (document_in s).units
  units_below name y e own =
      let (o, i, f) = operation_with ((document_in s).units name) y e in
      let stands : IsIn o (standing held) = (document_replica s sound).as_held name o i in
      let there : has_operation held o.id ≡ true = id_is_there held o (standing_in held w o stands).0 in
      let below : o.id.clock < held_clock held o.id.client.0 = (held_below (received_in s).operations sound.received.written o.id.client o.id.clock).0 there in
      subst (λ (x : Id). x.clock < held_clock held client.0) f (subst (λ n. o.id.clock < held_clock held n) (ap (λ (x : Id). x.client.0) f ∙ own) below)
    where
      held : List Operation
      held = held_set (received_in s).operations

      w : IsWritten (held_set (received_in s).operations)
      w = held_written (received_in s).operations sound.received.written
