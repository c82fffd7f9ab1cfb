-- The document of a sound state is its own, and the defined one where the edit rules are kept.
use Rattle.std.proofs.Common.{◌≡◌, List, sym, ap, ◌∙◌, subst}
use Rattle.yd_ids.specs.declared.id.Id.{Id}
use Rattle.yd_ops.specs.declared.lists.List.{List as DocList}
use Rattle.yd_ops.specs.Operation.{Operation}
use Rattle.yd_ops.specs.Received.{IsWritten}
use Rattle.yd_meaning.specs.Held.{held_set, standing, is_named}
use Rattle.yd_meaning.specs.Order.{order_of, AreHonest}
use Rattle.yd_meaning.specs.Deleted.{is_in_delete_set}
use Rattle.yd_meaning.specs.Document.{Document, document_of}
use Rattle.yd_meaning.proofs.HonestLemmas.{honest_set}
use Rattle.yd_meaning.specs.Grown.{StandsHonest}
use Rattle.yd_meaning.specs.Own.{ids_in}
use Rattle.yd_meaning.proofs.GrownHonestLemmas.{grown_is_order}
use Rattle.yd_received.specs.Received.{taken_of}
use Rattle.yd_held.proofs.HoldingLemmas.{is_written}
use Rattle.yd_held.proofs.KeptLemmas.{holds_holding}
use Rattle.yd_listing.proofs.LawLemmas.{has_named, named_has}
use Rattle.yd_state.specs.State.{StateValue, received_in, held_in, document_in, IsSound}
use Rattle.yd_state.specs.Law.{DocumentIsOwn, IsDefined, DocumentIsDefined}
use Rattle.yd_state.proofs.LentLemmas.{document_replica}

pub document_is_own : DocumentIsOwn
document_is_own = document_replica

module _ (s : StateValue) (sound : IsSound s) (honest : AreHonest (held_in s)) where
  abbrev taken : List Operation
  taken = taken_of s.held.received

  written : IsWritten taken
  written = sound.received.written

  honest_now : AreHonest (held_set taken)
  honest_now = subst AreHonest sound.holds.held honest

  defined : document_in s ≡ document_of (received_in s)
  defined = (document_replica s sound).defined honest_now

  ordered : (list : DocList) → ids_in (document_in s) list ≡ order_of (standing (held_in s)) list
  ordered list =
      let grown = sound.own.lists in
      grown_is_order (held_in s) (is_written s.held (holds_holding s.held sound.holds)) (subst StandsHonest (sym sound.holds.held) (honest_set taken written honest_now))
      list (ids_in (document_in s) list) (grown.grown list) (λ x up of. (grown.each list x).1 (up, of))

  deleted_so : (x : Id) → is_named s.deletes x ≡ is_in_delete_set (received_in s) x
  deleted_so x = ap (λ (d : Document). d.deleted x) defined

  is_defined : IsDefined s
  is_defined = record {
    document = defined;
    order = ordered;
    deletes = λ x. ((λ h. sym (deleted_so x) ∙ has_named s.deletes x h), (λ e. named_has s.deletes x (deleted_so x ∙ e)));
  }

pub document_is_defined : DocumentIsDefined
document_is_defined = is_defined
