-- An undo and its redo, over any lists: the undo is an edit, and so its redo shows again what was there before it.
use Rattle.std.proofs.Common.{◌≡◌, ◌&&◌, not, Bool, true, false, List, nat_lt, inl, inr, refl, sym, subst, arith, tests, true≢false}
use Rattle.yd_words.specs.Each.{Each}
use Rattle.yd_words.specs.Member.{IsIn}
use Rattle.yd_words.proofs.EachLemmas.{each_weaker}
use Rattle.yd_ids.specs.declared.id.Id.{Id}
use Rattle.yd_ids.specs.Set.{HasId}
use Rattle.yd_ops.specs.declared.lists.List.{List as DocList}
use Rattle.yd_ops.specs.declared.lists.Parent.{Parent}
use Rattle.yd_ops.specs.Operation.{Operation}
use Rattle.yd_ops.specs.Received.{has_operation}
use Rattle.yd_meaning.specs.Document.{Document, document_of}
use Rattle.yd_meaning.specs.Held.{held_set, held_clock}
use Rattle.yd_meaning.specs.Replica.{IsReplicaDocument}
use Rattle.yd_meaning.proofs.VectorLemmas.{held_below}
use Rattle.yd_shown.specs.Shown.{own_list, key_list}
use Rattle.yd_shown.proofs.MapLemmas.{last_is_one}
use Rattle.yd_making.specs.Steps.{IsProper}
use Rattle.yd_editing.specs.Law.{IsHonestHeld, MakesContent}
use Rattle.yd_editing.specs.Made.{removed_by}
use Rattle.yd_editing.specs.TextLaw.{IsQuietText}
use Rattle.yd_editing.proofs.RefusalLemmas.{id_in_map}
use Rattle.yd_editing.proofs.TakenLemmas.{honest_held}
use Rattle.yd_editing.proofs.UnitLemmas.{in_list, unit_ids, held_id}
use Rattle.yd_doc.specs.Kept.{Kept, received_of, own_document}
use Rattle.yd_undo.specs.declared.entry.Entry.{Entry}
use Rattle.yd_undo.specs.Remade.{seen_of}
use Rattle.yd_undo.specs.Steps.{is_live, undo_steps}
use Rattle.yd_undo.proofs.LawLemmas.{undo_removes}
use Rattle.yd_restoring.specs.Each.{EditsAreUndone, EachRedoShows, InsertsNoType, RemovesLive}
use Rattle.yd_restoring.specs.Keyed.{KeysAreUndone, KeysRedoShow}
use Rattle.yd_restoring.proofs.MomentLemmas.{proper_makes}

not_dead : (held dead : Bool) → held && not dead ≡ true → dead ≡ false
not_dead true true e = absurd (true≢false (sym e))
not_dead true false e = refl
not_dead false dead e = absurd (true≢false (sym e))

module _ (old : Kept) (proper : (e : Entry) → Each IsProper (undo_steps (seen_of old) e)) where
  makes : (e : Entry) → Each MakesContent (undo_steps (seen_of old) e)
  makes e = each_weaker IsProper MakesContent proper_makes (undo_steps (seen_of old) e) (proper e)

  -- what an undo removes its entry inserted, and it is live
  is_own : (e : Entry) (x : Id) → HasId (removed_by (undo_steps (seen_of old) e)) x → HasId e.inserted x × ((own_document old).deleted x ≡ false)
  is_own e x h = let both = (undo_removes (seen_of old) e x).0 h in
      (both.0, not_dead (nat_lt x.clock (held_clock (held_set (received_of old).operations) x.client.0)) ((own_document old).deleted x) both.1)

  removes_live : (name : DocList) (e : Entry) → InsertsNoType old name e → RemovesLive old name (undo_steps (seen_of old) e)
  removes_live name e no_type o i h = let own = is_own e o.id h in (own.1, no_type o i own.1 own.0)

  module _ (own : IsReplicaDocument (own_document old) (received_of old)) (parent : Parent) (quiet : IsQuietText (received_of old) (own_list parent)) where
    held : List Operation
    held = held_set (received_of old).operations

    is : IsHonestHeld (held_set (received_of old).operations)
    is = honest_held (received_of old).operations quiet.received.written quiet.honest

    -- a unit that is not deleted is live
    unit_is_live : (name : DocList) (o : Operation) → IsIn o ((own_document old).units name) → (own_document old).deleted o.id ≡ false → is_live (seen_of old) o.id ≡ true
    unit_is_live name o i alive = (λ j. below j && not (alive j))
      where
        listed : IsIn o ((document_of (received_of old)).units name)
        listed = subst (λ (d : Document). IsIn o (d.units name)) (own.defined quiet.honest) i

        there : has_operation (held_set (received_of old).operations) o.id ≡ true
        there = held_id (held_set (received_of old).operations) is o.id ((in_list (held_set (received_of old).operations) is name o.id).0
            (subst (λ ids. IsIn o.id ids) (unit_ids (held_set (received_of old).operations) is name) (id_in_map ((document_of (received_of old)).units name) o listed))).0

        below : nat_lt o.id.clock (held_clock (held_set (received_of old).operations) o.id.client.0) ≡ true
        below = let lt = (held_below (received_of old).operations quiet.received.written o.id.client o.id.clock).0 there in grind (arith, tests)

-- ---- lemmas for callers

module _ (old mid new : Kept) (proper : (e : Entry) → Each IsProper (undo_steps (seen_of old) e)) where
  pub each_redo_shown : EditsAreUndone old mid new → EachRedoShows old mid new
  each_redo_shown law name e noted undone redone quiet dead no_type is place live again live_new =
      law name (undo_steps (seen_of old) e) noted undone redone quiet (makes old proper e) is dead (removes_live old proper name e no_type) place live again live_new

  pub keys_redo_shown : IsReplicaDocument (own_document old) (received_of old) → KeysAreUndone old mid new → KeysRedoShow old mid new
  keys_redo_shown own law parent key e noted undone redone quiet dead own_key is place live again live_new =
      law parent key (undo_steps (seen_of old) e) noted undone redone quiet (makes old proper e) is dead (record {
        removed = removes_live old proper (key_list parent key) e own_key.no_type;
        replaced = λ o last alive. elim (own_key.own o last alive) [
          | inl i ↦ inl ((undo_removes (seen_of old) e o.id).1 (
            i,
            unit_is_live old proper own parent quiet (key_list parent key) o
                (last_is_one ((own_document old).units (key_list parent key)) o last) alive,
          ))
          | inr other ↦ inr other
        ];
      }) place live again live_new
