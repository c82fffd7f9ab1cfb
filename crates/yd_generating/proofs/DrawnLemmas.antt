-- Edits by draws: their steps and refusals by what the code computed, and when they are refused.
use Rattle.std.proofs.Common.{◌≡◌, ℕ, ◌+◌, ◌%◌, ◌^◌, ◌<◌, ◌≤◌, Bool, true, false, List, Option, Some, None, length, inl, inr, refl, sym, ap, ◌∙◌, subst, arith, tests, mod-lt}
use Rattle.std.specs.Prelude.{if◌then◌else◌}
use Rattle.yd_words.proofs.TestLemmas.{split}
use Rattle.yd_ids.specs.declared.id.Client.{Client}
use Rattle.yd_ids.specs.Id.{IsClient}
use Rattle.yd_ops.specs.declared.lists.List.{List as DocList}
use Rattle.yd_ops.specs.Received.{Received}
use Rattle.yd_ops.specs.Value.{ContentValue, UpdateValue}
use Rattle.yd_meaning.specs.Document.{Document, document_of}
use Rattle.yd_meaning.specs.Held.{held_clock, held_set}
use Rattle.yd_meaning.specs.Order.{AreHonest}
use Rattle.yd_meaning.specs.Replica.{IsReplicaDocument}
use Rattle.yd_editing.specs.Basis.{basis_of, basis_over}
use Rattle.yd_editing.specs.Refused.{refusal_of}
use Rattle.yd_editing.specs.Step.{Refusal, Step, no_place, not_held, clock_full, inside_pair, own_waiting, past_end, no_key}
use Rattle.yd_editing.specs.TextEdit.{counted_units, delete_refusal, delete_steps, insert_refusal, insert_steps}
use Rattle.yd_generator.specs.declared.draws.Draws.{Draws}
use Rattle.yd_generator.specs.Generated.{edited, inserts, letter, steps_drawn, text_list}
use Rattle.yd_generator.specs.Law.{IsAccepted}
use Rattle.yd_generator.specs.Plain.{IsPlain}
use Rattle.yd_generator.proofs.AcceptedLemmas.{letter_accepted, removal_accepted}
use Rattle.yd_making.specs.Steps.{IsCause}
use Rattle.yd_making.specs.declared.fault.EditFault.{EditFault}
use Rattle.yd_making.specs.declared.fault.EditFault.TheVariants.{NoMemory, NoPlace, NotHeld, ClockFull, InsidePair, OwnWaiting, PastEnd, NoKey, Nothing}
use Rattle.yd_doc.specs.Editing.{IsEdit, own_basis}
use Rattle.yd_doc.specs.Kept.{Kept, own_document, received_of}
use Rattle.yd_text.proofs.ShowingLemmas.{received_then}
use Rattle.yd_generating.specs.Stopped.{HasEdited, IsFull, drawn_refusal, stopped_by}

-- ---- by cases of the test

module _ {X : Type 0} (yea nay : ℕ → X) (d : Draws) (document : Document) (list : DocList) (len : ℕ) (t : Bool) (is : list ≡ text_list)
    (len_is : len ≡ length (counted_units document list)) (t_is : t ≡ inserts len d.x) where
  whole : len ≡ length (counted_units document text_list)
  whole = len_is ∙ ap (λ (l : DocList). length (counted_units document l)) is

  pub chosen_first : t ≡ true → yea len ≡ (if inserts (length (counted_units document text_list)) d.x then yea (length (counted_units document text_list)) else nay (length (counted_units document text_list)))
  chosen_first e = ap yea whole ∙ ap (λ b. if b then yea (length (counted_units document text_list)) else nay (length (counted_units document text_list)))
      (sym (sym (ap (λ n. inserts n d.x) whole) ∙ sym t_is ∙ e))

  pub chosen_second : t ≡ false → nay len ≡ (if inserts (length (counted_units document text_list)) d.x then yea (length (counted_units document text_list)) else nay (length (counted_units document text_list)))
  chosen_second e = ap nay whole ∙ ap (λ b. if b then yea (length (counted_units document text_list)) else nay (length (counted_units document text_list)))
      (sym (sym (ap (λ n. inserts n d.x) whole) ∙ sym t_is ∙ e))

-- what was done with the list and the letter that are given
module _ (k : Kept) (list : DocList) (is : list ≡ text_list) (index : ℕ) where
  pub removal_refused : (fault : EditFault) → IsCause fault (delete_refusal (own_basis k) list index 1) → IsCause fault (delete_refusal (own_basis k) text_list index 1)
  removal_refused fault cause = subst (λ (l : DocList). IsCause fault (delete_refusal (own_basis k) l index 1)) is cause

  pub letter_refused : (content : ContentValue) (z : ℕ) → content ≡ letter z → (fault : EditFault) → IsCause fault (insert_refusal (own_basis k) list index content) →
      IsCause fault (insert_refusal (own_basis k) text_list index (letter z))
  letter_refused content z e fault cause = subst (λ (l : DocList). IsCause fault (insert_refusal (own_basis k) l index (letter z))) is
      (subst (λ (v : ContentValue). IsCause fault (insert_refusal (own_basis k) list index v)) e cause)

module _ (k new : Kept) (list : DocList) (is : list ≡ text_list) (index : ℕ) where
  pub unit_removed : (update : UpdateValue) → IsEdit k new (delete_steps (own_document k) list index 1) update → HasEdited k new (delete_steps (own_document k) text_list index 1)
  unit_removed update edit = (update, subst (λ (l : DocList). IsEdit k new (delete_steps (own_document k) l index 1) update) is edit)

  pub letter_made : (content : ContentValue) (z : ℕ) → content ≡ letter z → (update : UpdateValue) → IsEdit k new (insert_steps (own_document k) list index content) update →
      HasEdited k new (insert_steps (own_document k) text_list index (letter z))
  letter_made content z e update edit = (
    update,
    subst (λ (l : DocList). IsEdit k new (insert_steps (own_document k) l index (letter z)) update) is
        (subst (λ (v : ContentValue). IsEdit k new (insert_steps (own_document k) list index v) update) e edit),
  )

-- the edit by draws is the one that was chosen
module _ (k : Kept) (d : Draws) (list : DocList) (is : list ≡ text_list) (len : ℕ) (len_is : len ≡ length (counted_units (own_document k) list))
    (t : Bool) (t_is : t ≡ inserts len d.x) where
  abbrev first_steps : ℕ → List Step
  first_steps n = insert_steps (own_document k) text_list (d.y % (n + 1)) (letter d.z)

  abbrev second_steps : ℕ → List Step
  second_steps n = delete_steps (own_document k) text_list (d.y % n) 1

  abbrev first_refusal : ℕ → Option Refusal
  first_refusal n = insert_refusal (own_basis k) text_list (d.y % (n + 1)) (letter d.z)

  abbrev second_refusal : ℕ → Option Refusal
  second_refusal n = delete_refusal (own_basis k) text_list (d.y % n) 1

  pub first_done : t ≡ true → (index : ℕ) → index ≡ d.y % (len + 1) → (new : Kept) →
      HasEdited k new (insert_steps (own_document k) text_list index (letter d.z)) → HasEdited k new (steps_drawn d (own_document k))
  first_done e index index_is new edit = subst (λ (steps : List Step). HasEdited k new steps)
      (ap (λ n. insert_steps (own_document k) text_list n (letter d.z)) index_is ∙ chosen_first first_steps second_steps d (own_document k) list len t is len_is t_is e) edit

  pub second_done : t ≡ false → (new : Kept) →
      HasEdited k new (delete_steps (own_document k) text_list (d.y % len) 1) → HasEdited k new (steps_drawn d (own_document k))
  second_done e new edit = subst (λ (steps : List Step). HasEdited k new steps)
      (chosen_second first_steps second_steps d (own_document k) list len t is len_is t_is e) edit

  pub first_refused : t ≡ true → (index : ℕ) → index ≡ d.y % (len + 1) → (fault : EditFault) →
      IsCause fault (insert_refusal (own_basis k) text_list index (letter d.z)) → IsCause fault (drawn_refusal d (own_basis k))
  first_refused e index index_is fault cause = subst (λ (r : Option Refusal). IsCause fault r)
      (ap (λ n. insert_refusal (own_basis k) text_list n (letter d.z)) index_is ∙ chosen_first first_refusal second_refusal d (own_document k) list len t is len_is t_is e) cause

  pub second_refused : t ≡ false → (fault : EditFault) →
      IsCause fault (delete_refusal (own_basis k) text_list (d.y % len) 1) → IsCause fault (drawn_refusal d (own_basis k))
  second_refused e fault cause = subst (λ (r : Option Refusal). IsCause fault r)
      (chosen_second first_refusal second_refusal d (own_document k) list len t is len_is t_is e) cause

-- ---- refusals

not_refused : (refusal : Refusal) (given : Option Refusal) → given ≡ Some refusal → given ≡ None → ⊥
not_refused refusal given e f = let g : ◌≡◌ {A = Option Refusal} (Some refusal) None = sym e ∙ f in absurd cc

full_or : (clock : ℕ) (refusal : Refusal) (given : Option Refusal) → given ≡ Some refusal → (clock + 1 < 2 ^ 53 → given ≡ None) → 2 ^ 53 ≤ clock + 1
full_or clock refusal given e none = elim (split (2 ^ 53) (clock + 1)) [ inl le ↦ le | inr lt ↦ absurd (not_refused refusal given e (none lt)) ]

-- an edit that is not carried out found no memory, or no clock is left
pub stops_full : (clock : ℕ) (fault : EditFault) (given : Option Refusal) → IsCause fault given → (clock + 1 < 2 ^ 53 → given ≡ None) → IsFull clock (stopped_by fault)
stops_full clock NoMemory given cause none = tt
stops_full clock (NoPlace id) given cause none = full_or clock (no_place id) given cause none
stops_full clock (NotHeld id) given cause none = full_or clock (not_held id) given cause none
stops_full clock (ClockFull at) given cause none = full_or clock (clock_full at) given cause none
stops_full clock (InsidePair place) given cause none = full_or clock (inside_pair place) given cause none
stops_full clock (OwnWaiting at) given cause none = full_or clock (own_waiting at) given cause none
stops_full clock (PastEnd len) given cause none = full_or clock (past_end len) given cause none
stops_full clock NoKey given cause none = full_or clock no_key given cause none
stops_full clock Nothing given cause none = absurd cause

rest_within : (y len : ℕ) → y % (len + 1) ≤ len
rest_within y len = omega arith

rest_below : (y len : ℕ) → 0 < len → y % len < len
rest_below y len some = mod-lt y some

some_left : (len x : ℕ) → inserts len x ≡ false → 0 < len
some_left len x e = grind (arith, tests)

-- over the defined document an edit by draws is not refused, where a clock is left
none_refused : (client : Client) (c : IsClient client) (d : Draws) (r : Received) → IsPlain r → held_clock (held_set r.operations) client.0 + 1 < 2 ^ 53 →
    drawn_refusal d (basis_of client r) ≡ None
none_refused client c d r is lt = go (inserts (length (counted_units (document_of r) text_list)) d.x) refl
  where
    go : (t : Bool) → inserts (length (counted_units (document_of r) text_list)) d.x ≡ t →
        (if t then insert_refusal (basis_of client r) text_list (d.y % (length (counted_units (document_of r) text_list) + 1)) (letter d.z)
        else delete_refusal (basis_of client r) text_list (d.y % length (counted_units (document_of r) text_list)) 1) ≡ None
    go true e = letter_accepted client r c is lt (d.y % (length (counted_units (document_of r) text_list) + 1)) d.z (rest_within d.y (length (counted_units (document_of r) text_list)))
    go false e = removal_accepted client r c is lt (d.y % length (counted_units (document_of r) text_list))
        (rest_below d.y (length (counted_units (document_of r) text_list)) (some_left (length (counted_units (document_of r) text_list)) d.x e))

-- ---- lemmas for callers

module _ (k : Kept) (is : IsPlain (received_of k)) (own : IsReplicaDocument (own_document k) (received_of k)) (d : Draws) where
  honest : AreHonest (held_set (received_of k).operations)
  honest = subst (λ h. AreHonest h) (sym is.all_held) is.honest

  pub drawn_received : (new : Kept) → HasEdited k new (steps_drawn d (own_document k)) → received_of new ≡ edited k.client d (received_of k)
  drawn_received new edit = received_then k own honest new (steps_drawn d) edit.0 edit.1

  pub drawn_taken : (new : Kept) → HasEdited k new (steps_drawn d (own_document k)) → IsAccepted k.client d (received_of k)
  drawn_taken new edit = subst (λ (document : Document). refusal_of (basis_over k.client document (received_of k)) (steps_drawn d document) ≡ None) (own.defined honest) edit.1.accepted

  pub drawn_stops : IsClient k.client → (fault : EditFault) → IsCause fault (drawn_refusal d (own_basis k)) → IsFull (held_clock (held_set (received_of k).operations) k.client.0) (stopped_by fault)
  drawn_stops c fault cause = stops_full (held_clock (held_set (received_of k).operations) k.client.0) fault (drawn_refusal d (own_basis k)) cause
      (λ lt. subst (λ (document : Document). drawn_refusal d (basis_over k.client document (received_of k)) ≡ None) (sym (own.defined honest)) (none_refused k.client c d (received_of k) is lt))
