-- An edit of one list, with a key or without: what lies around it is as before.
use Rattle.std.proofs.Common.{◌≡◌, ◌≢◌, ◌⊎◌, ◌+◌, ℕ, true, false, List, [], ◌∷◌, map, Option, Some, None, inl, inr, refl, sym, ap, ◌∙◌, subst, true≢false}
use Rattle.std.proofs.lemmas.Bool.{cases_Bool, false_from_ne_true}
use Rattle.std.specs.Prelude.{IfSome, if◌then◌else◌}
use Rattle.yd_words.specs.Each.{Each}
use Rattle.yd_words.specs.Test.{is_some_and}
use Rattle.yd_words.specs.Member.{IsIn}
use Rattle.yd_ids.specs.declared.id.Client.{Client}
use Rattle.yd_ids.specs.declared.id.Id.{Id}
use Rattle.yd_ids.specs.Set.{HasId}
use Rattle.yd_ops.specs.declared.lists.List.{List as DocList}
use Rattle.yd_ops.specs.Value.{len_of}
use Rattle.yd_ops.specs.Operation.{Operation, operations_of_run}
use Rattle.yd_ops.specs.Received.{has_operation, all_taken, Received}
use Rattle.yd_ops.specs.ReceivedLaw.{IsReceived}
use Rattle.yd_meaning.specs.ListNames.{same_list_decides}
use Rattle.yd_meaning.specs.Names.{same_list, has_key, item_of_list}
use Rattle.yd_meaning.specs.Held.{held_set, held_clock, standing, is_named}
use Rattle.yd_meaning.specs.Order.{list_of, order_of, AreHonest}
use Rattle.yd_meaning.specs.Deleted.{is_deleted}
use Rattle.yd_editing.specs.Step.{Step, make, remove}
use Rattle.yd_editing.specs.Basis.{basis_of}
use Rattle.yd_editing.specs.Made.{put_behind, lists_with, lists_after, run_of_step, removed_by}
use Rattle.yd_editing.specs.Refused.{refusal_of}
use Rattle.yd_editing.specs.Law.{after_edit, IsHonestHeld, units_of, StandAfter, MakesContent, made_by, evolved_by, EditIsTaken, EditIsHeld}
use Rattle.yd_editing.specs.TextLaw.{IsQuietText, MakesIn}
use Rattle.yd_editing.proofs.NamedLemmas.{has_named, named_has}
use Rattle.yd_editing.proofs.LiveLemmas.{parent_same, stood_same}
use Rattle.yd_editing.proofs.UnitLemmas.{in_list, unit_ids, held_id}
use Rattle.yd_editing.proofs.TakenLemmas.{honest_held, edit_is_taken, edit_is_held}

-- the other lists stay
pub other_evolves : (name other : DocList) → other ≢ name → (steps : List Step) → MakesIn name steps → (client : Client) (clock : ℕ) (lists : DocList → List Operation) →
    lists_after client clock lists steps other ≡ lists other
other_evolves name other differ [] own client clock lists = refl
other_evolves name other differ (make list after content ∷ steps) own client clock lists =
    other_evolves name other differ steps own.1 client (clock + len_of content) (lists_with lists list after
    (operations_of_run (run_of_step client clock lists list after content)))
    ∙ ap (λ t. if t then put_behind after (operations_of_run (run_of_step client clock lists list after content)) (lists other) else lists other)
    (false_from_ne_true (same_list other list) (λ e. differ ((same_list_decides other list).0 e ∙ own.0)))
other_evolves name other differ (remove spans ∷ steps) own client clock lists = other_evolves name other differ steps own client clock lists

-- an honest document of which nothing waits, no deletion either, and a list of it, whose parent is a root or live
pub record IsQuietList (r : Received) (name : DocList) : Type 0 where
  pub received : IsReceived r
  pub whole : held_set r.operations ≡ r.operations
  pub deletes : (x : Id) → HasId r.deletes x → has_operation r.operations x ≡ true
  pub honest : AreHonest (held_set r.operations)
  pub live : IfSome (item_of_list name) (λ y. (has_operation (held_set r.operations) y ≡ true) × (is_deleted (held_set r.operations) (is_named r.deletes) y ≡ false))

-- so is a quiet text
pub as_list : (r : Received) (name : DocList) → IsQuietText r name → IsQuietList r name
as_list r name quiet = record { received = quiet.received; whole = quiet.whole; deletes = quiet.deletes; honest = quiet.honest; live = quiet.live }

-- the parent of a quiet list is not deleted
pub live_before : (r : Received) (name : DocList) → IsQuietList r name →
    is_some_and (is_deleted (held_set r.operations) (is_named r.deletes)) (item_of_list name) ≡ false
live_before r name quiet = go (item_of_list name) quiet.live
  where
    go : (z : Option Id) → IfSome z (λ y. (has_operation (held_set r.operations) y ≡ true) × (is_deleted (held_set r.operations) (is_named r.deletes) y ≡ false)) →
        is_some_and (is_deleted (held_set r.operations) (is_named r.deletes)) z ≡ false
    go None e = refl
    go (Some y) e = e.1

module _ (client : Client) (r : Received) (name : DocList) (quiet : IsQuietList r name) (steps : List Step) (makes : Each MakesContent steps) (own : MakesIn name steps)
    (removed : (x : Id) → HasId (removed_by steps) x → IsIn x (order_of (standing (held_set r.operations)) name)) (done : refusal_of (basis_of client r) steps ≡ None) where
  abbrev held : List Operation
  held = held_set r.operations

  abbrev news : List Operation
  news = made_by client r steps

  abbrev r_after : Received
  r_after = after_edit client r steps

  abbrev new : List Operation
  new = held_set r_after.operations

  is : IsHonestHeld held
  is = honest_held r.operations quiet.received.written quiet.honest

  pub taken : EditIsTaken client r steps
  taken = edit_is_taken client r steps quiet.received makes done

  pub is_held : EditIsHeld client r steps
  is_held = edit_is_held client r steps quiet.received makes done quiet.whole quiet.honest

  pub moment : StandAfter held news (evolved_by client r steps)
  moment = taken.moment quiet.honest

  pub new_is : IsHonestHeld new
  new_is = subst (λ os. IsHonestHeld os) (sym is_held.held) moment.all_held

  others : (other : DocList) → other ≢ name → order_of (standing (all_taken news held)) other ≡ order_of (standing held) other
  others other differ = sym (unit_ids (all_taken news held) moment.all_held other)
      ∙ ap (map (λ (o : Operation). o.id)) (moment.lists other ∙ other_evolves name other differ steps own client (held_clock held client.0) (units_of held))
      ∙ unit_ids held is other

  -- what is named outside of the list is what was named
  pub same_named : (x : Id) → has_operation (standing held) x ≡ true → list_of (standing held) x ≢ name → is_named r_after.deletes x ≡ is_named r.deletes x
  same_named x e differ = go (cases_Bool (is_named r.deletes x))
    where
      go : (is_named r.deletes x ≡ true) ⊎ (is_named r.deletes x ≡ false) → is_named r_after.deletes x ≡ is_named r.deletes x
      go (inl f) = has_named r_after.deletes x ((taken.deletes x).1 (inl (named_has r.deletes x f))) ∙ sym f
      go (inr f) = false_from_ne_true (is_named r_after.deletes x) (λ g. elim ((taken.deletes x).0 (named_has r_after.deletes x g)) [
        | inl h ↦ true≢false (sym (has_named r.deletes x h) ∙ f)
        | inr h ↦ differ ((in_list held is name x).0 (removed x h)).1
      ]) ∙ sym f

  -- the parent stands, and is live before and after
  live_stands : (y : Id) → has_operation held y ≡ true → is_deleted held (is_named r.deletes) y ≡ false → has_operation (standing held) y ≡ true
  live_stands y e f = elim (cases_Bool (has_operation (standing held) y)) [
    | inl there ↦ there
    | inr none ↦ absurd (true≢false (sym (lost none) ∙ f))
  ]
    where
      lost : has_operation (standing held) y ≡ false → is_deleted held (is_named r.deletes) y ≡ true
      lost none = rw (e, none) refl

  pub live_after : is_some_and (is_deleted (all_taken news held) (is_named r_after.deletes)) (item_of_list name) ≡ false
  live_after = go (item_of_list name) refl quiet.live
    where
      go : (z : Option Id) → item_of_list name ≡ z → IfSome z (λ y. (has_operation held y ≡ true) × (is_deleted held (is_named r.deletes) y ≡ false)) →
          is_some_and (is_deleted (all_taken news held) (is_named r_after.deletes)) z ≡ false
      go None e f = refl
      go (Some y) e f = parent_same held news (evolved_by client r steps) is moment name others (is_named r.deletes) (is_named r_after.deletes) same_named y
          (live_stands y f.0 f.1) e ∙ f.1

  -- the same, of all that is held afterwards
  pub live_new : is_some_and (is_deleted new (is_named r_after.deletes)) (item_of_list name) ≡ false
  live_new = subst (λ os. is_some_and (is_deleted os (is_named r_after.deletes)) (item_of_list name) ≡ false) (sym is_held.held) live_after

  -- where the list has no key, and nothing more is named, all that stood is deleted as before
  pub stood_as_before : has_key name ≡ false → ((x : Id) → is_named r_after.deletes x ≡ is_named r.deletes x) → (y : Id) → has_operation (standing held) y ≡ true →
      is_deleted new (is_named r_after.deletes) y ≡ is_deleted held (is_named r.deletes) y
  stood_as_before no_key same y e = ap (λ os. is_deleted os (is_named r_after.deletes) y) is_held.held
      ∙ stood_same held news (evolved_by client r steps) is moment name others (is_named r.deletes) (is_named r_after.deletes) same_named no_key same y e

  -- what a new operation is: not named before
  pub new_not_named : (o : Operation) → IsIn o news → is_named r.deletes o.id ≡ false
  new_not_named o i = false_from_ne_true (is_named r.deletes o.id) (λ e. true≢false (sym (quiet.deletes o.id (named_has r.deletes o.id e)) ∙ taken.new o i))

  -- the units of a quiet list are received
  pub received_unit : (x : Id) → IsIn x (order_of (standing held) name) → has_operation r.operations x ≡ true
  received_unit x i = subst (λ os. has_operation os x ≡ true) quiet.whole (held_id held is x ((in_list held is name x).0 i).0)
