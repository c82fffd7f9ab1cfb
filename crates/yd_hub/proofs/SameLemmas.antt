-- Where operations are alike, deletions that were derived change nothing of what is shown.
use Rattle.std.proofs.Common.{◌≡◌, ◌⊎◌, ℕ, zero, suc, Bool, true, false, ◌&&◌, ◌||◌, List, length, Option, Some, None, inl, inr, refl, sym, ap, ◌∙◌, subst, true≢false}
use Rattle.std.proofs.lemmas.Bool.{or_left, or_right}
use Rattle.yd_words.specs.Test.{is_some_and}
use Rattle.yd_words.proofs.TestLemmas.{both_hold}
use Rattle.yd_ids.specs.declared.id.Client.{Client}
use Rattle.yd_ids.specs.declared.id.Id.{Id}
use Rattle.yd_ids.specs.declared.id.Span.{Span}
use Rattle.yd_ids.specs.Set.{HasId}
use Rattle.yd_ids.proofs.UnionLemmas.{union_ids}
use Rattle.yd_ops.specs.Operation.{Operation}
use Rattle.yd_ops.specs.Received.{has_operation, IsWritten, Received, received_after}
use Rattle.yd_ops.specs.Deletes.{deletes_of}
use Rattle.yd_ops.specs.ReceivedLaw.{IsReceived}
use Rattle.yd_ops.proofs.OneOfLemmas.{ids_stay}
use Rattle.yd_meaning.specs.Names.{item_of_list}
use Rattle.yd_meaning.specs.Held.{held_set, standing, is_lost, is_named}
use Rattle.yd_meaning.specs.Order.{list_of, AreHonest}
use Rattle.yd_meaning.specs.Deleted.{is_overwritten, is_deleted_within, is_deleted, is_in_delete_set}
use Rattle.yd_meaning.specs.Document.{document_of}
use Rattle.yd_meaning.specs.Text.{shown_text}
use Rattle.yd_meaning.specs.Law.{ShowAlike}
use Rattle.yd_meaning.proofs.NestingLemmas.{standing_item}
use Rattle.yd_meaning.proofs.VectorLemmas.{held_written}
use Rattle.yd_meaning.proofs.StandingLemmas.{standing_in}
use Rattle.yd_meaning.proofs.DeletedTestLemmas.{is_deleted-one}
use Rattle.yd_meaning.proofs.PartLemmas.{part_stays}
use Rattle.yd_state.proofs.NamedLemmas.{has_named, named_has}
use Rattle.yd_sync.proofs.PresenceLemmas.{tested}
use Rattle.yd_hub.specs.Answers.{Answers, AreAnswersOf}
use Rattle.yd_hub.specs.ExchangeLaw.{AddsDerived, IsPartOfNow}

-- ---- tests

or_cases : (a b : Bool) → (a || b) ≡ true → (a ≡ true) ⊎ (b ≡ true)
or_cases true b e = inl refl
or_cases false b e = inr e

and_alike : (t a b : Bool) → (t ≡ true → a ≡ b) → t && a ≡ t && b
and_alike true a b f = f refl
and_alike false a b f = refl

one_test : (t u : Bool) → (t ≡ true → u ≡ true) → (u ≡ true → t ≡ true) → t ≡ u
one_test true u a b = sym (a refl)
one_test false true a b = b refl
one_test false false a b = refl

-- ---- what is deleted

module _ (os : List Operation) (w : IsWritten os) (named other : Id → Bool)
    (covered : (y : Id) → has_operation (held_set os) y ≡ true → named y ≡ true → is_deleted (held_set os) other y ≡ true) where
  abbrev held : List Operation
  held = held_set os

  standing_held : (x : Id) → has_operation (standing held) x ≡ true → has_operation held x ≡ true
  standing_held x e = ids_stay (standing held) held x (λ o i. (standing_in held (held_written os w) o i).0) e

  item_stands : (x y : Id) → has_operation (standing held) x ≡ true → item_of_list (list_of (standing held) x) ≡ Some y → has_operation (standing held) y ≡ true
  item_stands x y e f = standing_item held (held_written os w) x y e f

  moved : (n : ℕ) (x : Id) → has_operation (standing held) x ≡ true → is_deleted_within (standing held) named n x ≡ true → is_deleted held other x ≡ true
  moved zero x there e = absurd (true≢false (sym e))
  moved (suc n) x there e = elim (or_cases (named x) (overwritten || in_item) e) [
    | inl f ↦ covered x (standing_held x there) f
    | inr f ↦ is_deleted-one os w other x (standing_held x there) ∙ or_right (is_lost held x) (other x || (overwritten || item_now)) (or_right (other x) (overwritten || item_now) (elim (or_cases overwritten in_item f) [
      | inl g ↦ or_left overwritten item_now g
      | inr g ↦ or_right overwritten item_now (item (item_of_list (list_of (standing held) x)) refl g (λ y h. moved n y (item_stands x y there h)))
    ]))
  ]
    where
      overwritten : Bool
      overwritten = is_overwritten (standing held) (list_of (standing held) x) x

      in_item : Bool
      in_item = is_some_and (is_deleted_within (standing held) named n) (item_of_list (list_of (standing held) x))

      item_now : Bool
      item_now = is_some_and (is_deleted held other) (item_of_list (list_of (standing held) x))

      item : (z : Option Id) → item_of_list (list_of (standing held) x) ≡ z → is_some_and (is_deleted_within (standing held) named n) z ≡ true →
          ((y : Id) → item_of_list (list_of (standing held) x) ≡ Some y → is_deleted_within (standing held) named n y ≡ true → is_deleted held other y ≡ true) →
          is_some_and (is_deleted held other) z ≡ true
      item None f g more = absurd (true≢false (sym g))
      item (Some y) f g more = more y f g

  pub deleted_too : (x : Id) → has_operation held x ≡ true → is_deleted held named x ≡ true → is_deleted held other x ≡ true
  deleted_too x there e = elim (tested (has_operation (standing held) x)) [
    | inl stands ↦ elim (or_cases (is_lost held x) (is_deleted_within (standing held) named (suc (length (standing held))) x) e) [
      | inl lost ↦ or_left (is_lost held x) (is_deleted_within (standing held) other (suc (length (standing held))) x) lost
      | inr among ↦ moved (suc (length (standing held))) x stands among
    ]
    | inr none ↦ or_left (is_lost held x) (is_deleted_within (standing held) other (suc (length (standing held))) x) (rw (there, none))
  ]

-- ---- what is shown

-- each deletion that one was told is deleted in the other
pub covers : (one other answering : Received) → IsReceived other → one.operations ≡ other.operations → AreHonest (held_set other.operations) → IsPartOfNow answering other →
    AddsDerived one other answering → (y : Id) → has_operation (held_set other.operations) y ≡ true → is_named one.deletes y ≡ true → is_deleted (held_set other.operations) (is_named other.deletes) y ≡ true
covers one other answering is same honest part derived y there e = go (derived y (named_has one.deletes y e))
  where
    go : HasId other.deletes y ⊎ (is_in_delete_set answering y ≡ true) → is_deleted (held_set other.operations) (is_named other.deletes) y ≡ true
    go (inl h) = is_deleted-one other.operations is.written (is_named other.deletes) y there
        ∙ or_right (is_lost (held_set other.operations) y) (is_named other.deletes y || rest) (or_left (is_named other.deletes y) rest (has_named other.deletes y h))
      where
        rest : Bool
        rest = is_overwritten (standing (held_set other.operations)) (list_of (standing (held_set other.operations)) y) y
            || is_some_and (is_deleted (held_set other.operations) (is_named other.deletes)) (item_of_list (list_of (standing (held_set other.operations)) y))
    go (inr h) = let (in_part, deleted) = both_hold (has_operation (held_set answering.operations) y) (is_deleted (held_set answering.operations) (is_named answering.deletes) y) h in
        (part_stays other.operations is.written (held_set answering.operations) part.held).deletes honest (is_named answering.deletes) (is_named other.deletes)
        (λ x f. has_named other.deletes x (part.deletes x (named_has answering.deletes x f))) y in_part deleted

show_alike : (os : List Operation) → IsWritten os → (one other : List Span) →
    ((y : Id) → has_operation (held_set os) y ≡ true → is_named one y ≡ true → is_deleted (held_set os) (is_named other) y ≡ true) →
    ((y : Id) → has_operation (held_set os) y ≡ true → is_named other y ≡ true → is_deleted (held_set os) (is_named one) y ≡ true) →
    ShowAlike (record { operations = os; deletes = one }) (record { operations = os; deletes = other })
show_alike os w one other there back = record {
  document = λ document another is is_too. is ∙ one_document ∙ sym is_too;
  text = λ document another is is_too list. ap (λ d. shown_text d list) (is ∙ one_document ∙ sym is_too);
  vector = λ client. refl;
  delete_set = λ x. both x;
}
  where
    same : (x : Id) → has_operation (held_set os) x ≡ true → is_deleted (held_set os) (is_named one) x ≡ is_deleted (held_set os) (is_named other) x
    same x e = one_test (is_deleted (held_set os) (is_named one) x) (is_deleted (held_set os) (is_named other) x)
        (deleted_too os w (is_named one) (is_named other) there x e) (deleted_too os w (is_named other) (is_named one) back x e)

    both : (x : Id) → has_operation (held_set os) x && is_deleted (held_set os) (is_named one) x ≡ has_operation (held_set os) x && is_deleted (held_set os) (is_named other) x
    both x = and_alike (has_operation (held_set os) x) (is_deleted (held_set os) (is_named one) x) (is_deleted (held_set os) (is_named other) x) (same x)

    one_document : document_of (record { operations = os; deletes = one }) ≡ document_of (record { operations = os; deletes = other })
    one_document = λ i. record {
      units = (document_of (record { operations = os; deletes = one })).units;
      deleted = λ x. both x i;
      keys = (document_of (record { operations = os; deletes = one })).keys;
    }

pub documents_meet : (one other one_then other_then : Received) → IsReceived one → IsReceived other → one.operations ≡ other.operations → AreHonest (held_set one.operations) →
    IsPartOfNow one_then one → IsPartOfNow other_then other → AddsDerived one other other_then → AddsDerived other one one_then → ShowAlike one other
documents_meet one other one_then other_then is_one is_other same honest part part_too derived derived_too =
    subst (λ os. ShowAlike (record { operations = os; deletes = one.deletes }) other) (sym same)
    (show_alike other.operations is_other.written one.deletes other.deletes
    (covers one other other_then is_other same honest_too part_too derived)
    (λ y e f. subst (λ os. has_operation (held_set os) y ≡ true → is_named other.deletes y ≡ true → is_deleted (held_set os) (is_named one.deletes) y ≡ true) same
    (covers other one one_then is_one (sym same) honest part derived_too y) e f))
  where
    honest_too : AreHonest (held_set other.operations)
    honest_too = subst (λ os. AreHonest (held_set os)) same honest

pub reply_derives : (one other other_then : Received) (vector : List (Client × ℕ)) (answers : Answers) → AreAnswersOf other_then answers →
    ((x : Id) → HasId one.deletes x → HasId other.deletes x) → ((x : Id) → HasId other_then.deletes x → HasId other.deletes x) →
    ((x : Id) → HasId answers.deletes x → HasId other_then.deletes x ⊎ (is_in_delete_set other_then x ≡ true)) →
    AddsDerived (received_after one (answers.reply vector)) other other_then
reply_derives one other other_then vector answers answer told stays derived x h = go ((union_ids one.deletes (deletes_of (answers.reply vector)) x).0 h)
  where
    last : HasId other_then.deletes x ⊎ (is_in_delete_set other_then x ≡ true) → HasId other.deletes x ⊎ (is_in_delete_set other_then x ≡ true)
    last (inl i) = inl (stays x i)
    last (inr e) = inr e

    go : HasId one.deletes x ⊎ HasId (deletes_of (answers.reply vector)) x → HasId other.deletes x ⊎ (is_in_delete_set other_then x ≡ true)
    go (inl i) = inl (told x i)
    go (inr i) = last (derived x ((answer.deleted vector x).0 i))
