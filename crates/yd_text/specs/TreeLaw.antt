-- What each edit of a map shows in a replica that made it, as statements. Its document is honest and nothing waits (own).
use Rattle.std.specs.Prelude.{◌≡◌, ℕ, true, List, [], ◌∷◌, Some, None}
use Rattle.yd_ops.specs.declared.lists.Parent.{Parent}
use Rattle.yd_ops.specs.Operation.{Operation, UnitContent, units_of_content}
use Rattle.yd_ops.specs.Value.{ContentValue, UpdateValue}
use Rattle.yd_shown.specs.Shown.{is_counted, own_list, unit_under}
use Rattle.yd_editing.specs.Law.{IsHonestHeld, IsMakeable}
use Rattle.yd_editing.specs.MapEdit.{set_steps, unset_steps, set_refusal, unset_refusal}
use Rattle.yd_editing.specs.MapLaw.{OthersStay}
use Rattle.yd_editing.specs.TextLaw.{IsQuietText}
use Rattle.yd_doc.specs.Editing.{own_basis, IsEdit}
use Rattle.yd_doc.specs.Kept.{Kept, received_of, own_document}

-- all is held and honest; the unit stands under the key. Every other key of the parent has the unit that it had, and every
-- other list stays
pub record ShowsSet (old new : Kept) (parent : Parent) (key : List ℕ) (unit : UnitContent) : Type 0 where
  pub held : IsHonestHeld (received_of new).operations
  pub made : Operation
  pub content : made.content ≡ unit
  pub under : unit_under (own_document new) parent key ≡ Some made
  pub others : OthersStay (own_document old) (own_document new) parent key

-- so it is after one value or one type is set
abbrev pub SettingsShow : Kept → Kept → Type 0
SettingsShow old new = (parent : Parent) (key : List ℕ) (content : ContentValue) (unit : UnitContent) (update : UpdateValue) →
    IsQuietText (received_of old) (own_list parent) → IsMakeable content → units_of_content content ≡ unit ∷ [] → is_counted unit ≡ true →
    set_refusal (own_basis old) parent key content ≡ None → IsEdit old new (set_steps (own_document old) parent key content) update → ShowsSet old new parent key unit

-- all is held and honest; the key has no value. Every other key of the parent has the unit that it had, and every other list
-- stays
pub record ShowsUnset (old new : Kept) (parent : Parent) (key : List ℕ) : Type 0 where
  pub held : IsHonestHeld (received_of new).operations
  pub under : unit_under (own_document new) parent key ≡ None
  pub others : OthersStay (own_document old) (own_document new) parent key

-- so it is after what stands under a key is removed
abbrev pub RemovalsShow : Kept → Kept → Type 0
RemovalsShow old new = (parent : Parent) (key : List ℕ) (update : UpdateValue) → IsQuietText (received_of old) (own_list parent) →
    unset_refusal (own_basis old) parent key ≡ None → IsEdit old new (unset_steps (own_document old) parent key) update → ShowsUnset old new parent key
