-- The laws of the edits of a map, as statements.
use Rattle.std.specs.Prelude.{◌≡◌, ◌≢◌, ℕ, true, List, [], ◌∷◌, Some, None}
use Rattle.yd_ids.specs.declared.id.Client.{Client}
use Rattle.yd_ops.specs.declared.lists.Parent.{Parent}
use Rattle.yd_ops.specs.Operation.{UnitContent, Operation, units_of_content}
use Rattle.yd_ops.specs.Value.{ContentValue}
use Rattle.yd_ops.specs.Received.{Received}
use Rattle.yd_meaning.specs.Document.{Document, document_of}
use Rattle.yd_shown.specs.Shown.{is_counted, own_list, key_list, unit_under}
use Rattle.yd_editing.specs.Basis.{basis_of}
use Rattle.yd_editing.specs.Step.{Step}
use Rattle.yd_editing.specs.Law.{after_edit, IsMakeable, EditIsHeld}
use Rattle.yd_editing.specs.Others.{OtherListsStay}
use Rattle.yd_editing.specs.MapEdit.{set_steps, unset_steps, set_refusal, unset_refusal}
use Rattle.yd_editing.specs.TextLaw.{IsQuietText}

-- every other key of the parent has the unit that it had, and every other list stays
pub record OthersStay (old new : Document) (parent : Parent) (key : List ℕ) : Type 0 where
  pub keys : (other : List ℕ) → other ≢ key → unit_under new parent other ≡ unit_under old parent other
  pub lists : OtherListsStay old new (key_list parent key)

-- after steps that set one unit under a key all is held and honest, the unit stands there, and other keys and lists stay
pub record IsSet (client : Client) (r : Received) (parent : Parent) (key : List ℕ) (unit : UnitContent) (steps : List Step) : Type 0 where
  pub held : EditIsHeld client r steps
  pub made : Operation
  pub content : made.content ≡ unit
  pub under : unit_under (document_of (after_edit client r steps)) parent key ≡ Some made
  pub others : OthersStay (document_of r) (document_of (after_edit client r steps)) parent key

-- so it is with each counted unit that is not refused, where the parent is a root or live, and its document is honest and quiet
abbrev pub SetsStand : Type 0
SetsStand = (client : Client) (r : Received) (parent : Parent) (key : List ℕ) (content : ContentValue) (unit : UnitContent) → IsQuietText r (own_list parent) →
    IsMakeable content → units_of_content content ≡ unit ∷ [] → is_counted unit ≡ true → set_refusal (basis_of client r) parent key content ≡ None →
    IsSet client r parent key unit (set_steps (document_of r) parent key content)

-- after steps that remove what stands under a key all is held and honest, the key has no value, and other keys and lists stay
pub record IsUnset (client : Client) (r : Received) (parent : Parent) (key : List ℕ) (steps : List Step) : Type 0 where
  pub held : EditIsHeld client r steps
  pub under : unit_under (document_of (after_edit client r steps)) parent key ≡ None
  pub others : OthersStay (document_of r) (document_of (after_edit client r steps)) parent key

-- so it is with each removal that is not refused
abbrev pub UnsetsStand : Type 0
UnsetsStand = (client : Client) (r : Received) (parent : Parent) (key : List ℕ) → IsQuietText r (own_list parent) → unset_refusal (basis_of client r) parent key ≡ None →
    IsUnset client r parent key (unset_steps (document_of r) parent key)
