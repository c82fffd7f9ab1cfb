-- The laws of what is shown.
use Rattle.std.specs.Prelude.{◌↔◌, Decides, ◌≡◌, ℕ, Bool, true, false, List, [], ◌∷◌, Some, None, ◌||◌, filter, if◌then◌else◌}
use Rattle.std.specs.Ordering.{nat_cmp}
use Rattle.std.specs.declared.cmp.Ordering.TheVariants.{Less}
use Rattle.std.specs.Cmp.Lexicographic.{slice_cmp}
use Rattle.yd_words.specs.Each.{Each}
use Rattle.yd_words.specs.Member.{IsIn}
use Rattle.yd_units.specs.Text.{text_of}
use Rattle.yd_any.specs.Tree.{null, AnyTree, AnyFields, no_fields, field}
use Rattle.yd_any.specs.Keys.{is_same, first_at}
use Rattle.yd_ids.specs.declared.id.Id.{Id}
use Rattle.yd_ops.specs.declared.lists.List.{List as DocList}
use Rattle.yd_ops.specs.declared.lists.Parent.{Parent}
use Rattle.yd_ops.specs.Value.{UpdateValue}
use Rattle.yd_ops.specs.Valid.{IsValidUpdate}
use Rattle.yd_ops.specs.Operation.{Operation, level_of}
use Rattle.yd_ops.specs.Received.{Received, received_set}
use Rattle.yd_ops.specs.Agreement.{operations_of_all, AreAlike, Agree, HaveSameContents, SayTheSame}
use Rattle.yd_ops.specs.ReceivedLaw.{IsReceived}
use Rattle.yd_meaning.specs.Held.{held_set, is_named}
use Rattle.yd_meaning.specs.Order.{AreHonest}
use Rattle.yd_meaning.specs.Deleted.{is_in_delete_set}
use Rattle.yd_meaning.specs.Document.{Document}
use Rattle.yd_meaning.specs.Text.{live_units, shown_text}
use Rattle.yd_meaning.specs.Replica.{IsReplicaDocument}
use Rattle.yd_shown.specs.Seen.{seen_units, text_units}
use Rattle.yd_any.specs.Same.{same_tree, same_fields}
use Rattle.yd_shown.specs.Pieces.{Piece, with_attribute, attributes_of_piece, delta_pieces, list_pieces}
use Rattle.yd_shown.specs.Cut.{delta_units, list_units, cut_pieces, AreApart, ArePiecesOf}
use Rattle.yd_shown.specs.Shown.{Mode, as_text, own_list, key_list, last_unit, unit_under, value_under, fields_under, map_fields, shown, printed_text}

-- ---- text

-- the text units of what is seen of a list are its text, and in the mode for text this is what is printed
pub record TextsAreOne : Type 0 where
  pub units : (document : Document) (list : DocList) → text_units (seen_units document list) ≡ shown_text document list
  pub printed : (document : Document) (parent : Parent) →
      printed_text as_text (shown document parent as_text) ≡ text_of (shown_text document (own_list parent))

-- ---- equal documents

-- two documents have the same units in each list, the same deletions and the same keys
pub record AreEqual (one other : Document) : Type 0 where
  pub units : (list : DocList) → one.units list ≡ other.units list
  pub deleted : (x : Id) → one.deleted x ≡ other.deleted x
  pub keys : (parent : Parent) → one.keys parent ≡ other.keys parent

-- two documents show the same of each parent, in every mode
abbrev pub ShowTheSame : Document → Document → Type 0
ShowTheSame one other = (parent : Parent) (mode : Mode) → shown one parent mode ≡ shown other parent mode

-- so equal documents do
abbrev pub EqualsShowTheSame : Type 0
EqualsShowTheSame = (one other : Document) → AreEqual one other → ShowTheSame one other

-- where what is held keeps the edit rules, replicas that received the two sets show the same
abbrev pub ViewsAreAlike : Received → Received → Type 0
ViewsAreAlike one other = AreHonest (held_set one.operations) → (document another : Document) → IsReplicaDocument document one → IsReplicaDocument another other →
    ShowTheSame document another

-- where operations of one id are alike, updates with the same contents, in any order and repeated, show the same if they keep
-- the edit rules. Under agreement so do updates of which some were merged
pub record ViewsConverge : Type 0 where
  pub any_order : (one other : List UpdateValue) → Each IsValidUpdate one → Each IsValidUpdate other → AreAlike (operations_of_all one) →
      HaveSameContents one other → ViewsAreAlike (received_set one) (received_set other)
  pub merged : (one other : List UpdateValue) → Each IsValidUpdate one → Each IsValidUpdate other → Agree one → Agree other →
      SayTheSame one other → ViewsAreAlike (received_set one) (received_set other)

-- ---- keys

-- whether a key is among others
abbrev pub is_among : List ℕ → List (List ℕ) → Bool
is_among key [] = false
is_among key (other ∷ keys) = is_same key other || is_among key keys

-- each of these keys stands above the key, in the order of their bytes
abbrev pub KeysAbove : List ℕ → List (List ℕ) → Type 0
KeysAbove key [] = Unit {0}
KeysAbove key (other ∷ keys) = (slice_cmp nat_cmp key other ≡ Less) × KeysAbove key keys

-- keys ascend in the order of their bytes, and so none stands twice
abbrev pub KeysAscend : List (List ℕ) → Type 0
KeysAscend [] = Unit {0}
KeysAscend (key ∷ keys) = KeysAbove key keys × KeysAscend keys

-- the keys of each parent are those under which there is a unit, deleted or not, and they ascend
pub record HasKeysOfUnits (document : Document) : Type 0 where
  pub units : (parent : Parent) (key : List ℕ) →
      is_among key (document.keys parent) ≡ true ↔ ((o : Operation) × IsIn o (document.units (key_list parent key)))
  pub ascend : (parent : Parent) → KeysAscend (document.keys parent)

-- so it is in each document of a replica, whatever it received
abbrev pub KeysHaveUnits : Type 0
KeysHaveUnits = (r : Received) (document : Document) → IsReplicaDocument document r → HasKeysOfUnits document

-- ---- maps

-- each key of the fields stands above the key, in the order of their bytes
abbrev pub FieldsAbove : List ℕ → AnyFields → Type 0
FieldsAbove key no_fields = Unit {0}
FieldsAbove key (field other t fs) = (slice_cmp nat_cmp key other ≡ Less) × FieldsAbove key fs

-- the keys of fields ascend in the order of their bytes, and so none stands twice
abbrev pub FieldsAscend : AnyFields → Type 0
FieldsAscend no_fields = Unit {0}
FieldsAscend (field key t fs) = FieldsAbove key fs × FieldsAscend fs

-- a map has, under each key of the parent, the value of the last unit of the key's list where that is live and counted, and
-- nothing else; so keys under which nothing stands may be left out. In each document of a replica, whatever it received, it is
-- so under every key, and the keys ascend
pub record MapsShowLast : Type 0 where
  pub under_keys : (show : Operation → AnyTree) (document : Document) (parent : Parent) (key : List ℕ) →
      first_at key (map_fields show document parent) ≡ (if is_among key (document.keys parent) then value_under show document parent key else None)
  pub left_out : (show : Operation → AnyTree) (document : Document) (parent : Parent) (test : List ℕ → Bool) →
      ((key : List ℕ) → test key ≡ false → unit_under document parent key ≡ None) →
      fields_under show document parent (filter test (document.keys parent)) ≡ map_fields show document parent
  pub received : (show : Operation → AnyTree) (r : Received) (document : Document) → IsReplicaDocument document r →
      (parent : Parent) (key : List ℕ) → first_at key (map_fields show document parent) ≡ value_under show document parent key
  pub ascend : (show : Operation → AnyTree) (r : Received) (document : Document) → IsReplicaDocument document r →
      (parent : Parent) → FieldsAscend (map_fields show document parent)

-- ---- what is deleted

-- two documents have the same live units in each parent's list, the same units under keys, and the same keys
pub record AreLiveAlike (one other : Document) : Type 0 where
  pub live : (parent : Parent) → live_units one (own_list parent) ≡ live_units other (own_list parent)
  pub under : (parent : Parent) (key : List ℕ) → unit_under one parent key ≡ unit_under other parent key
  pub keys : (parent : Parent) → one.keys parent ≡ other.keys parent

-- what is deleted shows nothing: documents that differ in this alone show the same; under a key whose last unit is deleted
-- nothing stands; and the live units of a replica, whatever it received, are full ones, and no deletion names them. Where the
-- edit rules are kept, they are in no delete set
pub record DeletedShowNothing : Type 0 where
  pub alike : (one other : Document) → AreLiveAlike one other → ShowTheSame one other
  pub under_key : (document : Document) (parent : Parent) (key : List ℕ) (o : Operation) →
      last_unit (document.units (key_list parent key)) ≡ Some o → document.deleted o.id ≡ true → unit_under document parent key ≡ None
  pub live : (r : Received) → IsReceived r → (document : Document) → IsReplicaDocument document r → (list : DocList) (o : Operation) →
      IsIn o (live_units document list) → (is_named r.deletes o.id ≡ false) × (level_of o.content ≡ 2)
  pub honest : (r : Received) → AreHonest (held_set r.operations) → (document : Document) → IsReplicaDocument document r → (list : DocList) (o : Operation) →
      IsIn o (live_units document list) → is_in_delete_set r o.id ≡ false

-- ---- deltas and lists

-- the pieces of each delta and of each list are those of its units; and no others are: two rows of pieces that are the same
-- unit by unit are one, where neighbouring text differs in both
pub record PiecesAreText : Type 0 where
  pub delta : (show : Operation → AnyTree) (attributes : AnyFields) (os : List Operation) →
      ArePiecesOf os (delta_units show attributes os) (delta_pieces show attributes os)
  pub list : (show : Operation → AnyTree) (os : List Operation) → ArePiecesOf os (list_units show os) (list_pieces show os)
  pub alone : (ps qs : List Piece) → AreApart ps → AreApart qs → cut_pieces ps ≡ cut_pieces qs → ps ≡ qs

-- ---- attributes

-- whether a value is null
abbrev pub is_null : AnyTree → Bool
is_null null = true
is_null _ = false

-- the attributes of each piece ascend by their keys
abbrev pub AttributesAscend : List Piece → Type 0
AttributesAscend [] = Unit {0}
AttributesAscend (p ∷ ps) = FieldsAscend (attributes_of_piece p) × AttributesAscend ps

-- a mark sets its key, null removes it where keys ascend, other keys keep what they have, and the attributes of a delta ascend
pub record MarksSetKeys : Type 0 where
  pub sets : (key : List ℕ) (t : AnyTree) (attributes : AnyFields) → is_null t ≡ false → first_at key (with_attribute key t attributes) ≡ Some t
  pub removes : (key : List ℕ) (attributes : AnyFields) → FieldsAscend attributes → first_at key (with_attribute key null attributes) ≡ None
  pub others : (key other : List ℕ) (t : AnyTree) (attributes : AnyFields) → is_same other key ≡ false →
      first_at other (with_attribute key t attributes) ≡ first_at other attributes
  pub ascend : (show : Operation → AnyTree) (os : List Operation) → AttributesAscend (delta_pieces show no_fields os)

-- the test tells exactly whether two values, and two rows of attributes, are one
pub record SameIsOne : Type 0 where
  pub values : (a b : AnyTree) → Decides (same_tree a b) (a ≡ b)
  pub attributes : (a b : AnyFields) → Decides (same_fields a b) (a ≡ b)
