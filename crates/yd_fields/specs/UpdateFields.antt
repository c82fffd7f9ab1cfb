-- The fields in which an update is written (Yjs 13, update encoders and writeDeleteSet; the order of JSON keys, and that a key's
-- bit stays clear beside an origin, are own).
use Rattle.std.specs.Prelude.{ℕ, ◌+◌, List, [], ◌∷◌, ◌++◌, length, map, reverse, Option, Some, None, nat_eq, codes, if◌then◌else◌}
use Rattle.yd_any.specs.Printed.{printed}
use Rattle.yd_any.specs.Tree.{AnyTree, AnyTrees, no_trees, tree}
use Rattle.yd_ids.specs.declared.id.Id.{Id}
use Rattle.yd_ids.specs.declared.id.Span.{Span}
use Rattle.yd_units.specs.Text.{text_of}
use Rattle.yd_ops.specs.Value as ops
use Rattle.yd_ops.specs.declared.kinds.Kind.{Kind}
use Rattle.yd_ops.specs.declared.kinds.Kind.TheVariants as kinds
use Rattle.yd_ops.specs.declared.lists.List.{List as DocList}
use Rattle.yd_ops.specs.declared.lists.Parent.{Parent}
use Rattle.yd_ops.specs.declared.lists.Parent.TheVariants.{Root, Item as ParentItem}
use Rattle.yd_fields.specs.Field.{Field, FieldType, FieldValue}
use Rattle.yd_fields.specs.Field as field

-- ---- contents

-- a type's number, and the name of an element or a hook
abbrev pub fields_of_kind : Kind → List Field
fields_of_kind kinds.Array = (field.kind, 0) ∷ []
fields_of_kind kinds.Map = (field.kind, 1) ∷ []
fields_of_kind kinds.Text = (field.kind, 2) ∷ []
fields_of_kind (kinds.Element name) = (field.kind, 3) ∷ (field.key, name) ∷ []
fields_of_kind kinds.Fragment = (field.kind, 4) ∷ []
fields_of_kind (kinds.Hook name) = (field.kind, 5) ∷ (field.key, name) ∷ []
fields_of_kind kinds.ElementText = (field.kind, 6) ∷ []

-- the text of a JSON unit
abbrev pub text_of_unit : Option AnyTree → List ℕ
text_of_unit None = codes "undefined"
text_of_unit (Some t) = printed t

-- a JSON unit
abbrev pub field_of_unit : Option AnyTree → Field
field_of_unit unit = (field.string, text_of_unit unit)

-- any-values, one after another
abbrev pub fields_of_trees : AnyTrees → List Field
fields_of_trees no_trees = []
fields_of_trees (tree t ts) = (field.any, t) ∷ fields_of_trees ts

-- a content
abbrev pub fields_of_content : ops.ContentValue → List Field
fields_of_content (ops.json units) = (field.len, length units) ∷ map field_of_unit units
fields_of_content (ops.binary bytes) = (field.blob, bytes) ∷ []
fields_of_content (ops.string units) = (field.string, text_of units) ∷ []
fields_of_content (ops.embed t) = (field.json, t) ∷ []
fields_of_content (ops.format key t) = (field.key, key) ∷ (field.json, t) ∷ []
fields_of_content (ops.nested kind) = fields_of_kind kind
fields_of_content (ops.any ts) = (field.len, ops.count_of ts) ∷ fields_of_trees ts
fields_of_content (ops.deleted count) = (field.len, count) ∷ []

-- ---- structs

-- the low five bits of an item's info byte
abbrev pub kind_bits : ops.ContentValue → ℕ
kind_bits (ops.json units) = 2
kind_bits (ops.binary bytes) = 3
kind_bits (ops.string units) = 4
kind_bits (ops.embed t) = 5
kind_bits (ops.format key t) = 6
kind_bits (ops.nested kind) = 7
kind_bits (ops.any ts) = 8
kind_bits (ops.deleted count) = 1

-- the bit of an origin that is there
abbrev pub origin_bit : ℕ → Option Id → ℕ
origin_bit bit None = 0
origin_bit bit (Some id) = bit

-- the bit of a key that is there
abbrev pub given_bit : Option (List ℕ) → ℕ
given_bit None = 0
given_bit (Some key) = 32

-- the bit of a list with a key
abbrev pub key_bit : Option DocList → ℕ
key_bit None = 0
key_bit (Some list) = given_bit list.key

-- an item's info byte
abbrev pub info_of_run : ops.RunValue → ℕ
info_of_run run = kind_bits run.content + key_bit run.list + origin_bit 64 run.right + origin_bit 128 run.left

-- a left origin, where it is there
abbrev pub fields_of_left : Option Id → List Field
fields_of_left None = []
fields_of_left (Some id) = (field.left, id) ∷ []

-- a right origin, where it is there
abbrev pub fields_of_right : Option Id → List Field
fields_of_right None = []
fields_of_right (Some id) = (field.right, id) ∷ []

-- a parent: a flag, and the name of a root or the id of a type
abbrev pub fields_of_parent : Parent → List Field
fields_of_parent (Root name) = (field.flag, 1) ∷ (field.string, name) ∷ []
fields_of_parent (ParentItem id) = (field.flag, 0) ∷ (field.left, id) ∷ []

-- a key, where it is there
abbrev pub fields_of_key : Option (List ℕ) → List Field
fields_of_key None = []
fields_of_key (Some key) = (field.string, key) ∷ []

-- the list of an item, where it carries one
abbrev pub fields_of_list : Option DocList → List Field
fields_of_list None = []
fields_of_list (Some list) = fields_of_parent list.parent ++ fields_of_key list.key

-- a struct
abbrev pub fields_of_struct : ops.StructValue → List Field
fields_of_struct (ops.item run) = (field.info, info_of_run run) ∷ (fields_of_left run.left ++ (fields_of_right run.right ++ (fields_of_list run.list ++ fields_of_content run.content)))
fields_of_struct (ops.skip count) = (field.info, 10) ∷ (field.number, count) ∷ []
fields_of_struct (ops.gone count) = (field.info, 0) ∷ (field.len, count) ∷ []

-- structs, one after another
abbrev pub fields_of_structs : List ops.StructValue → List Field
fields_of_structs [] = []
fields_of_structs (s ∷ ss) = fields_of_struct s ++ fields_of_structs ss

-- ---- blocks

-- a block: how many structs it has, its client, its first clock, and the structs
abbrev pub fields_of_block : ops.BlockValue → List Field
fields_of_block block = (field.number, length block.structs) ∷ (field.client, block.client.0) ∷ (field.number, block.clock) ∷ fields_of_structs block.structs

-- blocks, one after another
abbrev pub fields_of_blocks : List ops.BlockValue → List Field
fields_of_blocks [] = []
fields_of_blocks (block ∷ blocks) = fields_of_block block ++ fields_of_blocks blocks

-- ---- deletions

-- a span before groups of spans of one client each: in the first group, where that is its client's, or in a group of its own
abbrev pub with_grouped : Span → List (List Span) → List (List Span)
with_grouped span [] = (span ∷ []) ∷ []
with_grouped span ([] ∷ groups) = (span ∷ []) ∷ groups
with_grouped span ((first ∷ rest) ∷ groups) = if nat_eq span.client.0 first.client.0 then (span ∷ first ∷ rest) ∷ groups else (span ∷ []) ∷ (first ∷ rest) ∷ groups

-- spans, grouped by their clients
abbrev pub groups_of : List Span → List (List Span)
groups_of [] = []
groups_of (span ∷ spans) = with_grouped span (groups_of spans)

-- ranges of a client, each behind the one that ends at a clock
abbrev pub fields_of_ranges : ℕ → List Span → List Field
fields_of_ranges before [] = []
fields_of_ranges before (span ∷ spans) = (field.range before, (span.clock, span.len)) ∷ fields_of_ranges (span.clock + span.len) spans

-- a client of a delete set: its number, how many ranges it has, and these
abbrev pub fields_of_group : List Span → List Field
fields_of_group [] = []
fields_of_group (span ∷ spans) = (field.number, span.client.0) ∷ (field.number, length (span ∷ spans)) ∷ fields_of_ranges 0 (span ∷ spans)

-- clients of a delete set, one after another
abbrev pub fields_of_groups : List (List Span) → List Field
fields_of_groups [] = []
fields_of_groups (group ∷ groups) = fields_of_group group ++ fields_of_groups groups

-- a delete set: how many clients it has, and the clients in descending order
abbrev pub fields_of_deletes : List Span → List Field
fields_of_deletes spans = (field.number, length (groups_of spans)) ∷ fields_of_groups (reverse (groups_of spans))

-- ---- updates

-- an update: how many blocks it has, these, and the delete set
abbrev pub fields_of_update : ops.UpdateValue → List Field
fields_of_update u = (field.number, length u.blocks) ∷ (fields_of_blocks u.blocks ++ fields_of_deletes u.deletes)
