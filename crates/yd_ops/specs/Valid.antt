-- Which contents and updates are valid (Yjs 13 for ids and clocks; the limits, and that texts are whole, are own).
use Rattle.std.specs.Prelude.{◌≡◌, ℕ, ◌+◌, ◌<◌, List, [], ◌∷◌, Option, Some, None, IfSome, IsTrue}
use Rattle.yd_words.specs.Each.{Each}
use Rattle.yd_any.specs.Tree.{AnyTree, AnyTrees, no_trees, tree}
use Rattle.yd_any.specs.Valid.{is_valid_any, is_valid_json}
use Rattle.yd_ids.specs.Id.{IsClient, IsClock, IsId}
use Rattle.yd_ids.specs.Set.{AreMaximal}
use Rattle.yd_ids.specs.declared.id.Client.{Client}
use Rattle.yd_ids.specs.declared.id.Id.{Id}
use Rattle.yd_units.specs.Half.{AreUnits, IsWhole}
use Rattle.yd_ops.specs.Value.{ContentValue, json, binary, string, embed, format, nested, any, deleted, len_of, clocks_of, RunValue, StructValue, item, skip, gone, BlockValue, UpdateValue}
use Rattle.yd_ops.specs.declared.lists.List.{List as DocList}
use Rattle.yd_ops.specs.declared.lists.Parent.{Parent}
use Rattle.yd_ops.specs.declared.lists.Parent.TheVariants.{Root, Item}

-- ---- contents

-- the unit is undefined, or a valid JSON value
abbrev pub IsValidUnit : Option AnyTree → Type 0
IsValidUnit None = Unit {0}
IsValidUnit (Some t) = IsTrue (is_valid_json t)

-- each value in the row is a valid any-value
abbrev pub AreValidTrees : AnyTrees → Type 0
AreValidTrees no_trees = Unit {0}
AreValidTrees (tree t ts) = IsTrue (is_valid_any t) × AreValidTrees ts

-- a string is whole units of 16 bits, and each value is valid
abbrev pub IsValidContent : ContentValue → Type 0
IsValidContent (json units) = Each IsValidUnit units
IsValidContent (binary bytes) = Unit {0}
IsValidContent (string units) = AreUnits units × IsWhole units
IsValidContent (embed t) = IsTrue (is_valid_json t)
IsValidContent (format key t) = IsTrue (is_valid_json t)
IsValidContent (nested kind) = Unit {0}
IsValidContent (any ts) = AreValidTrees ts
IsValidContent (deleted count) = Unit {0}

-- a run of the struct has a valid content
abbrev pub HasValidContent : StructValue → Type 0
HasValidContent (item run) = IsValidContent run.content
HasValidContent (skip count) = Unit {0}
HasValidContent (gone count) = Unit {0}

-- each run of the block has a valid content
abbrev pub HasValidContents : BlockValue → Type 0
HasValidContents block = Each HasValidContent block.structs

-- ---- runs

-- the parent is a root, or a type with an id in range
abbrev pub IsParent : Parent → Type 0
IsParent (Root name) = Unit {0}
IsParent (Item id) = IsId id

-- the run carries a list exactly where both origins are absent
abbrev pub CarriesList : Option Id → Option Id → Option DocList → Type 0
CarriesList None None None = ⊥
CarriesList None None (Some list) = IsParent list.parent
CarriesList None (Some right) None = Unit {0}
CarriesList None (Some right) (Some list) = ⊥
CarriesList (Some left) right None = Unit {0}
CarriesList (Some left) right (Some list) = ⊥

-- the run begins at this clock of the client, and has a unit, origins or a list, and a valid content
pub record IsRunAt (client : Client) (clock : ℕ) (run : RunValue) : Type 0 where
  pub begins : run.id ≡ record { client = client; clock = clock }
  pub has_units : 0 < len_of run.content
  pub left : IfSome run.left IsId
  pub right : IfSome run.right IsId
  pub list : CarriesList run.left run.right run.list
  pub content : IsValidContent run.content

-- ---- updates

-- the struct is such a run, or leaves out at least one clock, or has at least one unit that is gone
abbrev pub IsStructAt : Client → ℕ → StructValue → Type 0
IsStructAt client clock (item run) = IsRunAt client clock run
IsStructAt client clock (skip count) = 0 < count
IsStructAt client clock (gone count) = 0 < count

-- each struct begins where the one before ends, and ends at a clock
abbrev pub AreStructsFrom : Client → ℕ → List StructValue → Type 0
AreStructsFrom client clock [] = Unit {0}
AreStructsFrom client clock (s ∷ ss) = IsStructAt client clock s × IsClock (clock + clocks_of s) × AreStructsFrom client (clock + clocks_of s) ss

-- the block's structs follow one another from its clock on
pub record IsValidBlock (block : BlockValue) : Type 0 where
  pub client : IsClient block.client
  pub clock : IsClock block.clock
  pub structs : AreStructsFrom block.client block.clock block.structs

-- each block is valid, and the deletions are maximal spans
pub record IsValidUpdate (update : UpdateValue) : Type 0 where
  pub blocks : Each IsValidBlock update.blocks
  pub deletes : AreMaximal update.deletes
