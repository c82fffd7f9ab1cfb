-- Any-values and JSON values as plain trees, without where they lie in memory. A JSON value's tree is that of the any-value which it is.
use Rattle.std.specs.Prelude.{ℕ, suc, max, ℤ, List, [], ◌∷◌, Bool, Option, Some, None}

mutual
  -- an any-value of each kind that lib0 has
  pub data AnyTree : Type 0 where
    undefined : AnyTree
    null : AnyTree
    flag : Bool → AnyTree
    whole : ℤ → AnyTree
    raw4 : List ℕ → AnyTree
    raw8 : List ℕ → AnyTree
    big : ℤ → AnyTree
    str : List ℕ → AnyTree
    list : AnyTrees → AnyTree
    pairs : AnyFields → AnyTree
    blob : List ℕ → AnyTree

  -- values in a row
  pub data AnyTrees : Type 0 where
    no_trees : AnyTrees
    tree : AnyTree → AnyTrees → AnyTrees

  -- keys with values
  pub data AnyFields : Type 0 where
    no_fields : AnyFields
    field : List ℕ → AnyTree → AnyFields → AnyFields

abbrev mutual
  -- a scalar has depth 0, and a list or an object one more than its deepest member
  pub depth : AnyTree → ℕ
  depth undefined = 0
  depth null = 0
  depth (flag b) = 0
  depth (whole n) = 0
  depth (raw4 bs) = 0
  depth (raw8 bs) = 0
  depth (big n) = 0
  depth (str s) = 0
  depth (list ts) = suc (depth_of_trees ts)
  depth (pairs fs) = suc (depth_of_fields fs)
  depth (blob bs) = 0

  -- the greatest depth of values in a row
  pub depth_of_trees : AnyTrees → ℕ
  depth_of_trees no_trees = 0
  depth_of_trees (tree t ts) = max (depth t) (depth_of_trees ts)

  -- the greatest depth of the values under keys
  pub depth_of_fields : AnyFields → ℕ
  depth_of_fields no_fields = 0
  depth_of_fields (field k t fs) = max (depth t) (depth_of_fields fs)

-- the trees in a row
abbrev pub trees_of : List AnyTree → AnyTrees
trees_of [] = no_trees
trees_of (t ∷ ts) = tree t (trees_of ts)

-- the keys and trees in a row
abbrev pub fields_of : List (List ℕ × AnyTree) → AnyFields
fields_of [] = no_fields
fields_of (f ∷ fs) = field f.0 f.1 (fields_of fs)

-- the trees, with one more at the end
abbrev pub with_last : AnyTrees → AnyTree → AnyTrees
with_last no_trees last = tree last no_trees
with_last (tree t ts) last = tree t (with_last ts last)

-- the fields, with one more at the end
abbrev pub with_last_field : AnyFields → List ℕ → AnyTree → AnyFields
with_last_field no_fields key last = field key last no_fields
with_last_field (field k t fs) key last = field k t (with_last_field fs key last)

-- the key that stands last
abbrev pub last_key : AnyFields → Option (List ℕ)
last_key no_fields = None
last_key (field k t no_fields) = Some k
last_key (field k t (field l u fs)) = last_key (field l u fs)
