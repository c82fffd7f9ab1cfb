-- Which values are valid: numbers in range, an object's keys in order, and no value nested too deep (the limits are own).
use Rattle.std.specs.Prelude.{ℕ, ◌^◌, ◌&&◌, ℤ, List, Bool, true, false, Option, Some, None, nat_lt, nat_le, unsigned_abs}
use Rattle.std.specs.Ordering.{nat_cmp, is_lt}
use Rattle.std.specs.Cmp.Lexicographic.{slice_cmp}
use Rattle.yd_any.specs.Tree.{AnyTree, AnyTrees, AnyFields, undefined, null, flag, whole, raw4, raw8, big, str, list, pairs, blob, no_trees, tree, no_fields, field, depth}

-- how deep lists and objects may nest
abbrev pub most_depth : ℕ
most_depth = 100

abbrev mutual
  -- each whole number is of magnitude at most 2^53-1
  pub is_in_range : AnyTree → Bool
  is_in_range undefined = true
  is_in_range null = true
  is_in_range (flag b) = true
  is_in_range (whole n) = nat_lt (unsigned_abs n) (2 ^ 53)
  is_in_range (raw4 bs) = true
  is_in_range (raw8 bs) = true
  is_in_range (big n) = true
  is_in_range (str s) = true
  is_in_range (list ts) = are_in_range ts
  is_in_range (pairs fs) = fields_are_in_range fs
  is_in_range (blob bs) = true

  -- the same of values in a row
  pub are_in_range : AnyTrees → Bool
  are_in_range no_trees = true
  are_in_range (tree t ts) = is_in_range t && are_in_range ts

  -- the same of the values under keys
  pub fields_are_in_range : AnyFields → Bool
  fields_are_in_range no_fields = true
  fields_are_in_range (field k t fs) = is_in_range t && fields_are_in_range fs

-- the tree of a valid any-value
abbrev pub is_valid_any : AnyTree → Bool
is_valid_any t = nat_le (depth t) most_depth && is_in_range t

-- each tree in the row is that of a valid any-value
abbrev pub are_valid_any : AnyTrees → Bool
are_valid_any no_trees = true
are_valid_any (tree t ts) = is_valid_any t && are_valid_any ts

-- the first key is below the second in the order of their bytes
abbrev pub is_below : List ℕ → List ℕ → Bool
is_below low high = is_lt (slice_cmp nat_cmp low high)

-- the key is above the one before it, if there is one
abbrev pub is_above : Option (List ℕ) → List ℕ → Bool
is_above None key = true
is_above (Some last) key = is_below last key

-- a number that JSON values carry: whole, of magnitude at most 2^31-1
abbrev pub is_small : ℤ → Bool
is_small n = nat_lt (unsigned_abs n) (2 ^ 31)

abbrev mutual
  -- kinds and numbers of JSON alone, and the keys of each object distinct and in order
  pub is_json : AnyTree → Bool
  is_json undefined = false
  is_json null = true
  is_json (flag b) = true
  is_json (whole n) = is_small n
  is_json (raw4 bs) = false
  is_json (raw8 bs) = false
  is_json (big n) = false
  is_json (str s) = true
  is_json (list ts) = are_json ts
  is_json (pairs fs) = fields_are_json None fs
  is_json (blob bs) = false

  -- the same of values in a row
  pub are_json : AnyTrees → Bool
  are_json no_trees = true
  are_json (tree t ts) = is_json t && are_json ts

  -- of an object whose keys so far end with this one
  pub fields_are_json : Option (List ℕ) → AnyFields → Bool
  fields_are_json last no_fields = true
  fields_are_json last (field k t fs) = is_above last k && (is_json t && fields_are_json (Some k) fs)

-- the tree of a valid JSON value
abbrev pub is_valid_json : AnyTree → Bool
is_valid_json t = nat_le (depth t) most_depth && is_json t
