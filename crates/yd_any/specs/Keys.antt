-- What stands under a key.
use Rattle.std.specs.Prelude.{ℕ, List, Bool, if◌then◌else◌, Option, Some, None}
use Rattle.std.specs.Option.{option_or}
use Rattle.std.specs.Ordering.{nat_cmp, is_eq}
use Rattle.std.specs.Cmp.Lexicographic.{slice_cmp}
use Rattle.yd_any.specs.Tree.{AnyTree, AnyFields, no_fields, field}

-- the keys have the same bytes
abbrev pub is_same : List ℕ → List ℕ → Bool
is_same k l = is_eq (slice_cmp nat_cmp k l)

-- the first value under the key
abbrev pub first_at : List ℕ → AnyFields → Option AnyTree
first_at k no_fields = None
first_at k (field l t fs) = if is_same k l then Some t else first_at k fs

-- the last value under the key
abbrev pub last_at : List ℕ → AnyFields → Option AnyTree
last_at k no_fields = None
last_at k (field l t fs) = option_or (last_at k fs) (if is_same k l then Some t else None)
