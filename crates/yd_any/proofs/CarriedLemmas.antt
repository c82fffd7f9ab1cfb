-- Settled trees: they are JSON values' trees, and no deeper.
use Rattle.std.proofs.Common.{◌≡◌, ℕ, ◌^◌, ◌≤◌, true, List, Option, Some, None, ℤ, Ordering, Less, Equal, Greater, nat_cmp, refl, ap, ◌∙◌, arith, unsigned_abs, nat_lt, nat_le}
use Rattle.std.specs.Prelude.{IsTrue}
use Rattle.std.specs.Ordering.{match_ordering, is_lt, ordering_reverse}
use Rattle.std.specs.Cmp.Lexicographic.{slice_cmp}
use Rattle.std.proofs.lemmas.Bool.{and_parts, and_from, lt-ltb, ltb-true}
use Rattle.std.proofs.lemmas.Cmp.{nat_list_cmp_total}
use Rattle.yd_any.specs.Tree.{AnyTree, AnyTrees, AnyFields, undefined, null, flag, whole, raw4, raw8, big, str, list, pairs, blob, no_trees, tree, no_fields, field, depth, depth_of_trees, depth_of_fields}
use Rattle.yd_any.specs.Valid.{most_depth, is_below, is_above, is_small, is_in_range, are_in_range, fields_are_in_range, is_json, are_json, fields_are_json, is_valid_any, is_valid_json}
use Rattle.yd_any.specs.Carried.{is_carried, are_carried, fields_are_carried, put, settled, settled_trees, settled_fields}

-- ---- putting a field at its place

fields_depth-match_ordering : (o : Ordering) (a b c : AnyFields) (n : ℕ) → depth_of_fields a ≤ n → depth_of_fields b ≤ n → depth_of_fields c ≤ n → depth_of_fields (match_ordering o a b c) ≤ n
fields_depth-match_ordering Less a b c n p q r = p
fields_depth-match_ordering Equal a b c n p q r = q
fields_depth-match_ordering Greater a b c n p q r = r

pub depth-put : (k : List ℕ) (t : AnyTree) (fs : AnyFields) (n : ℕ) → depth t ≤ n → depth_of_fields fs ≤ n → depth_of_fields (put k t fs) ≤ n
depth-put k t no_fields n p q = omega arith
depth-put k t (field l u fs) n p q =
    fields_depth-match_ordering _ (field k t (field l u fs)) (field l t fs) (field l u (put k t fs)) n (omega arith) (omega arith) (omega (arith, depth-put k t fs n p (omega arith)))

-- a key that is not below another is the same or above it
below-greater : (k l : List ℕ) → slice_cmp nat_cmp k l ≡ Greater → is_below l k ≡ true
below-greater k l e = ap is_lt (nat_list_cmp_total.antisymm l k ∙ ap ordering_reverse e)

fields_json-put_at : (o : Ordering) (last : Option (List ℕ)) (k : List ℕ) (t : AnyTree) (l : List ℕ) (u : AnyTree) (fs put_later : AnyFields)
    → slice_cmp nat_cmp k l ≡ o → is_above last k ≡ true → is_json t ≡ true → fields_are_json last (field l u fs) ≡ true → (is_below l k ≡ true → fields_are_json (Some l) fs ≡ true → fields_are_json (Some l) put_later ≡ true)
    → fields_are_json last (match_ordering o (field k t (field l u fs)) (field l t fs) (field l u put_later)) ≡ true
fields_json-put_at Less last k t l u fs put_later e above ok all later =
    let parts = and_parts (is_above last l) _ all in
    and_from _ _ above (and_from _ _ ok (and_from _ _ (ap is_lt e) parts.1))
fields_json-put_at Equal last k t l u fs put_later e above ok all later =
    let parts = and_parts (is_above last l) _ all in
    let rest = and_parts (is_json u) _ parts.1 in
    and_from _ _ parts.0 (and_from _ _ ok rest.1)
fields_json-put_at Greater last k t l u fs put_later e above ok all later =
    let parts = and_parts (is_above last l) _ all in
    let rest = and_parts (is_json u) _ parts.1 in
    and_from _ _ parts.0 (and_from _ _ rest.0 (later (below-greater k l e) rest.1))

pub fields_json-put : (last : Option (List ℕ)) (k : List ℕ) (t : AnyTree) (fs : AnyFields) → is_above last k ≡ true → is_json t ≡ true → fields_are_json last fs ≡ true → fields_are_json last (put k t fs) ≡ true
fields_json-put last k t no_fields above ok all = and_from _ _ above (and_from _ _ ok refl)
fields_json-put last k t (field l u fs) above ok all =
    fields_json-put_at (slice_cmp nat_cmp k l) last k t l u fs (put k t fs) refl above ok all (λ higher rest. fields_json-put (Some l) k t fs higher ok rest)

-- ---- settled trees

mutual
  pub depth-settled : (t : AnyTree) (n : ℕ) → depth t ≤ n → depth (settled t) ≤ n
  depth-settled undefined n h = h
  depth-settled null n h = h
  depth-settled (flag b) n h = h
  depth-settled (whole z) n h = h
  depth-settled (raw4 bs) n h = h
  depth-settled (raw8 bs) n h = h
  depth-settled (big z) n h = h
  depth-settled (str s) n h = h
  depth-settled (list ts) n h = omega (arith, depth-settled_trees ts (depth_of_trees ts) (omega arith))
  depth-settled (pairs fs) n h = omega (arith, depth-settled_fields no_fields fs (depth_of_fields fs) (omega arith) (omega arith))
  depth-settled (blob bs) n h = h

  depth-settled_trees : (ts : AnyTrees) (n : ℕ) → depth_of_trees ts ≤ n → depth_of_trees (settled_trees ts) ≤ n
  depth-settled_trees no_trees n h = h
  depth-settled_trees (tree t ts) n h = omega (arith, depth-settled t n (omega arith), depth-settled_trees ts n (omega arith))

  depth-settled_fields : (found fs : AnyFields) (n : ℕ) → depth_of_fields found ≤ n → depth_of_fields fs ≤ n → depth_of_fields (settled_fields found fs) ≤ n
  depth-settled_fields found no_fields n p h = p
  depth-settled_fields found (field k t fs) n p h =
      depth-settled_fields (put k (settled t) found) fs n (depth-put k (settled t) found n (depth-settled t n (omega arith)) p) (omega arith)

mutual
  pub json-settled : (t : AnyTree) → is_carried t ≡ true → is_json (settled t) ≡ true
  json-settled undefined h = h
  json-settled null h = refl
  json-settled (flag b) h = refl
  json-settled (whole z) h = h
  json-settled (raw4 bs) h = h
  json-settled (raw8 bs) h = h
  json-settled (big z) h = h
  json-settled (str s) h = refl
  json-settled (list ts) h = json-settled_trees ts h
  json-settled (pairs fs) h = json-settled_fields no_fields fs refl h
  json-settled (blob bs) h = h

  json-settled_trees : (ts : AnyTrees) → are_carried ts ≡ true → are_json (settled_trees ts) ≡ true
  json-settled_trees no_trees h = refl
  json-settled_trees (tree t ts) h =
      let parts = and_parts (is_carried t) (are_carried ts) h in
      and_from _ _ (json-settled t parts.0) (json-settled_trees ts parts.1)

  json-settled_fields : (found fs : AnyFields) → fields_are_json None found ≡ true → fields_are_carried fs ≡ true → fields_are_json None (settled_fields found fs) ≡ true
  json-settled_fields found no_fields p h = p
  json-settled_fields found (field k t fs) p h =
      let parts = and_parts (is_carried t) (fields_are_carried fs) h in
      json-settled_fields (put k (settled t) found) fs (fields_json-put None k (settled t) found refl (json-settled t parts.0) p) parts.1

-- ---- JSON values as any-values

small-range : (z : ℤ) → is_small z ≡ true → nat_lt (unsigned_abs z) (2 ^ 53) ≡ true
small-range z h = let small = ltb-true (unsigned_abs z) (2 ^ 31) h in lt-ltb (unsigned_abs z) (2 ^ 53) (omega arith)

mutual
  pub range-json : (t : AnyTree) → is_json t ≡ true → is_in_range t ≡ true
  range-json undefined h = refl
  range-json null h = refl
  range-json (flag b) h = refl
  range-json (whole z) h = small-range z h
  range-json (raw4 bs) h = refl
  range-json (raw8 bs) h = refl
  range-json (big z) h = refl
  range-json (str s) h = refl
  range-json (list ts) h = range-json_trees ts h
  range-json (pairs fs) h = range-json_fields None fs h
  range-json (blob bs) h = refl

  range-json_trees : (ts : AnyTrees) → are_json ts ≡ true → are_in_range ts ≡ true
  range-json_trees no_trees h = refl
  range-json_trees (tree t ts) h =
      let parts = and_parts (is_json t) (are_json ts) h in
      and_from _ _ (range-json t parts.0) (range-json_trees ts parts.1)

  range-json_fields : (last : Option (List ℕ)) (fs : AnyFields) → fields_are_json last fs ≡ true → fields_are_in_range fs ≡ true
  range-json_fields last no_fields h = refl
  range-json_fields last (field k t fs) h =
      let parts = and_parts (is_json t) (fields_are_json (Some k) fs) (and_parts (is_above last k) _ h).1 in
      and_from _ _ (range-json t parts.0) (range-json_fields (Some k) fs parts.1)

-- ---- lemmas for callers

pub valid-settled : (t : AnyTree) → is_carried t ≡ true → depth t ≤ most_depth → IsTrue (is_valid_json (settled t))
valid-settled t carried within =
    let fits = depth-settled t most_depth within in
    let ok = json-settled t carried in
    grind (arith, ok)

pub valid-any : (t : AnyTree) → IsTrue (is_valid_json t) → IsTrue (is_valid_any t)
valid-any t valid =
    let parts = and_parts (nat_le (depth t) most_depth) (is_json t) valid in
    and_from _ _ parts.0 (range-json t parts.1)
