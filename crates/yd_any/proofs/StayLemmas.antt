-- JSON values' trees stay as they are where they are settled.
use Rattle.std.proofs.Common.{◌≡◌, ℕ, true, List, Option, Some, None, Ok, Less, Greater, nat_cmp, refl, sym, ap, ◌∙◌}
use Rattle.std.specs.Prelude.{IsTrue, nat_le}
use Rattle.std.specs.Ordering.{is_lt, ordering_reverse}
use Rattle.std.specs.declared.cmp.Ordering.{Ordering}
use Rattle.std.specs.declared.cmp.Ordering.TheVariants.{Equal}
use Rattle.std.specs.Cmp.Lexicographic.{slice_cmp}
use Rattle.std.proofs.lemmas.Bool.{and_parts, and_from}
use Rattle.std.proofs.lemmas.Cmp.{nat_list_cmp_total}
use Rattle.yd_any.specs.Tree.{AnyTree, AnyTrees, AnyFields, undefined, null, flag, whole, raw4, raw8, big, str, list, pairs, blob, no_trees, tree, no_fields, field, depth, with_last_field}
use Rattle.yd_any.specs.Valid.{most_depth, is_below, is_above, is_json, are_json, fields_are_json, is_valid_json}
use Rattle.yd_any.specs.Carried.{is_carried, are_carried, fields_are_carried, put, settled, settled_trees, settled_fields}
use Rattle.yd_any.specs.Outcome.{carried}

-- the fields of both, one after the other
abbrev pub joined : AnyFields → AnyFields → AnyFields
joined no_fields more = more
joined (field k t fs) more = field k t (joined fs more)

pub joined-last : (fs : AnyFields) (k : List ℕ) (t : AnyTree) (more : AnyFields) → joined (with_last_field fs k t) more ≡ joined fs (field k t more)
joined-last no_fields k t more = refl
joined-last (field l u fs) k t more = ap (field l u) (joined-last fs k t more)

pub joined-nil : (fs : AnyFields) → joined fs no_fields ≡ fs
joined-nil no_fields = refl
joined-nil (field k t fs) = ap (field k t) (joined-nil fs)

-- ---- keys in order

below-less : (o : Ordering) → is_lt o ≡ true → o ≡ Less
below-less Less h = refl
below-less Equal h = absurd cc
below-less Greater h = absurd cc

below-trans : (a b c : List ℕ) → is_below a b ≡ true → is_below b c ≡ true → is_below a c ≡ true
below-trans a b c p q = ap is_lt (nat_list_cmp_total.trans a b c (below-less _ p) (below-less _ q))

-- a key is below each key after it
below-later : (low : List ℕ) (fs : AnyFields) (k : List ℕ) (t : AnyTree) (more : AnyFields) → fields_are_json (Some low) (joined fs (field k t more)) ≡ true → is_below low k ≡ true
below-later low no_fields k t more h = (and_parts (is_below low k) _ h).0
below-later low (field l u fs) k t more h =
    let parts = and_parts (is_below low l) _ h in
    below-trans low l k parts.0 (below-later l fs k t more (and_parts (is_json u) _ parts.1).1)

-- a key above all goes last
pub put-last : (last : Option (List ℕ)) (fs : AnyFields) (k : List ℕ) (t : AnyTree) (more : AnyFields) → fields_are_json last (joined fs (field k t more)) ≡ true → (u : AnyTree) → put k u fs ≡ with_last_field fs k u
put-last last no_fields k t more h u = refl
put-last last (field l v fs) k t more h u =
    let rest = (and_parts (is_json v) _ (and_parts (is_above last l) _ h).1).1 in
    let above : slice_cmp nat_cmp k l ≡ Greater = nat_list_cmp_total.antisymm k l ∙ ap ordering_reverse (below-less _ (below-later l fs k t more rest)) in
    rw above (ap (field l v) (put-last (Some l) fs k t more rest u))

pub json-of_joined : (last : Option (List ℕ)) (fs : AnyFields) (k : List ℕ) (t : AnyTree) (more : AnyFields) → fields_are_json last (joined fs (field k t more)) ≡ true → is_json t ≡ true
json-of_joined last no_fields k t more h = (and_parts (is_json t) _ (and_parts (is_above last k) _ h).1).0
json-of_joined last (field l u fs) k t more h = json-of_joined (Some l) fs k t more (and_parts (is_json u) _ (and_parts (is_above last l) _ h).1).1

-- ---- settled trees

mutual
  settled-json : (t : AnyTree) → is_json t ≡ true → settled t ≡ t
  settled-json undefined h = refl
  settled-json null h = refl
  settled-json (flag b) h = refl
  settled-json (whole z) h = refl
  settled-json (raw4 bs) h = refl
  settled-json (raw8 bs) h = refl
  settled-json (big z) h = refl
  settled-json (str s) h = refl
  settled-json (list ts) h = ap list (settled-json_trees ts h)
  settled-json (pairs fs) h = ap pairs (settled-json_fields no_fields fs h)
  settled-json (blob bs) h = refl

  settled-json_trees : (ts : AnyTrees) → are_json ts ≡ true → settled_trees ts ≡ ts
  settled-json_trees no_trees h = refl
  settled-json_trees (tree t ts) h =
      let parts = and_parts (is_json t) (are_json ts) h in
      rw (settled-json t parts.0, settled-json_trees ts parts.1) refl

  settled-json_fields : (found fs : AnyFields) → fields_are_json None (joined found fs) ≡ true → settled_fields found fs ≡ joined found fs
  settled-json_fields found no_fields h = sym (joined-nil found)
  settled-json_fields found (field k t fs) h =
      let here = settled-json t (json-of_joined None found k t fs h) in
      let placed = put-last None found k t fs h (settled t) in
      let same = joined-last found k t fs in
      ap (λ f. settled_fields f fs) (placed ∙ ap (with_last_field found k) here) ∙ settled-json_fields (with_last_field found k t) fs (ap (fields_are_json None) same ∙ h) ∙ same

mutual
  carried-json : (t : AnyTree) → is_json t ≡ true → is_carried t ≡ true
  carried-json undefined h = h
  carried-json null h = refl
  carried-json (flag b) h = refl
  carried-json (whole z) h = h
  carried-json (raw4 bs) h = h
  carried-json (raw8 bs) h = h
  carried-json (big z) h = h
  carried-json (str s) h = refl
  carried-json (list ts) h = carried-json_trees ts h
  carried-json (pairs fs) h = carried-json_fields None fs h
  carried-json (blob bs) h = h

  carried-json_trees : (ts : AnyTrees) → are_json ts ≡ true → are_carried ts ≡ true
  carried-json_trees no_trees h = refl
  carried-json_trees (tree t ts) h =
      let parts = and_parts (is_json t) (are_json ts) h in
      and_from _ _ (carried-json t parts.0) (carried-json_trees ts parts.1)

  carried-json_fields : (last : Option (List ℕ)) (fs : AnyFields) → fields_are_json last fs ≡ true → fields_are_carried fs ≡ true
  carried-json_fields last no_fields h = refl
  carried-json_fields last (field k t fs) h =
      let parts = and_parts (is_json t) (fields_are_json (Some k) fs) (and_parts (is_above last k) _ h).1 in
      and_from _ _ (carried-json t parts.0) (carried-json_fields (Some k) fs parts.1)

-- ---- lemmas for callers

pub is_carried-json : (t : AnyTree) → is_json t ≡ true → is_carried t ≡ true
is_carried-json = carried-json

pub carried-valid : (t : AnyTree) → IsTrue (is_valid_json t) → carried t ≡ Ok t
carried-valid t valid =
    let json = (and_parts (nat_le (depth t) most_depth) (is_json t) valid).1 in
    rw (carried-json t json, settled-json t json) refl
