-- The value of a JSON text is valid, whatever the text.
use Rattle.std.proofs.Common.{◌≡◌, ◌∙◌, ℕ, Bool, true, false, List, Option, Some, None, option_map, option_and_then, Ordering, Less, Equal, Greater, Result, Ok, Err, IfSome, nat_cmp, refl, subst, ap}
use Rattle.std.specs.Prelude.{IsTrue, nat_le, if◌then◌else◌}
use Rattle.std.specs.Ordering.{match_ordering}
use Rattle.std.specs.Cmp.Lexicographic.{slice_cmp}
use Rattle.std.proofs.lemmas.Bool.{and_parts, and_from}
use Rattle.json.specs.Json as json
use Rattle.json.specs.Lex.{tokens}
use Rattle.serde_json.specs.Data.{Num, unsigned, negative, float, Data, Items, no_items, item, Members, no_members, member, put}
use Rattle.serde_json.specs.Data as read_data
use Rattle.serde_json.specs.Read.{max_depth, number_of, of_json, of_items, of_members, read}
use Rattle.yd_any.specs.Carried.{is_carried, are_carried, fields_are_carried}
use Rattle.yd_any.specs.Carried as carried_specs
use Rattle.yd_any.specs.DataTree.{data_tree, data_trees, data_fields}
use Rattle.yd_any.specs.Outcome.{judged, judged_reading, value_of_text}
use Rattle.yd_any.specs.Tree.{AnyTree, AnyTrees, AnyFields, null, list, pairs, no_trees, tree, no_fields, field, depth}
use Rattle.yd_any.specs.Valid.{is_above, is_json, are_json, fields_are_json, is_valid_json, most_depth}
use Rattle.yd_any.specs.declared.fault.JsonFault.{JsonFault}
use Rattle.yd_any.specs.declared.fault.JsonFault.TheVariants.{NumberNotCarried, TooDeep}
use Rattle.yd_any.proofs.CarriedLemmas.{fields_json-put}

-- ---- the keys of what is read are in order

abbrev mutual
  -- lists, objects and their keys alone, with `null` in the place of all else
  keyed : Data → AnyTree
  keyed read_data.null = null
  keyed (read_data.boolean b) = null
  keyed (read_data.number n) = null
  keyed (read_data.string s) = null
  keyed (read_data.array ds) = list (keyed_items ds)
  keyed (read_data.object ms) = pairs (keyed_members ms)

  -- the same of items
  keyed_items : Items → AnyTrees
  keyed_items no_items = no_trees
  keyed_items (item d ds) = tree (keyed d) (keyed_items ds)

  -- the same of members
  keyed_members : Members → AnyFields
  keyed_members no_members = no_fields
  keyed_members (member k d ms) = field k (keyed d) (keyed_members ms)

-- the keys of whichever of three an order picks
keyed_members-match_ordering : (o : Ordering) (a b c : Members) → keyed_members (match_ordering o a b c) ≡ match_ordering o (keyed_members a) (keyed_members b) (keyed_members c)
keyed_members-match_ordering Less a b c = refl
keyed_members-match_ordering Equal a b c = refl
keyed_members-match_ordering Greater a b c = refl

-- the keys with one member put at its place
keyed_members-put : (k : List ℕ) (d : Data) (ms : Members) → keyed_members (put k d ms) ≡ carried_specs.put k (keyed d) (keyed_members ms)
keyed_members-put k d no_members = refl
keyed_members-put k d (member l e ms) = keyed_members-match_ordering (slice_cmp nat_cmp k l) _ _ _ ∙ rw (keyed_members-put k d ms) refl

-- nothing is asked of the value that is there
if_some : {A : Type 0} (o : Option A) → IfSome o (λ a. Unit {0})
if_some None = tt
if_some (Some a) = tt

-- what is made of the value that is there, where one is
if_some-map : {A B : Type 0} (P : A → Type 0) (Q : B → Type 0) (f : A → B) (o : Option A) → IfSome o P → ((a : A) → P a → Q (f a)) → IfSome (option_map f o) Q
if_some-map P Q f None here each = tt
if_some-map P Q f (Some a) here each = each a here

-- what comes behind the value that is there, where one is
if_some-then : {A B : Type 0} (P : A → Type 0) (Q : B → Type 0) (next : A → Option B) (o : Option A) → IfSome o P → ((a : A) → P a → IfSome (next a) Q) → IfSome (option_and_then next o) Q
if_some-then P Q next None here each = tt
if_some-then P Q next (Some a) here each = each a here

-- the keys of each object are distinct and in order
abbrev IsKeyed : Data → Type 0
IsKeyed d = is_json (keyed d) ≡ true

-- the same of items
abbrev AreKeyed : Items → Type 0
AreKeyed ds = are_json (keyed_items ds) ≡ true

-- the same of members, and of their own keys
abbrev MembersAreKeyed : Members → Type 0
MembersAreKeyed ms = fields_are_json None (keyed_members ms) ≡ true

mutual
  -- a value that was read
  read_keyed : (j : json.Json) → IfSome (of_json j) IsKeyed
  read_keyed json.null = refl
  read_keyed (json.boolean b) = refl
  read_keyed (json.number s) = if_some-map (λ n. Unit {0}) IsKeyed read_data.number (number_of s) (if_some (number_of s)) (λ n here. refl)
  read_keyed (json.string s) = refl
  read_keyed (json.array js) = if_some-map AreKeyed IsKeyed read_data.array (of_items js) (items_keyed js) (λ ds here. here)
  read_keyed (json.object ms) = if_some-map MembersAreKeyed IsKeyed read_data.object (of_members ms no_members) (members_keyed ms no_members refl) (λ ms here. here)

  -- items that were read
  items_keyed : (js : json.Items) → IfSome (of_items js) AreKeyed
  items_keyed json.no_items = refl
  items_keyed (json.item j js) =
      if_some-then IsKeyed AreKeyed (λ d. option_map (item d) (of_items js)) (of_json j) (read_keyed j)
      (λ d here. if_some-map AreKeyed AreKeyed (item d) (of_items js) (items_keyed js) (λ ds rest. and_from _ _ here rest))

  -- members that were read behind others
  members_keyed : (ms : json.Members) (found : Members) → MembersAreKeyed found → IfSome (of_members ms found) MembersAreKeyed
  members_keyed json.no_members found before = before
  members_keyed (json.member k j ms) found before =
      if_some-then IsKeyed MembersAreKeyed (λ d. of_members ms (put k d found)) (of_json j) (read_keyed j)
      (λ d here. members_keyed ms (put k d found) (ap (fields_are_json None) (keyed_members-put k d found) ∙ fields_json-put None k (keyed d) (keyed_members found) refl here before))

-- ---- a value whose keys are in order, and that is carried, is valid

-- a number
number_json : (n : Num) → is_carried (data_tree (read_data.number n)) ≡ true → is_json (data_tree (read_data.number n)) ≡ true
number_json (unsigned n) carried = carried
number_json (negative z) carried = carried
number_json (float x) carried = carried

mutual
  -- a value
  keyed_json : (d : Data) → IsKeyed d → is_carried (data_tree d) ≡ true → is_json (data_tree d) ≡ true
  keyed_json read_data.null in_order carried = refl
  keyed_json (read_data.boolean b) in_order carried = refl
  keyed_json (read_data.number n) in_order carried = number_json n carried
  keyed_json (read_data.string s) in_order carried = refl
  keyed_json (read_data.array ds) in_order carried = keyed_json_items ds in_order carried
  keyed_json (read_data.object ms) in_order carried = keyed_json_members None ms in_order carried

  -- items
  keyed_json_items : (ds : Items) → AreKeyed ds → are_carried (data_trees ds) ≡ true → are_json (data_trees ds) ≡ true
  keyed_json_items no_items in_order carried = refl
  keyed_json_items (item d ds) in_order carried =
      let orders = and_parts (is_json (keyed d)) _ in_order in
      let parts = and_parts (is_carried (data_tree d)) _ carried in
      and_from _ _ (keyed_json d orders.0 parts.0) (keyed_json_items ds orders.1 parts.1)

  -- members behind a key
  keyed_json_members : (last : Option (List ℕ)) (ms : Members) → fields_are_json last (keyed_members ms) ≡ true → fields_are_carried (data_fields ms) ≡ true → fields_are_json last (data_fields ms) ≡ true
  keyed_json_members last no_members in_order carried = refl
  keyed_json_members last (member k d ms) in_order carried =
      let above = and_parts (is_above last k) _ in_order in
      let orders = and_parts (is_json (keyed d)) _ above.1 in
      let parts = and_parts (is_carried (data_tree d)) _ carried in
      and_from _ _ above.0 (and_from _ _ (keyed_json d orders.0 parts.0) (keyed_json_members (Some k) ms orders.1 parts.1))

-- two values that are answered are one
ok_same : (t u : AnyTree) → ◌≡◌ {A = Result AnyTree JsonFault} (Ok t) (Ok u) → t ≡ u
ok_same t u same = cc

-- a value that is judged to be fit
judged_fit : (d : Data) (t : AnyTree) → IsKeyed d → judged (data_tree d) ≡ Ok t → IsTrue (is_valid_json t)
judged_fit d t in_order is = by_tests (nat_le (depth (data_tree d)) most_depth) (is_carried (data_tree d)) refl refl is
  where
    by_tests : (shallow carried : Bool) → nat_le (depth (data_tree d)) most_depth ≡ shallow → is_carried (data_tree d) ≡ carried →
        (if shallow then (if carried then Ok (data_tree d) else Err NumberNotCarried) else Err TooDeep) ≡ Ok t → IsTrue (is_valid_json t)
    by_tests true true deep passed same = subst (λ u. IsTrue (is_valid_json u)) (ok_same (data_tree d) t same) (and_from _ _ deep (keyed_json d in_order passed))
    by_tests true false deep passed same = absurd cc
    by_tests false carried deep passed same = absurd cc

-- a text that was read
text_keyed : (text : List ℕ) → IfSome (read text) IsKeyed
text_keyed text = if_some-then (λ j. Unit {0}) IsKeyed of_json (option_and_then (λ p. json.if_last p.0 p.1) (json.value max_depth (tokens text))) (if_some _) (λ j here. read_keyed j)

-- ---- lemmas for callers

-- the value of a JSON text
pub value_of_text_valid : (text : List ℕ) (t : AnyTree) → value_of_text text ≡ Ok t → IsTrue (is_valid_json t)
value_of_text_valid text t is = by_reading (read text) (text_keyed text) is
  where
    by_reading : (found : Option Data) → IfSome found IsKeyed → judged_reading found ≡ Ok t → IsTrue (is_valid_json t)
    by_reading None in_order same = absurd cc
    by_reading (Some d) in_order same = judged_fit d t in_order same
