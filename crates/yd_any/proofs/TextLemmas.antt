-- The text of a JSON value is read as that value.
use Rattle.std.proofs.Common.{◌≡◌, ℕ, suc, ◌^◌, ◌≤◌, true, ℤ, pos, negsuc, List, [], ◌∷◌, Option, Some, None, option_map, option_and_then, Ok, Err, Ordering, Less, Equal, Greater, nat_cmp, refl, sym, ap, ◌∙◌, arith, append-nil}
use Rattle.std.specs.Prelude.{IsTrue, codes, nat_le}
use Rattle.std.specs.Fmt.{signed_decimal}
use Rattle.std.specs.Ordering.{match_ordering}
use Rattle.std.specs.Cmp.Lexicographic.{slice_cmp}
use Rattle.std.proofs.lemmas.Bool.{and_parts, ltb-true, leb-true}
use Rattle.json.specs.Token.{Token}
use Rattle.json.specs.Lex.{lex, punctuate, tokens}
use Rattle.json.specs.Print.{print, IsNumber}
use Rattle.json.specs.Json.{value}
use Rattle.json.specs.Json as json
use Rattle.json.specs.Word.{after_number, word}
use Rattle.json.specs.Tree as tokens_tree
use Rattle.json.proofs.Printed.Decimals.{IsNumber-signed_decimal}
use Rattle.json.proofs.Printed.Tokens.{tokens-print}
use Rattle.json.proofs.Printed.Trees.{value-json_tokens, ArePrintable-json_tokens}
use Rattle.serde_json.specs.Data as read_data
use Rattle.serde_json.specs.Read.{of_json, of_items, of_members, max_depth, read}
use Rattle.serde_json.proofs.Numbers.{number_of-decimal, number_of-negative}
use Rattle.yd_any.specs.Tree.{AnyTree, AnyTrees, AnyFields, undefined, null, flag, whole, raw4, raw8, big, str, list, pairs, blob, no_trees, tree, no_fields, field, depth, depth_of_trees, depth_of_fields, with_last_field}
use Rattle.yd_any.specs.Valid.{most_depth, is_above, is_small, is_json, are_json, fields_are_json, is_valid_json}
use Rattle.yd_any.specs.Carried.{put}
use Rattle.yd_any.specs.DataTree.{data_tree, data_trees, data_fields}
use Rattle.yd_any.specs.Printed.{tokens_of, tokens_of_trees, tokens_of_fields, printed}
use Rattle.yd_any.specs.Outcome.{judged_reading, judged, value_of_text}
use Rattle.yd_any.specs.declared.fault.JsonFault.TheVariants.{BadJson}
use Rattle.yd_any.proofs.StayLemmas.{joined, joined-last, joined-nil, put-last, json-of_joined, is_carried-json}

-- the JSON grammar's value; kinds that JSON does not have are taken as `null`
abbrev mutual
  grammar : AnyTree → json.Json
  grammar undefined = json.null
  grammar null = json.null
  grammar (flag b) = json.boolean b
  grammar (whole z) = json.number (signed_decimal z)
  grammar (raw4 bs) = json.null
  grammar (raw8 bs) = json.null
  grammar (big z) = json.null
  grammar (str s) = json.string s
  grammar (list ts) = json.array (grammar_items ts)
  grammar (pairs fs) = json.object (grammar_members fs)
  grammar (blob bs) = json.null

  grammar_items : AnyTrees → json.Items
  grammar_items no_trees = json.no_items
  grammar_items (tree t ts) = json.item (grammar t) (grammar_items ts)

  grammar_members : AnyFields → json.Members
  grammar_members no_fields = json.no_members
  grammar_members (field k t fs) = json.member k (grammar t) (grammar_members fs)

-- ---- its tokens, its numbers and its depth

mutual
  tokens-grammar : (t : AnyTree) → is_json t ≡ true → tokens_tree.json_tokens (grammar t) ≡ tokens_of t
  tokens-grammar undefined h = absurd cc
  tokens-grammar null h = refl
  tokens-grammar (flag b) h = refl
  tokens-grammar (whole z) h = refl
  tokens-grammar (raw4 bs) h = absurd cc
  tokens-grammar (raw8 bs) h = absurd cc
  tokens-grammar (big z) h = absurd cc
  tokens-grammar (str s) h = refl
  tokens-grammar (list ts) h = ap (λ l. Token.begin_array ∷ l) (tokens-grammar_items ts h)
  tokens-grammar (pairs fs) h = ap (λ l. Token.begin_object ∷ l) (tokens-grammar_members None fs h)
  tokens-grammar (blob bs) h = absurd cc

  tokens-grammar_items : (ts : AnyTrees) → are_json ts ≡ true → tokens_tree.items_tokens (grammar_items ts) ≡ tokens_of_trees ts
  tokens-grammar_items no_trees h = refl
  tokens-grammar_items (tree t ts) h =
      let parts = and_parts (is_json t) (are_json ts) h in
      rw (tokens-grammar t parts.0, tokens-grammar_items ts parts.1) refl

  tokens-grammar_members : (last : Option (List ℕ)) (fs : AnyFields) → fields_are_json last fs ≡ true → tokens_tree.members_tokens (grammar_members fs) ≡ tokens_of_fields fs
  tokens-grammar_members last no_fields h = refl
  tokens-grammar_members last (field k t fs) h =
      let parts = and_parts (is_json t) (fields_are_json (Some k) fs) (and_parts (is_above last k) _ h).1 in
      rw (tokens-grammar t parts.0, tokens-grammar_members (Some k) fs parts.1) refl

number-whole : (z : ℤ) → is_small z ≡ true → IsNumber (signed_decimal z)
number-whole (pos n) h = let small = ltb-true n (2 ^ 31) h in IsNumber-signed_decimal (pos n) (omega arith)
number-whole (negsuc n) h = let small = ltb-true (suc n) (2 ^ 31) h in IsNumber-signed_decimal (negsuc n) (omega arith)

mutual
  numbers-grammar : (t : AnyTree) → is_json t ≡ true → tokens_tree.HasNumbers (grammar t)
  numbers-grammar undefined h = tt
  numbers-grammar null h = tt
  numbers-grammar (flag b) h = tt
  numbers-grammar (whole z) h = number-whole z h
  numbers-grammar (raw4 bs) h = tt
  numbers-grammar (raw8 bs) h = tt
  numbers-grammar (big z) h = tt
  numbers-grammar (str s) h = tt
  numbers-grammar (list ts) h = numbers-grammar_items ts h
  numbers-grammar (pairs fs) h = numbers-grammar_members None fs h
  numbers-grammar (blob bs) h = tt

  numbers-grammar_items : (ts : AnyTrees) → are_json ts ≡ true → tokens_tree.ItemsHaveNumbers (grammar_items ts)
  numbers-grammar_items no_trees h = tt
  numbers-grammar_items (tree t ts) h =
      let parts = and_parts (is_json t) (are_json ts) h in
      (numbers-grammar t parts.0, numbers-grammar_items ts parts.1)

  numbers-grammar_members : (last : Option (List ℕ)) (fs : AnyFields) → fields_are_json last fs ≡ true → tokens_tree.MembersHaveNumbers (grammar_members fs)
  numbers-grammar_members last no_fields h = tt
  numbers-grammar_members last (field k t fs) h =
      let parts = and_parts (is_json t) (fields_are_json (Some k) fs) (and_parts (is_above last k) _ h).1 in
      (numbers-grammar t parts.0, numbers-grammar_members (Some k) fs parts.1)

mutual
  depth-grammar : (t : AnyTree) → tokens_tree.depth (grammar t) ≤ depth t
  depth-grammar undefined = omega arith
  depth-grammar null = omega arith
  depth-grammar (flag b) = omega arith
  depth-grammar (whole z) = omega arith
  depth-grammar (raw4 bs) = omega arith
  depth-grammar (raw8 bs) = omega arith
  depth-grammar (big z) = omega arith
  depth-grammar (str s) = omega arith
  depth-grammar (list ts) = omega (arith, depth-grammar_items ts)
  depth-grammar (pairs fs) = omega (arith, depth-grammar_members fs)
  depth-grammar (blob bs) = omega arith

  depth-grammar_items : (ts : AnyTrees) → tokens_tree.items_depth (grammar_items ts) ≤ depth_of_trees ts
  depth-grammar_items no_trees = omega arith
  depth-grammar_items (tree t ts) = omega (arith, depth-grammar t, depth-grammar_items ts)

  depth-grammar_members : (fs : AnyFields) → tokens_tree.members_depth (grammar_members fs) ≤ depth_of_fields fs
  depth-grammar_members no_fields = omega arith
  depth-grammar_members (field k t fs) = omega (arith, depth-grammar t, depth-grammar_members fs)

-- ---- what `serde_json` makes of it

-- what was made stands for the tree
abbrev Stands : {A B : Type 0} → (A → B) → Option A → B → Type 0
Stands {A} seen made wanted = (d : A) × (made ≡ Some d) × (seen d ≡ wanted)

stands-whole : (z : ℤ) → is_small z ≡ true → Stands data_tree (of_json (json.number (signed_decimal z))) (whole z)
stands-whole (pos n) h =
    let small = ltb-true n (2 ^ 31) h in
    (read_data.number (read_data.unsigned n), ap (option_map read_data.number) (number_of-decimal n (omega arith)), refl)
stands-whole (negsuc n) h =
    let small = ltb-true (suc n) (2 ^ 31) h in
    (read_data.number (read_data.negative (negsuc n)), ap (option_map read_data.number) (number_of-negative n (omega arith)), refl)

data_fields-match_ordering : (o : Ordering) (a b c : read_data.Members) → data_fields (match_ordering o a b c) ≡ match_ordering o (data_fields a) (data_fields b) (data_fields c)
data_fields-match_ordering Less a b c = refl
data_fields-match_ordering Equal a b c = refl
data_fields-match_ordering Greater a b c = refl

data_fields-put : (k : List ℕ) (d : read_data.Data) (ms : read_data.Members) → data_fields (read_data.put k d ms) ≡ put k (data_tree d) (data_fields ms)
data_fields-put k d read_data.no_members = refl
data_fields-put k d (read_data.member l e ms) = data_fields-match_ordering (slice_cmp nat_cmp k l) _ _ _ ∙ rw (data_fields-put k d ms)

mutual
  stands : (t : AnyTree) → is_json t ≡ true → Stands data_tree (of_json (grammar t)) t
  stands undefined h = absurd cc
  stands null h = (read_data.null, refl, refl)
  stands (flag b) h = (read_data.boolean b, refl, refl)
  stands (whole z) h = stands-whole z h
  stands (raw4 bs) h = absurd cc
  stands (raw8 bs) h = absurd cc
  stands (big z) h = absurd cc
  stands (str s) h = (read_data.string s, refl, refl)
  stands (list ts) h = let made = stands-items ts h in (read_data.array made.0, ap (option_map read_data.array) made.1, ap list made.2)
  stands (pairs fs) h = let made = stands-members read_data.no_members fs h in (read_data.object made.0, ap (option_map read_data.object) made.1, ap pairs made.2)
  stands (blob bs) h = absurd cc

  stands-items : (ts : AnyTrees) → are_json ts ≡ true → Stands data_trees (of_items (grammar_items ts)) ts
  stands-items no_trees h = (read_data.no_items, refl, refl)
  stands-items (tree t ts) h =
      let parts = and_parts (is_json t) (are_json ts) h in
      let first = stands t parts.0 in
      let rest = stands-items ts parts.1 in
      (read_data.item first.0 rest.0, rw (first.1, rest.1) refl, rw (first.2, rest.2) refl)

  stands-members : (found : read_data.Members) (fs : AnyFields) → fields_are_json None (joined (data_fields found) fs) ≡ true → Stands data_fields (of_members (grammar_members fs) found) (joined (data_fields found) fs)
  stands-members found no_fields h = (found, refl, sym (joined-nil (data_fields found)))
  stands-members found (field k t fs) h =
      let first = stands t (json-of_joined None (data_fields found) k t fs h) in
      let placed : data_fields (read_data.put k first.0 found) ≡ with_last_field (data_fields found) k t =
      data_fields-put k first.0 found ∙ ap (λ u. put k u (data_fields found)) first.2 ∙ put-last None (data_fields found) k t fs h t in
      let same : joined (data_fields (read_data.put k first.0 found)) fs ≡ joined (data_fields found) (field k t fs) =
      ap (λ f. joined f fs) placed ∙ joined-last (data_fields found) k t fs in
      let rest = stands-members (read_data.put k first.0 found) fs (ap (fields_are_json None) same ∙ h) in
      (rest.0, rw first.1 rest.1, rest.2 ∙ same)

-- ---- lemmas for callers

tokens-printed : (t : AnyTree) → is_json t ≡ true → tokens (printed t) ≡ tokens_tree.json_tokens (grammar t)
tokens-printed t h =
    let same = tokens-grammar t h in
    ap (λ l. tokens (print l)) (sym same) ∙ tokens-print (tokens_tree.json_tokens (grammar t)) (ArePrintable-json_tokens (grammar t) (numbers-grammar t h))

read-printed : (t : AnyTree) → is_json t ≡ true → depth t ≤ most_depth → Stands data_tree (read (printed t)) t
read-printed t h within =
    let made = stands t h in
    let text = tokens-printed t h ∙ sym (append-nil (tokens_tree.json_tokens (grammar t))) in
    let found = ap (json.value max_depth) text ∙ value-json_tokens (grammar t) max_depth [] (omega (arith, depth-grammar t)) in
    (made.0, ap (λ r. option_and_then of_json (option_and_then (λ p. json.if_last p.0 p.1) r)) found ∙ made.1, made.2)

judged-valid : (t : AnyTree) → is_json t ≡ true → nat_le (depth t) most_depth ≡ true → judged t ≡ Ok t
judged-valid t h within = rw (within, is_carried-json t h) refl

pub read_back : (t : AnyTree) → IsTrue (is_valid_json t) → judged_reading (read (printed t)) ≡ Ok t
read_back t valid =
    let parts = and_parts (nat_le (depth t) most_depth) (is_json t) valid in
    let made = read-printed t parts.1 (leb-true (depth t) most_depth parts.0) in
    ap judged_reading made.1 ∙ ap judged made.2 ∙ judged-valid t parts.1 parts.0

-- the name of undefined is no JSON text
pub undefined_is_no_text : value_of_text (codes "undefined") ≡ Err BadJson
unfolding value punctuate lex word after_number
undefined_is_no_text = refl
