-- Small documents, and what is shown of them (own; that the greater client's value stays under a key is Yjs 13).
use Rattle.std.specs.Prelude.{◌≡◌, ℕ, zero, suc, pos, negsuc, List, [], ◌∷◌, ◌++◌, Option, Some, None, codes, true, false}
use Rattle.yd_any.specs.Tree.{pairs, no_fields, field, null, flag, undefined, raw4, big, blob, AnyTree, null, flag, whole, raw8, str, list, no_trees, tree}
use Rattle.yd_any.specs.Printed.{printed}
use Rattle.yd_ids.specs.declared.id.Id.{Id}
use Rattle.yd_ids.specs.declared.id.Span.{Span}
use Rattle.yd_ops.specs.declared.kinds.Kind.TheVariants.{Array, Element, ElementText}
use Rattle.yd_ops.specs.declared.lists.List.{List as DocList}
use Rattle.yd_ops.specs.declared.lists.Parent.{Parent}
use Rattle.yd_ops.specs.declared.lists.Parent.TheVariants.{Root, Item}
use Rattle.yd_ops.specs.Value.{json, binary, string, nested, any, format, item, StructValue, UpdateValue, ContentValue}
use Rattle.yd_ops.specs.Valid.{IsValidUpdate}
use Rattle.yd_ops.specs.Operation.{Operation, nested_type, later_id}
use Rattle.yd_ops.specs.Received.{Received, received_set}
use Rattle.yd_meaning.specs.Example.{first_id, first_update, under_key, in_root}
use Rattle.yd_meaning.specs.Collected.{unit_id, span_of, array_made, five_put, five_gone}
use Rattle.yd_meaning.specs.Document.{Document, document_of}
use Rattle.yd_shown.specs.Pieces.{with_attributes}
use Rattle.yd_shown.specs.Shown.{Mode, as_text, as_delta, as_list, as_map, as_tree, too_deep, shown}

-- ---- what is shown

-- what is shown of a root of what is received, in a mode
abbrev pub root_shown : List UpdateValue → List ℕ → Mode → AnyTree
root_shown updates name mode = shown (document_of (received_set updates)) (Root name) mode

-- and what is printed of it
abbrev pub root_printed : List UpdateValue → List ℕ → Mode → List ℕ
root_printed updates name mode = printed (root_shown updates name mode)

-- ---- a key that two clients set

-- a client set the key "k" of the map "m" to its own number
abbrev pub key_set : ℕ → UpdateValue
key_set client = first_update client None (Some under_key) (any (tree (whole (pos client)) no_trees))

-- in both orders the map shows the greater client's value
pub record TwoKeys : Type 0 where
  pub one_order : root_printed (key_set 1 ∷ key_set 2 ∷ []) (codes "m") as_map ≡ codes "{\"k\":2}"
  pub other_order : root_printed (key_set 2 ∷ key_set 1 ∷ []) (codes "m") as_map ≡ codes "{\"k\":2}"

-- ---- a key that one client set twice

-- client 5 set the key to 1 and to 2, and the first unit is deleted
abbrev pub key_set_again : UpdateValue
key_set_again = record {
  blocks = record {
    client = record { 0 = 5 };
    clock = 0;
    structs = item (record { id = first_id 5; left = None; right = None; list = Some under_key; content = any (tree (whole (pos 1)) (tree (whole (pos 2)) no_trees)) }) ∷ [];
  } ∷ [];
  deletes = span_of 5 0 1 ∷ [];
}

-- the map shows the second value
pub record KeySetAgain : Type 0 where
  pub shown : root_printed (key_set_again ∷ []) (codes "m") as_map ≡ codes "{\"k\":2}"

-- ---- an array in an array

-- client 1's array was deleted
abbrev pub array_deleted : UpdateValue
array_deleted = record { blocks = []; deletes = span_of 1 0 1 ∷ [] }

-- the array has an array with 5 in it; where that is deleted it shows nothing, in every order
pub record NestedArray : Type 0 where
  pub shown : root_printed (array_made ∷ five_put ∷ []) (codes "r") as_list ≡ codes "[[5]]"
  pub other_order : root_printed (five_put ∷ array_made ∷ []) (codes "r") as_list ≡ codes "[[5]]"
  pub deleted_last : root_printed (array_made ∷ five_put ∷ array_deleted ∷ []) (codes "r") as_list ≡ codes "[]"
  pub deleted_between : root_printed (array_made ∷ array_deleted ∷ five_put ∷ []) (codes "r") as_list ≡ codes "[]"
  pub deleted_first : root_printed (array_deleted ∷ array_made ∷ five_put ∷ []) (codes "r") as_list ≡ codes "[]"
  pub five_first : root_printed (five_put ∷ array_made ∷ array_deleted ∷ []) (codes "r") as_list ≡ codes "[]"
  pub array_last : root_printed (five_put ∷ array_deleted ∷ array_made ∷ []) (codes "r") as_list ≡ codes "[]"
  pub all_back : root_printed (array_deleted ∷ five_put ∷ array_made ∷ []) (codes "r") as_list ≡ codes "[]"
  pub gone : root_printed (array_made ∷ five_put ∷ five_gone ∷ []) (codes "r") as_list ≡ codes "[]"

-- ---- a text with marks

-- a run of a client from a clock on
abbrev pub run_of : ℕ → ℕ → Option Id → Option Id → Option DocList → ContentValue → StructValue
run_of client clock left right named content = item (record { id = unit_id client clock; left = left; right = right; list = named; content = content })

-- a client's update from clock 0 on
abbrev pub update_of : ℕ → List StructValue → List Span → UpdateValue
update_of client structs deletes = record { blocks = record { client = record { 0 = client }; clock = 0; structs = structs } ∷ []; deletes = deletes }

-- a client put a character into the text "t"
abbrev pub unit_put_by : ℕ → List ℕ → UpdateValue
unit_put_by client units = first_update client None (Some in_root) (string units)

-- client 3 put "XY" between the "a" of client 1 and the "b" of client 2, made "aX" bold, and deleted "b"
abbrev pub text_marked : UpdateValue
text_marked = update_of 3 (
    run_of 3 0 (Some (first_id 1)) (Some (first_id 2)) None (string (88 ∷ 89 ∷ []))
    ∷ run_of 3 2 None (Some (first_id 1)) None (format (codes "bold") (flag true))
    ∷ run_of 3 3 (Some (unit_id 3 0)) (Some (unit_id 3 1)) None (format (codes "bold") null) ∷ []) (span_of 2 0 1 ∷ [])

-- the delta has two pieces, the text has no marks, and the list has one string
pub record MarkedText : Type 0 where
  pub delta : root_printed (text_marked ∷ unit_put_by 2 (codes "b") ∷ unit_put_by 1 (codes "a") ∷ []) (codes "t") as_delta
      ≡ codes "[{\"attributes\":{\"bold\":true},\"insert\":\"aX\"},{\"insert\":\"Y\"}]"
  pub text : root_shown (text_marked ∷ unit_put_by 2 (codes "b") ∷ unit_put_by 1 (codes "a") ∷ []) (codes "t") as_text ≡ str (codes "aXY")
  pub list : root_printed (text_marked ∷ unit_put_by 2 (codes "b") ∷ unit_put_by 1 (codes "a") ∷ []) (codes "t") as_list ≡ codes "[\"aXY\"]"

-- ---- a board as an application has it

-- client 7 set a time on the board, and put a paragraph with a text into the document: a bold "Hello"
abbrev pub hello_put : UpdateValue
hello_put = update_of 7 (
    run_of 7 0 None None (Some (record { parent = Root (codes "board"); key = Some (codes "at") }))
    (any (tree (raw8 (0x42 ∷ 0x78 ∷ 0xbc ∷ 0xfe ∷ 0x56 ∷ 0x80 ∷ 0x00 ∷ 0x00 ∷ [])) no_trees))
    ∷ run_of 7 1 None None (Some (record { parent = Root (codes "doc"); key = None })) (nested (Element (codes "p")))
    ∷ run_of 7 2 None None (Some (record { parent = Item (unit_id 7 1); key = None })) (nested ElementText)
    ∷ run_of 7 3 None None (Some (record { parent = Item (unit_id 7 2); key = None })) (format (codes "bold") (flag true))
    ∷ run_of 7 4 (Some (unit_id 7 3)) None None (string (codes "Hello"))
    ∷ run_of 7 9 (Some (unit_id 7 8)) None None (format (codes "bold") null) ∷ []) []

-- client 8 put " you" behind it, and a title on the board
abbrev pub you_put : UpdateValue
you_put = update_of 8 (
    run_of 8 0 (Some (unit_id 7 9)) None None (string (codes " you"))
    ∷ run_of 8 4 None None (Some (record { parent = Root (codes "board"); key = Some (codes "title") })) (any (tree (str (codes "Plan")) no_trees)) ∷ []) []

-- client 9 gave the paragraph a class
abbrev pub class_set : UpdateValue
class_set = update_of 9 (
    run_of 9 0 None None (Some (record { parent = Item (unit_id 7 1); key = Some (codes "class") })) (any (tree (str (codes "lead")) no_trees)) ∷ []) []

-- what is received of all three
abbrev pub board_received : Received
board_received = received_set (hello_put ∷ you_put ∷ class_set ∷ [])

-- in every order the same is received, which the document shows as a tree, and the board as a map
pub record Board : Type 0 where
  pub second : received_set (hello_put ∷ class_set ∷ you_put ∷ []) ≡ board_received
  pub third : received_set (you_put ∷ hello_put ∷ class_set ∷ []) ≡ board_received
  pub fourth : received_set (you_put ∷ class_set ∷ hello_put ∷ []) ≡ board_received
  pub fifth : received_set (class_set ∷ hello_put ∷ you_put ∷ []) ≡ board_received
  pub sixth : received_set (class_set ∷ you_put ∷ hello_put ∷ []) ≡ board_received
  pub tree : printed (shown (document_of board_received) (Root (codes "doc")) as_tree)
      ≡ codes "{\"attributes\":{},\"children\":[{\"attributes\":{\"class\":\"lead\"},\"children\":[[{\"attributes\":{\"bold\":true},\"insert\":\"Hello\"},{\"insert\":\" you\"}]],\"name\":\"p\"}]}"
  pub map : printed (shown (document_of board_received) (Root (codes "board")) as_map)
      ≡ codes "{\"at\":{\"$raw8\":\"4278bcfe56800000\"},\"title\":\"Plan\"}"

-- ---- values of each kind

-- client 1 put a value of each kind into the array "r", then JSON values and bytes
abbrev pub kinds_put : UpdateValue
kinds_put = update_of 1 (
    run_of 1 0 None None (Some (record { parent = Root (codes "r"); key = None })) (any (
    tree undefined (tree null (tree (flag false) (tree (whole (negsuc 4)) (tree (raw4 (0x3f ∷ 0xc0 ∷ 0x00 ∷ 0x00 ∷ [])) (tree (big (pos 12))
    (tree (list (tree (str (codes "s")) no_trees)) (tree (pairs (field (codes "b") null (field (codes "a") (flag true) no_fields)))
    (tree (blob (0x0a ∷ 0xff ∷ [])) no_trees))))))))))
    ∷ run_of 1 9 (Some (unit_id 1 8)) None None (json (None ∷ Some (whole (pos 7)) ∷ []))
    ∷ run_of 1 11 (Some (unit_id 1 10)) None None (binary (0x01 ∷ [])) ∷ []) []

-- the list has them all, and the delta none
pub record Kinds : Type 0 where
  pub list : root_printed (kinds_put ∷ []) (codes "r") as_list
      ≡ codes "[{\"$undefined\":true},null,false,-5,{\"$raw4\":\"3fc00000\"},{\"$big\":\"12\"},[\"s\"],{\"b\":null,\"a\":true},{\"$blob\":\"0aff\"},{\"$undefined\":true},7,{\"$blob\":\"01\"}]"
  pub delta : root_printed (kinds_put ∷ []) (codes "r") as_delta ≡ codes "[]"

-- ---- parted halves

-- client 1 put a character of two halves into the text "t"
abbrev pub pair_put : UpdateValue
pair_put = unit_put_by 1 (0xD83D ∷ 0xDE00 ∷ [])

-- the second half was deleted
abbrev pub low_deleted : UpdateValue
low_deleted = record { blocks = []; deletes = span_of 1 1 1 ∷ [] }

-- client 2 put a mark between the halves
abbrev pub mark_between : UpdateValue
mark_between = update_of 2 (run_of 2 0 (Some (unit_id 1 0)) (Some (unit_id 1 1)) None (format (codes "b") (flag true)) ∷ []) []

-- the bytes of U+FFFD
abbrev pub replacement : List ℕ
replacement = 0xEF ∷ 0xBF ∷ 0xBD ∷ []

-- a half alone is U+FFFD in text, delta and list, and so are two with a mark between them
pub record PartedHalves : Type 0 where
  pub whole : root_shown (pair_put ∷ []) (codes "t") as_text ≡ str (0xF0 ∷ 0x9F ∷ 0x98 ∷ 0x80 ∷ [])
  pub text : root_shown (pair_put ∷ low_deleted ∷ []) (codes "t") as_text ≡ str replacement
  pub half_in_list : root_shown (pair_put ∷ low_deleted ∷ []) (codes "t") as_list ≡ list (tree (str replacement) no_trees)
  pub marked_list : root_shown (pair_put ∷ mark_between ∷ []) (codes "t") as_list ≡ list (tree (str (replacement ++ replacement)) no_trees)
  pub marked_delta : root_shown (pair_put ∷ mark_between ∷ []) (codes "t") as_delta
      ≡ list (tree (with_attributes no_fields (str replacement)) (tree (with_attributes (field (codes "b") (flag true) no_fields) (str replacement)) no_trees))

-- ---- arrays inside one another

-- the list of a parent has one array, which has one array, and so on
abbrev pub array_after : DocList → List Operation
array_after named = one_array (after_parent named.parent)
  where
    after_parent : Parent → Id
    after_parent (Root name) = unit_id 1 0
    after_parent (Item x) = later_id x 1

    one_array : Id → List Operation
    one_array x = record { id = x; left_origin = None; right_origin = None; list = None; content = nested_type Array } ∷ []

abbrev pub endless_arrays : Document
endless_arrays = record { units = array_after; deleted = λ x. false; keys = λ parent. [] }

-- a value in so many lists
abbrev pub in_lists : ℕ → AnyTree → AnyTree
in_lists zero t = t
in_lists (suc n) t = list (tree (in_lists n t) no_trees)

-- the root and the hundred arrays in it are shown, and the next one is not
pub record EndlessArrays : Type 0 where
  pub shown : shown endless_arrays (Root (codes "r")) as_list ≡ in_lists 101 too_deep
  pub spelled : printed too_deep ≡ codes "{\"$deep\":true}"

-- ---- what the updates keep

-- the updates of these documents are valid
pub record AreValidExamples : Type 0 where
  pub keys : IsValidUpdate (key_set 1) × IsValidUpdate (key_set 2)
  pub key_again : IsValidUpdate key_set_again
  pub units_put : IsValidUpdate (unit_put_by 1 (codes "a")) × IsValidUpdate (unit_put_by 2 (codes "b"))
  pub marked : IsValidUpdate text_marked
  pub hello : IsValidUpdate hello_put
  pub you : IsValidUpdate you_put
  pub class : IsValidUpdate class_set
  pub kinds : IsValidUpdate kinds_put
