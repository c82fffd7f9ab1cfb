-- The bytes of a tree's compact text. The crate's private clauses cite them, and a lemma says that they are what is printed.
use Rattle.std.specs.Prelude.{◌≡◌, ℕ, List, [], ◌++◌, Bool, true, false, cond, codes, Result, OnOk}
use Rattle.std.specs.Fmt.{signed_decimal}
use Rattle.json.specs.Print.{escape}
use Rattle.hex.specs.Hex.{encode_lower}
use Rattle.yd_any.specs.Tree.{AnyTree, AnyTrees, AnyFields, undefined, null, flag, whole, raw4, raw8, big, str, list, pairs, blob, no_trees, tree, no_fields, field}

-- a comma, where something stands in front
abbrev pub comma_if : Bool → List ℕ
comma_if after = cond after (codes ",") []

-- a text with its escapes, between what opens and what closes it
abbrev pub enclosed : List ℕ → List ℕ → List ℕ → List ℕ
enclosed opening text closing = opening ++ (escape text ++ closing)

abbrev mutual
  -- the text of a tree
  pub text_of : AnyTree → List ℕ
  text_of undefined = codes "{\"$undefined\":true}"
  text_of null = codes "null"
  text_of (flag true) = codes "true"
  text_of (flag false) = codes "false"
  text_of (whole n) = signed_decimal n
  text_of (raw4 bs) = enclosed (codes "{\"$raw4\":\"") (encode_lower bs) (codes "\"}")
  text_of (raw8 bs) = enclosed (codes "{\"$raw8\":\"") (encode_lower bs) (codes "\"}")
  text_of (big n) = enclosed (codes "{\"$big\":\"") (signed_decimal n) (codes "\"}")
  text_of (str s) = enclosed (codes "\"") s (codes "\"")
  text_of (list ts) = codes "[" ++ text_of_trees false ts
  text_of (pairs fs) = codes "{" ++ text_of_fields false fs
  text_of (blob bs) = enclosed (codes "{\"$blob\":\"") (encode_lower bs) (codes "\"}")

  -- values of a list, after another value or not, and the closing bracket
  pub text_of_trees : Bool → AnyTrees → List ℕ
  text_of_trees after no_trees = codes "]"
  text_of_trees after (tree t ts) = comma_if after ++ (text_of t ++ text_of_trees true ts)

  -- keys with values, after another value or not, and the closing bracket
  pub text_of_fields : Bool → AnyFields → List ℕ
  text_of_fields after no_fields = codes "}"
  text_of_fields after (field k t fs) = enclosed (comma_if after ++ codes "\"") k (codes "\":") ++ (text_of t ++ text_of_fields true fs)

-- bytes that stood before, and the text after them
pub record Printing : Type 0 where
  pub before : List ℕ
  pub text : List ℕ

-- what stood before stays, and after success these bytes are appended to the text
pub record Appends {E : Type 0} (result : Result (Unit {0}) E) (old new : Printing) (bytes : List ℕ) : Type 0 where
  pub before : new.before ≡ old.before
  pub appended : OnOk result (new.text ≡ old.text ++ bytes)
