-- The text of a value: compact JSON, in which a kind that JSON does not have is an object with one key (the keys are own).
use Rattle.std.specs.Prelude.{◌≡◌, ℕ, List, [], ◌∷◌, ◌++◌, true, codes, Result, OnOk}
use Rattle.std.specs.Fmt.{signed_decimal}
use Rattle.json.specs.Token.{Token}
use Rattle.json.specs.Print.{print}
use Rattle.json.specs.Written.{Written}
use Rattle.hex.specs.Hex.{encode_lower}
use Rattle.yd_any.specs.Tree.{AnyTree, AnyTrees, AnyFields, undefined, null, flag, whole, raw4, raw8, big, str, list, pairs, blob, no_trees, tree, no_fields, field}

-- an object with this key alone
abbrev pub marked : List ℕ → Token → List Token
marked name token = Token.begin_object ∷ Token.key name ∷ token ∷ Token.end_object ∷ []

abbrev mutual
  -- what stands in the text of a value, from its first bracket, name or word to its last
  pub tokens_of : AnyTree → List Token
  tokens_of undefined = marked (codes "$undefined") (Token.boolean true)
  tokens_of null = Token.null ∷ []
  tokens_of (flag b) = Token.boolean b ∷ []
  tokens_of (whole n) = Token.number (signed_decimal n) ∷ []
  tokens_of (raw4 bs) = marked (codes "$raw4") (Token.string (encode_lower bs))
  tokens_of (raw8 bs) = marked (codes "$raw8") (Token.string (encode_lower bs))
  tokens_of (big n) = marked (codes "$big") (Token.string (signed_decimal n))
  tokens_of (str s) = Token.string s ∷ []
  tokens_of (list ts) = Token.begin_array ∷ tokens_of_trees ts
  tokens_of (pairs fs) = Token.begin_object ∷ tokens_of_fields fs
  tokens_of (blob bs) = marked (codes "$blob") (Token.string (encode_lower bs))

  -- with the closing bracket
  pub tokens_of_trees : AnyTrees → List Token
  tokens_of_trees no_trees = Token.end_array ∷ []
  tokens_of_trees (tree t ts) = tokens_of t ++ tokens_of_trees ts

  -- the keys with their values, and the closing bracket
  pub tokens_of_fields : AnyFields → List Token
  tokens_of_fields no_fields = Token.end_object ∷ []
  tokens_of_fields (field k t fs) = Token.key k ∷ (tokens_of t ++ tokens_of_fields fs)

-- the text of a value: its tokens with commas and colons, no blank, and JSON's short escapes
abbrev pub printed : AnyTree → List ℕ
printed t = print (tokens_of t)

-- ---- for private clauses

-- what stood before stays, and after success these tokens are appended
pub record WritesAll {E : Type 0} (result : Result (Unit {0}) E) (old new : Written) (tokens : List Token) : Type 0 where
  pub before : new.before ≡ old.before
  pub appended : OnOk result (new.tokens ≡ old.tokens ++ tokens)
