-- The text of a tree is what is printed of its tokens.
use Rattle.std.proofs.Common.{◌≡◌, Bool, true, false, List, [], ◌∷◌, ◌++◌, refl, sym, ap, ◌∙◌, append_assoc, append-nil}
use Rattle.json.specs.Token.{Token}
use Rattle.json.specs.Print.{print_from, escape, escape_byte}
use Rattle.yd_any.specs.Tree.{AnyTree, AnyTrees, AnyFields, undefined, null, flag, whole, raw4, raw8, big, str, list, pairs, blob, no_trees, tree, no_fields, field}
use Rattle.yd_any.specs.Printed.{tokens_of, tokens_of_trees, tokens_of_fields, printed}
use Rattle.yd_value.specs.Texts.{comma_if, text_of, text_of_trees, text_of_fields}

mutual
  unfolding print_from escape_byte

  -- a tree's tokens are its text, and more tokens are printed after a value
  print_from-tokens_of : (after : Bool) (t : AnyTree) (more : List Token) → print_from after (tokens_of t ++ more) ≡ comma_if after ++ (text_of t ++ print_from true more)
  print_from-tokens_of true undefined more = refl
  print_from-tokens_of false undefined more = refl
  print_from-tokens_of true null more = refl
  print_from-tokens_of false null more = refl
  print_from-tokens_of true (flag true) more = refl
  print_from-tokens_of true (flag false) more = refl
  print_from-tokens_of false (flag true) more = refl
  print_from-tokens_of false (flag false) more = refl
  print_from-tokens_of true (whole n) more = refl
  print_from-tokens_of false (whole n) more = refl
  print_from-tokens_of true (raw4 bs) more = simp append_assoc
  print_from-tokens_of false (raw4 bs) more = simp append_assoc
  print_from-tokens_of true (raw8 bs) more = simp append_assoc
  print_from-tokens_of false (raw8 bs) more = simp append_assoc
  print_from-tokens_of true (big n) more = simp append_assoc
  print_from-tokens_of false (big n) more = simp append_assoc
  print_from-tokens_of true (str s) more = simp append_assoc
  print_from-tokens_of false (str s) more = simp append_assoc
  print_from-tokens_of true (blob bs) more = simp append_assoc
  print_from-tokens_of false (blob bs) more = simp append_assoc
  print_from-tokens_of true (list ts) more = ap (λ l. 44 ∷ 91 ∷ l) (print_from-tokens_of_trees false ts more)
  print_from-tokens_of false (list ts) more = ap (λ l. 91 ∷ l) (print_from-tokens_of_trees false ts more)
  print_from-tokens_of true (pairs fs) more = ap (λ l. 44 ∷ 123 ∷ l) (print_from-tokens_of_fields false fs more)
  print_from-tokens_of false (pairs fs) more = ap (λ l. 123 ∷ l) (print_from-tokens_of_fields false fs more)

  print_from-tokens_of_trees : (after : Bool) (ts : AnyTrees) (more : List Token) → print_from after (tokens_of_trees ts ++ more) ≡ text_of_trees after ts ++ print_from true more
  print_from-tokens_of_trees true no_trees more = refl
  print_from-tokens_of_trees false no_trees more = refl
  print_from-tokens_of_trees after (tree t ts) more =
      ap (print_from after) (append_assoc (tokens_of t) (tokens_of_trees ts) more) ∙ print_from-tokens_of after t (tokens_of_trees ts ++ more)
      ∙ ap (λ l. comma_if after ++ (text_of t ++ l)) (print_from-tokens_of_trees true ts more) ∙ simp append_assoc

  print_from-tokens_of_fields : (after : Bool) (fs : AnyFields) (more : List Token) → print_from after (tokens_of_fields fs ++ more) ≡ text_of_fields after fs ++ print_from true more
  print_from-tokens_of_fields true no_fields more = refl
  print_from-tokens_of_fields false no_fields more = refl
  print_from-tokens_of_fields true (field k t fs) more = ap (λ l. 44 ∷ (((34 ∷ (escape k ++ 34 ∷ [])) ++ 58 ∷ []) ++ l))
      (ap (print_from false) (append_assoc (tokens_of t) (tokens_of_fields fs) more) ∙ print_from-tokens_of false t (tokens_of_fields fs ++ more) ∙ ap (λ l. text_of t ++ l) (print_from-tokens_of_fields true fs more))
      ∙ simp append_assoc
  print_from-tokens_of_fields false (field k t fs) more = ap (λ l. ((34 ∷ (escape k ++ 34 ∷ [])) ++ 58 ∷ []) ++ l)
      (ap (print_from false) (append_assoc (tokens_of t) (tokens_of_fields fs) more) ∙ print_from-tokens_of false t (tokens_of_fields fs ++ more) ∙ ap (λ l. text_of t ++ l) (print_from-tokens_of_fields true fs more))
      ∙ simp append_assoc

-- what is printed of a tree is its text
pub printed_is_text : (t : AnyTree) → printed t ≡ text_of t
unfolding print_from
printed_is_text t = ap (print_from false) (sym (append-nil (tokens_of t))) ∙ print_from-tokens_of false t [] ∙ append-nil (text_of t)
