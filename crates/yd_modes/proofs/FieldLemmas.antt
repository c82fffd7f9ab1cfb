-- Fields of a map that are made key after key, in front of those of the keys that are left.
use Rattle.std.proofs.Common.{◌≡◌, ℕ, List, [], ◌∷◌, Option, sym, ap, ◌∙◌}
use Rattle.yd_any.specs.Tree.{AnyTree, AnyFields, no_fields}
use Rattle.yd_ops.specs.Operation.{Operation}
use Rattle.yd_ops.specs.declared.lists.Parent.{Parent}
use Rattle.yd_meaning.specs.Document.{Document}
use Rattle.yd_shown.specs.Shown.{field_before, fields_under, value_under}
use Rattle.yd_modes.specs.Roles.{joined_fields}
use Rattle.yd_modes.proofs.MarkLemmas.{joined_none}

module _ (show : Operation → AnyTree) (d : Document) (parent : Parent) where
  -- where none is made, those of all keys are left
  pub none_made : (fields : AnyFields) (keys left : List (List ℕ)) → fields ≡ no_fields → left ≡ keys →
      joined_fields fields (fields_under show d parent left) ≡ fields_under show d parent keys
  none_made fields keys left none same = ap (λ fs. joined_fields fs (fields_under show d parent left)) none ∙ ap (fields_under show d parent) same

  -- the next key's is made
  pub one_made : (fields new all : AnyFields) (key : List ℕ) (value : Option AnyTree) (left rest : List (List ℕ)) →
      ((behind : AnyFields) → joined_fields new behind ≡ joined_fields fields (field_before key value behind)) → value ≡ value_under show d parent key → left ≡ key ∷ rest →
      joined_fields fields (fields_under show d parent left) ≡ all → joined_fields new (fields_under show d parent rest) ≡ all
  one_made fields new all key value left rest pushed shown next so_far =
      pushed (fields_under show d parent rest)
      ∙ ap (λ v. joined_fields fields (field_before key v (fields_under show d parent rest))) shown
      ∙ ap (λ keys. joined_fields fields (fields_under show d parent keys)) (sym next)
      ∙ so_far

  -- where no key is left, those that are made are all
  pub all_made : (fields all : AnyFields) (left : List (List ℕ)) → left ≡ [] → joined_fields fields (fields_under show d parent left) ≡ all → fields ≡ all
  all_made fields all left none so_far = sym (joined_none fields) ∙ ap (λ keys. joined_fields fields (fields_under show d parent keys)) (sym none) ∙ so_far
