-- The fields of a map, by the keys of its parent.
use Rattle.std.proofs.Common.{◌≡◌, ℕ, Bool, true, false, ◌||◌, List, [], ◌∷◌, Option, Some, None, inl, inr, refl, sym, ap, ◌∙◌}
use Rattle.std.specs.Prelude.{filter, option_map, if◌then◌else◌}
use Rattle.yd_words.specs.Member.{IsIn}
use Rattle.yd_any.specs.Tree.{AnyTree, AnyFields}
use Rattle.yd_any.specs.Keys.{is_same, first_at}
use Rattle.yd_ops.specs.declared.lists.Parent.{Parent}
use Rattle.yd_ops.specs.Operation.{Operation}
use Rattle.yd_meaning.specs.Document.{Document}
use Rattle.yd_shown.specs.Law.{is_among}
use Rattle.yd_shown.specs.Shown.{last_unit, unit_under, value_under, field_before, fields_under}
use Rattle.yd_shown.proofs.KeyLemmas.{one_text}

-- what stands in front under another key does not count
field_first : (k l : List ℕ) (value : Option AnyTree) (fs : AnyFields) →
    first_at k (field_before l value fs) ≡ (if is_same k l then (elim value [ Some t ↦ Some t | None ↦ first_at k fs ]) else first_at k fs)
field_first k l None fs = go (is_same k l)
  where
    go : (t : Bool) → first_at k fs ≡ (if t then first_at k fs else first_at k fs)
    go true = refl
    go false = refl
field_first k l (Some t) fs = refl

fields_at : (show : Operation → AnyTree) (d : Document) (p : Parent) (k : List ℕ) (ls : List (List ℕ)) →
    first_at k (fields_under show d p ls) ≡ (if is_among k ls then value_under show d p k else None)
fields_at show d p k [] = refl
fields_at show d p k (l ∷ ls) = field_first k l (value_under show d p l) (fields_under show d p ls)
    ∙ go (is_same k l) refl (value_under show d p l) refl (is_among k ls) (fields_at show d p k ls)
  where
    go : (t : Bool) → is_same k l ≡ t → (value : Option AnyTree) → value_under show d p l ≡ value → (h : Bool) →
        first_at k (fields_under show d p ls) ≡ (if h then value_under show d p k else None) →
        (if t then (elim value [ Some v ↦ Some v | None ↦ first_at k (fields_under show d p ls) ]) else first_at k (fields_under show d p ls))
        ≡ (if t || h then value_under show d p k else None)
    go false e value f h deep = deep
    go true e (Some v) f h deep = sym f ∙ ap (value_under show d p) (sym (one_text k l e))
    go true e None f true deep = deep
    go true e None f false deep = deep ∙ sym f ∙ ap (value_under show d p) (sym (one_text k l e))

-- ---- lemmas for callers

pub keys_left_out : (show : Operation → AnyTree) (d : Document) (p : Parent) (test : List ℕ → Bool) → ((k : List ℕ) → test k ≡ false → unit_under d p k ≡ None) →
    (ks : List (List ℕ)) → fields_under show d p (filter test ks) ≡ fields_under show d p ks
keys_left_out show d p test none [] = refl
keys_left_out show d p test none (k ∷ ks) = go (test k) refl (keys_left_out show d p test none ks)
  where
    go : (t : Bool) → test k ≡ t → fields_under show d p (filter test ks) ≡ fields_under show d p ks →
        fields_under show d p (if t then k ∷ filter test ks else filter test ks) ≡ field_before k (value_under show d p k) (fields_under show d p ks)
    go true e deep = ap (field_before k (value_under show d p k)) deep
    go false e deep = deep ∙ ap (λ unit. field_before k (option_map show unit) (fields_under show d p ks)) (sym (none k e))

pub fields_of_keys : (show : Operation → AnyTree) (d : Document) (p : Parent) (k : List ℕ) →
    first_at k (fields_under show d p (d.keys p)) ≡ (if is_among k (d.keys p) then value_under show d p k else None)
fields_of_keys show d p k = fields_at show d p k (d.keys p)

-- the last of units is one of them
pub last_is_one : (os : List Operation) (o : Operation) → last_unit os ≡ Some o → IsIn o os
last_is_one [] o e = absurd cc
last_is_one (p ∷ []) o e = inl (cc)
last_is_one (p ∷ q ∷ os) o e = inr (last_is_one (q ∷ os) o e)
