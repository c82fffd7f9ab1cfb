-- The keys of a map ascend.
use Rattle.std.proofs.Common.{◌≡◌, ℕ, Bool, true, false, List, [], ◌∷◌, Option, Some, None, Less, Greater, Ordering, nat_cmp, refl, ap, ◌∙◌}
use Rattle.std.specs.Prelude.{if◌then◌else◌}
use Rattle.std.specs.Ordering.{match_ordering, ordering_reverse}
use Rattle.std.specs.declared.cmp.Ordering.TheVariants.{Equal}
use Rattle.std.specs.Cmp.Lexicographic.{slice_cmp}
use Rattle.std.proofs.lemmas.Cmp.{nat_list_cmp_total}
use Rattle.yd_any.specs.Tree.{AnyTree}
use Rattle.yd_ops.specs.declared.lists.Parent.{Parent}
use Rattle.yd_ops.specs.Operation.{Operation}
use Rattle.yd_meaning.specs.Names.{same_parent}
use Rattle.yd_meaning.specs.Order.{list_of}
use Rattle.yd_meaning.specs.Document.{Document, with_key, with_key_of, keys_of}
use Rattle.yd_shown.specs.Law.{KeysAbove, KeysAscend, FieldsAbove, FieldsAscend}
use Rattle.yd_shown.specs.Shown.{value_under, field_before, fields_under}

above_through : (k l : List ℕ) (ls : List (List ℕ)) → slice_cmp nat_cmp k l ≡ Less → KeysAbove l ls → KeysAbove k ls
above_through k l [] e a = tt
above_through k l (m ∷ ls) e a = (nat_list_cmp_total.trans k l m e a.0, above_through k l ls e a.1)

name_above : (m k : List ℕ) (ls : List (List ℕ)) → slice_cmp nat_cmp m k ≡ Less → KeysAbove m ls → KeysAbove m (with_key k ls)
name_above m k [] e a = (e, tt)
name_above m k (l ∷ ls) e a = go (slice_cmp nat_cmp k l) (name_above m k ls e a.1)
  where
    go : (o : Ordering) → KeysAbove m (with_key k ls) → KeysAbove m (match_ordering o (k ∷ l ∷ ls) (l ∷ ls) (l ∷ with_key k ls))
    go Less deep = (e, a)
    go Equal deep = a
    go Greater deep = (a.0, deep)

name_ascends : (k : List ℕ) (ls : List (List ℕ)) → KeysAscend ls → KeysAscend (with_key k ls)
name_ascends k [] a = (tt, tt)
name_ascends k (l ∷ ls) a = go (slice_cmp nat_cmp k l) refl (name_ascends k ls a.1)
  where
    go : (o : Ordering) → slice_cmp nat_cmp k l ≡ o → KeysAscend (with_key k ls) → KeysAscend (match_ordering o (k ∷ l ∷ ls) (l ∷ ls) (l ∷ with_key k ls))
    go Less e deep = ((e, above_through k l ls e a.0), a)
    go Equal e deep = a
    go Greater e deep = (name_above l k ls (nat_list_cmp_total.antisymm l k ∙ ap ordering_reverse e) a.0, deep)

pub keys_ascend : (held os : List Operation) (p : Parent) → KeysAscend (keys_of held os p)
keys_ascend held [] p = tt
keys_ascend held (o ∷ os) p = go (same_parent (list_of held o.id).parent p) (list_of held o.id).key (keys_ascend held os p)
  where
    go : (t : Bool) (key : Option (List ℕ)) → KeysAscend (keys_of held os p) → KeysAscend (if t then with_key_of key (keys_of held os p) else keys_of held os p)
    go true None deep = deep
    go true (Some k) deep = name_ascends k (keys_of held os p) deep
    go false key deep = deep

fields_above : (show : Operation → AnyTree) (d : Document) (p : Parent) (k : List ℕ) (ls : List (List ℕ)) → KeysAbove k ls → FieldsAbove k (fields_under show d p ls)
fields_above show d p k [] a = tt
fields_above show d p k (l ∷ ls) a = go (value_under show d p l) (fields_above show d p k ls a.1)
  where
    go : (value : Option AnyTree) → FieldsAbove k (fields_under show d p ls) → FieldsAbove k (field_before l value (fields_under show d p ls))
    go None deep = deep
    go (Some t) deep = (a.0, deep)

fields_ascend : (show : Operation → AnyTree) (d : Document) (p : Parent) (ls : List (List ℕ)) → KeysAscend ls → FieldsAscend (fields_under show d p ls)
fields_ascend show d p [] a = tt
fields_ascend show d p (l ∷ ls) a = go (value_under show d p l) (fields_ascend show d p ls a.1)
  where
    go : (value : Option AnyTree) → FieldsAscend (fields_under show d p ls) → FieldsAscend (field_before l value (fields_under show d p ls))
    go None deep = deep
    go (Some t) deep = (fields_above show d p l ls a.0, deep)

-- ---- lemmas for callers

pub map_ascends : (show : Operation → AnyTree) (d : Document) (p : Parent) (held os : List Operation) → FieldsAscend (fields_under show d p (keys_of held os p))
map_ascends show d p held os = fields_ascend show d p (keys_of held os p) (keys_ascend held os p)
