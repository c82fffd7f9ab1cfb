-- Attributes: what a mark sets and removes, and that their keys ascend.
use Rattle.std.proofs.Common.{◌≡◌, ℕ, Bool, true, false, List, [], ◌∷◌, Some, None, Less, Greater, Ordering, nat_cmp, refl, sym, ap, ◌∙◌, subst, true≢false}
use Rattle.std.specs.Prelude.{if◌then◌else◌}
use Rattle.std.specs.Ordering.{match_ordering, is_eq, ordering_reverse}
use Rattle.std.specs.declared.cmp.Ordering.TheVariants.{Equal}
use Rattle.std.specs.Cmp.Lexicographic.{slice_cmp}
use Rattle.std.proofs.lemmas.Cmp.{nat_list_cmp_total}
use Rattle.yd_any.specs.Tree.{AnyTree, AnyFields, undefined, null, flag, whole, raw4, raw8, big, str, list, pairs, blob, no_fields, field}
use Rattle.yd_any.specs.Carried.{put}
use Rattle.yd_any.specs.Keys.{is_same, first_at}
use Rattle.yd_ops.specs.Operation.{UnitContent, text_unit, embedded, mark, nested_type, Operation}
use Rattle.yd_any.specs.Same.{same_fields}
use Rattle.yd_shown.specs.Pieces.{Piece, text_piece, value_piece, without_key, with_attribute, attributes_after, unit_before, delta_before, delta_pieces}
use Rattle.yd_shown.specs.Law.{FieldsAbove, FieldsAscend, is_null, AttributesAscend}
use Rattle.yd_shown.proofs.KeyLemmas.{one_text, same_key_itself}

-- ---- order

above_all : (k l : List ℕ) (fs : AnyFields) → slice_cmp nat_cmp k l ≡ Less → FieldsAbove l fs → FieldsAbove k fs
above_all k l no_fields e a = tt
above_all k l (field m t fs) e a = (nat_list_cmp_total.trans k l m e a.0, above_all k l fs e a.1)

put_above : (m k : List ℕ) (t : AnyTree) (fs : AnyFields) → slice_cmp nat_cmp m k ≡ Less → FieldsAbove m fs → FieldsAbove m (put k t fs)
put_above m k t no_fields e a = (e, tt)
put_above m k t (field l u fs) e a = go (slice_cmp nat_cmp k l) (put_above m k t fs e a.1)
  where
    go : (o : Ordering) → FieldsAbove m (put k t fs) → FieldsAbove m (match_ordering o (field k t (field l u fs)) (field l t fs) (field l u (put k t fs)))
    go Less deep = (e, a)
    go Equal deep = a
    go Greater deep = (a.0, deep)

put_ascends : (k : List ℕ) (t : AnyTree) (fs : AnyFields) → FieldsAscend fs → FieldsAscend (put k t fs)
put_ascends k t no_fields a = (tt, tt)
put_ascends k t (field l u fs) a = go (slice_cmp nat_cmp k l) refl (put_ascends k t fs a.1)
  where
    go : (o : Ordering) → slice_cmp nat_cmp k l ≡ o → FieldsAscend (put k t fs) → FieldsAscend (match_ordering o (field k t (field l u fs)) (field l t fs) (field l u (put k t fs)))
    go Less e deep = ((e, above_all k l fs e a.0), a)
    go Equal e deep = a
    go Greater e deep = (put_above l k t fs (nat_list_cmp_total.antisymm l k ∙ ap ordering_reverse e) a.0, deep)

left_above : (m k : List ℕ) (fs : AnyFields) → FieldsAbove m fs → FieldsAbove m (without_key k fs)
left_above m k no_fields a = tt
left_above m k (field l u fs) a = go (is_same k l) (left_above m k fs a.1)
  where
    go : (t : Bool) → FieldsAbove m (without_key k fs) → FieldsAbove m (if t then fs else field l u (without_key k fs))
    go true deep = a.1
    go false deep = (a.0, deep)

left_ascends : (k : List ℕ) (fs : AnyFields) → FieldsAscend fs → FieldsAscend (without_key k fs)
left_ascends k no_fields a = tt
left_ascends k (field l u fs) a = go (is_same k l) (left_ascends k fs a.1)
  where
    go : (t : Bool) → FieldsAscend (without_key k fs) → FieldsAscend (if t then fs else field l u (without_key k fs))
    go true deep = a.1
    go false deep = (left_above l k fs a.0, deep)

-- a mark puts its value, or leaves its key out
either_way : (P : AnyFields → Type 0) (k : List ℕ) (t : AnyTree) (fs : AnyFields) → P (without_key k fs) → P (put k t fs) → P (with_attribute k t fs)
either_way P k null fs left p = left
either_way P k _ fs left p = p

attribute_ascends : (k : List ℕ) (t : AnyTree) (fs : AnyFields) → FieldsAscend fs → FieldsAscend (with_attribute k t fs)
attribute_ascends k t fs a = either_way FieldsAscend k t fs (left_ascends k fs a) (put_ascends k t fs a)

after_ascends : (fs : AnyFields) (c : UnitContent) → FieldsAscend fs → FieldsAscend (attributes_after fs c)
after_ascends fs (mark k t) a = attribute_ascends k t fs a
after_ascends fs _ a = a

unit_order : (u : ℕ) (a : AnyFields) (ps : List Piece) → FieldsAscend a → AttributesAscend ps → AttributesAscend (unit_before u a ps)
unit_order u a [] up order = (up, tt)
unit_order u a (value_piece t b ∷ ps) up order = (up, order)
unit_order u a (text_piece us b ∷ ps) up order = go (same_fields a b)
  where
    go : (t : Bool) → AttributesAscend (if t then text_piece (u ∷ us) b ∷ ps else text_piece (u ∷ []) a ∷ text_piece us b ∷ ps)
    go true = order
    go false = (up, order)

delta_order-one : (show : Operation → AnyTree) (a : AnyFields) (o : Operation) (c : UnitContent) (ps : List Piece) → FieldsAscend a → AttributesAscend ps →
    AttributesAscend (delta_before show a o c ps)
delta_order-one show a o (text_unit u) ps up order = unit_order u a ps up order
delta_order-one show a o (embedded t) ps up order = (up, order)
delta_order-one show a o (nested_type kind) ps up order = (up, order)
delta_order-one show a o _ ps up order = order

delta_order : (show : Operation → AnyTree) (a : AnyFields) (os : List Operation) → FieldsAscend a → AttributesAscend (delta_pieces show a os)
delta_order show a [] up = tt
delta_order show a (o ∷ os) up = delta_order-one show a o o.content (delta_pieces show (attributes_after a o.content) os) up
    (delta_order show (attributes_after a o.content) os (after_ascends a o.content up))

-- ---- what stands under a key

put_found : (k : List ℕ) (t : AnyTree) (fs : AnyFields) → first_at k (put k t fs) ≡ Some t
put_found k t no_fields = rw (same_key_itself k) refl
put_found k t (field l u fs) = go (slice_cmp nat_cmp k l) refl (put_found k t fs)
  where
    go : (o : Ordering) → slice_cmp nat_cmp k l ≡ o → first_at k (put k t fs) ≡ Some t →
        first_at k (match_ordering o (field k t (field l u fs)) (field l t fs) (field l u (put k t fs))) ≡ Some t
    go Less e deep = rw (same_key_itself k) refl
    go Equal e deep = rw (ap is_eq e) refl
    go Greater e deep = rw (ap is_eq e) deep

-- a key below all of the fields is not there
none_below : (k : List ℕ) (fs : AnyFields) → FieldsAbove k fs → first_at k fs ≡ None
none_below k no_fields a = refl
none_below k (field l t fs) a = rw (ap is_eq a.0) (none_below k fs a.1)

left_none : (k : List ℕ) (fs : AnyFields) → FieldsAscend fs → first_at k (without_key k fs) ≡ None
left_none k no_fields a = refl
left_none k (field l u fs) a = go (is_same k l) refl (left_none k fs a.1)
  where
    go : (t : Bool) → is_same k l ≡ t → first_at k (without_key k fs) ≡ None → first_at k (if t then fs else field l u (without_key k fs)) ≡ None
    go true e deep = none_below k fs (above_same (sym (one_text k l e)))
      where
        above_same : l ≡ k → FieldsAbove k fs
        above_same f = subst (λ m. FieldsAbove m fs) f a.0
    go false e deep = rw e deep

left_other : (k l : List ℕ) (fs : AnyFields) → is_same l k ≡ false → first_at l (without_key k fs) ≡ first_at l fs
left_other k l no_fields ne = refl
left_other k l (field m u fs) ne = go (is_same k m) refl (left_other k l fs ne)
  where
    go : (t : Bool) → is_same k m ≡ t → first_at l (without_key k fs) ≡ first_at l fs →
        first_at l (if t then fs else field m u (without_key k fs)) ≡ first_at l (field m u fs)
    go true e deep = rw (ap (is_same l) (sym (one_text k m e)) ∙ ne) refl
    go false e deep = ap (λ rest. if is_same l m then Some u else rest) deep

put_other : (k l : List ℕ) (t : AnyTree) (fs : AnyFields) → is_same l k ≡ false → first_at l (put k t fs) ≡ first_at l fs
put_other k l t no_fields ne = rw ne refl
put_other k l t (field m u fs) ne = go (slice_cmp nat_cmp k m) refl (put_other k l t fs ne)
  where
    go : (o : Ordering) → slice_cmp nat_cmp k m ≡ o → first_at l (put k t fs) ≡ first_at l fs →
        first_at l (match_ordering o (field k t (field m u fs)) (field m t fs) (field m u (put k t fs))) ≡ first_at l (field m u fs)
    go Less e deep = rw ne refl
    go Equal e deep = rw (ap (is_same l) (sym (one_text k m (ap is_eq e))) ∙ ne) refl
    go Greater e deep = ap (λ rest. if is_same l m then Some u else rest) deep

-- ---- lemmas for callers

pub mark_sets : (k : List ℕ) (t : AnyTree) (fs : AnyFields) → is_null t ≡ false → first_at k (with_attribute k t fs) ≡ Some t
mark_sets k null fs e = absurd (true≢false e)
mark_sets k undefined fs e = put_found k undefined fs
mark_sets k (flag b) fs e = put_found k (flag b) fs
mark_sets k (whole n) fs e = put_found k (whole n) fs
mark_sets k (raw4 b) fs e = put_found k (raw4 b) fs
mark_sets k (raw8 b) fs e = put_found k (raw8 b) fs
mark_sets k (big n) fs e = put_found k (big n) fs
mark_sets k (str s) fs e = put_found k (str s) fs
mark_sets k (list ts) fs e = put_found k (list ts) fs
mark_sets k (pairs gs) fs e = put_found k (pairs gs) fs
mark_sets k (blob b) fs e = put_found k (blob b) fs

pub null_removes : (k : List ℕ) (fs : AnyFields) → FieldsAscend fs → first_at k (with_attribute k null fs) ≡ None
null_removes k fs a = left_none k fs a

pub others_stay : (k l : List ℕ) (t : AnyTree) (fs : AnyFields) → is_same l k ≡ false → first_at l (with_attribute k t fs) ≡ first_at l fs
others_stay k l t fs ne = either_way (λ gs. first_at l gs ≡ first_at l fs) k t fs (left_other k l fs ne) (put_other k l t fs ne)

pub marks_ascend : (show : Operation → AnyTree) (os : List Operation) → AttributesAscend (delta_pieces show no_fields os)
marks_ascend show os = delta_order show no_fields os tt
