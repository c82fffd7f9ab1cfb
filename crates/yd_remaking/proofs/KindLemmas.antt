-- The units of a content are of its kind, and can be made where it can.
use Rattle.std.proofs.Common.{◌≡◌, ℕ, zero, suc, Bool, true, false, List, [], ◌∷◌, map, take, drop, Option, refl, arith}
use Rattle.yd_words.specs.Each.{Each}
use Rattle.yd_any.specs.Tree.{AnyTree, AnyTrees, no_trees, tree}
use Rattle.yd_ops.specs.Operation.{UnitContent, text_unit, json_unit, deleted_units, units_of_trees, units_of_content}
use Rattle.yd_ops.specs.Value.{ContentValue, json, binary, string, embed, format, nested, any, deleted, len_of}
use Rattle.yd_copying.specs.Content.{can_be_made, kind_of}
use Rattle.yd_copying.specs.Piece.{can_make, content_kind}

-- a unit is of a kind, and can be made or not
pub record IsOf (kind : ℕ) (made : Bool) (u : UnitContent) : Type 0 where
  pub kind_is : kind_of u ≡ kind
  pub made_is : can_be_made u ≡ made

texts_are : (us : List ℕ) → Each (IsOf 1 true) (map text_unit us)
texts_are [] = tt
texts_are (u ∷ us) = (record { kind_is = refl; made_is = refl }, texts_are us)

trees_are : (ts : AnyTrees) → Each (IsOf 2 true) (units_of_trees ts)
trees_are no_trees = tt
trees_are (tree t ts) = (record { kind_is = refl; made_is = refl }, trees_are ts)

values_are : (vs : List (Option AnyTree)) → Each (IsOf 3 true) (map json_unit vs)
values_are [] = tt
values_are (v ∷ vs) = (record { kind_is = refl; made_is = refl }, values_are vs)

deleted_are : (n : ℕ) → Each (IsOf 0 false) (deleted_units n)
deleted_are zero = tt
deleted_are (suc n) = (record { kind_is = refl; made_is = refl }, deleted_are n)

units_are : (content : ContentValue) → Each (IsOf (content_kind content) (can_make content)) (units_of_content content)
units_are (string us) = texts_are us
units_are (any ts) = trees_are ts
units_are (json vs) = values_are vs
units_are (deleted count) = deleted_are count
units_are (binary blob) = (record { kind_is = refl; made_is = refl }, tt)
units_are (embed value) = (record { kind_is = refl; made_is = refl }, tt)
units_are (format key value) = (record { kind_is = refl; made_is = refl }, tt)
units_are (nested kind) = (record { kind_is = refl; made_is = refl }, tt)

pub each_taken : {X : Type 0} (P : X → Type 0) (n : ℕ) (xs : List X) → Each P xs → Each P (take n xs)
each_taken P zero xs each = tt
each_taken P (suc n) [] each = tt
each_taken P (suc n) (x ∷ xs) each = (each.0, each_taken P n xs each.1)

pub each_dropped : {X : Type 0} (P : X → Type 0) (n : ℕ) (xs : List X) → Each P xs → Each P (drop n xs)
each_dropped P zero xs each = each
each_dropped P (suc n) [] each = tt
each_dropped P (suc n) (x ∷ xs) each = each_dropped P n xs each.1

-- ---- lemmas for callers

pub part_is : (o n : ℕ) (content : ContentValue) → Each (IsOf (content_kind content) (can_make content)) (take n (drop o (units_of_content content)))
part_is o n content = each_taken (IsOf (content_kind content) (can_make content)) n (drop o (units_of_content content))
    (each_dropped (IsOf (content_kind content) (can_make content)) o (units_of_content content) (units_are content))

-- what is of no kind and can be made is one unit
pub one_alone : (content : ContentValue) → content_kind content ≡ 0 → can_make content ≡ true → len_of content ≡ 1
one_alone (string us) e m = absurd (omega (arith, e))
one_alone (any ts) e m = absurd (omega (arith, e))
one_alone (json vs) e m = absurd (omega (arith, e))
one_alone (deleted count) e m = absurd (let h = m in cc)
one_alone (binary blob) e m = refl
one_alone (embed value) e m = refl
one_alone (format key value) e m = refl
one_alone (nested kind) e m = absurd (let h = m in cc)
