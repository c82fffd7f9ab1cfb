-- The first units of a content and the others: how many they are, which, that both are valid and are the content again; and two contents of one kind as one.
use Rattle.std.proofs.Common.{◌≡◌, ℕ, zero, suc, ◌+◌, ◌-◌, ◌<◌, ◌≤◌, true, List, [], ◌∷◌, ◌++◌, take, drop, refl, sym, ap, ◌∙◌, arith}
use Rattle.std.proofs.Math.Seq.{take-append_seam, drop-append_seam}
use Rattle.std.proofs.lemmas.List.{take-append-drop, length-take-le, take-map, drop-map}
use Rattle.yd_words.specs.Each.{Each}
use Rattle.yd_any.specs.Tree.{AnyTrees, no_trees, tree}
use Rattle.yd_words.proofs.EachLemmas.{each_front, each_append}
use Rattle.yd_any.specs.Rows.{first_trees, other_trees, trees_and}
use Rattle.yd_any.proofs.RowLemmas.{row_again}
use Rattle.yd_units.specs.Half.{AreUnits}
use Rattle.yd_units.proofs.CutLemmas.{front_whole, back_whole, joined_whole}
use Rattle.yd_ops.specs.Value.{ContentValue, json, binary, string, embed, format, nested, any, deleted, count_of, len_of}
use Rattle.yd_ops.specs.Operation.{text_unit, any_unit, json_unit, deleted_unit, units_of_trees, deleted_units, units_of_content}
use Rattle.yd_ops.specs.Valid.{IsValidUnit, AreValidTrees, IsValidContent}
use Rattle.yd_ops.specs.Joining.{are_of_one_kind, joined_content}
use Rattle.yd_ops.specs.Cutting.{content_before, content_behind, PartsPair}
use Rattle.yd_ops.proofs.JoinLemmas.{of_one_kind}

-- ---- both parts

first-count : (n : ℕ) (ts : AnyTrees) → n ≤ count_of ts → count_of (first_trees n ts) ≡ n
first-count zero ts le = refl
first-count (suc n) no_trees le = absurd (omega (arith, le))
first-count (suc n) (tree t ts) le = ap suc (first-count n ts (omega (arith, le)))

-- the parts are of one kind, and are the whole, and the first has n units
pub record AreParts (n : ℕ) (content : ContentValue) : Type 0 where
  pub kind : are_of_one_kind (content_before n content) (content_behind n content) ≡ true
  pub whole : joined_content (content_before n content) (content_behind n content) ≡ content
  pub length : len_of (content_before n content) ≡ n

pub content_parts : (n : ℕ) (content : ContentValue) → 0 < n → n < len_of content → AreParts n content
content_parts n (string units) some lt = record { kind = refl; whole = ap string (take-append-drop n units); length = length-take-le n units (omega (arith, lt)) }
content_parts n (any ts) some lt = record { kind = refl; whole = ap any (row_again n ts); length = first-count n ts (omega (arith, lt)) }
content_parts n (json values) some lt = record { kind = refl; whole = ap json (take-append-drop n values); length = length-take-le n values (omega (arith, lt)) }
content_parts n (deleted count) some lt = let same : n + (count - n) ≡ count = omega (arith, lt) in record { kind = refl; whole = ap deleted same; length = refl }
content_parts n (binary blob) some lt = absurd (omega (arith, some, lt))
content_parts n (embed t) some lt = absurd (omega (arith, some, lt))
content_parts n (format key t) some lt = absurd (omega (arith, some, lt))
content_parts n (nested kind) some lt = absurd (omega (arith, some, lt))

-- ---- units

first-units : (n : ℕ) (ts : AnyTrees) → units_of_trees (first_trees n ts) ≡ take n (units_of_trees ts)
first-units zero ts = refl
first-units (suc n) no_trees = refl
first-units (suc n) (tree t ts) = ap (λ r. any_unit t ∷ r) (first-units n ts)

other-units : (n : ℕ) (ts : AnyTrees) → units_of_trees (other_trees n ts) ≡ drop n (units_of_trees ts)
other-units zero ts = refl
other-units (suc n) no_trees = refl
other-units (suc n) (tree t ts) = other-units n ts

first-deleted : (n count : ℕ) → n ≤ count → deleted_units n ≡ take n (deleted_units count)
first-deleted zero count le = refl
first-deleted (suc n) zero le = absurd (omega (arith, le))
first-deleted (suc n) (suc count) le = ap (λ r. deleted_unit ∷ r) (first-deleted n count (omega (arith, le)))

other-deleted : (n count : ℕ) → n ≤ count → deleted_units (count - n) ≡ drop n (deleted_units count)
other-deleted zero count le = let all : count - 0 ≡ count = omega arith in ap deleted_units all
other-deleted (suc n) zero le = absurd (omega (arith, le))
other-deleted (suc n) (suc count) le = let one : suc count - suc n ≡ count - n = omega arith in ap deleted_units one ∙ other-deleted n count (omega (arith, le))

pub before-units : (n : ℕ) (content : ContentValue) → 0 < n → n < len_of content → units_of_content (content_before n content) ≡ take n (units_of_content content)
before-units n (string units) some lt = sym (take-map text_unit n units)
before-units n (any ts) some lt = first-units n ts
before-units n (json values) some lt = sym (take-map json_unit n values)
before-units n (deleted count) some lt = first-deleted n count (omega (arith, lt))
before-units n (binary blob) some lt = absurd (omega (arith, some, lt))
before-units n (embed t) some lt = absurd (omega (arith, some, lt))
before-units n (format key t) some lt = absurd (omega (arith, some, lt))
before-units n (nested kind) some lt = absurd (omega (arith, some, lt))

pub behind-units : (n : ℕ) (content : ContentValue) → 0 < n → n < len_of content → units_of_content (content_behind n content) ≡ drop n (units_of_content content)
behind-units n (string units) some lt = sym (drop-map text_unit n units)
behind-units n (any ts) some lt = other-units n ts
behind-units n (json values) some lt = sym (drop-map json_unit n values)
behind-units n (deleted count) some lt = other-deleted n count (omega (arith, lt))
behind-units n (binary blob) some lt = absurd (omega (arith, some, lt))
behind-units n (embed t) some lt = absurd (omega (arith, some, lt))
behind-units n (format key t) some lt = absurd (omega (arith, some, lt))
behind-units n (nested kind) some lt = absurd (omega (arith, some, lt))

-- ---- valid parts

units_take : (us : List ℕ) (n : ℕ) → AreUnits us → AreUnits (take n us)
units_take us zero are i = omega arith
units_take [] (suc n) are i = omega arith
units_take (u ∷ us) (suc n) are zero = are 0
units_take (u ∷ us) (suc n) are (suc i) = units_take us n (λ j. are (suc j)) i

units_drop : (us : List ℕ) (n : ℕ) → AreUnits us → AreUnits (drop n us)
units_drop us zero are i = are i
units_drop [] (suc n) are i = omega arith
units_drop (u ∷ us) (suc n) are i = units_drop us n (λ j. are (suc j)) i

each_rest : {X : Type 0} (P : X → Type 0) (xs : List X) (n : ℕ) → Each P xs → Each P (drop n xs)
each_rest P xs zero each = each
each_rest P [] (suc n) each = tt
each_rest P (x ∷ xs) (suc n) each = each_rest P xs n each.1

trees_take : (ts : AnyTrees) (n : ℕ) → AreValidTrees ts → AreValidTrees (first_trees n ts)
trees_take ts zero each = tt
trees_take no_trees (suc n) each = tt
trees_take (tree t ts) (suc n) each = (each.0, trees_take ts n each.1)

trees_drop : (ts : AnyTrees) (n : ℕ) → AreValidTrees ts → AreValidTrees (other_trees n ts)
trees_drop ts zero each = each
trees_drop no_trees (suc n) each = tt
trees_drop (tree t ts) (suc n) each = trees_drop ts n each.1

pub content_valid : (n : ℕ) (content : ContentValue) → n < len_of content → IsValidContent content → (PartsPair n content → ⊥) →
    IsValidContent (content_before n content) × IsValidContent (content_behind n content)
content_valid n (string units) lt valid none =
    ((units_take units n valid.0, front_whole units n (omega (arith, lt)) valid.1 none), (units_drop units n valid.0, back_whole units n (omega (arith, lt)) valid.1 none))
content_valid n (any ts) lt valid none = (trees_take ts n valid, trees_drop ts n valid)
content_valid n (json values) lt valid none = (each_front IsValidUnit values n valid, each_rest IsValidUnit values n valid)
content_valid n (deleted count) lt valid none = (tt, tt)
content_valid n (binary blob) lt valid none = (tt, tt)
content_valid n (embed t) lt valid none = (valid, valid)
content_valid n (format key t) lt valid none = (valid, valid)
content_valid n (nested kind) lt valid none = (tt, tt)

-- ---- two contents as one

first-trees : (ts us : AnyTrees) → first_trees (count_of ts) (trees_and ts us) ≡ ts
first-trees no_trees us = refl
first-trees (tree t ts) us = ap (tree t) (first-trees ts us)

other-trees : (ts us : AnyTrees) → other_trees (count_of ts) (trees_and ts us) ≡ us
other-trees no_trees us = refl
other-trees (tree t ts) us = other-trees ts us

pub joined-first : (content next : ContentValue) → are_of_one_kind content next ≡ true → content_before (len_of content) (joined_content content next) ≡ content
joined-first = of_one_kind (λ c d. content_before (len_of c) (joined_content c d) ≡ c) (λ us vs. ap string (take-append_seam us vs)) (λ ts us. ap any (first-trees ts us))
    (λ us vs. ap json (take-append_seam us vs)) (λ m n. refl)

pub joined-other : (content next : ContentValue) → are_of_one_kind content next ≡ true → content_behind (len_of content) (joined_content content next) ≡ next
joined-other = of_one_kind (λ c d. content_behind (len_of c) (joined_content c d) ≡ d) (λ us vs. ap string (drop-append_seam us vs)) (λ ts us. ap any (other-trees ts us))
    (λ us vs. ap json (drop-append_seam us vs)) (λ m n. let rest : (m + n) - m ≡ n = omega arith in ap deleted rest)

units_both : (us vs : List ℕ) → AreUnits us → AreUnits vs → AreUnits (us ++ vs)
units_both [] vs are also i = also i
units_both (u ∷ us) vs are also zero = are 0
units_both (u ∷ us) vs are also (suc i) = units_both us vs (λ j. are (suc j)) also i

trees_both : (ts us : AnyTrees) → AreValidTrees ts → AreValidTrees us → AreValidTrees (trees_and ts us)
trees_both no_trees us each also = also
trees_both (tree t ts) us each also = (each.0, trees_both ts us each.1 also)

pub joined-valid : (content next : ContentValue) → are_of_one_kind content next ≡ true → IsValidContent content → IsValidContent next →
    IsValidContent (joined_content content next)
joined-valid = of_one_kind (λ c d. IsValidContent c → IsValidContent d → IsValidContent (joined_content c d))
    (λ us vs v w. (units_both us vs v.0 w.0, joined_whole us vs v.1 w.1)) trees_both (λ us vs v w. each_append IsValidUnit us vs v w) (λ m n v w. tt)
