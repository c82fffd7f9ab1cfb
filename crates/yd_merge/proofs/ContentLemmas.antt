-- Parts of a content: all of it, and which units a part has.
use Rattle.std.specs.Option.{unwrap_or}
use Rattle.std.specs.Prelude.{slice_get}
use Rattle.std.proofs.Common.{◌≡◌, ℕ, zero, suc, ◌+◌, ◌-◌, ◌<◌, ◌≤◌, List, [], ◌∷◌, ◌++◌, take, drop, length, get_or, refl, sym, ap, ◌∙◌, arith, append_assoc, append-nil}
use Rattle.std.proofs.lemmas.List.{drop_more, length-drop, take_all, take-map, drop-map}
use Rattle.std.proofs.lemmas.Option.{unwrap_or-slice_get}
use Rattle.yd_any.specs.Tree.{AnyTrees, no_trees, tree}
use Rattle.yd_any.specs.Rows.{first_trees, other_trees}
use Rattle.yd_ops.specs.Value.{ContentValue, json, binary, string, embed, format, nested, any, deleted, count_of, len_of}
use Rattle.yd_ops.specs.Operation.{UnitContent, text_unit, any_unit, json_unit, deleted_unit, units_of_trees, deleted_units, units_of_content}
use Rattle.yd_ops.specs.Cutting.{content_before, content_behind}
use Rattle.yd_merge.specs.Told.{content_part}

all_trees : (n : ℕ) (ts : AnyTrees) → count_of ts ≤ n → first_trees n ts ≡ ts
all_trees zero no_trees le = refl
all_trees zero (tree t ts) le = absurd (omega (arith, le))
all_trees (suc n) no_trees le = refl
all_trees (suc n) (tree t ts) le = ap (tree t) (all_trees n ts (omega (arith, le)))

trees-units : (o n : ℕ) (ts : AnyTrees) → units_of_trees (first_trees n (other_trees o ts)) ≡ take n (drop o (units_of_trees ts))
trees-units zero zero ts = refl
trees-units zero (suc n) no_trees = refl
trees-units zero (suc n) (tree t ts) = ap (λ r. any_unit t ∷ r) (trees-units zero n ts)
trees-units (suc o) zero no_trees = refl
trees-units (suc o) (suc n) no_trees = refl
trees-units (suc o) zero (tree t ts) = trees-units o zero ts
trees-units (suc o) (suc n) (tree t ts) = trees-units o (suc n) ts

deleted-units : (o n all : ℕ) → o + n ≤ all → deleted_units n ≡ take n (drop o (deleted_units all))
deleted-units zero zero all le = refl
deleted-units zero (suc n) zero le = absurd (omega (arith, le))
deleted-units zero (suc n) (suc all) le = ap (λ r. deleted_unit ∷ r) (deleted-units zero n all (omega (arith, le)))
deleted-units (suc o) zero zero le = refl
deleted-units (suc o) (suc n) zero le = absurd (omega (arith, le))
deleted-units (suc o) zero (suc all) le = deleted-units o zero all (omega (arith, le))
deleted-units (suc o) (suc n) (suc all) le = deleted-units o (suc n) all (omega (arith, le))

one-unit : (o n : ℕ) (unit : UnitContent) → 0 < n → o + n ≤ 1 → unit ∷ [] ≡ take n (drop o (unit ∷ []))
one-unit o zero unit some le = absurd (omega (arith, some))
one-unit zero (suc zero) unit some le = refl
one-unit zero (suc (suc n)) unit some le = absurd (omega (arith, le))
one-unit (suc o) (suc n) unit some le = absurd (omega (arith, le))

-- ---- lemmas for callers

pub behind_none : (content : ContentValue) → content ≡ content_behind 0 content
behind_none (string units) = refl
behind_none (any ts) = refl
behind_none (json values) = refl
behind_none (deleted count) = let all : count ≡ count - 0 = omega arith in ap deleted all
behind_none (binary blob) = refl
behind_none (embed t) = refl
behind_none (format key t) = refl
behind_none (nested kind) = refl

pub before_all : (content : ContentValue) → content ≡ content_before (len_of content) content
before_all (string units) = ap string (sym (take_all (length units) units (omega arith)))
before_all (any ts) = ap any (sym (all_trees (count_of ts) ts (omega arith)))
before_all (json values) = ap json (sym (take_all (length values) values (omega arith)))
before_all (deleted count) = refl
before_all (binary blob) = refl
before_all (embed t) = refl
before_all (format key t) = refl
before_all (nested kind) = refl

-- as many units as there are, are the whole content
pub all_part : (o n : ℕ) (content : ContentValue) → n ≡ len_of content → o + n ≤ len_of content → content ≡ content_part o n content
all_part o n content all within = let none : 0 ≡ o = omega (arith, all, within) in
    before_all content ∙ ap (content_before (len_of content)) (behind_none content) ∙ (λ i. content_before (sym all i) (content_behind (none i) content))

-- a part has the units from the offset on, so many
pub part-units : (o n : ℕ) (content : ContentValue) → 0 < n → o + n ≤ len_of content → units_of_content (content_part o n content) ≡ take n (drop o (units_of_content content))
part-units o n (string units) some le = sym (ap (take n) (drop-map text_unit o units) ∙ take-map text_unit n (drop o units))
part-units o n (any ts) some le = trees-units o n ts
part-units o n (json values) some le = sym (ap (take n) (drop-map json_unit o values) ∙ take-map json_unit n (drop o values))
part-units o n (deleted count) some le = deleted-units o n count le
part-units o n (binary blob) some le = one-unit o n _ some le
part-units o n (embed t) some le = one-unit o n _ some le
part-units o n (format key t) some le = one-unit o n _ some le
part-units o n (nested kind) some le = one-unit o n _ some le

-- and what is behind an offset is so much shorter
other-count : (o : ℕ) (ts : AnyTrees) → o ≤ count_of ts → o + count_of (other_trees o ts) ≡ count_of ts
other-count zero ts le = omega arith
other-count (suc o) no_trees le = absurd (omega (arith, le))
other-count (suc o) (tree t ts) le = omega (arith, other-count o ts (omega (arith, le)))

pub behind-len : (o : ℕ) (content : ContentValue) → o < len_of content → o + len_of (content_behind o content) ≡ len_of content
behind-len o (string units) lt = omega (arith, lt, length-drop o units)
behind-len o (any ts) lt = other-count o ts (omega (arith, lt))
behind-len o (json values) lt = omega (arith, lt, length-drop o values)
behind-len o (deleted count) lt = omega (arith, lt)
behind-len o (binary blob) lt = omega (arith, lt)
behind-len o (embed t) lt = omega (arith, lt)
behind-len o (format key t) lt = omega (arith, lt)
behind-len o (nested kind) lt = omega (arith, lt)

-- so a part from there on is within it
pub rest_within : (o n : ℕ) (content copy rest : ContentValue) → 0 < n → o + n ≤ len_of content → copy ≡ content → rest ≡ content_behind o copy → n ≤ len_of rest
rest_within o n content copy rest some le same is = omega (arith, some, le, behind-len o copy (omega (arith, some, le, ap len_of same)), ap len_of same, ap len_of is)

-- ---- lemmas for callers: the units of a text, one after another

pub part_begins : (us : List ℕ) (from len : ℕ) (part : List ℕ) → part ≡ [] → part ++ take (len - 0) (drop (from + 0) us) ≡ take len (drop from us)
part_begins us from len part e = let all : len - 0 ≡ len = omega arith in let begin : from + 0 ≡ from = omega arith in
    ap (λ ns. ns ++ take (len - 0) (drop (from + 0) us)) e ∙ (λ i. take (all i) (drop (begin i) us))

pub unit_next : (us : List ℕ) (from len done : ℕ) (old new : List ℕ) → done < len → from + len ≤ length us → new ≡ old ++ unwrap_or (slice_get us (from + done)) 0 ∷ [] →
    new ++ take (len - (done + 1)) (drop (from + (done + 1)) us) ≡ old ++ take (len - done) (drop (from + done) us)
unit_next us from len done old new lt le e =
    let next : from + (done + 1) ≡ (from + done) + 1 = omega arith in
    let size : suc (len - (done + 1)) ≡ len - done = omega (arith, lt) in
    let unit = get_or us (from + done) 0 in
    ap (λ ns. ns ++ take (len - (done + 1)) (drop (from + (done + 1)) us)) (e ∙ ap (λ u. old ++ u ∷ []) (unwrap_or-slice_get us (from + done) 0))
    ∙ append_assoc old (unit ∷ []) (take (len - (done + 1)) (drop (from + (done + 1)) us))
    ∙ ap (λ k. old ++ unit ∷ take (len - (done + 1)) (drop k us)) next
    ∙ ap (λ xs. old ++ take (suc (len - (done + 1))) xs) (sym (drop_more us (from + done) 0 (omega (arith, lt, le))))
    ∙ ap (λ m. old ++ take m (drop (from + done) us)) size

pub part_ends : (us : List ℕ) (from len done : ℕ) (part : List ℕ) → len ≤ done → part ++ take (len - done) (drop (from + done) us) ≡ take len (drop from us) → part ≡ take len (drop from us)
part_ends us from len done part le e = let none : len - done ≡ 0 = omega (arith, le) in
    sym (append-nil part) ∙ ap (λ m. part ++ take m (drop (from + done) us)) (sym none) ∙ e
