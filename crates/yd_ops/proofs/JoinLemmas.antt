-- The rule of grouping: contents of one kind, what runs say that join, and the operations that they have as one.
use Rattle.std.proofs.Common.{◌≡◌, ◌↔◌, Bool, ℕ, zero, suc, ◌+◌, ◌-◌, ◌<◌, true, List, [], ◌∷◌, ◌++◌, map, length, Option, Some, None, refl, sym, ap, ap₂, ◌∙◌, subst, arith, true≢false, length-append}
use Rattle.std.specs.Prelude.{◌&&◌}
use Rattle.yd_any.specs.Tree.{AnyTree, AnyTrees, no_trees, tree}
use Rattle.yd_any.specs.Rows.{trees_and}
use Rattle.yd_ids.specs.declared.id.Id.{Id}
use Rattle.yd_ids.specs.Ids.{is_same, is_same_neighbour}
use Rattle.yd_ids.proofs.IdLemmas.{same_numbers, same_is, same_itself}
use Rattle.yd_ops.specs.declared.lists.List.{List as DocList}
use Rattle.yd_ops.specs.Value.{ContentValue, json, string, any, deleted, count_of, len_of, RunValue}
use Rattle.yd_ops.specs.Operation.{UnitContent, text_unit, any_unit, json_unit, deleted_unit, units_of_trees, deleted_units, units_of_content, later_id, operations_from, operations_of_run}
use Rattle.yd_ops.specs.Joining.{are_of_one_kind, joined_content, stands_behind, run_joins, joined_run, GoesOn}
use Rattle.yd_ops.proofs.OperationLemmas.{length-units_of_content, later_none}

-- ---- contents of one kind

-- what holds of two strings, two rows of values, two lists of JSON units and two numbers of deleted units holds of two contents of one kind
pub of_one_kind : (P : ContentValue → ContentValue → Type 0) → ((us vs : List ℕ) → P (string us) (string vs)) → ((ts us : AnyTrees) → P (any ts) (any us)) →
    ((us vs : List (Option AnyTree)) → P (json us) (json vs)) → ((m n : ℕ) → P (deleted m) (deleted n)) →
    (content next : ContentValue) → are_of_one_kind content next ≡ true → P content next
of_one_kind P s a j d (string us) (string vs) e = s us vs
of_one_kind P s a j d (any ts) (any us) e = a ts us
of_one_kind P s a j d (json us) (json vs) e = j us vs
of_one_kind P s a j d (deleted m) (deleted n) e = d m n
of_one_kind P s a j d content next e = absurd (true≢false (sym e))

trees-count : (ts us : AnyTrees) → count_of (trees_and ts us) ≡ count_of ts + count_of us
trees-count no_trees us = omega arith
trees-count (tree t ts) us = omega (arith, trees-count ts us)

-- both as one have as many units as both
pub joined-len : (content next : ContentValue) → are_of_one_kind content next ≡ true → len_of (joined_content content next) ≡ len_of content + len_of next
joined-len = of_one_kind (λ c d. len_of (joined_content c d) ≡ len_of c + len_of d) (λ us vs. length-append us vs) trees-count (λ us vs. length-append us vs) (λ m n. refl)

text-append : (us vs : List ℕ) → map text_unit (us ++ vs) ≡ map text_unit us ++ map text_unit vs
text-append [] vs = refl
text-append (u ∷ us) vs = ap (λ r. text_unit u ∷ r) (text-append us vs)

json-append : (us vs : List (Option AnyTree)) → map json_unit (us ++ vs) ≡ map json_unit us ++ map json_unit vs
json-append [] vs = refl
json-append (u ∷ us) vs = ap (λ r. json_unit u ∷ r) (json-append us vs)

trees-append : (ts us : AnyTrees) → units_of_trees (trees_and ts us) ≡ units_of_trees ts ++ units_of_trees us
trees-append no_trees us = refl
trees-append (tree t ts) us = ap (λ r. any_unit t ∷ r) (trees-append ts us)

deleted-append : (m n : ℕ) → deleted_units (m + n) ≡ deleted_units m ++ deleted_units n
deleted-append zero n = let none : 0 + n ≡ n = omega arith in ap deleted_units none
deleted-append (suc m) n = let one : suc m + n ≡ suc (m + n) = omega arith in ap deleted_units one ∙ ap (λ r. deleted_unit ∷ r) (deleted-append m n)

-- the units of both as one are those of both
joined-units : (content next : ContentValue) → are_of_one_kind content next ≡ true →
    units_of_content (joined_content content next) ≡ units_of_content content ++ units_of_content next
joined-units = of_one_kind (λ c d. units_of_content (joined_content c d) ≡ units_of_content c ++ units_of_content d) text-append trees-append json-append deleted-append

-- ---- what runs say that join

-- the parts of the test
pub record Joins (run next : RunValue) : Type 0 where
  pub begins : next.id ≡ later_id run.id (len_of run.content)
  pub behind : stands_behind next.left next.id ≡ true
  pub right : is_same_neighbour run.right next.right ≡ true
  pub kind : are_of_one_kind run.content next.content ≡ true

four_hold : (a b c d : Bool) → a && b && c && d ≡ true → (a ≡ true) × (b ≡ true) × (c ≡ true) × (d ≡ true)
four_hold true true true true e = (refl, refl, refl, refl)
four_hold a b c d e = absurd (true≢false (sym e))

pub joins_says : (run next : RunValue) → run_joins run next ≡ true → Joins run next
joins_says run next e = record { begins = same_is next.id (later_id run.id (len_of run.content)) all.0; behind = all.1; right = all.2; kind = all.3 }
  where
    all : (is_same next.id (later_id run.id (len_of run.content)) ≡ true) × (stands_behind next.left next.id ≡ true) × (is_same_neighbour run.right next.right ≡ true)
        × (are_of_one_kind run.content next.content ≡ true)
    all = four_hold (is_same next.id (later_id run.id (len_of run.content))) (stands_behind next.left next.id) (is_same_neighbour run.right next.right)
        (are_of_one_kind run.content next.content) e

pub says_joins : (run next : RunValue) → Joins run next → run_joins run next ≡ true
says_joins run next j =
    rw (subst (λ x. is_same x (later_id run.id (len_of run.content)) ≡ true) (sym j.begins) (same_itself (later_id run.id (len_of run.content))), j.behind, j.right, j.kind) refl

pub neighbours-same : (z w : Option Id) → is_same_neighbour z w ≡ true → z ≡ w
neighbours-same None None e = refl
neighbours-same None (Some y) e = absurd (true≢false (sym e))
neighbours-same (Some x) None e = absurd (true≢false (sym e))
neighbours-same (Some x) (Some y) e = ap (λ (v : Id). Some v) (same_is x y e)

pub neighbour_itself : (z : Option Id) → is_same_neighbour z z ≡ true
neighbour_itself None = refl
neighbour_itself (Some x) = same_itself x

-- where a run's left origin is the id before its own, and it follows so many units, that is the last of them
pub behind_last : (id : Id) (k : ℕ) (left : Option Id) (next : Id) → next ≡ later_id id (suc k) → stands_behind left next ≡ true → left ≡ Some (later_id id k)
behind_last id k None next e b = absurd (true≢false (sym b))
behind_last id k (Some y) next e b =
    ap (λ (v : Id). Some v) (same_numbers y (later_id id k) (ap (λ (z : Id). z.client.0) (sym same ∙ e)) (omega (arith, ap (λ (z : Id). z.clock) (sym same ∙ e))))
  where
    same : next ≡ later_id y 1
    same = same_is next (later_id y 1) b

pub rule_tells : (run next : RunValue) → 0 < len_of run.content → run_joins run next ≡ true ↔ GoesOn run next
rule_tells run next some = (there, back)
  where
    last : ℕ
    last = len_of run.content - 1

    size : len_of run.content ≡ suc last
    size = omega (arith, some)

    there : run_joins run next ≡ true → GoesOn run next
    there e = let j = joins_says run next e in record {
      begins = j.begins;
      behind = behind_last run.id last next.left next.id (j.begins ∙ ap (later_id run.id) size) j.behind;
      right = neighbours-same run.right next.right j.right;
      kind = j.kind;
    }

    back : GoesOn run next → run_joins run next ≡ true
    back g = says_joins run next (record {
      begins = g.begins;
      behind = subst (λ z. stands_behind z next.id ≡ true) (sym g.behind)
          (subst (λ x. is_same x (later_id (later_id run.id last) 1) ≡ true) (sym (g.begins ∙ next_id)) (same_itself (later_id (later_id run.id last) 1)));
      right = subst (λ z. is_same_neighbour run.right z ≡ true) g.right (neighbour_itself run.right);
      kind = g.kind;
    })
      where
        next_id : later_id run.id (len_of run.content) ≡ later_id (later_id run.id last) 1
        next_id = same_numbers (later_id run.id (len_of run.content)) (later_id (later_id run.id last) 1) refl (omega (arith, size))

-- ---- operations

-- behind at least one unit the others go on from the last of them
from-append : (id : Id) (left right : Option Id) (list : Option DocList) (unit : UnitContent) (units others : List UnitContent) →
    operations_from id left right list (unit ∷ units ++ others)
    ≡ operations_from id left right list (unit ∷ units) ++ operations_from (later_id id (suc (length units))) (Some (later_id id (length units))) right None others
from-append id left right list unit [] others = ap (λ ps. record { id = id; left_origin = left; right_origin = right; list = list; content = unit } ∷ ps)
    (ap (λ x. operations_from (later_id id 1) (Some x) right None others) (sym (later_none id)))
from-append id left right list unit (next ∷ units) others = ap (λ ps. record { id = id; left_origin = left; right_origin = right; list = list; content = unit } ∷ ps)
    (from-append (later_id id 1) (Some id) right None next units others
    ∙ ap₂ (λ x y. operations_from (later_id id 1) (Some id) right None (next ∷ units) ++ operations_from x (Some y) right None others)
    (one_more (suc (length units))) (one_more (length units)))
  where
    one_more : (n : ℕ) → later_id (later_id id 1) n ≡ later_id id (suc n)
    one_more n = same_numbers (later_id (later_id id 1) n) (later_id id (suc n)) refl (omega arith)

runs_units : (run next : RunValue) (units : List UnitContent) → units_of_content run.content ≡ units → 0 < length units → Joins run next →
    ((y : Id) → next.left ≡ Some y → next.list ≡ None) →
    operations_of_run (joined_run run next) ≡ operations_of_run run ++ operations_of_run next
runs_units run next [] e some j carries = absurd (omega (arith, some))
runs_units run next (unit ∷ units) e some j carries =
    ap (operations_from run.id run.left run.right run.list) (joined-units run.content next.content j.kind ∙ ap (λ us. us ++ units_of_content next.content) e)
    ∙ from-append run.id run.left run.right run.list unit units (units_of_content next.content)
    ∙ ap₂ (λ us ps. operations_from run.id run.left run.right run.list us ++ ps) (sym e) same
  where
    size : len_of run.content ≡ suc (length units)
    size = sym (length-units_of_content run.content) ∙ ap length e

    begins : next.id ≡ later_id run.id (suc (length units))
    begins = j.begins ∙ ap (later_id run.id) size

    behind : next.left ≡ Some (later_id run.id (length units))
    behind = behind_last run.id (length units) next.left next.id begins j.behind

    same : operations_from (later_id run.id (suc (length units))) (Some (later_id run.id (length units))) run.right None (units_of_content next.content) ≡ operations_of_run next
    same = λ i. operations_from (sym begins i) (sym behind i) (neighbours-same run.right next.right j.right i)
        (sym (carries (later_id run.id (length units)) behind) i) (units_of_content next.content)

-- ---- lemmas for callers

-- both as one have the operations of both in a row
pub runs_have : (run next : RunValue) → 0 < len_of run.content → run_joins run next ≡ true → ((y : Id) → next.left ≡ Some y → next.list ≡ None) →
    operations_of_run (joined_run run next) ≡ operations_of_run run ++ operations_of_run next
runs_have run next some e carries =
    runs_units run next (units_of_content run.content) refl (omega (arith, some, length-units_of_content run.content)) (joins_says run next e) carries

pub runs_long : (run next : RunValue) → run_joins run next ≡ true → len_of (joined_run run next).content ≡ len_of run.content + len_of next.content
runs_long run next e = joined-len run.content next.content (joins_says run next e).kind
