-- How much the units of a content say, and which ids the operations of a struct have.
use Rattle.std.proofs.Common.{◌≡◌, ℕ, zero, suc, ◌+◌, ◌<◌, Bool, true, false, List, [], ◌∷◌, map, Option, Some, refl, sym, ap, ◌∙◌, arith, ◌&&◌, nat_eq, nat_le, nat_lt, true≢false}
use Rattle.std.specs.Prelude.{slice_get}
use Rattle.std.proofs.lemmas.Option.{same_Some}
use Rattle.yd_any.specs.Tree.{AnyTree, AnyTrees, no_trees, tree}
use Rattle.yd_words.specs.Member.{IsIn}
use Rattle.yd_ops.specs.Value.{ContentValue, json, binary, string, embed, nested, any, deleted, format, RunValue, len_of}
use Rattle.yd_ops.specs.Operation.{UnitContent, text_unit, json_unit, bytes, embedded, mark, nested_type, deleted_unit, units_of_trees, deleted_units, units_of_content, Operation, level_of, operations_of_run}
use Rattle.yd_ops.proofs.OperationLemmas.{length-units_of_content}
use Rattle.yd_ops.proofs.RunLemmas.{run_written}
use Rattle.yd_ops.proofs.SpellingLemmas.{gone_written}
use Rattle.yd_entries.specs.Lowering.{level_of_content, level_from}
use Rattle.yd_entries.specs.Taking.{operations_from_run}
use Rattle.yd_entries.proofs.LoweredLemmas.{IsLess}
use Rattle.yd_entries.proofs.UnitLemmas.{from_unit, has_from, from_gone, has_gone}

-- ---- the units of a content

json_level : (values : List (Option AnyTree)) (n : ℕ) (unit : UnitContent) → slice_get (map json_unit values) n ≡ Some unit → level_of unit ≡ 2
json_level [] n unit e = absurd cc
json_level (value ∷ values) zero unit e = ap level_of (sym (same_Some (json_unit value) unit e))
json_level (value ∷ values) (suc n) unit e = json_level values n unit e

text_level : (units : List ℕ) (n : ℕ) (unit : UnitContent) → slice_get (map text_unit units) n ≡ Some unit → level_of unit ≡ 2
text_level [] n unit e = absurd cc
text_level (u ∷ us) zero unit e = ap level_of (sym (same_Some (text_unit u) unit e))
text_level (u ∷ us) (suc n) unit e = text_level us n unit e

trees_level : (ts : AnyTrees) (n : ℕ) (unit : UnitContent) → slice_get (units_of_trees ts) n ≡ Some unit → level_of unit ≡ 2
trees_level no_trees n unit e = absurd cc
trees_level (tree t ts) zero unit e = ap level_of (sym (same_Some _ unit e))
trees_level (tree t ts) (suc n) unit e = trees_level ts n unit e

deleted_level : (count n : ℕ) (unit : UnitContent) → slice_get (deleted_units count) n ≡ Some unit → level_of unit ≡ 1
deleted_level zero n unit e = absurd cc
deleted_level (suc count) zero unit e = ap level_of (sym (same_Some deleted_unit unit e))
deleted_level (suc count) (suc n) unit e = deleted_level count n unit e

one_level : (first : UnitContent) (n : ℕ) (unit : UnitContent) → level_of first ≡ 2 → slice_get (first ∷ []) n ≡ Some unit → level_of unit ≡ 2
one_level first zero unit full e = ap level_of (sym (same_Some first unit e)) ∙ full
one_level first (suc n) unit full e = absurd cc

-- each unit says as much as its content
pub units_level : (content : ContentValue) (n : ℕ) (unit : UnitContent) → slice_get (units_of_content content) n ≡ Some unit → level_of unit ≡ level_of_content content
units_level (json values) n unit e = json_level values n unit e
units_level (binary blob) n unit e = one_level (bytes blob) n unit refl e
units_level (string units) n unit e = text_level units n unit e
units_level (embed t) n unit e = one_level (embedded t) n unit refl e
units_level (format key t) n unit e = one_level (mark key t) n unit refl e
units_level (nested kind) n unit e = one_level (nested_type kind) n unit refl e
units_level (any ts) n unit e = trees_level ts n unit e
units_level (deleted count) n unit e = deleted_level count n unit e

-- ---- the operations of a run, or of units that are gone

pub run_level : (run : RunValue) (o : Operation) → IsIn o (operations_of_run run) → level_of o.content ≡ level_of_content run.content
run_level run o i = let (k, lt, x, u) = from_unit run.id run.left run.right run.list (units_of_content run.content) o i in units_level run.content k o.content u

-- a struct that spells its ids less than full
pub run_less : (is_gone : Bool) (run : RunValue) → 0 < len_of run.content → level_of_content run.content ≡ 1 →
    IsLess (operations_from_run is_gone run) run.id (len_of run.content) (level_from is_gone)
run_less true run some one = record {
  some = some;
  low = omega arith;
  written = gone_written (len_of run.content) run.id;
  levels = λ o i. let (k, lt, e) = from_gone run.id (len_of run.content) o i in ap (λ (q : Operation). level_of q.content) e;
  ids = λ x. has_gone run.id (len_of run.content) x;
}
run_less false run some one = record {
  some = some;
  low = omega arith;
  written = run_written run;
  levels = λ o i. run_level run o i ∙ one;
  ids = λ x. has_from run.id run.left run.right run.list (units_of_content run.content) x
      ∙ ap (λ n. nat_eq run.id.client.0 x.client.0 && (nat_le run.id.clock x.clock && nat_lt x.clock (run.id.clock + n))) (length-units_of_content run.content);
}

-- a content that is not that of deleted units is full
pub full_content : (content : ContentValue) → nat_eq (level_of_content content) 1 ≡ false → level_of_content content ≡ 2
full_content (json values) e = refl
full_content (binary blob) e = refl
full_content (string units) e = refl
full_content (embed t) e = refl
full_content (format key t) e = refl
full_content (nested kind) e = refl
full_content (any ts) e = refl
full_content (deleted count) e = absurd (true≢false e)
