-- How much an operation of a run says: it is not gone, and full where the run is.
use Rattle.std.proofs.Common.{◌≡◌, ◌<◌, ◌≤◌, true, refl, sym, ap, ◌∙◌, arith, true≢false}
use Rattle.yd_words.specs.Member.{IsIn}
use Rattle.yd_ops.specs.Operation.{Operation, UnitContent, any_unit, bytes, deleted_unit, embedded, gone_unit, json_unit, level_of, mark, nested_type, operations_of_run, text_unit}
use Rattle.yd_ops.specs.Value.{ContentValue, RunValue, any, binary, deleted, embed, format, json, nested, string}
use Rattle.yd_agreement.specs.Runs.{is_full}
use Rattle.yd_agreement.specs.Units.{kind_of_content, kind_of_unit}
use Rattle.yd_agreement.proofs.DifferLemmas.{unit_in}
use Rattle.yd_agreement.proofs.UnitLemmas.{kind_at}

told_level : (unit : UnitContent) → kind_of_unit unit ≤ 7 → 0 < level_of unit
told_level (text_unit unit) le = omega arith
told_level (any_unit value) le = omega arith
told_level (json_unit value) le = omega arith
told_level (bytes blob) le = omega arith
told_level (embedded value) le = omega arith
told_level (mark key value) le = omega arith
told_level (nested_type kind) le = omega arith
told_level deleted_unit le = omega arith
told_level gone_unit le = absurd (omega (arith, le))

full_level : (unit : UnitContent) → kind_of_unit unit ≤ 6 → level_of unit ≡ 2
full_level (text_unit unit) le = refl
full_level (any_unit value) le = refl
full_level (json_unit value) le = refl
full_level (bytes blob) le = refl
full_level (embedded value) le = refl
full_level (mark key value) le = refl
full_level (nested_type kind) le = refl
full_level deleted_unit le = absurd (omega (arith, le))
full_level gone_unit le = absurd (omega (arith, le))

deleted_level : (unit : UnitContent) → kind_of_unit unit ≡ 7 → level_of unit ≡ 1
deleted_level (text_unit unit) e = absurd (omega (arith, e))
deleted_level (any_unit value) e = absurd (omega (arith, e))
deleted_level (json_unit value) e = absurd (omega (arith, e))
deleted_level (bytes blob) e = absurd (omega (arith, e))
deleted_level (embedded value) e = absurd (omega (arith, e))
deleted_level (mark key value) e = absurd (omega (arith, e))
deleted_level (nested_type kind) e = absurd (omega (arith, e))
deleted_level deleted_unit e = refl
deleted_level gone_unit e = absurd (omega (arith, e))

content_kind : (content : ContentValue) → kind_of_content content ≤ 7
content_kind (json values) = omega arith
content_kind (binary blob) = omega arith
content_kind (string units) = omega arith
content_kind (embed t) = omega arith
content_kind (format key t) = omega arith
content_kind (nested kind) = omega arith
content_kind (any ts) = omega arith
content_kind (deleted count) = omega arith

full_kind : (content : ContentValue) → is_full content ≡ true → kind_of_content content ≤ 6
full_kind (json values) e = omega arith
full_kind (binary blob) e = omega arith
full_kind (string units) e = omega arith
full_kind (embed t) e = omega arith
full_kind (format key t) e = omega arith
full_kind (nested kind) e = omega arith
full_kind (any ts) e = omega arith
full_kind (deleted count) e = absurd (true≢false (sym e))

other_full : (content : ContentValue) → (kind_of_content content ≡ 7 → ⊥) → is_full content ≡ true
other_full (json values) other = refl
other_full (binary blob) other = refl
other_full (string units) other = refl
other_full (embed t) other = refl
other_full (format key t) other = refl
other_full (nested kind) other = refl
other_full (any ts) other = refl
other_full (deleted count) other = absurd (other refl)

-- ---- lemmas for callers

module _ (run : RunValue) (o : Operation) (i : IsIn o (operations_of_run run)) where
  kind_is : kind_of_unit o.content ≡ kind_of_content run.content
  kind_is = ap kind_of_unit (unit_in run o i).content ∙ kind_at run.content (unit_in run o i).place (unit_in run o i).inside

  pub run_told : 0 < level_of o.content
  run_told = told_level o.content (omega (arith, kind_is, content_kind run.content))

  pub run_full : is_full run.content ≡ true → level_of o.content ≡ 2
  run_full e = full_level o.content (omega (arith, kind_is, full_kind run.content e))

  pub full_run : level_of o.content ≡ 2 → is_full run.content ≡ true
  full_run e = other_full run.content (λ seven. absurd (omega (arith, e, deleted_level o.content (kind_is ∙ seven))))
