use Rattle.std.proofs.Common.{ap, ◌∙◌, arith, length-append}
use Rattle.std.proofs.lemmas.List.{nil_from_length}
use Rattle.std.proofs.lemmas.Str.{IsUtf8-past_char}
use Rattle.std.proofs.Common.{◌≡◌, length}
use Rattle.std.specs.Char.Escape.{encode_utf16}
use Rattle.std.proofs.Math.Utf8.{encode}
use Rattle.yd_cols.proofs.UnitLemmas.{unit_count, units_within, units_in-nil, units_in-step}
use Rattle.yd_cols.proofs.string_writer.units_in.Goals as goal

pub loop-c-preserved : goal.loop-c-preserved
loop-c-preserved c =
    let held = c.loop-c.invariant in
    let parts = c.in-Some.ensures.steps.0 in
    let count : c.len_utf16.result ≡ length (encode_utf16 c.in-Some.c) = unit_count c.in-Some.c c.len_utf16.result c.len_utf16.ensures.bmp c.len_utf16.ensures.surrogate_pair in
    let step = units_in-step _ _ c.in-Some.c held.is_text parts in
    let bytes = ap length parts ∙ length-append (encode c.in-Some.c) _ in
    record {
      is_text = IsUtf8-past_char _ _ c.in-Some.c held.is_text parts;
      counted = omega (arith, held.counted, step, count);
      within = omega (arith, held.within, bytes, count, units_within c.in-Some.c);
    }

pub returns-clause-count : goal.returns-clause-count
returns-clause-count c =
    let none = rw (nil_from_length _ c.in-None.ensures.steps.0.0, units_in-nil) at c.loop-c.invariant.counted in
    omega (arith, none)
