use Rattle.std.proofs.Common.{sym, ◌∙◌, append_assoc, append-nil}
use Rattle.std.proofs.lemmas.Str.{IsUtf8-past_char}
use Rattle.std.proofs.lemmas.List.{nil_from_length}
use Rattle.yd_units.proofs.TextLemmas.{units_of-step, units_of-nil}
use Rattle.yd_units.proofs.spelling.units_of_chars.Goals as goal

pub loop-c-preserved : goal.loop-c-preserved
loop-c-preserved c =
    let held = c.loop-c.invariant in
    let parts = c.in-Some.ensures.steps.0 in
    record {
      is_text = IsUtf8-past_char _ _ c.in-Some.c held.is_text parts;
      joined = rw (c.in_ok-push_units.ensures, append_assoc) (rw (units_of-step _ _ c.in-Some.c held.is_text parts) at held.joined);
    }

pub returns : goal.returns
returns c = sym (append-nil _) ∙ rw (nil_from_length _ c.in-None.ensures.steps.0.0, units_of-nil) at c.loop-c.invariant.joined
