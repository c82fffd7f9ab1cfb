use Rattle.std.proofs.Common.{◌≡◌, ℕ, List, map, take, drop, ap, sym, ◌∙◌}
use Rattle.std.proofs.lemmas.List.{take-map, drop-map}
use Rattle.yd_ops.specs.Value.{json}
use Rattle.yd_ops.specs.View.{unit_value, content_value}
use Rattle.yd_ops.specs.Cutting.{content_before, content_behind}
use Rattle.yd_ops.specs.declared.contents.Content.{Content}
use Rattle.yd_ops.specs.declared.contents.Content.TheVariants.{Json}
use Rattle.yd_ops.specs.declared.contents.JsonUnit.{JsonUnit}
use Rattle.yd_ops.proofs.contents.Content.split_off.Goals as goal

json_kept : (content : Content) (units new : List JsonUnit) (n : ℕ) → content ≡ Json units → new ≡ take n units →
    json (map unit_value new) ≡ content_before n (content_value content)
json_kept content units new n is cut =
    ap json (ap (map unit_value) cut ∙ sym (take-map unit_value n units)) ∙ sym (ap (λ (c : Content). content_before n (content_value c)) is)

json_given : (content : Content) (units rest : List JsonUnit) (n : ℕ) → content ≡ Json units → rest ≡ drop n units →
    json (map unit_value rest) ≡ content_behind n (content_value content)
json_given content units rest n is cut =
    ap json (ap (map unit_value) cut ∙ sym (drop-map unit_value n units)) ∙ sym (ap (λ (c : Content). content_behind n (content_value c)) is)

pub returns-in_ok-split_off-in-Json-clause-kept : goal.returns-in_ok-split_off-in-Json-clause-kept
returns-in_ok-split_off-in-Json-clause-kept c =
    json_kept c.args.self.now c.in-Json.units c.split_off.new.self c.args.n c.in-Json.is c.in_ok-split_off-in-Json.ensures.kept

pub returns-in_ok-split_off-in-Json-clause-given : goal.returns-in_ok-split_off-in-Json-clause-given
returns-in_ok-split_off-in-Json-clause-given c =
    json_given c.args.self.now c.in-Json.units c.in_ok-split_off-in-Json.field-0 c.args.n c.in-Json.is c.in_ok-split_off-in-Json.ensures.given
