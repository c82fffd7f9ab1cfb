use Rattle.std.proofs.Common.{◌≡◌, [], ◌∷◌, ◌∙◌, refl, arith}
use Rattle.std.specs.Str.{chars}
use Rattle.yd_units.specs.Text.{units_of}
use Rattle.yd_order_calls.proofs.runs.a_run_goes_between_two_units_of_another.Goals as goal

two_units : units_of (97 ∷ 98 ∷ []) ≡ 97 ∷ 98 ∷ []
unfolding units_of chars
two_units = refl

pub are_arranged-requires-clause-clocks : goal.are_arranged-requires-clause-clocks
are_arranged-requires-clause-clocks g c = rw (c.in_ok-units.ensures ∙ two_units) (omega arith, (omega arith, tt))

pub are_arranged-requires-clause-table : goal.are_arranged-requires-clause-table
are_arranged-requires-clause-table g c = rw (c.in_ok-units.ensures ∙ two_units) refl
