use Rattle.std.proofs.Common.{sym, ◌∙◌}
use Rattle.yd_any.specs.AnyView.{any_tree}
use Rattle.yd_any.proofs.CarriedLemmas.{valid-settled}
use Rattle.yd_any.proofs.conversion.json_of_any.Goals as goal

pub returns-clause-valid : goal.returns-clause-valid
returns-clause-valid c =
    rw c.in_ok-carried.ensures (valid-settled (any_tree c.args.a.now) (sym c.is_carried.ensures ∙ c.if-not-is_carried.false) c.requires)
