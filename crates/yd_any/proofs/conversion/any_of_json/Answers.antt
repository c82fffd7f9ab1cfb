use Rattle.yd_any.specs.JsonView.{json_tree}
use Rattle.yd_any.proofs.CarriedLemmas.{valid-any}
use Rattle.yd_any.proofs.conversion.any_of_json.Goals as goal

pub returns-clause-valid : goal.returns-clause-valid
returns-clause-valid c = rw c.in_ok-raised.ensures (valid-any (json_tree c.args.j.now) c.requires)
