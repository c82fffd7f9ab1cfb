use Rattle.std.proofs.Common.{map, subst}
use Rattle.yd_checking.specs.Findings.{IsFound}
use Rattle.yd_ops.specs.View.{update_value}
use Rattle.yd_app.proofs.commands.check.check.Goals as goal

pub returns : goal.returns
returns c = record {
  is_output = record {
    found = c.in_ok-found.found;
    is_found = subst (λ us. IsFound c.in_ok-found.found (map update_value us)) c.into_vec.ensures c.in_ok-found.ensures;
    bytes_are = c.in_ok-text.ensures;
  };
  again = tt;
}
