-- Writing one token after the other.
use Rattle.std.proofs.Common.{◌≡◌, List, ◌++◌}
use Rattle.json.specs.Token.{Token}
use Rattle.json.specs.Written.{Written}

-- of all these tokens the last ones are left to be written
pub record Leaves (old now : Written) (all left : List Token) : Type 0 where
  pub before : now.before ≡ old.before
  pub split : now.tokens ++ left ≡ old.tokens ++ all
