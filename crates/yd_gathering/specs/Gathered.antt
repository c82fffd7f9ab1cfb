-- Updates that are gathered: fewer of them, of which the same is received (own).
use Rattle.std.specs.Prelude.{◌≡◌, List}
use Rattle.yd_words.specs.Each.{Each}
use Rattle.yd_ops.specs.Received.{received_set}
use Rattle.yd_ops.specs.Valid.{IsValidUpdate}
use Rattle.yd_ops.specs.Value.{UpdateValue}

-- what is kept stands for what was taken: it is valid, and what is received of both is the same, in whatever order updates come and whether they
-- agree or not
pub record StandsAs (taken kept : List UpdateValue) : Type 0 where
  pub valid : Each IsValidUpdate kept
  pub received : received_set kept ≡ received_set taken
