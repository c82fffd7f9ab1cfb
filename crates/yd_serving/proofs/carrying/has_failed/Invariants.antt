use Rattle.std.proofs.Common.{◌≡◌, drop}
use Rattle.yd_hub.specs.Sessions.{is_open}
use Rattle.yd_serving.proofs.carrying.has_failed.Given as goal

abbrev pub invariant-loop-number : goal.invariant-loop-number
invariant-loop-number l = record { left : is_open l.failed l.session ≡ is_open (drop l.number-index l.failed) l.session }
