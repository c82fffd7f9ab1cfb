use Rattle.std.proofs.Common.{◌≡◌, ◌+◌}
use Rattle.yd_remaking.specs.Last.{last_named}
use Rattle.yd_remaking.proofs.last.last_named.Given as goal

-- with what is left, it is the last of all
abbrev pub invariant-loop-left : goal.invariant-loop-left
invariant-loop-left l = record {
  client : l.at.client ≡ l.fn.first.client;
  end : l.at.clock + l.left ≡ l.fn.first.clock + l.fn.len;
  last : last_named l.named l.last l.at l.left ≡ last_named l.named l.fn.before l.fn.first l.fn.len;
}

abbrev pub decreases-loop-left : goal.decreases-loop-left
decreases-loop-left l = l.left
