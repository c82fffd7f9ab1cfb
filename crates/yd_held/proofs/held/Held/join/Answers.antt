use Rattle.std.proofs.Common.{subst}
use Rattle.yd_held.specs.Held.{held_value}
use Rattle.yd_held.specs.Joining.{StaysSame}
use Rattle.yd_held.proofs.JoinedLemmas.{holds_joined, same_joined}
use Rattle.yd_held.proofs.held.Held.join.Goals as goal

pub invariant_of-self : goal.invariant_of-self
invariant_of-self c = (
  holds_joined (held_value c.self.inside.parts) c.join.new.self c.args.at c.self.invariant.0 c.join.result c.join.ensures.same c.join.ensures.joined c.join.ensures.unchanged,
  c.self.invariant.1,
)

pub returns-clause-holds : goal.returns-clause-holds
returns-clause-holds c = holds_joined (held_value c.self.inside.parts) c.join.new.self c.args.at c.self.invariant.0 c.join.result c.join.ensures.same c.join.ensures.joined c.join.ensures.unchanged

pub returns-clause-same : goal.returns-clause-same
returns-clause-same c = subst (λ k. StaysSame k (held_value (record { received = c.join.new.self; vector = c.self.inside.parts.vector; names = c.self.inside.parts.names; lacks = c.self.inside.parts.lacks }))) c.self.view_is
    (same_joined (held_value c.self.inside.parts) c.join.new.self c.args.at c.self.invariant.0 c.join.result c.join.ensures.same c.join.ensures.joined c.join.ensures.unchanged)
